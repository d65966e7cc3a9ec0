-- Types of data, and what a type that is found says.
use Rattle.std.proofs.Common.{◌≡◌, ◌==◌, ℕ, zero, suc, Bool, true, false, List, [], ◌∷◌, Option, Some, None, slice_get, refl, sym, ◌∙◌, ap, arith, true≢false}
use Rattle.std.specs.List.{list_all}
use Rattle.std.proofs.lemmas.Bool.{and_parts}
use Rattle.std.proofs.lemmas.Option.{none-some, same_Some}
use Rattle.rp_value.specs.declared.tables.Ty.{Ty}
use Rattle.rp_value.specs.declared.tables.Ty.TheVariants as ty
use Rattle.rp_value.specs.declared.tables.Ty.TheVariants.{Atom, Datatype}
use Rattle.rp_value.specs.declared.tables.TypeTable.{TypeTable}
use Rattle.rp_lang.specs.Types as types
use Rattle.rp_lang.specs.Types.{same_ty, is_ty, is_ordinary}
use Rattle.rp_lang.specs.Typing.{given}
use Rattle.rp_lang.specs.Programs.{Prog}

-- a member of a list that passes
pub each : {A : Type 0} (test : A → Bool) (xs : List A) (n : ℕ) (x : A) → list_all test xs ≡ true → slice_get xs n ≡ Some x → test x ≡ true
each test [] n x h at = absurd (none-some x at)
each test (y ∷ others) zero x h at = ap test (sym (same_Some y x at)) ∙ (and_parts _ _ h).0
each test (y ∷ others) (suc n) x h at = each test others n x (and_parts _ _ h).1 at

-- # Types that are found

pub given-some : (b : Bool) (o : Option Ty) (t : Ty) → given b o ≡ Some t → (b ≡ true) × (o ≡ Some t)
given-some true o t h = (refl, h)
given-some false o t h = absurd (none-some t h)

pub is_ty-some : (o : Option Ty) (t : Ty) → is_ty o t ≡ true → (u : Ty) × (o ≡ Some u) × (same_ty u t ≡ true)
is_ty-some None t h = absurd (true≢false (sym h))
is_ty-some (Some u) t h = (u, refl, h)

-- # Types of data

abbrev pub is_data : Ty → Bool
is_data ty.Int = true
is_data ty.Str = true
is_data (Atom n) = true
is_data (Datatype n) = true
is_data _ = false

pub ordinary-data : (types : TypeTable) (t : Ty) → is_ordinary types t ≡ true → is_data t ≡ true
ordinary-data types ty.Int h = refl
ordinary-data types ty.Str h = refl
ordinary-data types (Atom n) h = refl
ordinary-data types (Datatype n) h = refl
ordinary-data types _ h = absurd (true≢false (sym h))

pub same-number : (n m : ℕ) → (n == m) ≡ true → n ≡ m
same-number n m h = grind arith

pub same-type : (t u : Ty) → same_ty t u ≡ true → t ≡ u
same-type ty.Int ty.Int h = refl
same-type ty.Str ty.Str h = refl
same-type (Atom a) (Atom b) h = ap Atom (same-number a b h)
same-type (Datatype a) (Datatype b) h = ap Datatype (same-number a b h)
same-type ty.Call ty.Call h = refl
same-type ty.Inv ty.Inv h = refl
same-type ty.Operation ty.Operation h = refl
same-type ty.Info ty.Info h = refl
same-type ty.Outcome ty.Outcome h = refl
same-type _ _ h = absurd (true≢false (sym h))

pub is-type : (o : Option Ty) (t : Ty) → is_ty o t ≡ true → o ≡ Some t
is-type o t h = let k = is_ty-some o t h in k.1 ∙ ap (λ t. Some t) (same-type k.0 t k.2)

-- each constructor's fields are of types of data
abbrev pub FieldsAreData : Prog → Type 0
FieldsAreData p = (con : ℕ) → list_all is_data (types.fields_of p.cons con) ≡ true
