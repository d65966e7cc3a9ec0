-- Types that have numbers, with all that stands inside their `Maybe`s.
use Rattle.std.proofs.Common.{◌≡◌, ◌≤◌, ℕ, zero, suc, true, false, List, [], ◌∷◌, ◌++◌, refl, ap, subst, sym, ◌∙◌, cond, arith, ◌⊎◌, inl, inr}
use Rattle.std.specs.Prelude.{reverse}
use Rattle.std.proofs.lemmas.Bool.{and_from, eq-eqb, ne_eqb}
use Rattle.rp_value.specs.declared.tables.Ty.TheVariants as ty
use Rattle.rp_grammar.specs.Trees.{TypeTree}
use Rattle.type_rules.specs.declared.kind.Kind.{Kind}
use Rattle.type_rules.specs.declared.kind.Base.{Base}
use Rattle.type_rules.specs.declared.kind.Base.TheVariants as base
use Rattle.type_rules.specs.declared.role.Role.{Role}
use Rattle.type_rules.specs.Names.{Names}
use Rattle.type_rules.specs.Kinds.{bool_kind, int_kind, plain_kind, is_any, same_base, kind_of}
use Rattle.type_rules.specs.Sites.{Site}
use Rattle.type_rules.specs.Rules.{rule, rules, rule02}
use Rattle.type_rules.specs.Faults.{IsOneOf}
use Rattle.desugaring.specs.Appearances.{same_kind, maybes_of, base_parts, parts}
use Rattle.desugaring.specs.Tables.{Tables, base_ty, datatype_ty}
use Rattle.lawful.specs.Typed.{IsKnown}
use Rattle.lawful.proofs.Basics.{known}
use Rattle.lawful.proofs.Listed.{in_left, in_right}
use Rattle.lawful.proofs.Places.{is_one_of}
use Rattle.lawful.proofs.WrittenTypes.{kind_known, data_known, written_base}
use Rattle.lawful_programs.specs.Valued.{Sound, IsWhole}

-- # Numbers

pub no_more : (m n : ℕ) → m ≤ suc n → (m ≤ n) ⊎ (m ≡ suc n)
no_more zero n e = inl (omega arith)
no_more (suc m) zero e = inr (omega (arith, e))
no_more (suc m) (suc n) e = elim (no_more m n (omega (arith, e))) [ inl h ↦ inl (omega (arith, h)) | inr h ↦ inr (omega (arith, h)) ]

pub none_below : (m : ℕ) → m ≤ 0 → 0 ≡ m
none_below m e = omega (arith, e)

-- # One type

pub whole_known : (t : Tables) (k : Kind) → IsWhole t k → IsKnown t k
whole_known t k whole = whole k.maybes (omega arith)

pub whole_not_any : (t : Tables) (k : Kind) → IsWhole t k → is_any k.base ≡ false
whole_not_any t k whole = let r = whole_known t k whole in known t k r.0 r.1

-- a type that is no `Maybe`
pub bare_whole : (t : Tables) (b : Base) → IsKnown t (plain_kind b) → IsWhole t (plain_kind b)
bare_whole t b is m e = subst (λ i. IsKnown t (record { base = b; maybes = i })) (none_below m e) is

pub truth_whole : (t : Tables) → IsOneOf bool_kind t.datatypes → IsWhole t bool_kind
truth_whole t at = bare_whole t base.Bool (data_known t bool_kind refl at)

pub int_whole : (t : Tables) → IsWhole t int_kind
int_whole t = bare_whole t base.Int (ty.Int, refl)

base_self : (b : Base) → is_any b ≡ false → same_base b b ≡ true
base_self base.Unknown e = absurd cc
base_self base.Open e = absurd cc
base_self (base.Declared type) e = eq-eqb type type refl
base_self _ e = refl

pub kind_self : (k : Kind) → is_any k.base ≡ false → same_kind k k ≡ true
kind_self k e = and_from (same_base k.base k.base) _ (base_self k.base e) (eq-eqb k.maybes k.maybes refl)

-- `Maybe` of a type, where it is among the datatypes
pub maybe_whole : (t : Tables) (k : Kind) → IsWhole t k → IsOneOf (record { base = k.base; maybes = suc k.maybes }) t.datatypes
    → IsWhole t (record { base = k.base; maybes = suc k.maybes })
maybe_whole t k whole at m e = by_place t k whole at m (no_more m k.maybes e) where
  by_place : (t : Tables) (k : Kind) → IsWhole t k → IsOneOf (record { base = k.base; maybes = suc k.maybes }) t.datatypes
      → (m : ℕ) → (m ≤ k.maybes) ⊎ (m ≡ suc k.maybes) → IsKnown t (record { base = k.base; maybes = m })
  by_place t k whole at m (inl h) = whole m h
  by_place t k whole at m (inr h) =
      let all : Kind = record { base = k.base; maybes = suc k.maybes } in
      let r = data_known t all (kind_self all (whole_not_any t k whole)) at in
      subst (λ i. IsKnown t (record { base = k.base; maybes = i })) (sym h)
      (r.0, ap (λ z. cond z (base_ty t k.base) (datatype_ty t all)) (ne_eqb (suc k.maybes) 0 (omega arith)) ∙ r.1)

-- what is inside
pub less_whole : (t : Tables) (b : Base) (m : ℕ) → IsWhole t (record { base = b; maybes = suc m }) → IsWhole t (record { base = b; maybes = m })
less_whole t b m whole i e = whole i (omega (arith, e))

-- # Written types

pub in_either : {X : Type 0} (x : X) (xs ys : List X) → IsOneOf x (xs ++ ys) → IsOneOf x xs ⊎ IsOneOf x ys
in_either x [] ys at = inr at
in_either x (z ∷ xs) ys (inl h) = inl (inl h)
in_either x (z ∷ xs) ys (inr h) = elim (in_either x xs ys h) [ inl g ↦ inl (inr g) | inr g ↦ inr g ]

pub maybes_more : (c : Kind) (b : Base) (m n : ℕ) → m ≤ n → IsOneOf c (maybes_of b m) → IsOneOf c (maybes_of b n)
maybes_more c b m zero e at = subst (λ i. IsOneOf c (maybes_of b i)) (sym (none_below m e)) at
maybes_more c b m (suc n) e at = by_place c b m n (no_more m n e) at (λ h. maybes_more c b m n h at) where
  by_place : (c : Kind) (b : Base) (m n : ℕ) → (m ≤ n) ⊎ (m ≡ suc n) → IsOneOf c (maybes_of b m) → (m ≤ n → IsOneOf c (maybes_of b n)) → IsOneOf c (maybes_of b (suc n))
  by_place c b m n (inl h) at rest = in_left c (maybes_of b n) _ (rest h)
  by_place c b m n (inr h) at rest = subst (λ i. IsOneOf c (maybes_of b i)) h at

pub parts_more : (n : Names) (c : Kind) (k : Kind) (m : ℕ) → m ≤ k.maybes → IsOneOf c (parts n (record { base = k.base; maybes = m })) → IsOneOf c (parts n k)
parts_more n c k m e at =
    let inner = base_parts n (reverse n.types) k.base in
    elim (in_either c inner (maybes_of k.base m) at) [
      | inl h ↦ in_left c inner (maybes_of k.base k.maybes) h
      | inr h ↦ in_right c inner (maybes_of k.base k.maybes) (maybes_more c k.base m k.maybes e h)
    ]

pub written_whole : (t : Tables) → IsOneOf bool_kind t.datatypes → (decl : ℕ) (r : Role) (written : TypeTree) → Sound t (Site.written decl r written)
    → IsWhole t (kind_of t.names written)
written_whole t bool decl r written sound m e =
    let k = kind_of t.names written in
    kind_known t k.base m (written_base t.names decl written (sound.0 (rule 2 rule02) (is_one_of rules 1 _ refl)))
    (λ c part. sound.1 c (parts_more t.names c k m e part)) bool

-- the type of what stands in `some` makes a datatype of the whole
pub in_own_parts : (n : Names) (k : Kind) → IsOneOf (record { base = k.base; maybes = suc k.maybes }) (parts n (record { base = k.base; maybes = suc k.maybes }))
in_own_parts n k =
    let all : Kind = record { base = k.base; maybes = suc k.maybes } in
    in_right all (base_parts n (reverse n.types) k.base) (maybes_of k.base (suc k.maybes)) (in_right all (maybes_of k.base k.maybes) (all ∷ []) (inl refl))
