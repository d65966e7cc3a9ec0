-- Values that are whole and have bounded integers.
use Rattle.std.proofs.Common.{◌≡◌, ℕ, zero, suc, ◌≤◌, true, List, [], ◌∷◌, ◌++◌, length, replicate, unwrap_or, Option, Some, None, slice_get, eqb-true, refl, sym, ◌∙◌, ap, subst, true≢false}
use Rattle.std.specs.List.{list_all}
use Rattle.std.proofs.lemmas.Bool.{and_parts}
use Rattle.rp_value.specs.declared.tables.Ty.{Ty}
use Rattle.rp_value.specs.declared.tables.Ty.TheVariants as ty
use Rattle.rp_value.specs.declared.tables.ConDecl.{ConDecl}
use Rattle.rp_value.specs.declared.tables.ConTable.{ConTable}
use Rattle.rp_value.specs.Values as val
use Rattle.rp_value.specs.Values.{Val, Vals, no_val, also_val, false_val}
use Rattle.rp_lang.specs.Types as types
use Rattle.rp_lang.specs.Programs.{Prog}
use Rattle.crdt_defs.specs.Atoms.{ints_fit, all_ints_fit}
use Rattle.crdt_defs.specs.Fitting as fitting
use Rattle.crdt_defs.specs.Fitting.{fits, fields_fit, all_fit}
use Rattle.crdt_defs.specs.Parts.{member}
use Rattle.crdt_defs.specs.Truths.{number, or_false, list_of, is_built, bind, bind_fields}
use Rattle.machine_bounds.specs.Bounded.{IntWithin, IntsWithin, AllWithin, IsWhole, AreWhole}
use Rattle.machine_bounds.proofs.IntLemmas.{range-within, zero-within, grown}

-- whole, with integers of at most w times a counter's
abbrev pub Tame : ConTable → ℕ → Val → Type 0
Tame cons w v = IsWhole cons v × IntsWithin w v

-- the values of binders, each within its own bound
abbrev pub BindersTame : ConTable → List ℕ → List Val → Type 0
BindersTame cons uses binders = (n : ℕ) → Tame cons (unwrap_or (slice_get uses n) 1) (or_false (slice_get binders n))

-- # Bounds

mutual
  pub wider : (x y : ℕ) → x ≤ y → (v : Val) → IntsWithin x v → IntsWithin y v
  wider x y l (val.Int n) h = grown x y n l h
  wider x y l (val.Con con args) h = all-wider x y l args h
  wider x y l (val.Str bytes) h = tt
  wider x y l (val.Atom of n) h = tt
  wider x y l (val.Call c) h = tt
  wider x y l (val.Inv i) h = tt

  pub all-wider : (x y : ℕ) → x ≤ y → (vs : Vals) → AllWithin x vs → AllWithin y vs
  all-wider x y l no_val h = tt
  all-wider x y l (also_val v vs) h = (wider x y l v h.0, all-wider x y l vs h.1)

mutual
  pub words-within : (v : Val) → ints_fit v ≡ true → IntsWithin 1 v
  words-within (val.Int n) h = range-within n h
  words-within (val.Con con args) h = all-words-within args h
  words-within (val.Str bytes) h = tt
  words-within (val.Atom of n) h = tt
  words-within (val.Call c) h = tt
  words-within (val.Inv i) h = tt

  all-words-within : (vs : Vals) → all_ints_fit vs ≡ true → AllWithin 1 vs
  all-words-within no_val h = tt
  all-words-within (also_val v vs) h = let both = and_parts (ints_fit v) (all_ints_fit vs) h in (words-within v both.0, all-words-within vs both.1)

pub number-within : (w : ℕ) (v : Val) → IntsWithin w v → IntWithin w (number v)
number-within w (val.Int n) h = h
number-within w (val.Con con args) h = zero-within w
number-within w (val.Str bytes) h = zero-within w
number-within w (val.Atom of n) h = zero-within w
number-within w (val.Call c) h = zero-within w
number-within w (val.Inv i) h = zero-within w

-- # What fits a type is whole

same-fields : (o : Option ConDecl) → fitting.fields_of o ≡ types.fields_in o
same-fields None = refl
same-fields (Some decl) = refl

mutual
  pub fits-whole : (p : Prog) (of : Ty) (v : Val) → fits p of v ≡ true → IsWhole p.cons v
  fits-whole p of (val.Int n) h = tt
  fits-whole p of (val.Str bytes) h = tt
  fits-whole p of (val.Atom a n) h = tt
  fits-whole p of (val.Call c) h = tt
  fits-whole p of (val.Inv i) h = tt
  fits-whole p ty.Int (val.Con con args) h = absurd (true≢false (sym h))
  fits-whole p ty.Str (val.Con con args) h = absurd (true≢false (sym h))
  fits-whole p (ty.Atom a) (val.Con con args) h = absurd (true≢false (sym h))
  fits-whole p (ty.Datatype d) (val.Con con args) h =
      let fields = fields-whole p (fitting.fields_of (slice_get p.cons.cons con)) args (and_parts _ _ h).1 in
      (fields.0 ∙ ap length (same-fields (slice_get p.cons.cons con)), fields.1)
  fits-whole p _ (val.Con con args) h = absurd (true≢false (sym h))

  fields-whole : (p : Prog) (tys : List Ty) (vs : Vals) → fields_fit p tys vs ≡ true → (length (list_of vs) ≡ length tys) × AreWhole p.cons vs
  fields-whole p [] no_val h = (refl, tt)
  fields-whole p [] (also_val v vs) h = absurd (true≢false (sym h))
  fields-whole p (t ∷ tys) no_val h = absurd (true≢false (sym h))
  fields-whole p (t ∷ tys) (also_val v vs) h =
      let both = and_parts (fits p t v) (fields_fit p tys vs) h in
      let rest = fields-whole p tys vs both.1 in
      (ap suc rest.0, (fits-whole p t v both.0, rest.1))

-- # `false`, and what quantifiers range over

pub false-tame : (cons : ConTable) (w : ℕ) → types.fields_of cons 0 ≡ [] → Tame cons w false_val
false-tame cons w bare = ((sym (ap length bare), tt), tt)

pub member-tame : (cons : ConTable) (over : Ty) (n : ℕ) → types.fields_of cons 0 ≡ [] → Tame cons 1 (member over n)
member-tame cons (ty.Atom atoms) n bare = (tt, tt)
member-tame cons ty.Call n bare = (tt, tt)
member-tame cons ty.Inv n bare = (tt, tt)
member-tame cons _ n bare = false-tame cons 1 bare

-- # Arguments

pub args-tame : (p : Prog) (tys : List Ty) (vs : List Val) (n : ℕ) → types.fields_of p.cons 0 ≡ [] → all_fit p tys vs ≡ true → list_all ints_fit vs ≡ true
    → Tame p.cons 1 (or_false (slice_get vs n))
args-tame p tys [] n bare f h = false-tame p.cons 1 bare
args-tame p [] (v ∷ vs) n bare f h = absurd (true≢false (sym f))
args-tame p (t ∷ tys) (v ∷ vs) zero bare f h =
    (fits-whole p t v (and_parts (fits p t v) _ f).0, words-within v (and_parts (ints_fit v) (list_all ints_fit vs) h).0)
args-tame p (t ∷ tys) (v ∷ vs) (suc n) bare f h =
    args-tame p tys vs n bare (and_parts (fits p t v) _ f).1 (and_parts (ints_fit v) (list_all ints_fit vs) h).1

-- # Binders

pub one-more : (cons : ConTable) (w : ℕ) (uses : List ℕ) (v : Val) (binders : List Val) → Tame cons w v → BindersTame cons uses binders → BindersTame cons (w ∷ uses) (v ∷ binders)
one-more cons w uses v binders here around zero = here
one-more cons w uses v binders here around (suc n) = around n

from-behind : (k w : ℕ) (uses : List ℕ) → replicate k w ++ (w ∷ uses) ≡ replicate (suc k) w ++ uses
from-behind zero w uses = refl
from-behind (suc k) w uses = ap (λ ws. w ∷ ws) (from-behind k w uses)

bound-all : (cons : ConTable) (w : ℕ) (uses : List ℕ) (vs : Vals) (binders : List Val) → AreWhole cons vs → AllWithin w vs → BindersTame cons uses binders
    → BindersTame cons (replicate (length (list_of vs)) w ++ uses) (bind vs binders)
bound-all cons w uses no_val binders whole bound around = around
bound-all cons w uses (also_val v vs) binders whole bound around =
    subst (λ ws. BindersTame cons ws (bind vs (v ∷ binders))) (from-behind (length (list_of vs)) w uses)
    (bound-all cons w (w ∷ uses) vs (v ∷ binders) whole.1 bound.1 (one-more cons w uses v binders (whole.0, bound.0) around))

-- the fields of a value that is built with the constructor
pub fields-bound : (cons : ConTable) (w con : ℕ) (uses : List ℕ) (v : Val) (binders : List Val) → is_built con v ≡ true → Tame cons w v → BindersTame cons uses binders
    → BindersTame cons (replicate (length (types.fields_of cons con)) w ++ uses) (bind_fields v binders)
fields-bound cons w con uses (val.Con c args) binders built tame around =
    let count : length (list_of args) ≡ length (types.fields_of cons con) = tame.0.0 ∙ ap (λ c. length (types.fields_of cons c)) (eqb-true c con built) in
    subst (λ n. BindersTame cons (replicate n w ++ uses) (bind args binders)) count
    (bound-all cons w uses args binders tame.0.1 tame.1 around)
fields-bound cons w con uses (val.Int n) binders built tame around = absurd (true≢false (sym built))
fields-bound cons w con uses (val.Str bytes) binders built tame around = absurd (true≢false (sym built))
fields-bound cons w con uses (val.Atom of n) binders built tame around = absurd (true≢false (sym built))
fields-bound cons w con uses (val.Call c) binders built tame around = absurd (true≢false (sym built))
fields-bound cons w con uses (val.Inv i) binders built tame around = absurd (true≢false (sym built))
