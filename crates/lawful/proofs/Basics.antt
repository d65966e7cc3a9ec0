-- Tests, types that fit, and what the variables in sight are.
use Rattle.std.proofs.Common.{◌≡◌, ℕ, Bool, true, false, List, [], ◌∷◌, ◌++◌, Option, Some, None, refl, ap, sym, ◌∙◌, cond}
use Rattle.std.specs.Prelude.{nat_eq}
use Rattle.std.proofs.lemmas.Bool.{and_parts, eqb-true, true≢false}
use Rattle.std.proofs.lemmas.List.Quantifiers.{position-Some}
use Rattle.std.specs.Option.{option_map}
use Rattle.rp_span.specs.declared.Span.{Span}
use Rattle.rp_value.specs.declared.tables.Ty.{Ty}
use Rattle.rp_value.specs.declared.tables.Ty.TheVariants as ty
use Rattle.rp_grammar.specs.Trees.{ExprTree}
use Rattle.rp_lang.specs.Exprs.{Ex}
use Rattle.rp_lang.specs.Programs.{Prog}
use Rattle.rp_lang.specs.Typing.{Frame}
use Rattle.type_rules.specs.declared.kind.Kind.{Kind}
use Rattle.type_rules.specs.declared.kind.Base.{Base}
use Rattle.type_rules.specs.declared.kind.Base.TheVariants as base
use Rattle.type_rules.specs.Names.{Name, Names, same_name}
use Rattle.type_rules.specs.Kinds.{same_base, is_any, fits}
use Rattle.type_rules.specs.Accesses.{Var, find_var}
use Rattle.type_rules.specs.Typing.{type_of}
use Rattle.type_rules.specs.Sites.{Site}
use Rattle.type_rules.specs.Rules.{when}
use Rattle.desugaring.specs.Appearances.{same_kind}
use Rattle.desugaring.specs.Tables.{Tables, ty_of, datatype_number}
use Rattle.desugaring.specs.Callees.{Stand, stand, Vars, vars_of, stand_named}
use Rattle.lawful.specs.Kept.{AllKept}
use Rattle.lawful.specs.Typed.{IsTerm, Sees, nothing, another}
use Rattle.lawful.proofs.Alike.{Alike, alike_type}

-- # Tests

pub when_not : (b : Bool) (at : Span) → when b at ≡ None → b ≡ false
when_not true at e = absurd cc
when_not false at e = refl

-- # One type

pub base_one : (a b : Base) → same_base a b ≡ true → a ≡ b
base_one base.Bool base.Bool e = refl
base_one base.Int base.Int e = refl
base_one base.Text base.Text e = refl
base_one (base.Declared a) (base.Declared b) e = ap base.Declared (eqb-true a b e)
base_one base.Call base.Call e = refl
base_one base.Invocation base.Invocation e = refl
base_one base.Operation base.Operation e = refl
base_one base.Info base.Info e = refl
base_one base.Outcome base.Outcome e = refl
base_one _ _ e = absurd cc

kind_of_parts : (a b : Kind) → a.base ≡ b.base → a.maybes ≡ b.maybes → a ≡ b
kind_of_parts a b e h = ap (λ x. record { base = x; maybes = a.maybes }) e ∙ ap (λ m. record { base = b.base; maybes = m }) h

pub kind_one : (a b : Kind) → same_kind a b ≡ true → a ≡ b
kind_one a b e =
    let parts = and_parts (same_base a.base b.base) _ e in
    kind_of_parts a b (base_one _ _ parts.0) (eqb-true a.maybes b.maybes parts.1)

inner : (p q x y z : Bool) → p ≡ false → q ≡ false → cond p x (cond q y z) ≡ true → z ≡ true
inner false false x y z known other e = e
inner true q x y z known other e = absurd cc
inner false true x y z known other e = absurd cc

pub fits_one : (a b : Kind) → is_any a.base ≡ false → is_any b.base ≡ false → fits a b ≡ true → a ≡ b
fits_one a b known other e = kind_one a b (inner (is_any a.base) (is_any b.base) _ _ _ known other e)

-- # A type of the program is known

some_other : (t : Tables) (k : Kind) (n : ℕ) → ((d : Kind) → same_kind k d ≡ false) → datatype_number t k ≡ Some n → ⊥
some_other t k n none e =
    let found = position-Some (same_kind k) t.datatypes n k e in
    true≢false (sym found.1 ∙ none _)

no_number : (t : Tables) (k : Kind) (of : Ty) → ((d : Kind) → same_kind k d ≡ false) → (o : Option ℕ) → datatype_number t k ≡ o → option_map ty.Datatype o ≡ Some of → ⊥
no_number t k of none None is e = absurd cc
no_number t k of none (Some n) is e = some_other t k n none is

no_datatype : (t : Tables) (k : Kind) (of : Ty) → ((d : Kind) → same_kind k d ≡ false) → (bare : Bool)
    → cond bare None (option_map ty.Datatype (datatype_number t k)) ≡ Some of → ⊥
no_datatype t k of none true e = absurd cc
no_datatype t k of none false e = no_number t k of none (datatype_number t k) refl e

known_base : (t : Tables) (b : Base) (m : ℕ) (ty : Ty) → ty_of t (record { base = b; maybes = m }) ≡ Some ty → is_any b ≡ false
known_base t base.Unknown m ty e = absurd (no_datatype t (record { base = base.Unknown; maybes = m }) ty (λ d. refl) (nat_eq m 0) e)
known_base t base.Open m ty e = absurd (no_datatype t (record { base = base.Open; maybes = m }) ty (λ d. refl) (nat_eq m 0) e)
known_base t _ m ty e = refl

pub known : (t : Tables) (k : Kind) (ty : Ty) → ty_of t k ≡ Some ty → is_any k.base ≡ false
known t k ty e = known_base t k.base k.maybes ty e

-- # Variables in sight

pub data Looks (t : Tables) (p : Prog) (f : Frame) (bs : List Ty) : Option Var → Option (Stand Ex) → Option Var → Type 0 where
  nowhere : Looks t p f bs None None None
  there : {name : Name} {kind : Kind} {set fixed : Bool} {known : Ex}
      → (set ≡ true → IsTerm t p f bs false kind known)
      → Looks t p f bs (Some (record { name = name; kind = kind; set = set; fixed = fixed })) (Some (stand name kind known))
      (Some (record { name = name; kind = kind; set = true; fixed = true }))

pick : (t : Tables) (p : Prog) (f : Frame) (bs : List Ty) (name : Name) (kind : Kind) (set fixed : Bool) (meant : Ex)
    (o : Option Var) (s : Option (Stand Ex)) (v : Option Var) → (same : Bool)
    → (set ≡ true → IsTerm t p f bs false kind meant) → Looks t p f bs o s v
    → Looks t p f bs (cond same (Some (record { name = name; kind = kind; set = set; fixed = fixed })) o)
    (cond same (Some (stand name kind meant)) s) (cond same (Some (record { name = name; kind = kind; set = true; fixed = true })) v)
pick t p f bs name kind set fixed meant o s v true is others = Looks.there is
pick t p f bs name kind set fixed meant o s v false is others = others

pub look : (t : Tables) (p : Prog) (f : Frame) (bs : List Ty) (vs : List Var) (ss : Vars) → (x : Name) → Sees t p f bs vs ss
    → Looks t p f bs (find_var vs x) (stand_named ss x) (find_var (vars_of ss) x)
look t p f bs vs ss x nothing = Looks.nowhere
look t p f bs vs ss x (another {name} {kind} {set} {fixed} {known = meant} is others) =
    pick t p f bs name kind set fixed meant _ _ _ (same_name name x) is (look t p f bs _ _ x others)

sees_alike : (t : Tables) (p : Prog) (f : Frame) (bs : List Ty) (vs : List Var) (ss : Vars) → Sees t p f bs vs ss → Alike vs ss
sees_alike t p f bs vs ss nothing = Alike.nothing
sees_alike t p f bs vs ss (another is others) = Alike.another (sees_alike t p f bs _ _ others)

pub same_type : (t : Tables) (p : Prog) (f : Frame) (bs : List Ty) (n : Names) (vs : List Var) (ss : Vars) → Sees t p f bs vs ss
    → (asked : Option Kind) (e : ExprTree) → type_of n vs asked e ≡ type_of n (vars_of ss) asked e
same_type t p f bs n vs ss sees asked e = alike_type n vs ss (sees_alike t p f bs vs ss sees) asked e

-- # Lawful places

pub split : (n : Names) (words : ℕ → Bool) (ss rs : List Site) → AllKept n words (ss ++ rs) → AllKept n words ss × AllKept n words rs
split n words [] rs kept = (tt, kept)
split n words (s ∷ ss) rs kept = let parts = split n words ss rs kept.1 in ((kept.0, parts.0), parts.1)
