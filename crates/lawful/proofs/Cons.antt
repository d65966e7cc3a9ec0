-- The number of a datatype's constructor, in the program's table.
use Rattle.std.proofs.Common.{◌≡◌, ◌<◌, ℕ, zero, suc, Bool, true, false, ◌&&◌, List, [], ◌∷◌, ◌++◌, map, length, get_or, Option, Some, None, refl, ap, subst, sym, ◌∙◌, cond, arith}
use Rattle.std.specs.Prelude.{nat_eq, slice_get, position, find, unwrap_or, flat_map, option_map, option_and_then}
use Rattle.std.proofs.lemmas.Bool.{and_parts, eq-eqb, ne_eqb, true≢false}
use Rattle.std.proofs.lemmas.List.Quantifiers.{position-Some}
use Rattle.rp_value.specs.declared.tables.Ty.TheVariants as ty
use Rattle.rp_value.specs.declared.tables.ConDecl.{ConDecl}
use Rattle.rp_grammar.specs.Trees.{PatternTree}
use Rattle.rp_lang.specs.Programs.{Prog}
use Rattle.rp_lang.specs.Types.{fields_in, fields_of, datatype_in}
use Rattle.type_rules.specs.declared.kind.Kind.{Kind}
use Rattle.type_rules.specs.declared.kind.Base.{Base}
use Rattle.type_rules.specs.declared.kind.Base.TheVariants as base
use Rattle.type_rules.specs.Names.{Name, Names, same_name, TypeEntry, TypeSort}
use Rattle.type_rules.specs.Matches.{Case, case, find_case, cases_of, case_named, case_fields, declared_cases, sort_cases, pattern_name, pattern_vars, pattern_kinds}
use Rattle.desugaring.specs.Parts.{each}
use Rattle.desugaring.specs.Appearances.{same_kind}
use Rattle.desugaring.specs.Tables.{Tables, Con, cons, cons_of, con_of, con_decl, con_table, ty_of, datatype_ty, datatype_number, con_number, arm_number, sort_ty}
use Rattle.lawful.specs.Typed.{IsCon}
use Rattle.desugaring.proofs.Options.{both_there}
use Rattle.desugaring.proofs.Fields.{arm_con, table_there}
use Rattle.lawful.proofs.Basics.{kind_one}
use Rattle.lawful.proofs.Forms.{one}

-- # The first that passes, and what is made of it

pub record First {X Y : Type 0} (test : X → Bool) (f : X → Option Y) (xs : List X) (ys : List Y) (i : ℕ) : Type 0 where
  pub member : X
  pub made : Y
  pub passes : test member ≡ true
  pub first : find test xs ≡ Some member
  pub is : f member ≡ Some made
  pub at : slice_get xs i ≡ Some member
  pub there : slice_get ys i ≡ Some made

picked : {X Y : Type 0} (test : X → Bool) (f : X → Option Y) (xs : List X) (ys : List Y) (i : ℕ) (d : X) → each f xs ≡ Some ys
    → i < length xs → test (get_or xs i d) ≡ true → ((k : ℕ) → k < i → test (get_or xs k d) ≡ false) → First test f xs ys i
picked test f [] ys i d e lt yes_ none = absurd (omega (arith, lt))
picked test f (x ∷ xs) ys zero d e lt yes_ none =
    both_there (λ zs. First test f (x ∷ xs) zs zero) ◌∷◌ (f x) (each f xs) ys e (λ z zs a b.
    record { member = x; made = z; passes = yes_; first = rw yes_ refl; is = a; at = refl; there = refl })
picked test f (x ∷ xs) ys (suc i) d e lt yes_ none =
    let not_first : test x ≡ false = none zero (omega arith) in
    both_there (λ zs. First test f (x ∷ xs) zs (suc i)) ◌∷◌ (f x) (each f xs) ys e (λ z zs a b.
    let rest = picked test f xs zs i d b (omega (arith, lt)) yes_ (λ k less. none (suc k) (omega (arith, less))) in
    record { member = rest.member; made = rest.made; passes = rest.passes; first = rw not_first rest.first; is = rest.is; at = rest.at; there = rest.there })

pub first_of_position : {X Y : Type 0} (test : X → Bool) (f : X → Option Y) (xs : List X) (ys : List Y) (i : ℕ) (d : X) → each f xs ≡ Some ys
    → position test xs ≡ Some i → First test f xs ys i
first_of_position test f xs ys i d e is =
    let found = position-Some test xs i d is in picked test f xs ys i d e found.0 found.1 found.2

-- # The first constructor of a type and name is the case of that name

abbrev pub is_con : Kind → Name → Con → Bool
is_con k x c = same_kind c.of k && same_name c.name x

abbrev pub con_in : Kind → Case → Con
con_in d c = record { name = c.name; of = d; fields = c.fields }

abbrev Found : Kind → Kind → Name → List Case → Con → Type 0
Found d k x cs c = (same_kind d k ≡ true) × (find_case cs x ≡ Some (case c.name c.fields))

case_step : (d k : Kind) (x : Name) (c0 : Case) (cs : List Case) (c : Con) (same named : Bool) → same_kind d k ≡ same → same_name c0.name x ≡ named
    → cond (same && named) (Some (con_in d c0)) (find (is_con k x) (map (con_in d) cs)) ≡ Some c
    → (find (is_con k x) (map (con_in d) cs) ≡ Some c → Found d k x cs c) → Found d k x (c0 ∷ cs) c
case_step d k x c0 cs c true true is named e rest = (is, rw named (ap (λ o. option_map (λ z. case z.name z.fields) o) e))
case_step d k x c0 cs c true false is named e rest = let r = rest e in (r.0, rw named r.1)
case_step d k x c0 cs c false true is named e rest = let r = rest e in absurd (true≢false (sym r.0 ∙ is))
case_step d k x c0 cs c false false is named e rest = let r = rest e in absurd (true≢false (sym r.0 ∙ is))

in_cases : (d k : Kind) (x : Name) (cs : List Case) (c : Con) → find (is_con k x) (map (con_in d) cs) ≡ Some c → Found d k x cs c
in_cases d k x [] c e = absurd cc
in_cases d k x (c0 ∷ cs) c e = case_step d k x c0 cs c (same_kind d k) (same_name c0.name x) refl refl e (in_cases d k x cs c)

abbrev pub Named : Names → Kind → Name → Con → Type 0
Named n k x c = (case_fields (case_named (cases_of n k) x) ≡ c.fields) × ((cs : List Case) × (cases_of n k ≡ Some cs))

of_cases : (n : Names) (d k : Kind) (x : Name) (c : Con) (o : Option (List Case)) → cases_of n d ≡ o → Found d k x (unwrap_or o []) c → Named n k x c
of_cases n d k x c None is found = absurd (no_case x _ found.1) where
  no_case : (x : Name) (z : Case) → find_case [] x ≡ Some z → ⊥
  no_case x z e = absurd cc
of_cases n d k x c (Some cs) is found =
    subst (λ j. Named n j x c) (kind_one d k found.0)
    (subst (λ o. (case_fields (case_named o x) ≡ c.fields) × ((cs : List Case) × (o ≡ Some cs))) (sym is) (ap case_fields found.1, (cs, refl)))

either_part : {X : Type 0} (Q : Type 0) (test : X → Bool) (as_ bs : List X) (c : X) → find test (as_ ++ bs) ≡ Some c
    → (find test as_ ≡ Some c → Q) → (find test bs ≡ Some c → Q) → Q
either_part Q test [] bs c e here later = later e
either_part Q test (a ∷ as_) bs c e here later =
    by_test Q test a as_ bs c (test a) refl e here (λ h j. either_part Q test as_ bs c h j later) where
      by_test : {X : Type 0} (Q : Type 0) (test : X → Bool) (a : X) (as_ bs : List X) (c : X) (holds : Bool) → test a ≡ holds
          → cond holds (Some a) (find test (as_ ++ bs)) ≡ Some c
          → (cond (test a) (Some a) (find test as_) ≡ Some c → Q) → (find test (as_ ++ bs) ≡ Some c → (find test as_ ≡ Some c → Q) → Q) → Q
      by_test Q test a as_ bs c true is e here rest = here (rw is e)
      by_test Q test a as_ bs c false is e here rest = rest e (λ h. here (rw is h))

pub in_types : (n : Names) (k : Kind) (x : Name) (ds : List Kind) (c : Con) → find (is_con k x) (flat_map (cons_of n) ds) ≡ Some c → Named n k x c
in_types n k x [] c e = absurd cc
in_types n k x (d ∷ ds) c e =
    either_part (Named n k x c) (is_con k x) (cons_of n d) (flat_map (cons_of n) ds) c e
    (λ h. of_cases n d k x c (cases_of n d) refl (in_cases d k x (unwrap_or (cases_of n d) []) c h)) (in_types n k x ds c)

-- # A type that has constructors is a datatype of the program

declared_ty : (t : Tables) (type : ℕ) (o : Option TypeEntry) (cs : List Case) → declared_cases t.names o ≡ Some cs
    → option_and_then (λ entry. sort_ty t type entry.sort) o ≡ datatype_ty t (record { base = base.Declared type; maybes = 0 })
declared_ty t type None cs e = absurd cc
declared_ty t type (Some entry) cs e = by_sort t type entry.sort cs e where
  by_sort : (t : Tables) (type : ℕ) (sort : TypeSort) (cs : List Case) → sort_cases t.names sort ≡ Some cs
      → sort_ty t type sort ≡ datatype_ty t (record { base = base.Declared type; maybes = 0 })
  by_sort t type TypeSort.id_type cs e = absurd cc
  by_sort t type TypeSort.opaque cs e = absurd cc
  by_sort t type (TypeSort.datatype cons_) cs e = refl

pub ty_parts : (t : Tables) (b : Base) (m : ℕ) (cs : List Case) → cases_of t.names (record { base = b; maybes = m }) ≡ Some cs
    → ty_of t (record { base = b; maybes = m }) ≡ datatype_ty t (record { base = b; maybes = m })
ty_parts t b (suc m) cs e = rw (ne_eqb (suc m) 0 (omega arith)) refl
ty_parts t base.Bool zero cs e = refl
ty_parts t (base.Declared type) zero cs e = declared_ty t type (slice_get t.names.types type) cs e
ty_parts t base.Int zero cs e = absurd cc
ty_parts t base.Text zero cs e = absurd cc
ty_parts t base.Call zero cs e = absurd cc
ty_parts t base.Invocation zero cs e = absurd cc
ty_parts t base.Operation zero cs e = absurd cc
ty_parts t base.Info zero cs e = absurd cc
ty_parts t base.Outcome zero cs e = absurd cc
ty_parts t base.Unknown zero cs e = absurd cc
ty_parts t base.Open zero cs e = absurd cc

-- # The law

pub no_con : Con
no_con = record { name = []; of = record { base = base.Bool; maybes = 0 }; fields = [] }

pub decl_parts : (t : Tables) (c : Con) (d : ConDecl) → con_decl t c ≡ Some d
    → (datatype_ty t c.of ≡ Some (ty.Datatype d.of)) × (each (ty_of t) c.fields ≡ Some d.fields)
decl_parts t c d e =
    both_there (λ z. (datatype_ty t c.of ≡ Some (ty.Datatype z.of)) × (each (ty_of t) c.fields ≡ Some z.fields)) (con_of c.name)
    (datatype_number t c.of) (each (ty_of t) c.fields) d e (λ of fields a b. (ap (option_map ty.Datatype) a, b))

pub con_is : (t : Tables) (p : Prog) → con_table t ≡ Some p.cons → (k : Kind) (x : Name) (con : ℕ) → con_number t k x ≡ Some con → IsCon t p k x con
con_is t p table k x con is =
    let f = first_of_position (is_con k x) (con_decl t) (cons t) p.cons.cons con no_con (table_there t p.cons table) is in
    let same : f.member.of ≡ k = kind_one _ _ (and_parts _ _ f.passes).0 in
    let named : Named t.names k x f.member = in_types t.names k x t.datatypes f.member f.first in
    let parts = decl_parts t f.member f.made f.is in
    record {
      ty = ty.Datatype f.made.of;
      made = ap datatype_in f.there;
      same = ty_parts t k.base k.maybes named.1.0 named.1.1 ∙ subst (λ j. datatype_ty t j ≡ Some (ty.Datatype f.made.of)) same parts.0;
      fields = subst (λ ks. each (ty_of t) ks ≡ Some (fields_of p.cons con)) (sym named.0) (parts.1 ∙ sym (ap (λ o. Some (fields_in o)) f.there));
    }

-- # Arms

-- the number of an arm is that of the constructor of its pattern's name
pub arm_is : (t : Tables) (p : Prog) → con_table t ≡ Some p.cons → (k : Kind) (q : PatternTree) (con : ℕ) → arm_number t k q ≡ Some con
    → IsCon t p k (pattern_name q) con
arm_is t p table k q con is = con_is t p table k (pattern_name q) con (arm_con t k q con is).0

-- the first constructor of the name, and the case of that name
pub con_case : (t : Tables) (p : Prog) → con_table t ≡ Some p.cons → (k : Kind) (x : Name) (con : ℕ) → con_number t k x ≡ Some con
    → (c : Con) × (slice_get (cons t) con ≡ Some c) × (case_fields (case_named (cases_of t.names k) x) ≡ c.fields)
con_case t p table k x con is =
    let f = first_of_position (is_con k x) (con_decl t) (cons t) p.cons.cons con no_con (table_there t p.cons table) is in
    (f.member, f.at, (in_types t.names k x t.datatypes f.member f.first).0)

pub arm_many_is : (t : Tables) (p : Prog) → con_table t ≡ Some p.cons → (k : Kind) (q : PatternTree) (con : ℕ) → arm_number t k q ≡ Some con
    → nat_eq (length (pattern_kinds t.names k (pattern_name q))) (length (pattern_vars q)) ≡ true
arm_many_is t p table k q con is =
    let a = arm_con t k q con is in
    let c = con_case t p table k (pattern_name q) con a.0 in
    let same : c.0 ≡ a.1.0 = one (sym c.1 ∙ a.1.1) in
    eq-eqb _ _ (ap length c.2 ∙ ap (λ z. length z.fields) same ∙ a.1.2)
