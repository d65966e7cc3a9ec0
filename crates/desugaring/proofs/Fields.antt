-- The constructor of an arm has as many fields as its pattern has variables.
use Rattle.std.proofs.Common.{◌≡◌, ◌==◌, ℕ, zero, suc, Bool, true, false, cond, List, [], ◌∷◌, length, Option, Some, None, refl, ap, subst, ◌∙◌}
use Rattle.std.proofs.lemmas.Bool.{eqb-true}
use Rattle.std.specs.Prelude.{slice_get}
use Rattle.rp_value.specs.declared.tables.ConDecl.{ConDecl}
use Rattle.rp_value.specs.declared.tables.ConTable.{ConTable}
use Rattle.rp_grammar.specs.Trees.{PatternTree}
use Rattle.rp_lang.specs.Types.{fields_in, fields_of}
use Rattle.type_rules.specs.declared.kind.Kind.{Kind}
use Rattle.type_rules.specs.Matches.{pattern_vars, pattern_name}
use Rattle.desugaring.specs.Parts.{each}
use Rattle.desugaring.specs.Tables.{Tables, Con, cons, con_of, con_decl, con_table, table_with, ty_of, datatype_number, has_fields, with_fields, con_number, arm_number}
use Rattle.desugaring.proofs.Options.{both_there, then_there, map_there}

-- # Lists of parts

pub each_length : {X Y : Type 0} (f : X → Option Y) (xs : List X) (ys : List Y) → each f xs ≡ Some ys → length ys ≡ length xs
each_length f [] [] e = refl
each_length f [] (y ∷ ys) e = absurd cc
each_length f (x ∷ xs) ys e =
    both_there (λ zs. length zs ≡ length (x ∷ xs)) ◌∷◌ (f x) (each f xs) ys e (λ z zs a b. ap suc (each_length f xs zs b))

-- what is made of the member at a place stands at that place
pub each_at : {X Y : Type 0} (f : X → Option Y) (xs : List X) (ys : List Y) (i : ℕ) (x : X) → each f xs ≡ Some ys → slice_get xs i ≡ Some x
    → (y : Y) × (slice_get ys i ≡ Some y) × (f x ≡ Some y)
each_at f [] ys i x e is = absurd cc
each_at {Y = Y} f (x ∷ xs) ys zero z e is =
    both_there (λ zs. (y : Y) × (slice_get zs zero ≡ Some y) × (f z ≡ Some y)) ◌∷◌ (f x) (each f xs) ys e
    (λ y zs a b. (y, refl, subst (λ o. f o ≡ Some y) (cc) a))
each_at {Y = Y} f (x ∷ xs) ys (suc i) z e is =
    both_there (λ zs. (y : Y) × (slice_get zs (suc i) ≡ Some y) × (f z ≡ Some y)) ◌∷◌ (f x) (each f xs) ys e
    (λ y zs a b. each_at f xs zs i z b is)

-- # Constructors

decl_fields : (t : Tables) (c : Con) (d : ConDecl) → con_decl t c ≡ Some d → length d.fields ≡ length c.fields
decl_fields t c d e =
    both_there (λ x. length x.fields ≡ length c.fields) (con_of c.name) (datatype_number t c.of) (each (ty_of t) c.fields) d e
    (λ of fields a b. each_length (ty_of t) c.fields fields b)

-- the number is that of a constructor with so many fields
with_so_many : (many : ℕ) (cs : List Con) (n con : ℕ) → with_fields many cs n ≡ Some con
    → (n ≡ con) × ((c : Con) × (slice_get cs con ≡ Some c) × (length c.fields ≡ many))
with_so_many many cs n con e = by_con many cs n con (slice_get cs n) refl e where
  by_con : (many : ℕ) (cs : List Con) (n con : ℕ) (o : Option Con) → slice_get cs n ≡ o → cond (has_fields many o) (Some n) None ≡ Some con
      → (n ≡ con) × ((c : Con) × (slice_get cs con ≡ Some c) × (length c.fields ≡ many))
  by_con many cs n con None is e = absurd cc
  by_con many cs n con (Some c) is e = by_test many cs n con c (length c.fields == many) refl is e where
    by_test : (many : ℕ) (cs : List Con) (n con : ℕ) (c : Con) (as_many : Bool) → (length c.fields == many) ≡ as_many → slice_get cs n ≡ Some c
        → cond as_many (Some n) None ≡ Some con → (n ≡ con) × ((c : Con) × (slice_get cs con ≡ Some c) × (length c.fields ≡ many))
    by_test many cs n con c true size is e =
        let same : n ≡ con = cc in (same, (c, subst (λ i. slice_get cs i ≡ Some c) same is, eqb-true _ _ size))
    by_test many cs n con c false size is e = absurd cc

-- the constructor of an arm, by its number
pub arm_con : (t : Tables) (k : Kind) (p : PatternTree) (con : ℕ) → arm_number t k p ≡ Some con
    → (con_number t k (pattern_name p) ≡ Some con) × ((c : Con) × (slice_get (cons t) con ≡ Some c) × (length c.fields ≡ length (pattern_vars p)))
arm_con t k p con is =
    then_there (with_fields (length (pattern_vars p)) (cons t)) (con_number t k (pattern_name p)) con is
    (λ n found e. let parts = with_so_many (length (pattern_vars p)) (cons t) n con e in
    (found ∙ ap Some parts.0, parts.1))

fields_at : (t : Tables) (list : List ConDecl) (k : Kind) (p : PatternTree) (con : ℕ) → each (con_decl t) (cons t) ≡ Some list
    → arm_number t k p ≡ Some con
    → length (fields_in (slice_get list con)) ≡ length (pattern_vars p)
fields_at t list k p con made is =
    let found = arm_con t k p con is in
    let at = each_at (con_decl t) (cons t) list con found.1.0 made found.1.1 in
    ap (λ o. length (fields_in o)) at.1 ∙ decl_fields t found.1.0 at.0 at.2 ∙ found.1.2

pub table_there : (t : Tables) (table : ConTable) → con_table t ≡ Some table → each (con_decl t) (cons t) ≡ Some table.cons
table_there t table e =
    map_there (λ x. each (con_decl t) (cons t) ≡ Some x.cons) table_with (each (con_decl t) (cons t)) table e (λ list is. is)

pub arm_fields : (t : Tables) (table : ConTable) (k : Kind) (p : PatternTree) (con : ℕ) → con_table t ≡ Some table
    → arm_number t k p ≡ Some con
    → length (fields_of table con) ≡ length (pattern_vars p)
arm_fields t table k p con made is = fields_at t table.cons k p con (table_there t table made) is
