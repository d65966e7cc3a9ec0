-- The constructors of each datatype of a lawful text's program are the next ones, in order.
use Rattle.std.proofs.Common.{◌≡◌, ◌+◌, ◌<◌, ℕ, zero, suc, true, ◌==◌, List, [], ◌∷◌, length, Some, refl, ap, subst, sym, ◌∙◌, arith}
use Rattle.std.specs.Prelude.{flat_map, nat_lt, slice_get, unwrap_or}
use Rattle.std.specs.List.{IsDistinct}
use Rattle.std.proofs.lemmas.Bool.{and_from, eq-eqb, lt-ltb}
use Rattle.std.proofs.lemmas.List.{length-append}
use Rattle.std.proofs.lemmas.Option.{slice_get_within}
use Rattle.rp_value.specs.declared.tables.Ty.TheVariants as ty
use Rattle.rp_value.specs.declared.tables.ConDecl.{ConDecl}
use Rattle.rp_grammar.specs.Trees.{DeclTree}
use Rattle.rp_grammar.specs.Texts.{IsText}
use Rattle.rp_lang.specs.Programs.{Prog}
use Rattle.rp_lang.specs.Types.{are_numbered, datatype_in, datatype_of, is_run, is_ty}
use Rattle.type_rules.specs.declared.kind.Kind.{Kind}
use Rattle.type_rules.specs.Names.{Names}
use Rattle.type_rules.specs.Kinds.{bool_kind}
use Rattle.type_rules.specs.Matches.{cases_of}
use Rattle.type_rules.specs.Queries.{names_of}
use Rattle.desugaring.specs.Appearances.{kinds_from, same_kind}
use Rattle.desugaring.specs.Parts.{each}
use Rattle.desugaring.specs.Tables.{Con, Tables, con_decl, con_of, con_table, cons, cons_of, data_decls, datatype_number, tables_of, ty_of, up_from}
use Rattle.desugaring.specs.Programs.{IsProgramOf}
use Rattle.desugaring.proofs.Fields.{each_length, table_there}
use Rattle.desugaring.proofs.Options.{both_there}
use Rattle.lawful.proofs.Blocks.{case_at, its_own, kinds_differ, start}
use Rattle.lawful.proofs.Distinct.{unique, up_length}
use Rattle.lawful.proofs.FirstCons.{AllFirst, datatypes_first}
use Rattle.lawful.proofs.Maybes.{made_there}

-- what is known of the tables
record Known (t : Tables) (p : Prog) : Type 0 where
  pub table : con_table t ≡ Some p.cons
  pub differ : IsDistinct same_kind t.datatypes

there_is : {X : Type 0} (xs : List X) (i : ℕ) → i < length xs → (x : X) × (slice_get xs i ≡ Some x)
there_is [] i lt = absurd (omega (arith, lt))
there_is (x ∷ xs) zero lt = (x, refl)
there_is (x ∷ xs) (suc i) lt = there_is xs i (omega (arith, lt))

-- a type's constructors are of the type
con_of_type : (n : Names) (k : Kind) (i : ℕ) (z : Con) → slice_get (cons_of n k) i ≡ Some z → z.of ≡ k
con_of_type n k i z at =
    let case = case_at k (unwrap_or (cases_of n k) []) i z at in sym (ap (λ (c : Con). c.of) case.2)

-- one of them, by its number
is_of : (t : Tables) (p : Prog) → Known t p → (n : ℕ) (k : Kind) → slice_get t.datatypes n ≡ Some k → (i : ℕ) → i < length (cons_of t.names k)
    → is_ty (datatype_of p.cons (start t.names 0 t.datatypes n + i)) (ty.Datatype n) ≡ true
is_of t p known n k at i lt =
    let z = there_is (cons_of t.names k) i lt in
    let made = made_there t p known.table n k i z.0 at z.1 in
    let of : datatype_number t z.0.of ≡ Some made.0.of =
    both_there (λ (d : ConDecl). datatype_number t z.0.of ≡ Some d.of) (con_of z.0.name) (datatype_number t z.0.of) (each (ty_of t) z.0.fields) made.0 made.2
    (λ m fields a b. a) in
    let own_number : datatype_number t k ≡ Some made.0.of = subst (λ c. datatype_number t c ≡ Some made.0.of) (con_of_type t.names k i z.0 z.1) of in
    let own = its_own t k made.0.of own_number in
    let same : made.0.of ≡ n = unique same_kind t.datatypes made.0.of n k k known.differ own.0 at own.1 own.1 in
    subst (λ o. is_ty (datatype_in o) (ty.Datatype n) ≡ true) (sym made.1) (eq-eqb made.0.of n same)

run_from : (t : Tables) (p : Prog) → Known t p → (n : ℕ) (k : Kind) → slice_get t.datatypes n ≡ Some k → (m i : ℕ) → i + m ≡ length (cons_of t.names k)
    → (next : ℕ) → next ≡ start t.names 0 t.datatypes n + i → is_run p.cons n next (up_from next m) ≡ true
run_from t p known n k at zero i long next is = refl
run_from t p known n k at (suc m) i long next is =
    let following : next + 1 ≡ start t.names 0 t.datatypes n + (i + 1) = omega (arith, is) in
    and_from _ _ (and_from (next == next) _ (eq-eqb next next refl)
    (subst (λ con. is_ty (datatype_of p.cons con) (ty.Datatype n) ≡ true) (sym is) (is_of t p known n k at i (omega (arith, long)))))
    (run_from t p known n k at m (i + 1) (omega (arith, long)) (next + 1) following)

-- # All of them

total : (n : Names) (next : ℕ) (ds : List Kind) → start n next ds (length ds) ≡ next + length (flat_map (cons_of n) ds)
total n next [] = omega arith
total n next (d ∷ ds) =
    let rest = total n (next + length (cons_of n d)) ds in
    let parts = length-append (cons_of n d) (flat_map (cons_of n) ds) in omega (arith, rest, parts)

-- the datatypes from number n on
record From (t : Tables) (n next : ℕ) (ks : List Kind) : Type 0 where
  pub there : (j : ℕ) (k : Kind) → slice_get ks j ≡ Some k → slice_get t.datatypes (n + j) ≡ Some k
  pub begins : (j : ℕ) → start t.names next ks j ≡ start t.names 0 t.datatypes (n + j)
  pub many : n + length ks ≡ length t.datatypes

numbered_from : (t : Tables) (p : Prog) → Known t p → length p.cons.cons ≡ length (cons t) → (n next : ℕ) (ks : List Kind) → From t n next ks
    → AllFirst t.names ks → are_numbered p.cons n next (data_decls t.names next ks) ≡ true
numbered_from t p known long n next [] from first =
    let at_end : start t.names next [] 0 ≡ start t.names 0 t.datatypes (n + 0) = from.begins 0 in
    let last : n + 0 ≡ length t.datatypes = omega (arith, from.many) in
    let whole : start t.names 0 t.datatypes (n + 0) ≡ 0 + length (flat_map (cons_of t.names) t.datatypes) =
    ap (start t.names 0 t.datatypes) last ∙ total t.names 0 t.datatypes in
    eq-eqb next (length p.cons.cons) (omega (arith, at_end, whole, long))
numbered_from t p known long n next (k ∷ ks) from first =
    let many = length (cons_of t.names k) in
    let zeroth : n + 0 ≡ n = omega arith in
    let at : slice_get t.datatypes n ≡ Some k = subst (λ m. slice_get t.datatypes m ≡ Some k) zeroth (from.there 0 k refl) in
    let begin : next ≡ start t.names 0 t.datatypes n + 0 = let b : next ≡ start t.names 0 t.datatypes n = subst (λ m. next ≡ start t.names 0 t.datatypes m) zeroth (from.begins 0) in omega (arith, b) in
    let within = slice_get_within (cons_of t.names k) 0 first.0.0 first.0.1 in
    let size = up_length next many in
    let rest : From t (n + 1) (next + many) ks = record {
      there = λ j d is. let place : n + suc j ≡ n + 1 + j = omega arith in subst (λ m. slice_get t.datatypes m ≡ Some d) place (from.there (suc j) d is);
      begins = λ j. let place : n + suc j ≡ n + 1 + j = omega arith in from.begins (suc j) ∙ ap (start t.names 0 t.datatypes) place;
      many = omega (arith, from.many);
    } in
    and_from _ _
    (and_from (nat_lt 0 (length (up_from next many))) (is_run p.cons n next (up_from next many)) (lt-ltb 0 (length (up_from next many)) (omega (arith, within, size)))
    (run_from t p known n k at many 0 (omega arith) next begin))
    (subst (λ m. are_numbered p.cons (n + 1) (next + m) (data_decls t.names (next + many) ks) ≡ true) (sym size)
    (numbered_from t p known long (n + 1) (next + many) ks rest first.1))

pub constructors_numbered : (bytes : List ℕ) (tree : List DeclTree) → IsText bytes tree → (p : Prog) → IsProgramOf tree p
    → are_numbered p.cons 0 0 p.types.datatypes ≡ true
constructors_numbered bytes tree text p is =
    let t = tables_of tree in
    let n = names_of tree in
    let known : Known t p = record { table = is.1.cons; differ = kinds_differ (bool_kind ∷ kinds_from n 0 0 tree) } in
    let long = each_length (con_decl t) (cons t) p.cons.cons (table_there t p.cons is.1.cons) in
    let from : From t 0 0 t.datatypes = record {
      there = λ j k at. let same : j ≡ 0 + j = omega arith in subst (λ m. slice_get t.datatypes m ≡ Some k) same at;
      begins = λ j. let same : j ≡ 0 + j = omega arith in ap (start t.names 0 t.datatypes) same;
      many = omega arith;
    } in
    subst (λ types. are_numbered p.cons 0 0 types.datatypes ≡ true) (sym is.1.types)
    (numbered_from t p known long 0 0 t.datatypes from (datatypes_first bytes tree text is.0))
