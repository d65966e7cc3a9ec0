-- How many roots and operations a program has, and how long their paths are, by its text's tables.
use Rattle.std.proofs.Common.{◌≡◌, ℕ, suc, ◌-◌, Bool, List, [], ◌∷◌, length, Option, Some, refl, ap, ap₂, sym, ◌∙◌, arith}
use Rattle.std.specs.Prelude.{◌||◌}
use Rattle.std.specs.List.{list_any}
use Rattle.rp_lang.specs.declared.op.OpDecl.{OpDecl}
use Rattle.rp_lang.specs.declared.query.QueryDecl.{QueryDecl}
use Rattle.rp_lang.specs.declared.limit.LimitName.TheVariants.{Roots, Operations, PathDepth}
use Rattle.rp_lang.specs.FirstForm.{tx}
use Rattle.rp_lang.specs.Programs.{Prog}
use Rattle.desugaring.specs.Limits.{is_past, has_long_path}
use Rattle.desugaring.specs.Objects.{PathOp, PathQuery, op_kinds, query_kinds}
use Rattle.desugaring.specs.Parts.{each}
use Rattle.desugaring.specs.Tables.{Tables, op_decl, op_with, query_decl, query_with, root_of, step_of, ty_of}
use Rattle.desugaring.proofs.Fields.{each_length}
use Rattle.desugaring.proofs.Options.{both_there, map_there, three_there}
use Rattle.resolve.specs.Tested.{HasTables}

pub told_roots : (t : Tables) (p : Prog) → HasTables t p → is_past Roots (length t.roots) ≡ is_past Roots (length p.roots)
told_roots t p h = ap (is_past Roots) (sym (each_length (root_of t) t.roots p.roots h.roots))

-- the operations behind `tx`
record HasOps (t : Tables) (ops : List OpDecl) : Type 0 where
  behind : List OpDecl
  are : each (op_decl t) t.ops ≡ Some behind
  whole : ops ≡ tx ∷ behind

ops_there : (t : Tables) (p : Prog) → HasTables t p → HasOps t p.ops
ops_there t p h =
    map_there (HasOps t) (λ ops. tx ∷ ops) (each (op_decl t) t.ops) p.ops h.ops
    (λ ops are. record { behind = ops; are = are; whole = refl })

behind_one : (n : ℕ) → (suc n) - 1 ≡ n
behind_one n = omega arith

pub told_ops : (t : Tables) (p : Prog) → HasTables t p → is_past Operations (length t.ops) ≡ is_past Operations (length p.ops - 1)
told_ops t p h =
    let has = ops_there t p h in
    ap (is_past Operations)
    (sym (each_length (op_decl t) t.ops has.behind has.are) ∙ sym (ap (λ (ops : List OpDecl). length ops - 1) has.whole ∙ behind_one (length has.behind)))

-- # Paths

-- what is made of each has the same length where the length of each is kept
same_tests : {X Y : Type 0} (f : X → Option Y) (of_part : X → Bool) (of_made : Y → Bool)
    → ((x : X) (y : Y) → f x ≡ Some y → of_made y ≡ of_part x)
    → (xs : List X) (ys : List Y) → each f xs ≡ Some ys → list_any of_made ys ≡ list_any of_part xs
same_tests f of_part of_made same [] [] h = refl
same_tests f of_part of_made same [] (y ∷ ys) h = absurd cc
same_tests f of_part of_made same (x ∷ xs) ys h =
    both_there (λ zs. list_any of_made zs ≡ list_any of_part (x ∷ xs)) ◌∷◌ (f x) (each f xs) ys h
    (λ y zs is_y is_zs. ap₂ (λ a b. a || b) (same x y is_y) (same_tests f of_part of_made same xs zs is_zs))

op_path : (t : Tables) (o : PathOp) (op : OpDecl) → op_decl t o ≡ Some op → is_past PathDepth (length op.path) ≡ is_past PathDepth (length o.path)
op_path t o op h =
    both_there (λ (x : OpDecl). is_past PathDepth (length x.path) ≡ is_past PathDepth (length o.path))
    (op_with o) (each (step_of t) o.path) (each (ty_of t) (op_kinds o)) op h
    (λ path args is_path is_args. ap (is_past PathDepth) (each_length (step_of t) o.path path is_path))

query_path : (t : Tables) (q : PathQuery) (query : QueryDecl) → query_decl t q ≡ Some query
    → is_past PathDepth (length query.path) ≡ is_past PathDepth (length q.path)
query_path t q query h =
    three_there (λ (x : QueryDecl). is_past PathDepth (length x.path) ≡ is_past PathDepth (length q.path))
    (query_with q) (each (step_of t) q.path) (each (ty_of t) (query_kinds q)) (ty_of t q.own.result) query h
    (λ path args result is_path is_args is_result. ap (is_past PathDepth) (each_length (step_of t) q.path path is_path))

pub told_paths : (t : Tables) (p : Prog) → HasTables t p
    → (list_any (λ (o : PathOp). is_past PathDepth (length o.path)) t.ops || list_any (λ (q : PathQuery). is_past PathDepth (length q.path)) t.queries)
    ≡ has_long_path p
told_paths t p h =
    let has = ops_there t p h in
    let ops : list_any (λ (op : OpDecl). is_past PathDepth (length op.path)) has.behind ≡ list_any (λ (o : PathOp). is_past PathDepth (length o.path)) t.ops =
    same_tests (op_decl t) (λ (o : PathOp). is_past PathDepth (length o.path)) (λ (op : OpDecl). is_past PathDepth (length op.path)) (op_path t) t.ops has.behind has.are in
    let queries : list_any (λ (q : QueryDecl). is_past PathDepth (length q.path)) p.queries ≡ list_any (λ (q : PathQuery). is_past PathDepth (length q.path)) t.queries =
    same_tests (query_decl t) (λ (q : PathQuery). is_past PathDepth (length q.path)) (λ (q : QueryDecl). is_past PathDepth (length q.path)) (query_path t) t.queries p.queries h.queries in
    ap₂ (λ a b. a || b)
    (sym ops ∙ sym (ap (list_any (λ (op : OpDecl). is_past PathDepth (length op.path))) has.whole)) (sym queries)
