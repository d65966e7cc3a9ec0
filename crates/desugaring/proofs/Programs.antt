-- The program that is computed is the one that a tree has, and no other.
use Rattle.std.proofs.Common.{◌≡◌, List, [], length, Some, refl, ap, sym, ◌∙◌}
use Rattle.rp_grammar.specs.Trees.{DeclTree}
use Rattle.rp_lang.specs.Programs.{Inv, Proc, Prog}
use Rattle.type_rules.specs.Kinds.{bool_kind}
use Rattle.type_rules.specs.Accesses.{proc_params}
use Rattle.desugaring.specs.Tables.{Tables, tables_of, con_table, root_table, op_table, query_table}
use Rattle.desugaring.specs.Statements.{Made, made}
use Rattle.desugaring.specs.Programs.{InvTree, ProcDecl, IsInv, inv_with, inv_for, IsProc, proc_with, proc_made, proc_for, param_stands, body_place, proc_body, invs_from, procs_from, IsProgram, Schema, schema_with, schema_for, program_with, program_of}
use Rattle.desugaring.proofs.Options.{then_there, map_there, both_there, three_there, then_is, map_is, both_is, three_is, each_there, each_is}
use Rattle.desugaring.proofs.Sound.{sound}
use Rattle.desugaring.proofs.Found.{found}
use Rattle.desugaring.proofs.SoundStmts.{runs_there}
use Rattle.desugaring.proofs.FoundStmts.{block_found}

-- # Invariants

inv_there : (t : Tables) (d : InvTree) (i : Inv) → inv_for t d ≡ Some i → IsInv t d i
inv_there t d i h =
    map_there (IsInv t d) (inv_with d) _ i h (λ v means. IsInv.inv (sound t d.decl [] (Some bool_kind) d.body v means))

inv_is : (t : Tables) (d : InvTree) (i : Inv) → IsInv t d i → inv_for t d ≡ Some i
inv_is t d i (IsInv.inv means) = map_is (inv_with d) _ _ (found t d.decl [] (Some bool_kind) d.body _ means)

-- # Procedures

proc_there : (t : Tables) (d : ProcDecl) (p : Proc) → proc_for t d ≡ Some p → IsProc t d p
proc_there t d p h =
    then_there (proc_made t d) _ p h
    (λ m body e. three_there (IsProc t d) (proc_with d m) _ _ _ p e
    (λ params result slots is_params is_result is_slots. record {
      name = refl;
      at = refl;
      end = refl;
      params = is_params;
      result = is_result;
      further = m.slots;
      runs =
          runs_there t d.decl (body_place t.names d) (param_stands t.names d) (length (proc_params d.tree))
          (proc_body d.tree) m body;
      slots = is_slots;
    }))

proc_is : (t : Tables) (d : ProcDecl) (p : Proc) → IsProc t d p → proc_for t d ≡ Some p
proc_is t d p is =
    let m : Made = made p.body is.further in
    let whole : proc_with d m p.params p.result p.slots ≡ p = λ i. record {
      name = sym is.name i;
      at = sym is.at i;
      end = sym is.end i;
      params = p.params;
      result = p.result;
      slots = p.slots;
      body = p.body;
    } in
    then_is (proc_made t d) _ m _
    (block_found t d.decl (body_place t.names d) (param_stands t.names d) (length (proc_params d.tree))
    (proc_body d.tree) p.body is.further is.runs)
    (three_is (proc_with d m) _ _ _ _ _ _ is.params is.result is.slots ∙ ap (λ q. Some q) whole)

-- # The whole program

record HasSchema (t : Tables) (s : Schema) : Type 0 where
  cons : con_table t ≡ Some s.cons
  roots : root_table t ≡ Some s.roots
  ops : op_table t ≡ Some s.ops
  queries : query_table t ≡ Some s.queries

schema_there : (t : Tables) (s : Schema) → schema_for t ≡ Some s → HasSchema t s
schema_there t s h =
    both_there (HasSchema t) (λ make queries. make queries) _ _ s h (λ make queries e is_queries.
    three_there (λ f. HasSchema t (f queries)) schema_with _ _ _ make e (λ cons roots ops is_cons is_roots is_ops. record {
      cons = is_cons;
      roots = is_roots;
      ops = is_ops;
      queries = is_queries;
    }))

pub program_there : (tree : List DeclTree) (p : Prog) → program_of tree ≡ Some p → IsProgram tree p
program_there tree p h =
    let t : Tables = tables_of tree in
    three_there (IsProgram tree) (program_with t) _ _ _ p h (λ s invs procs is_schema is_invs is_procs.
    let has : HasSchema t s = schema_there t s is_schema in record {
      types = refl;
      cons = has.cons;
      roots = has.roots;
      ops = has.ops;
      queries = has.queries;
      invs = each_there (IsInv t) (inv_for t) (inv_there t) (invs_from 0 1 tree) invs is_invs;
      procs = each_there (IsProc t) (proc_for t) (proc_there t) (procs_from 0 tree) procs is_procs;
    })

pub program_is : (tree : List DeclTree) (p : Prog) → IsProgram tree p → program_of tree ≡ Some p
program_is tree p is =
    let t : Tables = tables_of tree in
    let s : Schema = schema_with p.cons p.roots p.ops p.queries in
    let whole : program_with t s p.invs p.procs ≡ p = λ i. record {
      types = sym is.types i;
      cons = p.cons;
      roots = p.roots;
      ops = p.ops;
      queries = p.queries;
      invs = p.invs;
      procs = p.procs;
    } in
    three_is (program_with t) _ _ _ s p.invs p.procs
    (both_is (λ make queries. make queries) _ _ _ p.queries
    (three_is schema_with _ _ _ _ _ _ is.cons is.roots is.ops) is.queries)
    (each_is (IsInv t) (inv_for t) (inv_is t) (invs_from 0 1 tree) p.invs is.invs)
    (each_is (IsProc t) (proc_for t) (proc_is t) (procs_from 0 tree) p.procs is.procs)
    ∙ ap (λ q. Some q) whole

some_is : {A : Type 0} (x y : A) → Some x ≡ Some y → x ≡ y
some_is x y e = cc

pub one_program : (tree : List DeclTree) (p q : Prog) → IsProgram tree p → IsProgram tree q → p ≡ q
one_program tree p q a b = some_is p q (sym (program_is tree p a) ∙ program_is tree q b)
