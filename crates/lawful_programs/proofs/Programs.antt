-- A lawful text has a program.
use Rattle.std.proofs.Common.{◌≡◌, List, Some}
use Rattle.rp_grammar.specs.Trees.{DeclTree}
use Rattle.rp_lang.specs.Programs.{Prog}
use Rattle.type_rules.specs.Faults.{IsLawful}
use Rattle.desugaring.specs.Tables.{tables_of}
use Rattle.desugaring.specs.Programs.{IsProgramOf, program_of, program_with, schema_for, schema_with}
use Rattle.desugaring.proofs.Options.{both_is, three_is}
use Rattle.desugaring.proofs.Programs.{program_there}
use Rattle.lawful_programs.proofs.Bases.{text_based, text_numbered}
use Rattle.lawful_programs.proofs.Datatypes.{con_table_there}
use Rattle.lawful_programs.proofs.Decls.{datatypes_whole, procs_there}
use Rattle.lawful_programs.proofs.Invariants.{invs_there}
use Rattle.lawful_programs.proofs.Tables.{ops_there, queries_there, roots_there}

pub program_is : (tree : List DeclTree) → IsLawful tree → (p : Prog) × IsProgramOf tree p
program_is tree lawful =
    let t = tables_of tree in
    let cons = con_table_there t (text_numbered tree) (text_based tree lawful) (datatypes_whole tree lawful) in
    let roots = roots_there tree lawful in
    let ops = ops_there tree lawful in
    let queries = queries_there tree lawful in
    let invs = invs_there tree lawful in
    let procs = procs_there tree lawful in
    let s = schema_with cons.0 roots.0 ops.0 queries.0 in
    let schema : schema_for t ≡ Some s = both_is (λ make queries. make queries) _ _ (schema_with cons.0 roots.0 ops.0) queries.0
    (three_is schema_with _ _ _ cons.0 roots.0 ops.0 cons.1 roots.1 ops.1) queries.1 in
    let p = program_with t s invs.0 procs.0 in
    let made : program_of tree ≡ Some p = three_is (program_with t) _ _ _ s invs.0 procs.0 schema invs.1 procs.1 in
    (p, (lawful, program_there tree p made))
