-- The test that definitions speak of, of a test of the code.
use Rattle.std.specs.Prelude.{Bool, true}
use Rattle.rp_lang.specs.declared.op.OpDecl.{OpDecl}
use Rattle.crdt_enc.specs.QueryFormulas.{is_kind, is_delete}
use Rattle.query_enc.specs.declared.tests.Test.{Test}
use Rattle.query_enc.specs.declared.tests.Test.TheVariants.{Kind, Delete, Any}

abbrev pub test_view : Test → OpDecl → Bool
test_view (Kind kind) decl = is_kind kind decl
test_view (Delete steps) decl = is_delete steps decl
test_view Any decl = true
