use Rattle.std.proofs.Common.{drop, map}
use Rattle.rp_ast.specs.View.{params_view}
use Rattle.type_rules.specs.Kinds.{param_kinds}
use Rattle.type_rules.specs.Names.{param_name}
use Rattle.text_tables.specs.Seen.{tables_view}
use Rattle.lower_procs.proofs.Declaring.{Declaring}
use Rattle.lower_procs.proofs.writer.Writer.declare_params.Given as goal

abbrev pub invariant-loop-param : goal.invariant-loop-param
invariant-loop-param l =
    let names = (tables_view l.fn.self.maker.reader.tables.now).names in
    let rest = params_view (drop l.param-index l.params) in
    Declaring l.fn.self (map param_name (params_view l.params)) (param_kinds names (params_view l.params)) l.self
    (map param_name rest) (param_kinds names rest)
