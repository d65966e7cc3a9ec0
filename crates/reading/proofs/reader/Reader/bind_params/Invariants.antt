use Rattle.std.proofs.Common.{◌≡◌, drop}
use Rattle.rp_ast.specs.View.{params_view}
use Rattle.text_tables.specs.Seen.{tables_view}
use Rattle.reading.specs.Reads.{with_params}
use Rattle.reading.proofs.reader.Reader.bind_params.Given as goal

abbrev pub invariant-loop-param : goal.invariant-loop-param
invariant-loop-param l =
    let n = (tables_view l.fn.self.tables.now).names in
    (l.self.tables.now ≡ l.fn.self.tables.now)
    × (with_params n l.self (params_view (drop l.param-index l.params)) ≡ with_params n l.fn.self (params_view l.params))
