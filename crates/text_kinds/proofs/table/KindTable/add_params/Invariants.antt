use Rattle.std.proofs.Common.{◌≡◌, drop}
use Rattle.rp_ast.specs.View.{params_view}
use Rattle.text_names.specs.Declarations.{names_view}
use Rattle.text_kinds.specs.Seen.{kinds_view}
use Rattle.text_kinds.specs.Numbered.{with_kinds}
use Rattle.text_kinds.specs.means.Brought.{params_bring}
use Rattle.text_kinds.proofs.table.KindTable.add_params.Given as goal

abbrev pub invariant-loop-param : goal.invariant-loop-param
invariant-loop-param l = record {
  names : names_view l.self.names.now ≡ names_view l.fn.self.names.now;
  comes : with_kinds (params_bring (names_view l.fn.self.names.now) (params_view (drop l.param-index l.params)))
      (kinds_view l.self)
      ≡ with_kinds (params_bring (names_view l.fn.self.names.now) (params_view l.params)) (kinds_view l.fn.self);
}
