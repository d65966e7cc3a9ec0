use Rattle.std.proofs.Common.{ap, ◌∙◌}
use Rattle.std.specs.Option.{is_some}
use Rattle.text_names.specs.Declarations.{names_view}
use Rattle.text_kinds.proofs.NumbersFound.{has_is}
use Rattle.text_kinds.proofs.table.KindTable.has.Goals as goal

pub returns : goal.returns
returns c =
    let table = c.args.self.now in
    c.is_some.ensures ∙ ap is_some c.numbers.ensures ∙ has_is (names_view table.names.now) 0 0 table.kinds c.args.kind
