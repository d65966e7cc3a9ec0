use Rattle.std.proofs.Common.{take, ap, ◌∙◌}
use Rattle.type_tables.proofs.Rows.{take_row}
use Rattle.type_tables.proofs.flags.Flags.truncate.Goals as goal

pub returns : goal.returns
returns c =
    take_row c.self.inside.words.items 0 c.self.inside.len c.args.len c.min-self-inside.result c.min-self-inside.ensures
    ∙ ap (take c.args.len) c.self.view_is
