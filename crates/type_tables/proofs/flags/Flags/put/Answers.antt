use Rattle.std.proofs.Common.{set, ap, ◌∙◌, sym}
use Rattle.type_tables.proofs.Rows.{put_row, put_past}
use Rattle.type_tables.proofs.flags.Flags.put.Goals as goal

pub returns-then-place-self : goal.returns-then-place-self
returns-then-place-self c =
    put_row c.self.inside.words.items c.self.inside.len c.args.place c.with_bit.result c.index.result.now c.args.flag
    c.if-place-self.true c.self.invariant c.index.ensures c.with_bit.ensures
    ∙ ap (λ bs. set bs c.args.place c.args.flag) c.self.view_is

pub returns-else-place-self : goal.returns-else-place-self
returns-else-place-self c =
    sym c.self.view_is ∙ put_past c.self.inside.words.items c.self.inside.len c.args.place c.args.flag c.if-place-self.false
    ∙ ap (λ bs. set bs c.args.place c.args.flag) c.self.view_is
