use Rattle.std.proofs.Common.{ap, ◌∙◌}
use Rattle.type_tables.specs.Flags.{flag_at}
use Rattle.type_tables.proofs.Rows.{has_flag, no_flag}
use Rattle.type_tables.proofs.flags.Flags.has.Goals as goal

pub returns-then-place-self : goal.returns-then-place-self
returns-then-place-self c =
    has_flag c.self.inside.words.items c.self.inside.len c.args.place c.index.result.now c.if-place-self.true c.self.invariant
    c.index.ensures
    ∙ ap (λ bs. flag_at bs c.args.place) c.self.view_is

pub returns-else-place-self : goal.returns-else-place-self
returns-else-place-self c =
    no_flag c.self.inside.words.items c.self.inside.len c.args.place c.if-place-self.false
    ∙ ap (λ bs. flag_at bs c.args.place) c.self.view_is
