use Rattle.std.proofs.Common.{ap, sym, ◌∙◌, length}
use Rattle.type_tables.proofs.Seen.{length_seen}
use Rattle.type_tables.proofs.vars.Vars.len.Goals as goal

pub returns : goal.returns
returns c =
    ap length c.as_slice.ensures.value ∙ sym (length_seen c.self.inside.items.items c.self.inside.set c.self.invariant.long)
    ∙ ap length c.self.view_is
