use Rattle.std.proofs.Common.{ap, ◌-◌, ◌∙◌, length, arith}
use Rattle.type_tables.specs.Variables.{vars_seen, give_last}
use Rattle.type_tables.proofs.Seen.{last_seen}
use Rattle.type_tables.proofs.vars.Vars.give_last.Goals as goal

pub returns-then-len-gt0 : goal.returns-then-len-gt0
returns-then-len-gt0 c =
    let items = c.self.inside.items.items in
    let last = length c.as_slice-len.result.now - 1 in
    ap (vars_seen items) c.put.ensures
    ∙ last_seen items c.self.inside.set last c.self.invariant.long (omega (arith, ap length c.as_slice-len.ensures.value))
    ∙ ap give_last c.self.view_is
