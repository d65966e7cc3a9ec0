use Rattle.std.proofs.Common.{◌<◌, ◌≤◌, length, ◌∙◌, arith}
use Rattle.event_machine.specs.Machine.{next_action}
use Rattle.machine_state.proofs.FitsLemmas.{stands, told_of}
use Rattle.machine_state.proofs.RefusalLemmas.{past_inv, ended_inv, running_inv}
use Rattle.machine_state.proofs.state.State.not_at.Goals as goal

pub returns-then-i-count-clause-why : goal.returns-then-i-count-clause-why
returns-then-i-count-clause-why c =
    let past : length c.args.self.now.runs ≤ c.args.i = omega (arith, c.count.ensures.length) in
    past_inv c.args.p.now c.args.self.now c.args.i _ c.requires past

pub returns-then-not-is_running-clause-why : goal.returns-then-not-is_running-clause-why
returns-then-not-is_running-clause-why c =
    let within : c.args.i < length c.args.self.now.runs = omega (arith, c.count.ensures.length) in
    ended_inv c.args.p.now c.args.self.now c.args.i _ (stands c.args.p.now c.args.self.now c.args.i _ c.requires within c.if-not-is_running.ensures)

pub returns-clause-why : goal.returns-clause-why
returns-clause-why c =
    let p = c.args.p.now in
    let s = c.args.self.now in
    let within : c.args.i < length s.runs = omega (arith, c.count.ensures.length) in
    let it = stands p s c.args.i _ c.requires within c.if-not-is_running.ensures in
    c.another_point.ensures it.inv (told_of p s c.args.i next_action _ it.inv it.is c.next_of.ensures) ∙ running_inv p s c.args.i _ it
