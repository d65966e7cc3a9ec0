use Rattle.std.proofs.Common.{sym, ◌∙◌}
use Rattle.rp_lang.specs.ProgramView.{program_view}
use Rattle.machine_state.specs.StateView.{state_view}
use Rattle.machine_state.proofs.RefusalLemmas.{behind_check}
use Rattle.machine_state.proofs.state.State.refused_check.Goals as goal

pub returns : goal.returns
returns c = let v = program_view c.args.p.now in c.unseeable.ensures ∙ sym (behind_check v (state_view v c.args.self.now) c.args.sees.now)
