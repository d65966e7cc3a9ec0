use Rattle.std.proofs.Common.{◌≡◌, take, map}
use Rattle.rp_lang.specs.ProgramView.{program_view}
use Rattle.repliss_cli.specs.means.Lines.{line_for}
use Rattle.repliss_cli.proofs.judge.lines_for.Given as goal

abbrev pub invariant-loop-goal : goal.invariant-loop-goal
invariant-loop-goal l = l.lines ≡ map (line_for l.text (program_view l.program)) (take l.goal-index l.goals)
