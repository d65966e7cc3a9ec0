use Rattle.std.proofs.Common.{◌≡◌, ◌++◌, flat_map, take}
use Rattle.repliss_cli.specs.Texts.{goal_line}
use Rattle.repliss_cli.proofs.report.add_goals.Given as goal

abbrev pub invariant-loop-goal : goal.invariant-loop-goal
invariant-loop-goal l = flat_map (λ line. line.items) l.lines.items ≡ flat_map (λ line. line.items) l.fn.lines.items ++ flat_map goal_line (take l.goal-index l.goals)
