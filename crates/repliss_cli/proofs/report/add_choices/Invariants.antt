use Rattle.std.proofs.Common.{◌≡◌, ◌++◌, flat_map, take}
use Rattle.repliss_cli.specs.Texts.{choice_text}
use Rattle.repliss_cli.proofs.report.add_choices.Given as goal

abbrev pub invariant-loop-choice : goal.invariant-loop-choice
invariant-loop-choice l = l.line.items ≡ l.fn.line.items ++ flat_map choice_text (take l.choice-index l.choices)
