use Rattle.std.proofs.Common.{arith}
use Rattle.repliss_cli.specs.Texts.{choice_text}
use Rattle.repliss_cli.proofs.Growing.{piece_more}
use Rattle.repliss_cli.proofs.report.add_choices.Goals as goal

pub loop-choice-preserved : goal.loop-choice-preserved
loop-choice-preserved c = piece_more choice_text _ _ _ c.args.choices.now c.loop-choice.choice-index 0 (omega arith) c.in_ok-add_choice.ensures c.loop-choice.invariant
