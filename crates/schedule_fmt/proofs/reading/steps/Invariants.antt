use Rattle.std.proofs.Common.{length, ◌-◌, ◌+◌, ◌≤◌, [], drop, map}
use Rattle.rp_lang.specs.ProgramView.{program_view}
use Rattle.schedule_fmt.specs.means.Reading.{labels_from}
use Rattle.schedule_fmt.specs.Views.{label_view}
use Rattle.schedule_fmt.proofs.LineSteps.{LabelsSoFar}
use Rattle.schedule_fmt.proofs.reading.steps.Given as goal

abbrev pub invariant-loop-at : goal.invariant-loop-at
invariant-loop-at l =
    let p = program_view l.names.program.now in record {
      within : l.at ≤ length l.text;
      line : l.line ≤ l.at + 3;
      so_far : LabelsSoFar p l.text (labels_from p [] (drop l.from l.text) 3) (map label_view l.steps) l.at l.line;
    }

abbrev pub decreases-loop-at : goal.decreases-loop-at
decreases-loop-at l = length l.text - l.at
