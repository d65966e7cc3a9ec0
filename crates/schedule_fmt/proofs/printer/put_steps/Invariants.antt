use Rattle.std.proofs.Common.{◌≡◌, ◌++◌, drop, map}
use Rattle.rp_lang.specs.ProgramView.{program_view}
use Rattle.schedule_fmt.specs.Texts.{labels_text}
use Rattle.schedule_fmt.specs.Views.{label_view}
use Rattle.schedule_fmt.proofs.printer.put_steps.Given as goal

-- what is still to come completes the whole
abbrev pub invariant-loop-step : goal.invariant-loop-step
invariant-loop-step l =
    let p = program_view l.p in
    l.out.items ++ labels_text p (map label_view (drop l.step-index l.steps)) ≡ l.initial.out.items ++ labels_text p (map label_view l.steps)
