use Rattle.std.proofs.Common.{◌≡◌, ◌++◌, drop}
use Rattle.rp_value.specs.ValueView.{values_view}
use Rattle.rp_lang.specs.ProgramView.{program_view}
use Rattle.schedule_fmt.specs.Texts.{values_text}
use Rattle.schedule_fmt.proofs.printer.put_values.Given as goal

-- what is still to come completes the whole
abbrev pub invariant-loop-value : goal.invariant-loop-value
invariant-loop-value l =
    let p = program_view l.p in
    l.out.items ++ values_text p (values_view (drop l.value-index l.values)) ≡ l.initial.out.items ++ values_text p (values_view l.values)
