use Rattle.std.proofs.Common.{◌≡◌, ◌+◌, ◌*◌, ◌++◌, drop}
use Rattle.rp_value.specs.ValueView.{value_view, values_view}
use Rattle.rp_lang.specs.ProgramView.{program_view}
use Rattle.schedule_fmt.specs.Texts.{args_text}
use Rattle.schedule_fmt.specs.means.Weights.{weight, weights}
use Rattle.schedule_fmt.proofs.Appends.{args_rest}
use Rattle.schedule_fmt.proofs.printer.+put_value.Given as goal

-- what is still to come completes the whole
abbrev pub invariant-put_args-loop-i : goal.invariant-put_args-loop-i
invariant-put_args-loop-i l =
    let p = program_view l.p in
    l.out.items ++ args_rest p l.i (values_view (drop l.i l.args)) ≡ l.initial.out.items ++ args_text p (values_view l.args)

abbrev pub decreases-put_value : goal.decreases-put_value
decreases-put_value l = 3 * weight (value_view l.value.now)

abbrev pub decreases-put_con : goal.decreases-put_con
decreases-put_con l = 3 * weights (values_view l.args.now) + 2

abbrev pub decreases-put_args : goal.decreases-put_args
decreases-put_args l = 3 * weights (values_view l.args.now) + 1
