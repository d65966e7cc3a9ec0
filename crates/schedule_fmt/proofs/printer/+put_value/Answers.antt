use Rattle.std.proofs.Common.{ap, ◌∙◌, arith, List, ◌∷◌, [], ◌++◌}
use Rattle.rp_value.specs.declared.value.Value.{Value}
use Rattle.rp_value.specs.ValueView.{value_view, values_view}
use Rattle.rp_value.proofs.ValueViews.{value_view-Con}
use Rattle.rp_lang.specs.ProgramView.{program_view}
use Rattle.schedule_fmt.specs.means.Weights.{weight, weights}
use Rattle.schedule_fmt.proofs.Appends.{arg_put}
use Rattle.schedule_fmt.proofs.Weighed.{item_weight}
use Rattle.schedule_fmt.proofs.printer.+put_value.Goals as goal

pub put_args-loop-i-preserved : goal.put_args-loop-i-preserved
put_args-loop-i-preserved t c =
    let p = program_view c.args.p.now in
    arg_put p c.args.args.now c.loop-i.i c.index-args-i.result c.loop-i.out.items c.push.new.self.items c.put_value.new.out.items _ c.loop-i-test.true c.index-args-i.is
    c.loop-i.invariant (c.in_ok-push.ensures.items ∙ ap (λ o. c.loop-i.out.items ++ o ∷ []) c.opening.ensures) c.in_ok-put_value.ensures

pub put_value-put_con-requires : goal.put_value-put_con-requires
put_value-put_con-requires t c =
    let view = ap weight (ap value_view c.in-Con.is ∙ value_view-Con c.in-Con.con c.in-Con.args) in
    let same = ap (λ (x : List Value). weights (values_view x)) c.as_slice-in-Con.ensures.items in
    (omega (arith, view, same), tt)

pub put_args-put_value-requires : goal.put_args-put_value-requires
put_args-put_value-requires t c =
    let less = item_weight c.args.args.now c.loop-i.i c.index-args-i.result c.loop-i-test.true c.index-args-i.is in
    (omega (arith, less), tt)
