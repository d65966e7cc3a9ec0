use Rattle.std.proofs.Common.{List, ap, ◌∙◌, arith}
use Rattle.rp_value.specs.declared.value.Value.{Value}
use Rattle.rp_value.specs.ValueView.{value_view, values_view}
use Rattle.rp_value.proofs.ValueViews.{value_view-Con}
use Rattle.machine_tests.proofs.FittingLemmas.{weight, weights, weight_at}
use Rattle.machine_tests.proofs.fitting.+fits.Goals as goal

pub is_made_of-all_fit-requires : goal.is_made_of-all_fit-requires
is_made_of-all_fit-requires t c =
    let whole = ap weight (ap value_view c.in-Con.is ∙ value_view-Con c.in-Con.con c.in-Con.args) in
    let same = ap (λ (xs : List Value). weights (values_view xs)) c.as_slice.ensures.items in
    omega (arith, whole, same)

pub all_fit-fits-requires : goal.all_fit-fits-requires
all_fit-fits-requires t c = let low = weight_at c.args.values.now c.loop-i.i _ (omega arith) c.index-values-i.is in omega (arith, low)
