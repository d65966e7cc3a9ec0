use Rattle.std.proofs.Common.{◌++◌, ap, ◌∙◌}
use Rattle.std.specs.Prelude.{reverse}
use Rattle.machine_locals.proofs.SlotLemmas.{turn_more}
use Rattle.machine_locals.proofs.slots.turned.Goals as goal

pub loop-value-preserved : goal.loop-value-preserved
loop-value-preserved g c =
    ap (λ xs. xs ++ reverse c.pop.new.self) c.in_ok-push.ensures.ok
    ∙ turn_more c.loop-value.others c.pop.new.self c.loop-value.values c.in-Some.value _ c.in-Some.ensures c.loop-value.invariant
