use Rattle.std.proofs.Common.{not, arith}
use Rattle.rp_value.specs.ValueView.{value_view}
use Rattle.crdt_defs.specs.Fitting as spec
use Rattle.machine_tests.proofs.AtomLemmas.{first_here, first_behind, first_nowhere}
use Rattle.machine_tests.proofs.atoms.+outside.Goals as goal

pub outside-returns-in-Some : goal.outside-returns-in-Some
outside-returns-in-Some t c =
    first_here (λ v. not (spec.is_below c.args.universe v)) c.args.values.now c.loop-value.value-index _ (value_view c.in-Some.found.now) (omega arith) c.value-item.is c.in-Some.ensures c.loop-value.invariant

pub outside-loop-value-preserved : goal.outside-loop-value-preserved
outside-loop-value-preserved t c =
    first_behind (λ v. not (spec.is_below c.args.universe v)) c.args.values.now c.loop-value.value-index _ (omega arith) c.value-item.is c.in-None.ensures c.loop-value.invariant

pub outside-returns : goal.outside-returns
outside-returns t c = first_nowhere (λ v. not (spec.is_below c.args.universe v)) c.args.values.now c.loop-value.value-index (omega arith) c.loop-value.invariant
