use Rattle.std.proofs.Common.{get_or, refl, length, reverse, ap, ◌∙◌, arith}
use Rattle.std.proofs.lemmas.List.{length-set}
use Rattle.machine_locals.proofs.SlotLemmas.{fills_start, fills_more, fills_done, fills_end}
use Rattle.machine_state.proofs.StateLemmas.{some_at}
use Rattle.machine_locals.proofs.slots.fill.Goals as goal

pub loop-slot-init : goal.loop-slot-init
loop-slot-init c = record {
  within = c.requires;
  fills = λ start at. fills_start c.args.runs.now c.args.i start c.args.slots.now (reverse c.args.values) at;
}

pub put-requires : goal.put-requires
put-requires c = c.loop-slot.invariant.within

pub returns-in_default : goal.returns-in_default
returns-in_default c = λ run at_run.
    fills_done c.loop-slot.runs c.args.i _ c.loop-slot.values _ c.in_default.ensures.0 (c.loop-slot.invariant.fills run at_run)

pub loop-slot-preserved : goal.loop-slot-preserved
loop-slot-preserved c =
    let run = some_at c.loop-slot.runs c.args.i c.loop-slot.invariant.within in
    let len = ap length (c.put.ensures run.0 run.1) ∙ length-set c.loop-slot.runs c.args.i _ in
    record {
      within = omega (arith, len, c.loop-slot.invariant.within);
      fills = λ start at.
          fills_more c.loop-slot.runs c.put.new.self c.args.i c.loop-slot.slot-index (get_or c.args.slots.now c.loop-slot.slot-index 0) c.args.slots.now c.loop-slot.values c.pop.new.self c.in-Some.value _
          c.loop-slot.invariant.within c.loop-slot-test.true refl c.in-Some.ensures c.put.ensures (c.loop-slot.invariant.fills start at);
    }

pub returns : goal.returns
returns c = λ run at_run. fills_end c.loop-slot.runs c.args.i c.loop-slot.slot-index c.args.slots.now _ _ c.loop-slot-test.false (c.loop-slot.invariant.fills run at_run)
