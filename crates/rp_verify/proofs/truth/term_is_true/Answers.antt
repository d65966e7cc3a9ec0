use Rattle.event_machine.specs.Goals.{slots_of}
use Rattle.rp_verify.proofs.TruthLemmas.{is_true-Slot, is_true-Con}
use Rattle.rp_verify.proofs.truth.term_is_true.Goals as goal

pub returns-in-Slot : goal.returns-in-Slot
returns-in-Slot c = rw (c.in-Slot.is, is_true-Slot c.args.values.now c.in-Slot.slot) c.value_at.ensures

pub returns-then-con-eq1 : goal.returns-then-con-eq1
returns-then-con-eq1 c = rw c.in-Con.is (is_true-Con (slots_of c.args.values.now) c.in-Con.con c.in-Con.args c.is_empty.result c.if-con-eq1.true c.is_empty.ensures)
