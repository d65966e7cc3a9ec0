use Rattle.std.proofs.Common.{◌≡◌, drop}
use Rattle.event_machine.specs.Propositions.{all_true, any_true}
use Rattle.event_machine.specs.Goals.{slots_of}
use Rattle.rp_lang.specs.Views.{formulas_view}
use Rattle.rp_verify.proofs.truth.+truth.Given as goal

abbrev pub invariant-all_true-loop-part : goal.invariant-all_true-loop-part
invariant-all_true-loop-part l = all_true (slots_of l.values) (formulas_view l.parts) ≡ all_true (slots_of l.values) (formulas_view (drop l.part-index l.parts))

abbrev pub invariant-any_true-loop-part : goal.invariant-any_true-loop-part
invariant-any_true-loop-part l = any_true (slots_of l.values) (formulas_view l.parts) ≡ any_true (slots_of l.values) (formulas_view (drop l.part-index l.parts))
