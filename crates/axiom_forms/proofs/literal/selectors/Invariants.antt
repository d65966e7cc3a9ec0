use Rattle.std.proofs.Common.{◌≡◌, map}
use Rattle.rp_logic.specs.Views.{term_view}
use Rattle.crdt_enc.specs.Builders.{selectors}
use Rattle.axiom_forms.proofs.literal.selectors.Given as goal

abbrev pub invariant-loop-i : goal.invariant-loop-i
invariant-loop-i l = map term_view l.parts ≡ selectors l.con 0 l.i (term_view l.t)
