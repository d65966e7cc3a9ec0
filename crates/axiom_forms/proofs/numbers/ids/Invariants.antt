use Rattle.std.proofs.Common.{◌≡◌, take}
use Rattle.rp_symbols.specs.Numbers.{ids}
use Rattle.axiom_forms.proofs.numbers.ids.Given as goal

abbrev pub invariant-loop-atom : goal.invariant-loop-atom
invariant-loop-atom l = l.count ≡ ids (take l.atom-index l.atoms)
