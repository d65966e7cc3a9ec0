use Rattle.std.proofs.Common.{◌≡◌, drop}
use Rattle.std.specs.Option.{option_or}
use Rattle.rp_logic.specs.Sorted as spec
use Rattle.rp_logic.proofs.sorted.added_sort.Given as goal

abbrev pub invariant-loop-new : goal.invariant-loop-new
invariant-loop-new l = spec.added_sort l.added l.c ≡ option_or (spec.added_sort (drop l.new-index l.added) l.c) l.found
