use Rattle.std.proofs.Common.{◌≡◌, drop, Some}
use Rattle.std.specs.List.{position_from}
use Rattle.rp_logic.specs.Signatures.{is_int}
use Rattle.rp_logic.proofs.sorted.int_sort.Given as goal

abbrev pub invariant-loop-s : goal.invariant-loop-s
invariant-loop-s l =
    position_from (λ sort. is_int (Some sort)) 0 l.sig.sorts ≡ position_from (λ sort. is_int (Some sort)) l.s (drop l.s l.sig.sorts)
