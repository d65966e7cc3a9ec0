use Rattle.std.proofs.Common.{◌≡◌, ℕ, ◌*◌, min, nat_lt}
use Rattle.type_tables.specs.Flags.{mixed, truth_at}
use Rattle.type_tables.proofs.flags.mix.Given as goal

abbrev pub invariant-loop-at : goal.invariant-loop-at
invariant-loop-at l =
    (j : ℕ) → truth_at l.own j ≡ mixed l.both (nat_lt j (min (64 * l.at) l.len)) (truth_at l.fn.own j) (truth_at l.other j)
