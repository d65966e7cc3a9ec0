use Rattle.std.proofs.Common.{◌≡◌, ℕ, length}
use Rattle.machine_tests.specs.means.Indexed.{listed_at}
use Rattle.machine_tests.proofs.lists.grow.Given as goal

abbrev pub invariant-loop-more : goal.invariant-loop-more
invariant-loop-more l = record {
  count : length l.lists.items ≡ l._more;
  same : (n : ℕ) → listed_at l.lists.items n ≡ listed_at l.initial.lists.items n;
}
