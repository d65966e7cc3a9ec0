use Rattle.std.proofs.Common.{◌≡◌, ◌≤◌}
use Rattle.crdt_truth.specs.Breadths.{in_range_below}
use Rattle.crdt_truth.specs.Readings.{parts_view}
use Rattle.crdt_truth.proofs.breadths.range_size.Given as goal

abbrev pub invariant-loop-n : goal.invariant-loop-n
invariant-loop-n l = record { size : l.size ≡ in_range_below (parts_view l.r) l.over l.n; few : l.size ≤ l.n }
