use Rattle.std.proofs.Common.{◌≡◌, replicate}
use Rattle.query_bodies.specs.Measures.{nowhere}
use Rattle.query_bodies.proofs.measure.Measure.new.Given as goal

abbrev pub invariant-loop-param : goal.invariant-loop-param
invariant-loop-param l = l.standing.items ≡ replicate l._param nowhere
