-- What the code's measures are seen as.
use Rattle.query_bodies.specs.declared.measure.At as code_at
use Rattle.query_bodies.specs.declared.measure.Measure.{Measure}
use Rattle.query_bodies.specs.Measures.{At, Measured, Known}
use Rattle.query_bodies.specs.Seen.{known_in}

abbrev pub at_view : code_at.At → At
at_view at = record { above = at.above; bound = at.bound; comes = at.times }

abbrev pub measured_view : Measure → Measured
measured_view m = record { facts = m.facts; params = m.params.items }

abbrev pub known_of : Measure → Known
known_of m = known_in m.bodies.now
