-- What uses of queries become in the code's expansions.
use Rattle.query_bodies.specs.declared.expand.Expansion.{Expansion}
use Rattle.query_bodies.specs.Expanded.{Uses, uses_in}
use Rattle.query_bodies.specs.Seen.{saids_in}

abbrev pub uses_before : Expansion → Uses
uses_before e = uses_in (saids_in e.bodies.now) e.before
