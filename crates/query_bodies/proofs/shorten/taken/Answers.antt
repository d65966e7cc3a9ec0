use Rattle.std.proofs.Common.{sym, arith}
use Rattle.std.proofs.lemmas.Option.{slice_get_past}
use Rattle.query_bodies.proofs.Places.{last_is}
use Rattle.query_bodies.proofs.shorten.taken.Goals as goal

pub returns-then-count-place : goal.returns-then-count-place
returns-then-count-place g c = sym (slice_get_past c.args.items c.args.place (omega (arith, c.count.ensures.length)))

pub returns : goal.returns
returns g c =
    last_is c.pop.result c.keep.new.items c.pop.new.self c.args.items c.args.place c.keep.ensures (omega (arith, c.count.ensures.length))
    c.pop.ensures
