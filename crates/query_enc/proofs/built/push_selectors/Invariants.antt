use Rattle.std.proofs.Common.{◌≡◌, ◌++◌, map}
use Rattle.crdt_enc.specs.Builders.{selectors}
use Rattle.rp_logic.specs.Views.{term_view}
use Rattle.query_enc.proofs.built.push_selectors.Given as goal

abbrev pub invariant-loop-i : goal.invariant-loop-i
invariant-loop-i l = map term_view l.out ≡ map term_view l.fn.out ++ selectors l.con l.first l.i (term_view l.t)
