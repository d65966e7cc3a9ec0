use Rattle.std.proofs.Common.{◌≡◌, take, map}
use Rattle.rp_logic.specs.Filling.{raised}
use Rattle.rp_logic.specs.Views.{term_view}
use Rattle.query_enc.proofs.raising.+raise.Given as goal

abbrev pub invariant-raise_each-loop-u : goal.invariant-raise_each-loop-u
invariant-raise_each-loop-u l = map term_view l.made ≡ map (λ u. raised l.k (term_view u)) (take l.u-index l.terms)
