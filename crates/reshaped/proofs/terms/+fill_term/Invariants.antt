use Rattle.std.proofs.Common.{◌≡◌, take, map}
use Rattle.rp_logic.specs.Filling.{filled}
use Rattle.rp_logic.specs.Views.{term_view}
use Rattle.reshaped.specs.Fillings.{filling_view, under}
use Rattle.reshaped.proofs.terms.+fill_term.Given as goal

abbrev pub invariant-fill_terms-loop-u : goal.invariant-fill_terms-loop-u
invariant-fill_terms-loop-u l = map term_view l.made ≡ map (λ u. filled (under l.k (filling_view l.what)) (term_view u)) (take l.u-index l.terms)
