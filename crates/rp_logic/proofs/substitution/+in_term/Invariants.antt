use Rattle.std.proofs.Common.{◌≡◌, take, map}
use Rattle.rp_logic.specs.Instance.{put}
use Rattle.rp_logic.specs.Views.{term_view}
use Rattle.rp_logic.proofs.substitution.+in_term.Given as goal

abbrev pub invariant-in_terms-loop-u : goal.invariant-in_terms-loop-u
invariant-in_terms-loop-u l = map term_view l.made ≡ map (λ u. put l.k (term_view l.t) (term_view u)) (take l.u-index l.terms)
