use Rattle.std.proofs.Common.{◌≡◌, drop}
use Rattle.rp_logic.specs.Views.{terms_view}
use Rattle.rp_terms.specs.means.Hash.{terms_hash}
use Rattle.rp_terms.proofs.hash.+hash.Given as goal

abbrev pub invariant-hash_all-loop-t : goal.invariant-hash_all-loop-t
invariant-hash_all-loop-t l = terms_hash l.hash (terms_view l.terms) ≡ terms_hash l.mixed (terms_view (drop l.t-index l.terms))
