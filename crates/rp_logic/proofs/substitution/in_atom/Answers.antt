use Rattle.rp_logic.proofs.ListViews.{made-Rel}
use Rattle.rp_logic.proofs.substitution.in_atom.Goals as goal

pub returns-in_ok-in_terms-in-Rel : goal.returns-in_ok-in_terms-in-Rel
returns-in_ok-in_terms-in-Rel c = made-Rel _ _ _ _ _ _ _ c.in-Rel.is c.as_slice.ensures.items c.in_ok-in_terms-in-Rel.ensures
