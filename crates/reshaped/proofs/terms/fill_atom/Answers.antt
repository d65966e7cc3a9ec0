use Rattle.reshaped.specs.Fillings.{filling_view, under}
use Rattle.reshaped.proofs.FillViews.{filled-Rel}
use Rattle.reshaped.proofs.terms.fill_atom.Goals as goal

pub returns-in_ok-fill_terms-in-Rel : goal.returns-in_ok-fill_terms-in-Rel
returns-in_ok-fill_terms-in-Rel c = filled-Rel (under c.args.k (filling_view c.args.what.now)) _ _ _ _ _ c.in-Rel.is c.as_slice.ensures.items c.in_ok-fill_terms-in-Rel.ensures
