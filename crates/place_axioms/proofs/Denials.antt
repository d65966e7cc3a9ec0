-- Denials, one behind the other.
use Rattle.std.proofs.Common.{◌≡◌, List, [], ◌∷◌, ◌++◌, ap, ◌∙◌}
use Rattle.rp_logic.specs.declared.formula.Fml.{Fml}
use Rattle.rp_logic.specs.Formulas.{Fm, Fms, no_fm, also_fm}
use Rattle.rp_logic.specs.Views.{formula_view, formulas_view}
use Rattle.reshape.specs.Joined.{joined}
use Rattle.query_enc.proofs.Joins.{joined_none, joined_assoc, one_more}

-- one formula, and then others
pub and_then : (old mid new : List Fml) (f : Fml) (g : Fm) (gs : Fms) → mid ≡ old ++ f ∷ [] → formula_view f ≡ g → formulas_view new ≡ joined (formulas_view mid) gs
    → formulas_view new ≡ joined (formulas_view old) (also_fm g gs)
and_then old mid new f g gs h e k =
    k
    ∙ (ap (λ fs. joined fs gs) (one_more mid old f h ∙ ap (λ x. joined (formulas_view old) (also_fm x no_fm)) e)
    ∙ joined_assoc (formulas_view old) (also_fm g no_fm) gs)

pub ruleset denials = (joined_none, joined_assoc, one_more)
