-- What each variant of a formula is seen as.
use Rattle.std.proofs.Common.{◌≡◌, ℕ, List, Bool, ap, sym, ◌∙◌}
use Rattle.rp_logic.specs.declared.atom.Atom.{Atom}
use Rattle.rp_logic.specs.declared.formula.Fml.{Fml}
use Rattle.rp_logic.specs.declared.formula.Fml.TheVariants as made
use Rattle.rp_logic.specs.declared.formula.Fml.TheOpen as layer
use Rattle.rp_logic.specs.declared.formula.Fml.TheFolds.{fold-roll-Fml}
use Rattle.rp_logic.specs.Formulas as fm
use Rattle.rp_logic.specs.Formulas.{Fm}
use Rattle.rp_logic.specs.Views.{atom_view, formula_step, formula_view, formulas_view}

pub formula_view-And : (parts : List Fml) → formula_view (made.And parts) ≡ fm.And (formulas_view parts)
formula_view-And parts = ap formula_view (sym (made.rolls-And parts)) ∙ fold-roll-Fml Fm formula_step (layer.And parts)

pub formula_view-Or : (parts : List Fml) → formula_view (made.Or parts) ≡ fm.Or (formulas_view parts)
formula_view-Or parts = ap formula_view (sym (made.rolls-Or parts)) ∙ fold-roll-Fml Fm formula_step (layer.Or parts)

pub formula_view-All : (sort : ℕ) (body : Fml) → formula_view (made.All sort body) ≡ fm.All sort (formula_view body)
formula_view-All sort body = ap formula_view (sym (made.rolls-All sort body)) ∙ fold-roll-Fml Fm formula_step (layer.All sort body)

pub formula_view-Ex : (sort : ℕ) (body : Fml) → formula_view (made.Ex sort body) ≡ fm.Ex sort (formula_view body)
formula_view-Ex sort body = ap formula_view (sym (made.rolls-Ex sort body)) ∙ fold-roll-Fml Fm formula_step (layer.Ex sort body)

pub formula_view-Lit : (sign : Bool) (atom : Atom) → formula_view (made.Lit sign atom) ≡ fm.Lit sign (atom_view atom)
formula_view-Lit sign atom = ap formula_view (sym (made.rolls-Lit sign atom)) ∙ fold-roll-Fml Fm formula_step (layer.Lit sign atom)

pub ruleset formula_views = (formula_view-And, formula_view-Or, formula_view-All, formula_view-Ex, formula_view-Lit)
