-- Lists of terms, atoms and formulas, seen element by element.
use Rattle.std.proofs.Common.{◌≡◌, ℕ, List, map, slice_get, Option, Some, None, option_map, option_copied, Bor, refl, ap, sym, ◌∙◌}
use Rattle.std.proofs.lemmas.Option.{slice_get-map}
use Rattle.rp_logic.specs.declared.formula.Fml.{Fml}
use Rattle.rp_logic.specs.Views.{formula_view}

copied : (o : Option (Bor Fml)) → option_map (λ f. formula_view f.now) o
    ≡ option_map formula_view (option_copied o)
copied None = refl
copied (Some f) = refl

pub get_formula : (fs : List Fml) (p : ℕ) (o : Option (Bor Fml)) → option_copied o ≡ slice_get fs p
    → option_map (λ f. formula_view f.now) o ≡ slice_get (map formula_view fs) p
get_formula fs p o e = copied o ∙ ap (option_map formula_view) e
    ∙ sym (slice_get-map formula_view fs p)

pub ruleset gets = (get_formula)
