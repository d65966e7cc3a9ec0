-- Rows of truth values, in which the first ones are the parameters'.
use Rattle.std.specs.Prelude.{ℕ, zero, suc, Bool, not, List, [], ◌∷◌}
use Rattle.rp_lang.specs.Formulas.{Fo}
use Rattle.event_machine.specs.Propositions.{truth}
use Rattle.event_machine.specs.Goals.{slots_of}

-- the row with these values from a place on
abbrev pub with_values : List Bool → ℕ → List Bool → List Bool
with_values [] from values = values
with_values (b ∷ row) (suc from) values = b ∷ with_values row from values
with_values (b ∷ row) zero [] = b ∷ row
with_values (b ∷ row) zero (v ∷ values) = v ∷ with_values row zero values

-- the formula holds at the row
abbrev pub holds : Fo → List Bool → Bool
holds f row = truth (slots_of row) f

abbrev pub fails : Fo → List Bool → Bool
fails f row = not (holds f row)
