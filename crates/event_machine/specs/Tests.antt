-- Whether a goal is false, by trying all values of the parameters.
use Rattle.std.specs.Prelude.{ℕ, zero, suc, Bool, true, false, ◌&&◌, not, List, [], ◌∷◌, ◌++◌, map}
use Rattle.std.specs.List.{list_any, list_all}
use Rattle.event_machine.specs.Propositions.{truth}
use Rattle.event_machine.specs.Goals.{Choice, Goal, slots_of}

-- each row of so many truth values, once
abbrev pub all_values : ℕ → List (List Bool)
all_values zero = [] ∷ []
all_values (suc n) = map (λ values. false ∷ values) (all_values n) ++ map (λ values. true ∷ values) (all_values n)

abbrev pub same_truth : Bool → Bool → Bool
same_truth true b = b
same_truth false b = not b

-- the values make the condition as it was chosen
abbrev pub as_chosen : List Bool → Choice → Bool
as_chosen values choice = same_truth choice.holds (truth (slots_of values) choice.condition)

-- the values make each condition of the path as it was chosen
abbrev pub follows : List Choice → List Bool → Bool
follows choices values = list_all (as_chosen values) choices

abbrev pub is_false : Goal → Bool
is_false goal = list_any (λ values. follows goal.choices values && not (truth (slots_of values) goal.asserted)) (all_values goal.params)
