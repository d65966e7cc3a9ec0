-- A program of which no false goal is found is safe.
use Rattle.std.proofs.Common.{◌≡◌, ℕ, ◌+◌, Bool, true, false, List, [], ◌∷◌, ◌++◌, All, refl}
use Rattle.std.specs.Bool.{if◌then◌else◌}
use Rattle.std.proofs.lemmas.List.Elements.{All-nil, All-cons}
use Rattle.rp_lang.specs.FirstForm.{IsFirstForm}
use Rattle.rp_lang.specs.Programs.{Prog}
use Rattle.event_machine.specs.Runs.{IsSafe}
use Rattle.event_machine.specs.Goals.{Goal, goals, IsFalseGoal}
use Rattle.event_machine.specs.Tests.{is_false}
use Rattle.event_machine.proofs.SafeLemmas.{safe_none_false}
use Rattle.event_machine.proofs.TestLemmas.{is_false-goal}
use Rattle.rp_verify.specs.Verdicts.{name_of, unproved, unproved_from}

abbrev pub IsRefuted : Goal → Type 0
IsRefuted goal = IsFalseGoal goal → ⊥

none_found : (next : ℕ) (list : List Goal) → unproved_from next list ≡ [] → All IsRefuted list
none_found next [] none = All-nil IsRefuted
none_found next (goal ∷ others) none = go (λ none. none_found (next + 1) others none) (is_false goal) refl none
  where
    go :
        (unproved_from (next + 1) others ≡ [] → All IsRefuted others) → (b : Bool) → is_false goal ≡ b
        → ((if b then record { goal = next; name = name_of goal } ∷ [] else []) ++ unproved_from (next + 1) others) ≡ [] → All IsRefuted (goal ∷ others)
    go later true is none = cc
    go later false is none = All-cons IsRefuted goal others (λ bad. let yes = is_false-goal goal bad in cc) (later none)

pub safe_none_found : (p : Prog) → IsFirstForm p → unproved p ≡ [] → IsSafe p
safe_none_found p form none = safe_none_false p form (none_found 1 (goals p) none)
