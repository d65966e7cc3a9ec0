-- Checks meet true assertions alone exactly where none of their goals is refuted.
use Rattle.std.proofs.Common.{◌≡◌, ℕ, Bool, true, false, ◌&&◌, List, [], ◌∷◌, ◌++◌, length, Option, inl, inr, All, Contains, refl, sym, ◌∙◌, ap, subst, append_assoc, append-nil}
use Rattle.std.specs.Bool.{if◌then◌else◌}
use Rattle.std.proofs.lemmas.List.Elements.{All-head, All-tail, All-push}
use Rattle.rp_value.specs.Values.{Val}
use Rattle.rp_lang.specs.Formulas.{Fo}
use Rattle.event_machine.specs.Checks.{Checks, Done, Assert, Choose}
use Rattle.event_machine.specs.Propositions.{truth}
use Rattle.event_machine.specs.Goals.{Choice, Goal, chosen, check_goals, slots_of, IsAsChosen, Refutes}
use Rattle.event_machine.proofs.ListLemmas.{All-left, All-right, Contains-nil, Contains-cons_cases}
use Rattle.std.proofs.lemmas.List.Elements.{Contains-append_cases}

-- the assertions that the checks meet at these slots are true
abbrev pub meets : List (Option Val) → Checks → Bool
meets slots Done = true
meets slots (Assert at f next) = truth slots f && meets slots next
meets slots (Choose f then_ else_) = if truth slots f then meets slots then_ else meets slots else_

abbrev pub Unrefuted : List Bool → Goal → Type 0
Unrefuted values goal = Refutes values goal → ⊥

true_from_not_false : (b : Bool) → (b ≡ false → ⊥) → b ≡ true
true_from_not_false true h = refl
true_from_not_false false h = absurd (h refl)

pub meets-unrefuted : (values : List Bool) (proc params : ℕ) (choices : List Choice) (checks : Checks)
    → length values ≡ params → All (IsAsChosen values) choices → All (Unrefuted values) (check_goals proc params choices checks)
    → meets (slots_of values) checks ≡ true
meets-unrefuted values proc params choices Done counted followed none = refl
meets-unrefuted values proc params choices (Assert at f next) counted followed none =
    let rest = check_goals proc params choices next in
    let goal : Goal = record { proc = proc; params = params; choices = choices; at = at; asserted = f } in
    let holds : truth (slots_of values) f ≡ true =
    true_from_not_false (truth (slots_of values) f) (λ broken. All-head (Unrefuted values) goal rest none (record { counted = counted; followed = followed; broken = broken })) in
    ap (λ t. t && meets (slots_of values) next) holds
    ∙ meets-unrefuted values proc params choices next counted followed (All-tail (Unrefuted values) goal rest none)
meets-unrefuted values proc params choices (Choose f then_ else_) counted followed none =
    go (truth (slots_of values) f) refl
    (λ followed none. meets-unrefuted values proc params (chosen choices f true) then_ counted followed none)
    (λ followed none. meets-unrefuted values proc params (chosen choices f false) else_ counted followed none)
  where
    go : (b : Bool) → truth (slots_of values) f ≡ b
        → (All (IsAsChosen values) (chosen choices f true) → All (Unrefuted values) (check_goals proc params (chosen choices f true) then_) → meets (slots_of values) then_ ≡ true)
        → (All (IsAsChosen values) (chosen choices f false) → All (Unrefuted values) (check_goals proc params (chosen choices f false) else_) → meets (slots_of values) else_ ≡ true)
        → (if truth (slots_of values) f then meets (slots_of values) then_ else meets (slots_of values) else_) ≡ true
    go true is first second =
        ap (λ t. if t then meets (slots_of values) then_ else meets (slots_of values) else_) is
        ∙ first (All-push (IsAsChosen values) choices _ followed is) (All-left (Unrefuted values) _ _ none)
    go false is first second =
        ap (λ t. if t then meets (slots_of values) then_ else meets (slots_of values) else_) is
        ∙ second (All-push (IsAsChosen values) choices _ followed is) (All-right (Unrefuted values) _ _ none)

-- ---- a goal of checks has their choices in front

pub record Behind (proc params : ℕ) (choices : List Choice) (goal : Goal) : Type 0 where
  pub numbered : goal.proc ≡ proc
  pub counted : goal.params ≡ params
  pub later : List Choice
  pub begins : goal.choices ≡ choices ++ later

one_choice_less : (proc params : ℕ) (choices : List Choice) (f : Fo) (holds : Bool) (goal : Goal) → Behind proc params (chosen choices f holds) goal → Behind proc params choices goal
one_choice_less proc params choices f holds goal b =
    let choice : Choice = record { condition = f; holds = holds } in
    record { numbered = b.numbered; counted = b.counted; later = choice ∷ b.later; begins = b.begins ∙ append_assoc choices (choice ∷ []) b.later }

pub behind : (proc params : ℕ) (choices : List Choice) (checks : Checks) (goal : Goal) → Contains (check_goals proc params choices checks) goal → Behind proc params choices goal
behind proc params choices Done goal has = absurd (Contains-nil goal has)
behind proc params choices (Assert at f next) goal has =
    elim (Contains-cons_cases _ (check_goals proc params choices next) goal has) [
      | inl same ↦ record {
        numbered = sym (ap (λ (g : Goal). g.proc) same);
        counted = sym (ap (λ (g : Goal). g.params) same);
        later = [];
        begins = sym (ap (λ (g : Goal). g.choices) same) ∙ sym (append-nil choices);
      }
      | inr others ↦ behind proc params choices next goal others
    ]
behind proc params choices (Choose f then_ else_) goal has =
    elim (Contains-append_cases (check_goals proc params (chosen choices f true) then_) (check_goals proc params (chosen choices f false) else_) goal has) [
      | inl first ↦ one_choice_less proc params choices f true goal (behind proc params (chosen choices f true) then_ goal first)
      | inr second ↦ one_choice_less proc params choices f false goal (behind proc params (chosen choices f false) else_ goal second)
    ]

-- ---- a refuted goal

and-false : (x y : Bool) → y ≡ false → (x && y) ≡ false
and-false true y h = h
and-false false y h = refl

-- what refutes a goal behind a choice has its condition as it was chosen
as_chosen : (values : List Bool) (proc params : ℕ) (choices : List Choice) (f : Fo) (holds : Bool) (goal : Goal)
    → Behind proc params (chosen choices f holds) goal → Refutes values goal → truth (slots_of values) f ≡ holds
as_chosen values proc params choices f holds goal b refutes =
    let choice : Choice = record { condition = f; holds = holds } in
    let all : All (IsAsChosen values) (chosen choices f holds ++ b.later) = subst (All (IsAsChosen values)) b.begins refutes.followed in
    All-head (IsAsChosen values) choice [] (All-right (IsAsChosen values) choices (choice ∷ []) (All-left (IsAsChosen values) (chosen choices f holds) b.later all))

pub meets-refuted : (values : List Bool) (proc params : ℕ) (choices : List Choice) (checks : Checks) (goal : Goal)
    → Contains (check_goals proc params choices checks) goal → Refutes values goal → meets (slots_of values) checks ≡ false
meets-refuted values proc params choices Done goal has refutes = absurd (Contains-nil goal has)
meets-refuted values proc params choices (Assert at f next) goal has refutes =
    elim (Contains-cons_cases _ (check_goals proc params choices next) goal has) [
      | inl same ↦ ap (λ t. t && meets (slots_of values) next) (ap (λ (g : Goal). truth (slots_of values) g.asserted) same ∙ refutes.broken)
      | inr others ↦ and-false (truth (slots_of values) f) (meets (slots_of values) next) (meets-refuted values proc params choices next goal others refutes)
    ]
meets-refuted values proc params choices (Choose f then_ else_) goal has refutes =
    elim (Contains-append_cases (check_goals proc params (chosen choices f true) then_) (check_goals proc params (chosen choices f false) else_) goal has) [
      | inl first ↦
          ap (λ t. if t then meets (slots_of values) then_ else meets (slots_of values) else_)
          (as_chosen values proc params choices f true goal (behind proc params (chosen choices f true) then_ goal first) refutes)
          ∙ meets-refuted values proc params (chosen choices f true) then_ goal first refutes
      | inr second ↦
          ap (λ t. if t then meets (slots_of values) then_ else meets (slots_of values) else_)
          (as_chosen values proc params choices f false goal (behind proc params (chosen choices f false) else_ goal second) refutes)
          ∙ meets-refuted values proc params (chosen choices f false) else_ goal second refutes
    ]
