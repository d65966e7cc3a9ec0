-- The lines of a verdict are those of exactly the false goals.
use Rattle.std.proofs.Common.{◌≡◌, ℕ, ◌+◌, Bool, true, false, List, [], ◌∷◌, ◌++◌, map, length, refl, ap, sym, subst, ◌∙◌, IsTrue, ◌↔◌}
use Rattle.std.specs.Bool.{if◌then◌else◌}
use Rattle.std.proofs.lemmas.List.{map-append}
use Rattle.rp_lang.specs.Programs.{Prog}
use Rattle.event_machine.specs.Goals.{Goal, IsFalseGoal, goals}
use Rattle.event_machine.specs.Tests.{is_false}
use Rattle.rp_verify.specs.Verdicts.{name_of, unproved_from, unproved}
use Rattle.rp_verify.specs.declared.verdict.Unproved.{Unproved}
use Rattle.repliss_cli.specs.declared.report.GoalLine.{GoalLine}
use Rattle.repliss_cli.specs.FirstText.{IsFirstText}
use Rattle.repliss_cli.specs.Answers.{NameFalse, no_goal, false_goal, other_goal, IsUnproved}
use Rattle.repliss_cli.specs.means.Lines.{line_for}

-- a test of each goal tells whether it is false
abbrev pub Tells : Type 0
Tells = (goal : Goal) → IsTrue (is_false goal) ↔ IsFalseGoal goal

one_more : (content : List ℕ) (p : Prog) (n : ℕ) (goal : Goal) (goals : List Goal) (lines : List GoalLine) (b : Bool)
    → (IsTrue b ↔ IsFalseGoal goal) → NameFalse content p (n + 1) goals lines
    → NameFalse content p n (goal ∷ goals) (map (line_for content p) (if b then record { goal = n; name = name_of goal } ∷ [] else []) ++ lines)
one_more content p n goal goals lines true tells rest = false_goal (tells.0 refl) rest
one_more content p n goal goals lines false tells rest = other_goal (λ is. let t = tells.1 is in cc) rest

pub names_false : Tells → (content : List ℕ) (p : Prog) (n : ℕ) (goals : List Goal) → NameFalse content p n goals (map (line_for content p) (unproved_from n goals))
names_false tells content p n [] = no_goal
names_false tells content p n (goal ∷ goals) =
    subst (NameFalse content p n (goal ∷ goals)) (sym (map-append (line_for content p) _ (unproved_from (n + 1) goals)))
    (one_more content p n goal goals _ (is_false goal) (tells goal) (names_false tells content p (n + 1) goals))

not_nil : (f : Unproved → GoalLine) (xs : List Unproved) → (xs ≡ [] → ⊥) → map f xs ≡ [] → ⊥
not_nil f [] some e = some refl
not_nil f (x ∷ xs) some e = cc

pub unproved_report : Tells → (content : List ℕ) (p : Prog) (count : ℕ) (list : List Unproved) (lines : List GoalLine)
    → IsFirstText content p → count ≡ length (goals p) → list ≡ unproved p → (unproved p ≡ [] → ⊥) → lines ≡ map (line_for content p) list → IsUnproved content count lines
unproved_report tells content p count list lines text counts exact some is =
    let e : lines ≡ map (line_for content p) (unproved p) = is ∙ ap (map (line_for content p)) exact in
    record {
      program = p;
      text = text;
      named = subst (NameFalse content p 1 (goals p)) (sym e) (names_false tells content p 1 (goals p));
      some = λ none. not_nil (line_for content p) (unproved p) some (sym e ∙ none);
      counts = counts;
    }
