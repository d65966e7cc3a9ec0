-- The goals of a program over truth values: each assertion on each path.
use Rattle.std.specs.Prelude.{◌≡◌, ℕ, ◌+◌, Bool, true, false, if◌then◌else◌, List, [], ◌∷◌, ◌++◌, length, map, replicate, All, Option, Some}
use Rattle.rp_span.specs.declared.Span.{Span}
use Rattle.rp_value.specs.Values.{Val}
use Rattle.rp_lang.specs.Formulas.{Fo}
use Rattle.rp_lang.specs.Programs.{Proc, Prog}
use Rattle.event_machine.specs.Checks.{Checks, Done, Assert, Choose, stmts_checks}
use Rattle.event_machine.specs.Propositions.{truth, truth_val}
use Rattle.event_machine.specs.Machine.{Label, Invoke, Local}

-- A condition that a path has decided, with its truth there.
pub record Choice : Type 0 where
  pub condition : Fo
  pub holds : Bool

pub record Goal : Type 0 where
  -- the procedure's number, and how many parameters it has
  pub proc : ℕ
  pub params : ℕ
  -- the choices on the way to the assertion, the first one first
  pub choices : List Choice
  -- where the assertion stands
  pub at : Span
  pub asserted : Fo

-- the branch that was chosen: 1 is the first
abbrev pub branch : Choice → ℕ
branch choice = if choice.holds then 1 else 2

abbrev pub path : Goal → List ℕ
path goal = map branch goal.choices

-- the choices, and one more
abbrev pub chosen : List Choice → Fo → Bool → List Choice
chosen choices f holds = choices ++ record { condition = f; holds = holds } ∷ []

-- the assertions of a procedure behind these choices, depth first, the first branch first
abbrev pub check_goals : ℕ → ℕ → List Choice → Checks → List Goal
check_goals proc params choices Done = []
check_goals proc params choices (Assert at f next) =
    record { proc = proc; params = params; choices = choices; at = at; asserted = f } ∷ check_goals proc params choices next
check_goals proc params choices (Choose f then_ else_) =
    check_goals proc params (chosen choices f true) then_ ++ check_goals proc params (chosen choices f false) else_

abbrev pub proc_goals : ℕ → Proc → List Goal
proc_goals proc q = check_goals proc (length q.params) [] (stmts_checks q.body Done)

-- the goals of procedures that are numbered from `first` on
abbrev pub goals_from : ℕ → List Proc → List Goal
goals_from first [] = []
goals_from first (q ∷ others) = proc_goals first q ++ goals_from (first + 1) others

abbrev pub goals : Prog → List Goal
goals p = goals_from 0 p.procs

-- parameters with these truth values
abbrev pub slots_of : List Bool → List (Option Val)
slots_of values = map (λ b. Some (truth_val b)) values

abbrev pub IsAsChosen : List Bool → Choice → Type 0
IsAsChosen values choice = truth (slots_of values) choice.condition ≡ choice.holds

-- Some truth values of the parameters make each condition of the path as it was chosen, and the assertion false.
pub record Refutes (values : List Bool) (goal : Goal) : Type 0 where
  pub counted : length values ≡ goal.params
  pub followed : All (IsAsChosen values) goal.choices
  pub broken : truth (slots_of values) goal.asserted ≡ false

abbrev pub IsFalseGoal : Goal → Type 0
IsFalseGoal goal = (values : List Bool) × Refutes values goal

-- a false goal is named by the labels that show it: the invocation with the values, and Locals along the path
abbrev pub refuting_labels : Goal → List Bool → ℕ → List Label
refuting_labels goal values locals = Invoke goal.proc (map truth_val values) ∷ replicate locals (Local 0)
