-- A schedule that is read is one of the program's.
use Rattle.std.proofs.Common.{◌≡◌, ℕ, zero, suc, ◌+◌, ◌<◌, ◌≤◌, Bool, true, false, ◌&&◌, nat_le, nat_lt, if◌then◌else◌, cond, refl, ap, arith, List, [], ◌∷◌, length, map, get_or, Some, None, unwrap_or, add-one}
use Rattle.std.specs.List.{All, position_from}
use Rattle.std.specs.List.Sorted.{IsStrictlyIncreasing}
use Rattle.std.proofs.lemmas.Bool.{and_parts, leb-true, ltb-true}
use Rattle.std.proofs.lemmas.List.{length-map}
use Rattle.std.proofs.lemmas.List.Elements.{All-nil, All-cons}
use Rattle.rp_lang.specs.declared.limit.LimitName.TheVariants.{Universe, Steps}
use Rattle.rp_lang.specs.declared.program.Program.{Program}
use Rattle.rp_lang.specs.declared.step.Step.{Step}
use Rattle.rp_lang.specs.declared.step.Step.TheVariants as step
use Rattle.rp_lang.specs.Limits.{limit_number}
use Rattle.rp_lang.specs.ProgramView.{program_view}
use Rattle.rp_lang.specs.Views.{proc_view}
use Rattle.step_labels.specs.StepLabels.{label_view}
use Rattle.machine_state.specs.Fits.{StepFits}
use Rattle.schedule_fmt.specs.Answers.{passed, is_universe}
use Rattle.schedule_fmt.specs.Schedules.{are_ascending, Each, HasLine, IsText, proc_is_called}
use Rattle.schedule_fmt.specs.Texts.{Sched, proc_name}
use Rattle.schedule_fmt.specs.Views.{schedule_view}
use Rattle.schedule_fmt.specs.declared.schedule.Schedule.{Schedule}
use Rattle.replay.specs.Outcomes.{AreSteps}

-- # The universe

pub read_universe : (s : Sched) → passed s ≡ None → 1 ≤ s.universe
read_universe s e = by (is_universe s.universe) refl e
  where
    by : (b : Bool) → is_universe s.universe ≡ b
        → (if b then (if nat_le (length s.labels) (limit_number Steps) then None else Some Steps) else Some Universe) ≡ None → 1 ≤ s.universe
    by true is e = let some : 0 < s.universe = ltb-true 0 s.universe (and_parts _ _ is).0 in omega arith
    by false is e = absurd cc

-- # Numbers that ascend

increasing : (least : ℕ) (ns : List ℕ) → are_ascending least ns ≡ true → (k : ℕ) → suc k < length ns → get_or ns k 0 < get_or ns (suc k) 0
increasing least [] h k lt = absurd (omega arith)
increasing least (n ∷ []) h k lt = absurd (omega arith)
increasing least (n ∷ m ∷ ms) h zero lt =
    let later : are_ascending (n + 1) (m ∷ ms) ≡ true = (and_parts (nat_le least n && nat_lt n 4294967296) (are_ascending (n + 1) (m ∷ ms)) h).1 in
    let bounds : (nat_le (n + 1) m && nat_lt m 4294967296) ≡ true = (and_parts _ (are_ascending (m + 1) ms) later).0 in
    let above : n + 1 ≤ m = leb-true (n + 1) m (and_parts _ (nat_lt m 4294967296) bounds).0 in
    omega arith
increasing least (n ∷ m ∷ ms) h (suc k) lt =
    increasing (n + 1) (m ∷ ms) (and_parts (nat_le least n && nat_lt n 4294967296) (are_ascending (n + 1) (m ∷ ms)) h).1 k (omega arith)

ascends : (ns : List ℕ) → are_ascending 0 ns ≡ true → IsStrictlyIncreasing ns
ascends ns h k lt = rw add-one (increasing 0 ns h k (omega arith))

-- # Steps

-- what is found is a place of the list
found_within : {X : Type 0} (p : X → Bool) (i : ℕ) (xs : List X) (q : ℕ) → position_from p i xs ≡ Some q → q < i + length xs
found_within p i [] q e = absurd cc
found_within p i (x ∷ xs) q e = by (p x) (found_within p (i + 1) xs q) e
  where
    by : (b : Bool) → (position_from p (i + 1) xs ≡ Some q → q < i + 1 + length xs)
        → cond b (Some i) (position_from p (i + 1) xs) ≡ Some q → q < i + suc (length xs)
    by true later e = let here : i ≡ q = ap (λ o. unwrap_or o i) e in omega arith
    by false later e = let behind = later e in omega arith

procs_within : (p : Program) (proc : ℕ) (name : List ℕ) → position_from (proc_is_called name) 0 (program_view p).procs ≡ Some proc → proc < length p.procs
procs_within p proc name e =
    let within : proc < 0 + length (map proc_view p.procs) = found_within (proc_is_called name) 0 (map proc_view p.procs) proc e in
    let same : length (map proc_view p.procs) ≡ length p.procs = length-map p.procs proc_view in
    omega arith

step_fits : (p : Program) (s : Step) → HasLine (program_view p) (label_view s) → StepFits p s
step_fits p (step.Invoke proc args) line = procs_within p proc (proc_name (program_view p) proc) line.0.meant
step_fits p (step.Begin inv stamp sees) line = ascends sees line.2
step_fits p (step.Op inv stamp) line = tt
step_fits p (step.Local inv) line = tt
step_fits p (step.New inv id) line = tt
step_fits p (step.Commit inv) line = tt
step_fits p (step.Return inv) line = tt
step_fits p (step.Fail inv) line = tt
step_fits p (step.Check sees) line = ascends sees line

steps_fit : (p : Program) (steps : List Step) → Each (HasLine (program_view p)) (map label_view steps) → All (StepFits p) steps
steps_fit p [] lines = All-nil (StepFits p)
steps_fit p (s ∷ steps) lines = All-cons (StepFits p) s steps (step_fits p s lines.0) (steps_fit p steps lines.1)

pub read_steps : (p : Program) (s : Schedule) (bytes : List ℕ) → IsText (program_view p) (schedule_view s) bytes → AreSteps p s
read_steps p s bytes text = steps_fit p s.steps text.has_text.labels
