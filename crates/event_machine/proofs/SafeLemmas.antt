-- Where no goal of a program over truth values is false, no run violates.
use Rattle.std.proofs.Common.{◌≡◌, ℕ, ◌+◌, Bool, true, false, List, [], ◌∷◌, ◌++◌, length, Option, Some, None, All, slice_get, refl, sym, ◌∙◌, ap, subst}
use Rattle.std.specs.Bool.{if◌then◌else◌}
use Rattle.std.specs.List.{AllByRecursion, list_all}
use Rattle.std.specs.Option.{option_map_or}
use Rattle.std.proofs.lemmas.List.Elements.{All-nil, All-cons, All-push, All-set, All-weaker}
use Rattle.std.proofs.lemmas.Option.{slice_get_within, get_or_from_slice_get}
use Rattle.rp_span.specs.declared.Span.{Span}
use Rattle.rp_value.specs.Values.{Val}
use Rattle.rp_lang.specs.FirstForm.{IsFirstForm, is_over_truth_values, over_truth_values}
use Rattle.rp_lang.specs.Programs.{Proc, Prog}
use Rattle.rp_lang.proofs.ProgramLemmas.{proc_facts}
use Rattle.crdt_defs.specs.Truths.{truth}
use Rattle.event_machine.specs.Code.{Code}
use Rattle.event_machine.specs.Checks.{Checks, Done, Assert, Choose, stmts_checks}
use Rattle.event_machine.specs.Propositions as prop
use Rattle.event_machine.specs.Fitting.{all_fit}
use Rattle.event_machine.specs.Machine.{Standing, Returned, Failed, Invocation, State, empty, Label, Invoke, Begin, Op, Local, New, Commit, Return, Fail, Check, Assertion, Why, BadArgs, Answer, Moved, Violated, unless, first_why, refusals, refusal, takes, bad_args, at_invocation, with_invocation, on_invocation, invoked, started, begins, operates, local, made, commits, returns, stands, effect, unless_refused, step}
use Rattle.event_machine.specs.Runs.{Leads, Run, Violates, IsSafe}
use Rattle.event_machine.specs.Goals.{Goal, goals, goals_from, proc_goals, slots_of, IsAsChosen, IsFalseGoal}
use Rattle.event_machine.proofs.ListLemmas.{All-left, All-right}
use Rattle.event_machine.proofs.CheckLemmas.{meets, Unrefuted, meets-unrefuted}
use Rattle.event_machine.proofs.FormLemmas.{both_true, truth_by_slots, code_of, codes-checks, ArePropositional, all_propositional, values_of_args, first_slots}

abbrev pub NoneFalse : List Goal → Type 0
NoneFalse list = All (λ goal. IsFalseGoal goal → ⊥) list

-- # Procedures

-- checks that are propositional, and all true at these slots
pub record AreTrue (slots : List (Option Val)) (code : Code) : Type 0 where
  pub end : Span
  pub params : ℕ
  pub checks : Checks
  pub done_by : code ≡ code_of end checks
  pub propositional : ArePropositional params checks
  pub met : meets slots checks ≡ true

-- an invocation begins with true checks, whatever its arguments that fit
abbrev pub IsClean : List Proc → Proc → Type 0
IsClean procs q = (proc : ℕ) (args : List Val) → all_fit (over_truth_values procs) q.params args ≡ true
    → AreTrue (started q proc args).slots (started q proc args).left

clean_proc : (procs : List Proc) (number : ℕ) (q : Proc) → is_over_truth_values q ≡ true → NoneFalse (proc_goals number q) → IsClean procs q
clean_proc procs number q form none proc args fit =
    let facts = proc_facts q form in
    let (values, counted, are) = values_of_args procs q.params args facts.bool_params fit in
    let checks = stmts_checks q.body Done in
    let unrefuted : All (Unrefuted values) (proc_goals number q) =
    All-weaker (λ goal. IsFalseGoal goal → ⊥) (Unrefuted values) (λ goal no refutes. no (values, refutes)) (proc_goals number q) none in
    let slots : (started q proc args).slots ≡ slots_of values =
    ap (λ args. (started q proc args).slots) are ∙ first_slots q values facts.as_many_slots counted in
    record {
      end = q.end;
      params = length q.params;
      checks = checks;
      done_by = codes-checks (length q.params) q.end q.body Done facts.checking;
      propositional = all_propositional (length q.params) q.body Done facts.checking tt;
      met = ap (λ slots. meets slots checks) slots ∙ meets-unrefuted values number (length q.params) [] checks counted (All-nil (IsAsChosen values)) unrefuted;
    }

clean_procs : (all : List Proc) (first : ℕ) (procs : List Proc) → list_all is_over_truth_values procs ≡ true → NoneFalse (goals_from first procs) → All (IsClean all) procs
clean_procs all first [] form none = All-nil (IsClean all)
clean_procs all first (q ∷ others) form none =
    let forms = both_true (is_over_truth_values q) (list_all is_over_truth_values others) form in
    All-cons (IsClean all) q others
    (clean_proc all first q forms.0 (All-left (λ goal. IsFalseGoal goal → ⊥) (proc_goals first q) (goals_from (first + 1) others) none))
    (clean_procs all (first + 1) others forms.1 (All-right (λ goal. IsFalseGoal goal → ⊥) (proc_goals first q) (goals_from (first + 1) others) none))

-- # States

-- what each invocation still has to run meets true assertions alone
abbrev pub CleanLeft : Invocation → Type 0
CleanLeft inv = AreTrue inv.slots inv.left

abbrev pub Good : State → Type 0
Good s = All CleanLeft s.invocations

at_place : {A : Type 0} (P : A → Type 0) (xs : List A) (i : ℕ) (x : A) → All P xs → slice_get xs i ≡ Some x → P x
at_place P xs i x all is = subst P (get_or_from_slice_get xs i x x is) (all i x (slice_get_within xs i x is))

Good-with : (s : State) (i : ℕ) (inv : Invocation) → Good s → CleanLeft inv → Good (with_invocation s i inv)
Good-with s i inv good clean = All-set CleanLeft s.invocations i inv clean good

-- an answer keeps a state good, and is no violation
abbrev pub Keeps : State → Answer → Type 0
Keeps s answer = ((new : State) → Leads s answer new → Good new) × (Violates answer → ⊥)

moved : (s mid : State) → Good mid → Keeps s (Moved mid)
moved s mid good = (λ new leads. subst Good (sym leads) good, λ v. let e = v.1 in cc)

-- # One label

keeps_on : (s : State) (i : ℕ) (act : Invocation → Answer) → Good s → ((inv : Invocation) → CleanLeft inv → Keeps s (act inv)) → Keeps s (on_invocation s i act)
keeps_on s i act good keeps = go (slice_get s.invocations i) refl
  where
    go : (found : Option Invocation) → slice_get s.invocations i ≡ found → Keeps s (option_map_or act found (Moved s))
    go None is = moved s s good
    go (Some inv) is = keeps inv (at_place CleanLeft s.invocations i inv good is)

-- an action that does nothing where checks are left
keeps_idle : (s : State) (act : Code → Answer) (inv : Invocation) → Good s → ((end : Span) (checks : Checks) → act (code_of end checks) ≡ Moved s) → CleanLeft inv → Keeps s (act inv.left)
keeps_idle s act inv good idle clean =
    subst (Keeps s) (sym (ap act clean.done_by ∙ idle clean.end clean.checks)) (moved s s good)

idle_begin : (s : State) (i stamp : ℕ) (sees : List ℕ) (inv : Invocation) (end : Span) (checks : Checks) → begins s i stamp sees inv (code_of end checks) ≡ Moved s
idle_begin s i stamp sees inv end Done = refl
idle_begin s i stamp sees inv end (Assert at f next) = refl
idle_begin s i stamp sees inv end (Choose f then_ else_) = refl

idle_op : (p : Prog) (s : State) (i stamp : ℕ) (inv : Invocation) (tx : Option ℕ) (end : Span) (checks : Checks) → operates p s i stamp inv tx (code_of end checks) ≡ Moved s
idle_op p s i stamp inv None end checks = refl
idle_op p s i stamp inv (Some tx) end Done = refl
idle_op p s i stamp inv (Some tx) end (Assert at f next) = refl
idle_op p s i stamp inv (Some tx) end (Choose f then_ else_) = refl

idle_new : (s : State) (i : ℕ) (id : Val) (inv : Invocation) (end : Span) (checks : Checks) → made s i id inv (code_of end checks) ≡ Moved s
idle_new s i id inv end Done = refl
idle_new s i id inv end (Assert at f next) = refl
idle_new s i id inv end (Choose f then_ else_) = refl

idle_commit : (s : State) (i : ℕ) (inv : Invocation) (tx : Option ℕ) (end : Span) (checks : Checks) → commits s i inv tx (code_of end checks) ≡ Moved s
idle_commit s i inv None end checks = refl
idle_commit s i inv (Some tx) end Done = refl
idle_commit s i inv (Some tx) end (Assert at f next) = refl
idle_commit s i inv (Some tx) end (Choose f then_ else_) = refl

keeps_stands : (s : State) (i : ℕ) (inv : Invocation) (standing : Standing) → Good s → CleanLeft inv → Keeps s (stands s i inv standing)
keeps_stands s i inv standing good clean = moved s _ (Good-with s i (record inv { standing = standing }) good clean)

keeps_returns : (p : Prog) (s : State) (i : ℕ) (inv : Invocation) → Good s → CleanLeft inv → (end : Span) (checks : Checks) → Keeps s (returns p s i inv (code_of end checks))
keeps_returns p s i inv good clean end Done = keeps_stands s i inv (Returned None) good clean
keeps_returns p s i inv good clean end (Assert at f next) = moved s s good
keeps_returns p s i inv good clean end (Choose f then_ else_) = moved s s good

-- true checks of which one is done
left_true : (slots : List (Option Val)) (end : Span) (n : ℕ) (checks : Checks) → ArePropositional n checks → meets slots checks ≡ true → AreTrue slots (code_of end checks)
left_true slots end n checks propositional met =
    record { end = end; params = n; checks = checks; done_by = refl; propositional = propositional; met = met }

keeps_local : (p : Prog) (s : State) (i : ℕ) (inv : Invocation) → Good s → (end : Span) (n : ℕ) (checks : Checks) → ArePropositional n checks → meets inv.slots checks ≡ true
    → Keeps s (local p s i inv (code_of end checks))
keeps_local p s i inv good end n Done propositional met = moved s s good
keeps_local p s i inv good end n (Assert at f next) propositional met =
    let both = both_true (prop.truth inv.slots f) (meets inv.slots next) met in
    let holds : truth (at_invocation p s inv) [] f ≡ true = truth_by_slots n (at_invocation p s inv) f propositional.0 ∙ both.0 in
    let after = record inv { left = code_of end next } in
    subst (λ t. Keeps s (if t then Moved (with_invocation s i after) else Violated (Assertion at))) (sym holds)
    (moved s _ (Good-with s i after good (left_true inv.slots end n next propositional.1 both.1)))
keeps_local p s i inv good end n (Choose f then_ else_) propositional met =
    on (truth (at_invocation p s inv) [] f) (truth_by_slots n (at_invocation p s inv) f propositional.0)
  where
    on : (t : Bool) → t ≡ prop.truth inv.slots f → Keeps s (Moved (with_invocation s i (record inv { left = (if t then code_of end then_ else code_of end else_) })))
    on true is =
        let holds : meets inv.slots then_ ≡ true = ap (λ t. if t then meets inv.slots then_ else meets inv.slots else_) is ∙ met in
        moved s _ (Good-with s i (record inv { left = code_of end then_ }) good (left_true inv.slots end n then_ propositional.1 holds))
    on false is =
        let holds : meets inv.slots else_ ≡ true = ap (λ t. if t then meets inv.slots then_ else meets inv.slots else_) is ∙ met in
        moved s _ (Good-with s i (record inv { left = code_of end else_ }) good (left_true inv.slots end n else_ propositional.2 holds))

fit_of : (fine : Bool) → unless fine BadArgs ≡ None → fine ≡ true
fit_of true h = refl
fit_of false h = cc

keeps_invoked : (procs : List Proc) → All (IsClean procs) procs → (s : State) (proc : ℕ) (args : List Val) → Good s
    → bad_args (over_truth_values procs) s (Invoke proc args) ≡ None → Keeps s (invoked (over_truth_values procs) s proc args)
keeps_invoked procs clean s proc args good fit = go (slice_get procs proc) refl (fit_of _ fit)
  where
    go : (found : Option Proc) → slice_get procs proc ≡ found → option_map_or (takes (over_truth_values procs) args) found false ≡ true
        → Keeps s (option_map_or (λ (q : Proc). Moved (record s { invocations = s.invocations ++ started q proc args ∷ [] })) found (Moved s))
    go None is fit = moved s s good
    go (Some q) is fit =
        moved s _ (All-push CleanLeft s.invocations (started q proc args) good (at_place (IsClean procs) procs proc q clean is proc args fit))

keeps_effect : (procs : List Proc) → All (IsClean procs) procs → (s : State) (label : Label) → Good s
    → bad_args (over_truth_values procs) s label ≡ None → Keeps s (effect (over_truth_values procs) s label)
keeps_effect procs clean s (Invoke proc args) good fit = keeps_invoked procs clean s proc args good fit
keeps_effect procs clean s (Begin i stamp sees) good fit =
    keeps_on s i _ good (λ inv ok. keeps_idle s (begins s i stamp sees inv) inv good (idle_begin s i stamp sees inv) ok)
keeps_effect procs clean s (Op i stamp) good fit =
    let p = over_truth_values procs in
    keeps_on s i _ good (λ inv ok. keeps_idle s (operates p s i stamp inv inv.tx) inv good (idle_op p s i stamp inv inv.tx) ok)
keeps_effect procs clean s (Local i) good fit =
    let p = over_truth_values procs in
    keeps_on s i _ good (λ inv ok.
    subst (λ code. Keeps s (local p s i inv code)) (sym ok.done_by) (keeps_local p s i inv good ok.end ok.params ok.checks ok.propositional ok.met))
keeps_effect procs clean s (New i id) good fit = keeps_on s i _ good (λ inv ok. keeps_idle s (made s i id inv) inv good (idle_new s i id inv) ok)
keeps_effect procs clean s (Commit i) good fit =
    keeps_on s i _ good (λ inv ok. keeps_idle s (commits s i inv inv.tx) inv good (idle_commit s i inv inv.tx) ok)
keeps_effect procs clean s (Return i) good fit =
    let p = over_truth_values procs in
    keeps_on s i _ good (λ inv ok. subst (λ code. Keeps s (returns p s i inv code)) (sym ok.done_by) (keeps_returns p s i inv good ok ok.end ok.checks))
keeps_effect procs clean s (Fail i) good fit = keeps_on s i _ good (λ inv ok. keeps_stands s i inv Failed good ok)
keeps_effect procs clean s (Check sees) good fit = (λ new leads. subst Good (sym leads) good, λ v. let e = v.1 in cc)

-- # Refusals

-- where no refusal applies, each test says so
pub none_applies : (whys : List (Option Why)) → first_why whys ≡ None → AllByRecursion (λ why. why ≡ None) whys
none_applies [] h = tt
none_applies (None ∷ others) h = (refl, none_applies others h)
none_applies (Some why ∷ others) h = cc

keeps_step : (procs : List Proc) → All (IsClean procs) procs → (s : State) (label : Label) → Good s → Keeps s (step (over_truth_values procs) s label)
keeps_step procs clean s label good = go (refusal p s label) refl
  where
    p : Prog
    p = over_truth_values procs

    go : (why : Option Why) → refusal p s label ≡ why → Keeps s (unless_refused why (effect p s label))
    go None is = keeps_effect procs clean s label good (none_applies (refusals p s label) is).1.1.1.0
    go (Some why) is = (λ new leads. absurd leads, λ v. let e = v.1 in cc)

-- # Runs

good_after : (procs : List Proc) → All (IsClean procs) procs → (s : State) (labels : List Label) (new : State) → Good s → Run (over_truth_values procs) s labels new → Good new
good_after procs clean s [] new good run = subst Good (sym run) good
good_after procs clean s (label ∷ labels) new good (mid, leads, run) =
    good_after procs clean mid labels new ((keeps_step procs clean s label good).0 mid leads) run

safe_procs : (procs : List Proc) → list_all is_over_truth_values procs ≡ true → NoneFalse (goals_from 0 procs) → IsSafe (over_truth_values procs)
unfolding IsSafe
safe_procs procs form none universe labels s label one run =
    let clean = clean_procs procs 0 procs form none in
    (keeps_step procs clean s label (good_after procs clean (empty universe) labels s (All-nil CleanLeft) run)).1

pub procs_over : (p : Prog) → IsFirstForm p → list_all is_over_truth_values p.procs ≡ true
procs_over p form = (both_true _ _ (both_true _ _ form.procs).0).1

pub safe_none_false : (p : Prog) → IsFirstForm p → NoneFalse (goals p) → IsSafe p
safe_none_false p form none = subst IsSafe (sym form.parts) (safe_procs p.procs (procs_over p form) none)
