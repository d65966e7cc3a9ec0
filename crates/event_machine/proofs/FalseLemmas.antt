-- Values that make a goal false give a run that violates.
use Rattle.std.proofs.Common.{◌≡◌, ℕ, zero, suc, ◌+◌, Bool, true, false, ◌&&◌, not, List, [], ◌∷◌, length, map, replicate, find, Option, Some, None, inl, inr, All, Contains, slice_get, get_or, refl, sym, ◌∙◌, ap, subst, arith}
use Rattle.std.specs.Bool.{if◌then◌else◌}
use Rattle.std.specs.List.{list_all}
use Rattle.std.specs.Option.{option_map_or, option_map}
use Rattle.std.proofs.lemmas.List.Elements.{Contains-get_or, Contains-append_cases}
use Rattle.rp_span.specs.declared.Span.{Span}
use Rattle.rp_value.specs.Values.{Val}
use Rattle.rp_lang.specs.FirstForm.{IsFirstForm, is_over_truth_values, over_truth_values}
use Rattle.rp_lang.specs.Programs.{Proc, Prog}
use Rattle.rp_lang.proofs.ProgramLemmas.{proc_facts}
use Rattle.crdt_defs.specs.Truths.{truth_val, truth}
use Rattle.event_machine.specs.Code.{Code}
use Rattle.event_machine.specs.Checks.{Checks, Done, Assert, Choose, stmts_checks}
use Rattle.event_machine.specs.Propositions as prop
use Rattle.event_machine.specs.Fitting.{all_fit, all_atoms, is_id, is_below}
use Rattle.event_machine.specs.Machine.{State, Running, Invocation, Invoke, Local, What, Assertion, Why, BadArgs, UnknownId, OutOfUniverse, Moved, Violated, first_why, unless, takes, is_known, started, invoked, at_invocation, unless_refused, empty, step}
use Rattle.event_machine.specs.Runs.{IsSafe, ViolatedAt, goes_on, outcome_from, outcome}
use Rattle.event_machine.specs.Goals.{Goal, goals, goals_from, proc_goals, slots_of, Refutes, IsFalseGoal, refuting_labels}
use Rattle.event_machine.proofs.OutcomeLemmas.{never_violated}
use Rattle.event_machine.proofs.ListLemmas.{Contains-nil}
use Rattle.event_machine.proofs.CheckLemmas.{meets, behind, meets-refuted}
use Rattle.event_machine.proofs.FormLemmas.{both_true, truth_by_slots, code_of, codes-checks, ArePropositional, all_propositional, all_fit-values, no_atoms, first_slots}
use Rattle.event_machine.proofs.SafeLemmas.{procs_over}

-- # One invocation that runs alone

abbrev pub runner : ℕ → List Val → List (Option Val) → Code → Invocation
runner proc args slots code =
    record { proc = proc; args = args; slots = slots; left = code; view = λ c. false; tx = None; standing = Running }

abbrev pub alone : ℕ → ℕ → List Val → List (Option Val) → Code → State
alone universe proc args slots code =
    record { universe = universe; calls = []; txs = []; invocations = runner proc args slots code ∷ []; generated = [] }

abbrev pub LocalsViolate : Prog → ℕ → State → Type 0
LocalsViolate p k s = (n : ℕ) × (what : What) × (outcome_from p k s (replicate n (Local 0)) ≡ ViolatedAt (k + n) what)

pub locals_violate : (p : Prog) (u proc : ℕ) (args : List Val) (slots : List (Option Val)) (k : ℕ) (end : Span) (params : ℕ) (checks : Checks)
    → ArePropositional params checks → meets slots checks ≡ false → LocalsViolate p k (alone u proc args slots (code_of end checks))
locals_violate p u proc args slots k end params Done propositional h = cc
locals_violate p u proc args slots k end params (Assert at f next) propositional h =
    let here = alone u proc args slots (code_of end (Assert at f next)) in
    let r = at_invocation p here (runner proc args slots (code_of end (Assert at f next))) in
    go (prop.truth slots f) refl (truth_by_slots params r f propositional.0) (λ h. locals_violate p u proc args slots (k + 1) end params next propositional.1 h)
  where
    here : State
    here = alone u proc args slots (code_of end (Assert at f next))

    go : (b : Bool) → prop.truth slots f ≡ b
        → truth (at_invocation p here (runner proc args slots (code_of end (Assert at f next)))) [] f ≡ prop.truth slots f
        → (meets slots next ≡ false → LocalsViolate p (k + 1) (alone u proc args slots (code_of end next)))
        → LocalsViolate p k (alone u proc args slots (code_of end (Assert at f next)))
    go true is same later = let l = later (ap (λ t. t && meets slots next) (sym is) ∙ h) in (
      suc l.0,
      l.1,
      ap (λ t. goes_on (if t then Moved (alone u proc args slots (code_of end next)) else Violated (Assertion at)) (k + 1) here (λ mid. outcome_from p (k + 1) mid (replicate l.0 (Local 0)))) (same ∙ is)
          ∙ (l.2 ∙ ap (λ m. ViolatedAt m l.1) (omega arith)),
    )
    go false is same later = (
      1,
      Assertion at,
      ap (λ t. goes_on (if t then Moved (alone u proc args slots (code_of end next)) else Violated (Assertion at)) (k + 1) here (λ mid. outcome_from p (k + 1) mid [])) (same ∙ is),
    )
locals_violate p u proc args slots k end params (Choose f then_ else_) propositional h =
    let here = alone u proc args slots (code_of end (Choose f then_ else_)) in
    let r = at_invocation p here (runner proc args slots (code_of end (Choose f then_ else_))) in
    go (prop.truth slots f) refl (truth_by_slots params r f propositional.0)
    (λ h. locals_violate p u proc args slots (k + 1) end params then_ propositional.1 h)
    (λ h. locals_violate p u proc args slots (k + 1) end params else_ propositional.2 h)
  where
    reads : Bool
    reads = truth (at_invocation p (alone u proc args slots (code_of end (Choose f then_ else_))) (runner proc args slots (code_of end (Choose f then_ else_)))) [] f

    on : (chosen : Checks) → LocalsViolate p (k + 1) (alone u proc args slots (code_of end chosen)) → (if reads then code_of end then_ else code_of end else_) ≡ code_of end chosen
        → LocalsViolate p k (alone u proc args slots (code_of end (Choose f then_ else_)))
    on chosen l is =
        (suc l.0, l.1, ap (λ code. outcome_from p (k + 1) (alone u proc args slots code) (replicate l.0 (Local 0))) is ∙ (l.2 ∙ ap (λ m. ViolatedAt m l.1) (omega arith)))

    go : (b : Bool) → prop.truth slots f ≡ b → reads ≡ prop.truth slots f
        → (meets slots then_ ≡ false → LocalsViolate p (k + 1) (alone u proc args slots (code_of end then_)))
        → (meets slots else_ ≡ false → LocalsViolate p (k + 1) (alone u proc args slots (code_of end else_)))
        → LocalsViolate p k (alone u proc args slots (code_of end (Choose f then_ else_)))
    go true is same first second =
        on then_ (first (ap (λ t. if t then meets slots then_ else meets slots else_) (sym is) ∙ h)) (ap (λ t. if t then code_of end then_ else code_of end else_) (same ∙ is))
    go false is same first second =
        on else_ (second (ap (λ t. if t then meets slots then_ else meets slots else_) (sym is) ∙ h)) (ap (λ t. if t then code_of end then_ else code_of end else_) (same ∙ is))

-- # The procedure of a goal

each_over : (procs : List Proc) (i : ℕ) (q : Proc) → list_all is_over_truth_values procs ≡ true → slice_get procs i ≡ Some q → is_over_truth_values q ≡ true
each_over [] i q form at = cc
each_over (r ∷ others) zero q form at =
    let parts = both_true (is_over_truth_values r) (list_all is_over_truth_values others) form in
    ap is_over_truth_values (sym (some_is r q at)) ∙ parts.0
  where
    some_is : (a b : Proc) → Some a ≡ Some b → a ≡ b
    some_is a b e = cc
each_over (r ∷ others) (suc i) q form at =
    let parts = both_true (is_over_truth_values r) (list_all is_over_truth_values others) form in each_over others i q parts.1 at

pub record Owns (procs : List Proc) (first : ℕ) (goal : Goal) : Type 0 where
  pub place : ℕ
  pub proc : Proc
  pub at : slice_get procs place ≡ Some proc
  pub numbered : goal.proc ≡ first + place
  pub has : Contains (proc_goals (first + place) proc) goal

pub owner : (first : ℕ) (procs : List Proc) (goal : Goal) → Contains (goals_from first procs) goal → Owns procs first goal
owner first [] goal has = absurd (Contains-nil goal has)
owner first (q ∷ others) goal has =
    elim (Contains-append_cases (proc_goals first q) (goals_from (first + 1) others) goal has) [
      | inl here ↦ record {
        place = 0;
        proc = q;
        at = refl;
        numbered = (behind first (length q.params) [] (stmts_checks q.body Done) goal here).numbered ∙ omega arith;
        has = subst (λ n. Contains (proc_goals n q) goal) (omega arith) here;
      }
      | inr later ↦
          let o = owner (first + 1) others goal later in
          let moved : first + 1 + o.place ≡ first + suc o.place = omega arith in
          record { place = suc o.place; proc = o.proc; at = o.at; numbered = o.numbered ∙ moved; has = subst (λ n. Contains (proc_goals n o.proc) goal) moved o.has }
    ]

-- # The run

-- the label that invokes a procedure with arguments that fit and have no identifier inside
invoke_step : (p : Prog) (u proc : ℕ) (q : Proc) (args : List Val) → slice_get p.procs proc ≡ Some q → all_fit p q.params args ≡ true → all_atoms args ≡ []
    → step p (empty u) (Invoke proc args) ≡ Moved (record (empty u) { invocations = started q proc args ∷ [] })
invoke_step p u proc q args at fit none =
    let fine : option_map_or (takes p args) (slice_get p.procs proc) false ≡ true =
    ap (λ (o : Option Proc). option_map_or (takes p args) o false) at ∙ fit in
    ap (λ b. unless_refused (first_why (unless b BadArgs ∷ unknown (all_atoms args) ∷ None ∷ None ∷ None ∷ None ∷ None ∷ outside (all_atoms args) ∷ [])) (invoked p (empty u) proc args)) fine
    ∙ (ap (λ vs. unless_refused (first_why (unknown vs ∷ None ∷ None ∷ None ∷ None ∷ None ∷ outside vs ∷ [])) (invoked p (empty u) proc args)) none
    ∙ ap (λ (o : Option Proc). option_map_or (λ q. Moved (record (empty u) { invocations = started q proc args ∷ [] })) o (Moved (empty u))) at)
  where
    unknown : List Val → Option Why
    unknown vs = option_map UnknownId (find (λ v. is_id p v && not (is_known (empty u) v)) vs)

    outside : List Val → Option Why
    outside vs = option_map OutOfUniverse (find (λ v. not (is_below u v)) vs)

abbrev pub IsShown : Prog → Goal → List Bool → ℕ → Type 0
IsShown p goal values universe =
    (locals : ℕ) × (what : What) × (outcome p universe (refuting_labels goal values locals) ≡ ViolatedAt (locals + 1) what)

refuted_procs : (procs : List Proc) (goal : Goal) (values : List Bool) (universe : ℕ) → list_all is_over_truth_values procs ≡ true
    → Contains (goals_from 0 procs) goal → Refutes values goal → IsShown (over_truth_values procs) goal values universe
refuted_procs procs goal values universe form has refutes =
    let p = over_truth_values procs in
    let o = owner 0 procs goal has in
    let q = o.proc in
    let facts = proc_facts q (each_over procs o.place q form o.at) in
    let checks = stmts_checks q.body Done in
    let args = map truth_val values in
    let place : goal.proc ≡ o.place = o.numbered ∙ omega arith in
    let at : slice_get procs goal.proc ≡ Some q = ap (slice_get procs) place ∙ o.at in
    let counted : length values ≡ length q.params = refutes.counted ∙ (behind (0 + o.place) (length q.params) [] checks goal o.has).counted in
    let broken : meets (slots_of values) checks ≡ false = meets-refuted values (0 + o.place) (length q.params) [] checks goal o.has refutes in
    let propositional = all_propositional (length q.params) q.body Done facts.checking tt in
    let l = locals_violate p universe goal.proc args (slots_of values) 1 q.end (length q.params) checks propositional broken in
    let moved = invoke_step p universe goal.proc q args at (all_fit-values procs q.params values facts.bool_params counted) (no_atoms values) in
    let ready : (started q goal.proc args) ≡ runner goal.proc args (slots_of values) (code_of q.end checks) =
    ap (λ slots. record (started q goal.proc args) { slots = slots }) (first_slots q values facts.as_many_slots counted)
    ∙ ap (λ code. runner goal.proc args (slots_of values) code) (codes-checks (length q.params) q.end q.body Done facts.checking) in (
      l.0,
      l.1,
      ap (λ a. goes_on a 1 (empty universe) (λ mid. outcome_from p 1 mid (replicate l.0 (Local 0)))) moved
          ∙ (ap (λ inv. outcome_from p 1 (record (empty universe) { invocations = inv ∷ [] }) (replicate l.0 (Local 0))) ready
          ∙ (l.2 ∙ ap (λ m. ViolatedAt m l.1) (omega arith))),
    )

pub refuted_violates : (p : Prog) (goal : Goal) (values : List Bool) (universe : ℕ) → IsFirstForm p → Contains (goals p) goal → Refutes values goal → IsShown p goal values universe
refuted_violates p goal values universe form has refutes =
    subst (λ p. IsShown p goal values universe) (sym form.parts) (refuted_procs p.procs goal values universe (procs_over p form) has refutes)

pub none_false : (p : Prog) → IsFirstForm p → IsSafe p → All (λ goal. IsFalseGoal goal → ⊥) (goals p)
none_false p form safe i d within (values, refutes) =
    let goal = get_or (goals p) i d in
    let found = refuted_violates p goal values 1 form (Contains-get_or (goals p) i d within) refutes in
    never_violated p safe 1 (refuting_labels goal values found.0) (found.0 + 1) found.1 (omega arith) found.2
