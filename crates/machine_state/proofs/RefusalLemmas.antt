-- The first refusal, part by part.
use Rattle.std.proofs.Common.{◌≡◌, ℕ, ◌≤◌, Bool, true, false, ◌||◌, refl, sym, ap, ◌∙◌, arith, List, [], ◌∷◌, map, length, Option, Some, None, slice_get, inl, inr}
use Rattle.std.specs.Prelude.{nat_lt, nat_le, nat_eq, not, ◌&&◌, is_some, find, option_map, option_and_then, if◌then◌else◌}
use Rattle.std.specs.List.{list_any}
use Rattle.std.specs.Option.{option_map_or}
use Rattle.std.proofs.lemmas.Bool.{true≢false, cases_lt, lt-ltb, le-ltb}
use Rattle.std.proofs.lemmas.Option.{slice_get_past}
use Rattle.std.proofs.Math.Path.{fun_ext}
use Rattle.rp_value.specs.Values as val
use Rattle.rp_value.specs.Values.{Val}
use Rattle.rp_value.specs.declared.value.Value.{Value}
use Rattle.rp_value.specs.ValueView.{value_view}
use Rattle.rp_lang.specs.declared.proc.ProcDecl.{ProcDecl}
use Rattle.rp_lang.specs.declared.program.Program.{Program}
use Rattle.rp_lang.specs.ProgramView.{program_view}
use Rattle.rp_lang.specs.Views.{proc_view}
use Rattle.rp_lang.specs.Programs.{Prog, Proc}
use Rattle.crdt_defs.specs.Calls.{Call, calls_view}
use Rattle.crdt_defs.specs.Counting.{first_below}
use Rattle.crdt_defs.specs.Fitting.{all_fit, all_atoms, is_id, is_below}
use Rattle.crdt_defs.specs.Histories.{meets}
use Rattle.crdt_defs.specs.SameValues.{same_val}
use Rattle.event_machine.specs.Code as left
use Rattle.event_machine.specs.Code.{Code}
use Rattle.event_machine.specs.States.{State, Invocation, Action, ToBegin, ToOp, ToLocal, ToNew, ToCommit, ToReturn, Label, Invoke, Begin, Op, New, Check, Why, NoInvocation, NotRunning, BadArgs, UnknownId, NotCommitted, NotClosed, StampLow, OutOfUniverse}
use Rattle.event_machine.specs.Machine as spec
use Rattle.event_machine.specs.Machine.{unless, first_why, named, action_of, refusal}
use Rattle.machine_state.specs.Accessors.{new_left}
use Rattle.machine_state.specs.means.Refusals.{action_number, is_type, another_point, inv_not_at, not_at, refused_atom, unseeable, bad_stamp, behind}
use Rattle.machine_state.specs.declared.state.State as state
use Rattle.machine_state.specs.Fits.{Fits}
use Rattle.machine_state.specs.StateView.{state_view}
use Rattle.machine_state.proofs.StateLemmas.{some_at, invs_length}
use Rattle.machine_state.proofs.FitsLemmas.{Standing, known_is, proc_at}

abbrev pub either : Option Why → Option Why → Option Why
either None other = other
either (Some why) other = Some why

-- # Actions

pub same_number : (a b : Action) → nat_eq (action_number a) (action_number b) ≡ spec.is_same a b
same_number ToBegin ToBegin = refl
same_number ToBegin ToOp = refl
same_number ToBegin ToLocal = refl
same_number ToBegin ToNew = refl
same_number ToBegin ToCommit = refl
same_number ToBegin ToReturn = refl
same_number ToOp ToBegin = refl
same_number ToOp ToOp = refl
same_number ToOp ToLocal = refl
same_number ToOp ToNew = refl
same_number ToOp ToCommit = refl
same_number ToOp ToReturn = refl
same_number ToLocal ToBegin = refl
same_number ToLocal ToOp = refl
same_number ToLocal ToLocal = refl
same_number ToLocal ToNew = refl
same_number ToLocal ToCommit = refl
same_number ToLocal ToReturn = refl
same_number ToNew ToBegin = refl
same_number ToNew ToOp = refl
same_number ToNew ToLocal = refl
same_number ToNew ToNew = refl
same_number ToNew ToCommit = refl
same_number ToNew ToReturn = refl
same_number ToCommit ToBegin = refl
same_number ToCommit ToOp = refl
same_number ToCommit ToLocal = refl
same_number ToCommit ToNew = refl
same_number ToCommit ToCommit = refl
same_number ToCommit ToReturn = refl
same_number ToReturn ToBegin = refl
same_number ToReturn ToOp = refl
same_number ToReturn ToLocal = refl
same_number ToReturn ToNew = refl
same_number ToReturn ToCommit = refl
same_number ToReturn ToReturn = refl

-- # What a label names

two_first : (a b : Option Why) (rest : List (Option Why)) → first_why (a ∷ b ∷ rest) ≡ either (first_why (a ∷ b ∷ [])) (first_why rest)
two_first None None rest = refl
two_first None (Some why) rest = refl
two_first (Some why) b rest = refl

lt_some : {A : Type 0} (xs : List A) (i : ℕ) → nat_lt i (length xs) ≡ is_some (slice_get xs i)
lt_some xs i =
    elim (cases_lt i (length xs)) [
      | inl lt ↦ lt-ltb i (length xs) lt ∙ sym (ap is_some (some_at xs i lt).1)
      | inr le ↦ le-ltb i (length xs) le ∙ sym (ap is_some (slice_get_past xs i le))
    ]

stands : (i : ℕ) (action : Option Action) (b : Bool) (o : Option Invocation) (rest : List (Option Why)) → b ≡ is_some o
    → first_why (unless b (NoInvocation i)
    ∷ option_and_then (λ (inv : Invocation). unless (spec.is_running inv.standing) (NotRunning i)) o
    ∷ option_and_then (λ (inv : Invocation). option_and_then (another_point inv) action) o ∷ rest)
    ≡ either (inv_not_at i action o) (first_why rest)
stands i action true (Some inv) rest e = two_first (unless (spec.is_running inv.standing) (NotRunning i)) (option_and_then (another_point inv) action) rest
stands i action false None rest e = refl
stands i action true None rest e = absurd (true≢false e)
stands i action false (Some inv) rest e = absurd (true≢false (sym e))

-- the refusals, by what the label names
abbrev by_name : Prog → State → Label → Option ℕ → Option Why
by_name p s label o = first_why (
    option_and_then (λ i. unless (nat_lt i (length s.invocations)) (NoInvocation i)) o
    ∷ option_and_then (λ i. option_and_then (λ (inv : Invocation). unless (spec.is_running inv.standing) (NotRunning i)) (slice_get s.invocations i)) o
    ∷ option_and_then (λ i. option_and_then (λ (inv : Invocation). option_and_then (another_point inv) (action_of label)) (slice_get s.invocations i)) o
    ∷ spec.bad_args p s label ∷ spec.unknown_id p s label ∷ spec.not_committed s label ∷ spec.not_closed s label
    ∷ spec.stamp_used s label ∷ spec.stamp_low s label ∷ spec.not_fresh s label ∷ spec.out_of_universe s label ∷ [])

-- of a label that names an invocation, first whether that is there, runs, and is at this action
pub named_refusal : (p : Prog) (s : State) (label : Label) (i : ℕ) → named label ≡ Some i → refusal p s label ≡ either (not_at s i (action_of label)) (behind p s label)
named_refusal p s label i e =
    ap (by_name p s label) e
    ∙ stands i (action_of label) (nat_lt i (length s.invocations)) (slice_get s.invocations i)
    (spec.bad_args p s label ∷ spec.unknown_id p s label ∷ spec.not_committed s label ∷ spec.not_closed s label
    ∷ spec.stamp_used s label ∷ spec.stamp_low s label ∷ spec.not_fresh s label ∷ spec.out_of_universe s label ∷ [])
    (lt_some s.invocations i)

pub unnamed_refusal : (p : Prog) (s : State) (label : Label) → named label ≡ None → refusal p s label ≡ behind p s label
unnamed_refusal p s label e = ap (by_name p s label) e

-- # The other refusals, label by label

invoke_first : (a b c : Option Why) → first_why (a ∷ b ∷ None ∷ None ∷ None ∷ None ∷ None ∷ c ∷ []) ≡ first_why (a ∷ b ∷ c ∷ [])
invoke_first None None c = refl
invoke_first None (Some why) c = refl
invoke_first (Some why) b c = refl

pub behind_invoke : (p : Prog) (s : State) (proc : ℕ) (args : List Val) (q : Proc) → slice_get p.procs proc ≡ Some q
    → behind p s (Invoke proc args) ≡ first_why (unless (all_fit p q.params args) BadArgs
    ∷ option_map UnknownId (find (λ v. is_id p v && not (spec.is_known s v)) (all_atoms args))
    ∷ option_map OutOfUniverse (find (λ v. not (is_below s.universe v)) (all_atoms args)) ∷ [])
behind_invoke p s proc args q is =
    let test : Option Proc → Option Why = λ o. unless (option_map_or (spec.takes p args) o false) BadArgs in
    let unknown : Option Why = option_map UnknownId (find (λ v. is_id p v && not (spec.is_known s v)) (all_atoms args)) in
    let outside : Option Why = option_map OutOfUniverse (find (λ v. not (is_below s.universe v)) (all_atoms args)) in
    ap (λ o. first_why (test o ∷ unknown ∷ None ∷ None ∷ None ∷ None ∷ None ∷ outside ∷ [])) is
    ∙ invoke_first (test (Some q)) unknown outside

asked_is : (p : Prog) (ty num : ℕ) (code : Code) → spec.is_asked p (val.Atom ty num) code ≡ is_type ty (new_left code)
asked_is p ty num (left.Put slot e next) = refl
asked_is p ty num (left.Decide slot f next) = refl
asked_is p ty num (left.New slot of next) = refl
asked_is p ty num (left.Operate op args next) = refl
asked_is p ty num (left.Assert at f next) = refl
asked_is p ty num (left.Choose f then_ else_) = refl
asked_is p ty num (left.Match on arms) = refl
asked_is p ty num (left.Begin next) = refl
asked_is p ty num (left.End at next) = refl
asked_is p ty num (left.Return at result) = refl

new_first : (a b c : Option Why) → first_why (a ∷ None ∷ None ∷ None ∷ None ∷ None ∷ b ∷ c ∷ []) ≡ first_why (a ∷ b ∷ c ∷ [])
new_first None b c = refl
new_first (Some why) b c = refl

outside_one : (fits : Bool) (v : Val) → option_map OutOfUniverse (if not fits then Some v else None) ≡ unless fits (OutOfUniverse v)
outside_one true v = refl
outside_one false v = refl

pub behind_new : (p : Prog) (s : State) (i ty num : ℕ) (inv : Invocation) → slice_get s.invocations i ≡ Some inv
    → behind p s (New i (val.Atom ty num)) ≡ refused_atom s (new_left inv.left) ty num
behind_new p s i ty num inv is =
    let id : Val = val.Atom ty num in
    let test : Option Invocation → Option Why = λ o. option_and_then (λ (inv : Invocation). unless (spec.is_asked p id inv.left) BadArgs) o in
    let fresh : Option Why = spec.not_fresh s (New i id) in
    let outside : Option Why = spec.out_of_universe s (New i id) in
    ap (λ o. first_why (test o ∷ None ∷ None ∷ None ∷ None ∷ None ∷ fresh ∷ outside ∷ [])) is
    ∙ new_first (test (Some inv)) fresh outside
    ∙ ap (λ b. first_why (unless b BadArgs ∷ fresh ∷ outside ∷ [])) (asked_is p ty num inv.left)
    ∙ ap (λ o. first_why (unless (is_type ty (new_left inv.left)) BadArgs ∷ fresh ∷ o ∷ [])) (outside_one (nat_lt num s.universe) id)

-- what is no identifier and no opaque value
abbrev pub is_no_atom : Val → Bool
is_no_atom (val.Int n) = true
is_no_atom (val.Str bytes) = true
is_no_atom (val.Atom ty num) = false
is_no_atom (val.Con con args) = true
is_no_atom (val.Call c) = true
is_no_atom (val.Inv i) = true

never_asked : (p : Prog) (v : Val) (code : Code) → is_no_atom v ≡ true → spec.is_asked p v code ≡ false
never_asked p v (left.Put slot e next) h = refl
never_asked p v (left.Decide slot f next) h = refl
never_asked p (val.Int n) (left.New slot of next) h = refl
never_asked p (val.Str bytes) (left.New slot of next) h = refl
never_asked p (val.Atom ty num) (left.New slot of next) h = absurd (true≢false (sym h))
never_asked p (val.Con con args) (left.New slot of next) h = refl
never_asked p (val.Call c) (left.New slot of next) h = refl
never_asked p (val.Inv i) (left.New slot of next) h = refl
never_asked p v (left.Operate op args next) h = refl
never_asked p v (left.Assert at f next) h = refl
never_asked p v (left.Choose f then_ else_) h = refl
never_asked p v (left.Match on arms) h = refl
never_asked p v (left.Begin next) h = refl
never_asked p v (left.End at next) h = refl
never_asked p v (left.Return at result) h = refl

pub behind_no_atom : (p : Prog) (s : State) (i : ℕ) (v : Val) (inv : Invocation) → slice_get s.invocations i ≡ Some inv → is_no_atom v ≡ true
    → behind p s (New i v) ≡ Some BadArgs
behind_no_atom p s i v inv is h =
    let test : Option Invocation → Option Why = λ o. option_and_then (λ (inv : Invocation). unless (spec.is_asked p v inv.left) BadArgs) o in
    let fresh : Option Why = spec.not_fresh s (New i v) in
    let outside : Option Why = spec.out_of_universe s (New i v) in
    ap (λ o. first_why (test o ∷ None ∷ None ∷ None ∷ None ∷ None ∷ fresh ∷ outside ∷ [])) is
    ∙ ap (λ b. first_why (unless b BadArgs ∷ None ∷ None ∷ None ∷ None ∷ None ∷ fresh ∷ outside ∷ [])) (never_asked p v inv.left h)

begin_first : (a b c d : Option Why) → first_why (a ∷ b ∷ c ∷ d ∷ None ∷ None ∷ []) ≡ either (first_why (a ∷ b ∷ [])) (first_why (c ∷ d ∷ []))
begin_first None None None None = refl
begin_first None None None (Some why) = refl
begin_first None None (Some why) d = refl
begin_first None (Some why) c d = refl
begin_first (Some why) b c d = refl

or_none : (b : Bool) → b ≡ (b || false)
or_none true = refl
or_none false = refl

pub behind_begin : (p : Prog) (s : State) (i stamp : ℕ) (sees earlier : List ℕ) (inv : Invocation) → slice_get s.invocations i ≡ Some inv → inv.view ≡ spec.calls_of s.calls earlier
    → behind p s (Begin i stamp sees) ≡ either (unseeable s sees earlier) (bad_stamp s stamp sees None)
behind_begin p s i stamp sees earlier inv is view =
    let open_ : Option Why = spec.not_committed s (Begin i stamp sees) in
    let closed : (ℕ → Bool) → Option Why = λ earlier. option_map NotClosed (first_below (spec.is_missing s sees earlier) (length s.txs)) in
    let used : Option Why = spec.stamp_used s (Begin i stamp sees) in
    let low : (ℕ → Bool) → Option Why = λ past. unless (nat_le (spec.greatest_stamp s.calls past (length s.calls)) stamp) (StampLow (spec.greatest_stamp s.calls past (length s.calls))) in
    let sees_past : spec.calls_of s.calls sees ≡ (λ c. spec.calls_of s.calls sees c || spec.own_calls s.calls None c) = fun_ext (λ c. or_none (spec.calls_of s.calls sees c)) in
    ap (λ o. first_why (open_ ∷ closed (spec.view_of o) ∷ used ∷ low (spec.calls_of s.calls sees) ∷ None ∷ None ∷ [])) is
    ∙ ap (λ v. first_why (open_ ∷ closed v ∷ used ∷ low (spec.calls_of s.calls sees) ∷ None ∷ None ∷ [])) view
    ∙ ap (λ v. first_why (open_ ∷ closed (spec.calls_of s.calls earlier) ∷ used ∷ low v ∷ None ∷ None ∷ [])) sees_past
    ∙ begin_first open_ (closed (spec.calls_of s.calls earlier)) used (low (λ c. spec.calls_of s.calls sees c || spec.own_calls s.calls None c))

pub behind_op : (p : Prog) (s : State) (i stamp : ℕ) (sees : List ℕ) (tx : Option ℕ) (inv : Invocation) → slice_get s.invocations i ≡ Some inv → inv.view ≡ spec.calls_of s.calls sees → inv.tx ≡ tx
    → behind p s (Op i stamp) ≡ bad_stamp s stamp sees tx
behind_op p s i stamp sees tx inv is view own =
    let used : Option Why = spec.stamp_used s (Op i stamp) in
    let low : (ℕ → Bool) → Option Why = λ past. unless (nat_le (spec.greatest_stamp s.calls past (length s.calls)) stamp) (StampLow (spec.greatest_stamp s.calls past (length s.calls))) in
    ap (λ o. first_why (used ∷ low (spec.reading_of s.calls o) ∷ None ∷ None ∷ [])) is
    ∙ ap (λ v. first_why (used ∷ low (λ c. v c || spec.own_calls s.calls inv.tx c) ∷ None ∷ None ∷ [])) view
    ∙ ap (λ o. first_why (used ∷ low (λ c. spec.calls_of s.calls sees c || spec.own_calls s.calls o c) ∷ None ∷ None ∷ [])) own
    ∙ begin_first None None used (low (λ c. spec.calls_of s.calls sees c || spec.own_calls s.calls tx c))

no_calls : (o : Option Call) → false ≡ meets (λ call. spec.is_in [] call.tx) o
no_calls None = refl
no_calls (Some call) = refl

check_first : (a b : Option Why) → first_why (a ∷ b ∷ None ∷ None ∷ None ∷ None ∷ []) ≡ first_why (a ∷ b ∷ [])
check_first None None = refl
check_first None (Some why) = refl
check_first (Some why) b = refl

pub behind_check : (p : Prog) (s : State) (sees : List ℕ) → behind p s (Check sees) ≡ unseeable s sees []
behind_check p s sees =
    let open_ : Option Why = spec.not_committed s (Check sees) in
    let closed : (ℕ → Bool) → Option Why = λ earlier. option_map NotClosed (first_below (spec.is_missing s sees earlier) (length s.txs)) in
    let empty : (λ c. false) ≡ spec.calls_of s.calls [] = fun_ext (λ c. no_calls (slice_get s.calls c)) in
    ap (λ v. first_why (open_ ∷ closed v ∷ None ∷ None ∷ None ∷ None ∷ [])) empty
    ∙ check_first open_ (closed (spec.calls_of s.calls []))

-- # Answers of the code

pub unknown_first : (b : Bool) (o u : Option Val) (x : Val) → b ≡ true → Some x ≡ o
    → Some (UnknownId x) ≡ first_why (unless b BadArgs ∷ option_map UnknownId o ∷ option_map OutOfUniverse u ∷ [])
unknown_first b o u x fine found =
    ap (λ o. first_why (option_map UnknownId o ∷ option_map OutOfUniverse u ∷ [])) found
    ∙ sym (ap (λ b. first_why (unless b BadArgs ∷ option_map UnknownId o ∷ option_map OutOfUniverse u ∷ [])) fine)

pub outside_is : (b : Bool) (o u : Option Val) (x : Val) → b ≡ true → None ≡ o → Some x ≡ u
    → Some (OutOfUniverse x) ≡ first_why (unless b BadArgs ∷ option_map UnknownId o ∷ option_map OutOfUniverse u ∷ [])
outside_is b o u x fine none found =
    ap (λ u. first_why (option_map OutOfUniverse u ∷ [])) found
    ∙ ap (λ o. first_why (option_map UnknownId o ∷ option_map OutOfUniverse u ∷ [])) none
    ∙ sym (ap (λ b. first_why (unless b BadArgs ∷ option_map UnknownId o ∷ option_map OutOfUniverse u ∷ [])) fine)

pub nothing_first : (b : Bool) (o u : Option Val) → b ≡ true → None ≡ o → None ≡ u
    → None ≡ first_why (unless b BadArgs ∷ option_map UnknownId o ∷ option_map OutOfUniverse u ∷ [])
nothing_first b o u fine none below =
    ap (λ u. first_why (option_map OutOfUniverse u ∷ [])) below
    ∙ ap (λ o. first_why (option_map UnknownId o ∷ option_map OutOfUniverse u ∷ [])) none
    ∙ sym (ap (λ b. first_why (unless b BadArgs ∷ option_map UnknownId o ∷ option_map OutOfUniverse u ∷ [])) fine)

pub open_first : (o m : Option ℕ) (tx : ℕ) → Some tx ≡ o → Some (NotCommitted tx) ≡ first_why (option_map NotCommitted o ∷ option_map NotClosed m ∷ [])
open_first o m tx found = ap (λ o. first_why (option_map NotCommitted o ∷ option_map NotClosed m ∷ [])) found

pub missing_first : (o m : Option ℕ) (tx : ℕ) → None ≡ o → Some tx ≡ m → Some (NotClosed tx) ≡ first_why (option_map NotCommitted o ∷ option_map NotClosed m ∷ [])
missing_first o m tx none found =
    ap (λ m. first_why (option_map NotClosed m ∷ [])) found ∙ ap (λ o. first_why (option_map NotCommitted o ∷ option_map NotClosed m ∷ [])) none

pub all_closed : (o m : Option ℕ) → None ≡ o → None ≡ m → None ≡ first_why (option_map NotCommitted o ∷ option_map NotClosed m ∷ [])
all_closed o m none whole =
    ap (λ m. first_why (option_map NotClosed m ∷ [])) whole ∙ ap (λ o. first_why (option_map NotCommitted o ∷ option_map NotClosed m ∷ [])) none

-- # Of a state of the code

pub past_inv : (p : Program) (s : state.State) (i : ℕ) (action : Option Action) → Fits p s → length s.runs ≤ i → Some (NoInvocation i) ≡ not_at (state_view (program_view p) s) i action
past_inv p s i action fits le =
    let same : length (state_view (program_view p) s).invocations ≡ length s.runs = invs_length (program_view p) (calls_view s.history) s.infos s.runs fits.kept.runs in
    sym (ap (inv_not_at i action) (slice_get_past (state_view (program_view p) s).invocations i (omega arith)))

pub ended_inv : (p : Program) (s : state.State) (i : ℕ) (action : Option Action) → Standing p s i false → Some (NotRunning i) ≡ not_at (state_view (program_view p) s) i action
ended_inv p s i action it =
    sym (ap (λ b. first_why (unless b (NotRunning i) ∷ option_and_then (another_point it.inv) action ∷ [])) it.runs_so) ∙ sym (ap (inv_not_at i action) it.is)

pub running_inv : (p : Program) (s : state.State) (i : ℕ) (action : Option Action) → (it : Standing p s i true) → first_why (option_and_then (another_point it.inv) action ∷ []) ≡ not_at (state_view (program_view p) s) i action
running_inv p s i action it =
    sym (ap (λ b. first_why (unless b (NotRunning i) ∷ option_and_then (another_point it.inv) action ∷ [])) it.runs_so) ∙ sym (ap (inv_not_at i action) it.is)

pub invoke_why : (p : Program) (s : state.State) (proc : ℕ) (args : List Value) (q : ProcDecl) → Fits p s → slice_get p.procs proc ≡ Some q
    → first_why (unless (all_fit (program_view p) q.params (map value_view args)) BadArgs
    ∷ option_map UnknownId (find (λ v. is_id (program_view p) v && not (list_any (same_val v) (map value_view s.known))) (all_atoms (map value_view args)))
    ∷ option_map OutOfUniverse (find (λ v. not (is_below s.universe v)) (all_atoms (map value_view args))) ∷ [])
    ≡ behind (program_view p) (state_view (program_view p) s) (Invoke proc (map value_view args))
invoke_why p s proc args q fits is =
    let vals : List Val = map value_view args in
    ap (λ test. first_why (unless (all_fit (program_view p) q.params vals) BadArgs ∷ option_map UnknownId (find test (all_atoms vals)) ∷ option_map OutOfUniverse (find (λ v. not (is_below s.universe v)) (all_atoms vals)) ∷ []))
    (known_is p s fits)
    ∙ sym (behind_invoke (program_view p) (state_view (program_view p) s) proc vals (proc_view q) (proc_at p proc q is))

-- what is refused where the invocation isn't at the action, and where it is
pub named_why : (p : Prog) (s : State) (label : Label) (i : ℕ) (action : Option Action) (why : Why) → Some i ≡ named label → action ≡ action_of label → Some why ≡ not_at s i action → Some why ≡ refusal p s label
named_why p s label i action why is_named is_action is_why =
    ap (λ o. either o (behind p s label)) (is_why ∙ ap (not_at s i) is_action) ∙ sym (named_refusal p s label i (sym is_named))

pub named_fine : (p : Prog) (s : State) (label : Label) (i : ℕ) (action : Option Action) → Some i ≡ named label → action ≡ action_of label → None ≡ not_at s i action → behind p s label ≡ refusal p s label
named_fine p s label i action is_named is_action none =
    ap (λ o. either o (behind p s label)) (none ∙ ap (not_at s i) is_action) ∙ sym (named_refusal p s label i (sym is_named))
