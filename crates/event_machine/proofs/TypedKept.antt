-- Every accepted label of a well-formed program keeps typed states.
use Rattle.std.proofs.Common.{◌≡◌, ℕ, Bool, true, false, if◌then◌else◌, nat_lt, List, [], ◌∷◌, ◌++◌, length, Option, Some, None, is_some, is_none, slice_get, slice_set, option_and_then, eqb-true, refl, sym, ◌∙◌, ap, subst, ◌⊎◌, inl, inr, true≢false}
use Rattle.std.specs.Option.{option_map_or}
use Rattle.std.proofs.lemmas.Option.{none-some}
use Rattle.rp_value.specs.declared.tables.Ty.{Ty}
use Rattle.rp_value.specs.declared.tables.Ty.TheVariants as ty
use Rattle.rp_value.specs.declared.tables.Ty.TheVariants.{Datatype}
use Rattle.rp_value.specs.declared.tables.ConDecl.{ConDecl}
use Rattle.rp_value.specs.Values as val
use Rattle.rp_value.specs.Values.{Val, Vals, no_val, also_val}
use Rattle.rp_lang.specs.declared.op.OpDecl.{OpDecl}
use Rattle.rp_lang.specs.Types as types
use Rattle.rp_lang.specs.Types.{agree, is_ordinary, are_ordinary, bool_ty, fields_in}
use Rattle.rp_lang.specs.Typing.{type_of}
use Rattle.rp_lang.specs.Exprs.{Ex}
use Rattle.rp_lang.specs.Programs.{Proc, Prog}
use Rattle.rp_lang.specs.WellFormed.{begins, is_result, is_procedure, are_ops, is_well_formed}
use Rattle.crdt_defs.specs.Calls.{Call}
use Rattle.crdt_defs.specs.Truths.{truth_val, list_of, value, values, truth, is_built}
use Rattle.event_machine.specs.Code as left
use Rattle.event_machine.specs.Code.{Code, CodeArms, no_code, also_code, proc_code}
use Rattle.event_machine.specs.Fitting as fitting
use Rattle.event_machine.specs.Fitting.{cons_to, fits, fields_fit, all_fit}
use Rattle.event_machine.specs.Machine as machine
use Rattle.event_machine.specs.Machine.{Standing, Running, Returned, Failed, Invocation, Tx, State, empty, Label, Invoke, Begin, Op, Local, New, Commit, Return, Fail, Check, Assertion, Why, BadArgs, Answer, Moved, Violated, at_snapshot, at_invocation, calls_of, takes, is_asked, unless, unless_refused, refusal, with_invocation, with_slot, with_fields, filled, into_arm, local, started, invoked, operates, made, commits, returns, effect, step}
use Rattle.event_machine.specs.Runs.{Leads}
use Rattle.event_machine.specs.WellFormed.{At}
use Rattle.event_machine.specs.TypedStates.{frame_in, and_slot, and_slots, CodeTyped, ArmsTyped, result_fits, IsTypedInvocation, IsTyped}
use Rattle.event_machine.proofs.FormLemmas.{both_true}
use Rattle.event_machine.proofs.PlaceLemmas.{at-push, at-set}
use Rattle.event_machine.proofs.MoveLemmas.{and-make, unless-none, running-at, Free, free, acted, check-moves}
use Rattle.event_machine.proofs.KeptLemmas.{not-running, not-failed, failed-returned}
use Rattle.event_machine.proofs.ProgramFits.{each}
use Rattle.event_machine.proofs.WiderLemmas.{agrees-some}
use Rattle.event_machine.proofs.TypedCode.{proc-typed}
use Rattle.event_machine.proofs.TypedValues.{is_data, ordinary-data, same-type, is-type, Holds, value-fits, values-fit}
use Rattle.event_machine.proofs.ProgramFacts.{Facts, facts, procedure-of, fields-data, truth-fits, nothing, op-data}
use Rattle.event_machine.proofs.AnswerFits.{CallsFit, asked-fits}
use Rattle.event_machine.proofs.TypedSlots.{Filled, put, fill, start}

-- # Running invocations

-- slots that fit, and what is left typed with those that are set
pub record Runs (p : Prog) (q : Proc) (inv : Invocation) : Type 0 where
  pub is : At p.procs inv.proc q
  pub running : inv.standing ≡ Running
  pub set : ℕ → Bool
  pub slots : Filled p q set inv.slots
  pub typed : CodeTyped p q (is_some inv.tx) set inv.left

runs-typed : (p : Prog) (q : Proc) (inv : Invocation) → Runs p q inv → IsTypedInvocation p inv
runs-typed p q inv r = record {
  proc = q;
  is = r.is;
  counted = r.slots.counted;
  slots = r.slots.fit;
  result = λ found e. absurd (not-running found (sym e ∙ r.running));
  ready = λ e. record { set = r.set; are_set = r.slots.are_set; typed = r.typed };
}

typed-runs : (p : Prog) (inv : Invocation) (t : IsTypedInvocation p inv) → inv.standing ≡ Running → Runs p t.proc inv
typed-runs p inv t e =
    let ready = t.ready e in
    record {
      is = t.is;
      running = e;
      set = ready.set;
      slots = record { counted = t.counted; fit = t.slots; are_set = ready.are_set };
      typed = ready.typed;
    }

holds : (p : Prog) (s : State) (inv : Invocation) (q : Proc) → Facts p → IsTyped p s → (r : Runs p q inv) → Holds p s inv q r.set
holds p s inv q f t r = record { fields = fields-data p f; asks = asked-fits p s inv f t.calls; slots = r.slots.fit; are_set = r.slots.are_set }

-- # Changed states

abbrev Typed : Prog → List Invocation → Type 0
Typed p invs = (i : ℕ) (inv : Invocation) → At invs i inv → IsTypedInvocation p inv

one-set : (p : Prog) (invs : List Invocation) (i : ℕ) (after : Invocation) → Typed p invs → IsTypedInvocation p after → Typed p (slice_set invs i after)
one-set p invs i after old here k inv at = elim (at-set invs i after k inv at) [
  | inl same ↦ subst (IsTypedInvocation p) (sym same.1) here
  | inr other ↦ old k inv other.1
]

one-more : (p : Prog) (invs : List Invocation) (new : Invocation) → Typed p invs → IsTypedInvocation p new → Typed p (invs ++ new ∷ [])
one-more p invs new old here k inv at = elim (at-push invs new k inv at) [
  | inl before ↦ old k inv before
  | inr same ↦ subst (IsTypedInvocation p) (sym same.1) here
]

call-more : (p : Prog) (calls : List Call) (new : Call) → CallsFit p calls → (op : OpDecl) × At p.ops new.op op × (all_fit p op.args new.args ≡ true) → CallsFit p (calls ++ new ∷ [])
call-more p calls new old here c call at = elim (at-push calls new c call at) [
  | inl before ↦ old c call before
  | inr same ↦ subst (λ (x : Call). (op : OpDecl) × At p.ops x.op op × (all_fit p op.args x.args ≡ true)) (sym same.1) here
]

replaced : (p : Prog) (s : State) (i : ℕ) (after : Invocation) → IsTyped p s → IsTypedInvocation p after → IsTyped p (with_invocation s i after)
replaced p s i after t here = record { calls = t.calls; invocations = one-set p s.invocations i after t.invocations here }

-- # What procedures hold

slot-data : (p : Prog) (q : Proc) (slot : ℕ) (t : Ty) → is_procedure p q ≡ true → At q.slots slot t → is_data t ≡ true
slot-data p q slot t h at =
    let slots = both_true _ _ (both_true _ _ (both_true _ _ (both_true _ _ (both_true _ _ h).0).0).0).0 in
    ordinary-data p.types t (each (is_ordinary p.types) q.slots slot t slots.1 at)

result-data : (p : Prog) (q : Proc) (t : Ty) → is_procedure p q ≡ true → q.result ≡ Some t → is_data t ≡ true
result-data p q t h e =
    let result = both_true _ _ (both_true _ _ (both_true _ _ (both_true _ _ h).0).0).0 in
    ordinary-data p.types t (ap (is_result p.types) (sym e) ∙ result.1)

params-first : (p : Prog) (q : Proc) → is_procedure p q ≡ true → begins q.params q.slots ≡ true
params-first p q h = (both_true _ _ (both_true _ _ (both_true _ _ (both_true _ _ (both_true _ _ h).0).0).0).0).0

-- the value of an expression that fits a slot
put-value : (p : Prog) (s : State) (inv : Invocation) (q : Proc) (slot : ℕ) (e : Ex) → Facts p → IsTyped p s → is_procedure p q ≡ true → (r : Runs p q inv)
    → agree (type_of p (frame_in q (is_some inv.tx) r.set) [] e) (slice_get q.slots slot) ≡ true
    → Filled p q (and_slot r.set slot) (slice_set inv.slots slot (Some (value (at_invocation p s inv) [] e)))
put-value p s inv q slot e f t h r agrees =
    let u = agrees-some _ (slice_get q.slots slot) agrees in
    put p q r.set inv.slots slot _ u.0 r.slots u.1
    (value-fits p s inv q (is_some inv.tx) r.set (holds p s inv q f t r) e u.0 (is-type _ u.0 u.2) (slot-data p q slot u.0 h u.1))

-- # Local actions

same-fields : (o : Option ConDecl) → fitting.fields_of o ≡ fields_in o
same-fields None = refl
same-fields (Some decl) = refl

built-fields : (p : Prog) (d con : ℕ) (v : Val) → fits p (Datatype d) v ≡ true → is_built con v ≡ true → (args : Vals) × (v ≡ val.Con con args) × (fields_fit p (types.fields_of p.cons con) args ≡ true)
built-fields p d con (val.Con c args) fit b =
    let same = eqb-true c con b in (
      args,
      ap (λ c. val.Con c args) same,
      ap (λ c. fields_fit p (types.fields_of p.cons c) args) (sym same) ∙ (ap (λ ts. fields_fit p ts args) (sym (same-fields (slice_get p.cons.cons c))) ∙ (both_true _ _ fit).1),
    )
built-fields p d con _ fit b = absurd (true≢false (sym b))

-- the arm of the value's constructor goes on, with its fields in slots
into-typed : (p : Prog) (s new : State) (i : ℕ) (inv : Invocation) (q : Proc) (v : Val) (d : ℕ) → (r : Runs p q inv) → fits p (Datatype d) v ≡ true
    → (arms : CodeArms) → ArmsTyped p q (is_some inv.tx) r.set arms → Leads s (into_arm s i inv v arms) new
    → (new ≡ s) ⊎ ((after : Invocation) × Runs p q after × (new ≡ with_invocation s i after))
into-typed p s new i inv q v d r fit no_code typed l = inl l
into-typed p s new i inv q v d r fit (also_code con places body others) (take, here, rest) l =
    go (λ l. into-typed p s new i inv q v d r fit others rest l) (is_built con v) refl l
  where
    go : (Leads s (into_arm s i inv v others) new → (new ≡ s) ⊎ ((after : Invocation) × Runs p q after × (new ≡ with_invocation s i after))) → (b : Bool) → is_built con v ≡ b
        → Leads s (if b then Moved (with_invocation s i (record (with_fields inv places v) { left = body })) else into_arm s i inv v others) new
        → (new ≡ s) ⊎ ((after : Invocation) × Runs p q after × (new ≡ with_invocation s i after))
    go more true e l =
        let k = built-fields p d con v fit e in
        inr (
          record inv { slots = filled places k.0 inv.slots; left = body },
          record {
            is = r.is;
            running = r.running;
            set = and_slots places r.set;
            slots = fill p q places (types.fields_of p.cons con) k.0 r.set inv.slots r.slots take k.2;
            typed = here;
          },
          l ∙ ap (λ v. with_invocation s i (record (with_fields inv places v) { left = body })) k.1,
        )
    go more false e l = more l

local-kept : (p : Prog) (s new : State) (i : ℕ) (inv : Invocation) (q : Proc) → Facts p → IsTyped p s → is_procedure p q ≡ true → (r : Runs p q inv)
    → (code : Code) → CodeTyped p q (is_some inv.tx) r.set code → Leads s (local p s i inv code) new → IsTyped p new
local-kept p s new i inv q f t h r (left.Put slot e next) (agrees, k) l =
    let after = record (with_slot inv slot (value (at_invocation p s inv) [] e)) { left = next } in
    subst (IsTyped p) (sym l) (replaced p s i after t (runs-typed p q after
    (record { is = r.is; running = r.running; set = and_slot r.set slot; slots = put-value p s inv q slot e f t h r agrees; typed = k })))
local-kept p s new i inv q f t h r (left.Decide slot g next) (typed, agrees, k) l =
    let v = truth_val (truth (at_invocation p s inv) [] g) in
    let after = record (with_slot inv slot v) { left = next } in
    let u = agrees-some (Some bool_ty) (slice_get q.slots slot) agrees in
    let fit : fits p u.0 v ≡ true = ap (λ t. fits p t v) (sym (same-type bool_ty u.0 u.2)) ∙ truth-fits p f (truth (at_invocation p s inv) [] g) in
    subst (IsTyped p) (sym l) (replaced p s i after t (runs-typed p q after
    (record { is = r.is; running = r.running; set = and_slot r.set slot; slots = put p q r.set inv.slots slot v u.0 r.slots u.1 fit; typed = k })))
local-kept p s new i inv q f t h r (left.Assert at g next) (typed, k) l = go (truth (at_invocation p s inv) [] g) l
  where
    go : (b : Bool) → Leads s (if b then Moved (with_invocation s i (record inv { left = next })) else Violated (Assertion at)) new → IsTyped p new
    go true l =
        let after = record inv { left = next } in
        subst (IsTyped p) (sym l) (replaced p s i after t (runs-typed p q after (record { is = r.is; running = r.running; set = r.set; slots = r.slots; typed = k })))
    go false l = absurd l
local-kept p s new i inv q f t h r (left.Choose g then_ else_) (typed, k, m) l =
    let after = record inv { left = (if truth (at_invocation p s inv) [] g then then_ else else_) } in
    subst (IsTyped p) (sym l) (replaced p s i after t (runs-typed p q after
    (record { is = r.is; running = r.running; set = r.set; slots = r.slots; typed = chosen (truth (at_invocation p s inv) [] g) })))
  where
    chosen : (b : Bool) → CodeTyped p q (is_some inv.tx) r.set (if b then then_ else else_)
    chosen true = k
    chosen false = m
local-kept p s new i inv q f t h r (left.Match on arms) (d, typed, k) l =
    let fit = value-fits p s inv q (is_some inv.tx) r.set (holds p s inv q f t r) on (Datatype d) typed refl in
    elim (into-typed p s new i inv q (value (at_invocation p s inv) [] on) d r fit arms k l) [
      | inl same ↦ subst (IsTyped p) (sym same) t
      | inr m ↦ subst (IsTyped p) (sym m.2) (replaced p s i m.0 t (runs-typed p q m.0 m.1))
    ]
local-kept p s new i inv q f t h r _ k l = subst (IsTyped p) (sym l) t

-- # Other actions

made-kept : (p : Prog) (s new : State) (i : ℕ) (id : Val) (inv : Invocation) (q : Proc) → IsTyped p s → (r : Runs p q inv)
    → (code : Code) → CodeTyped p q (is_some inv.tx) r.set code → is_asked p id code ≡ true → Leads s (made s i id inv code) new → IsTyped p new
made-kept p s new i id inv q t r (left.New slot of next) (agrees, k) asked l =
    let after = record (with_slot inv slot id) { left = next } in
    let u = agrees-some (Some (ty.Atom of)) (slice_get q.slots slot) agrees in
    let fit : fits p u.0 id ≡ true = ap (λ t. fits p t id) (sym (same-type (ty.Atom of) u.0 u.2)) ∙ asked in
    let here = runs-typed p q after (record { is = r.is; running = r.running; set = and_slot r.set slot; slots = put p q r.set inv.slots slot id u.0 r.slots u.1 fit; typed = k }) in
    subst (IsTyped p) (sym l) (record { calls = t.calls; invocations = one-set p s.invocations i after t.invocations here })
made-kept p s new i id inv q t r _ k asked l = subst (IsTyped p) (sym l) t

-- operation 0 takes no arguments
marker-fits : (p : Prog) → Facts p → (op : OpDecl) × At p.ops 0 op × (all_fit p op.args [] ≡ true)
marker-fits p f = go p.ops refl f.ops
  where
    go : (ops : List OpDecl) → p.ops ≡ ops → are_ops p.roots ops ≡ true → (op : OpDecl) × At p.ops 0 op × (all_fit p op.args [] ≡ true)
    go [] is h = absurd (true≢false (sym h))
    go (first ∷ ops) is h =
        let tx = (both_true _ _ (both_true _ _ h).0).0 in
        (first, ap (λ xs. slice_get xs 0) is, ap (λ ts. all_fit p ts []) (nothing first.args (both_true _ _ tx).1))

begins-kept : (p : Prog) (s new : State) (i stamp : ℕ) (sees : List ℕ) (inv : Invocation) (q : Proc) → Facts p → IsTyped p s → (r : Runs p q inv)
    → (code : Code) → CodeTyped p q (is_some inv.tx) r.set code → Leads s (machine.begins s i stamp sees inv code) new → IsTyped p new
begins-kept p s new i stamp sees inv q f t r (left.Begin next) k l =
    let after = record inv { view = calls_of s.calls sees; tx = Some (length s.txs); left = next } in
    let here = runs-typed p q after (record { is = r.is; running = r.running; set = r.set; slots = r.slots; typed = k }) in
    subst (IsTyped p) (sym l)
    (record { calls = call-more p s.calls _ t.calls (marker-fits p f); invocations = one-set p s.invocations i after t.invocations here })
begins-kept p s new i stamp sees inv q f t r _ k l = subst (IsTyped p) (sym l) t

values-all : (p : Prog) (ts : List Ty) (vs : Vals) → fields_fit p ts vs ≡ true → all_fit p ts (list_of vs) ≡ true
values-all p [] no_val h = refl
values-all p [] (also_val v vs) h = absurd (true≢false (sym h))
values-all p (t ∷ ts) no_val h = absurd (true≢false (sym h))
values-all p (t ∷ ts) (also_val v vs) h = let both = both_true (fits p t v) (fields_fit p ts vs) h in and-make (fits p t v) _ both.0 (values-all p ts vs both.1)

operates-kept : (p : Prog) (s new : State) (i stamp : ℕ) (inv : Invocation) (q : Proc) → Facts p → IsTyped p s → (r : Runs p q inv)
    → (tx : Option ℕ) (code : Code) → CodeTyped p q (is_some inv.tx) r.set code → Leads s (operates p s i stamp inv tx code) new → IsTyped p new
operates-kept p s new i stamp inv q f t r (Some tx) (left.Operate op args next) (decl, at, typed, k) l =
    let after = record inv { left = next } in
    let here = runs-typed p q after (record { is = r.is; running = r.running; set = r.set; slots = r.slots; typed = k }) in
    let fit = values-fit p s inv q (is_some inv.tx) r.set (holds p s inv q f t r) decl.args args typed (op-data p f op decl at) in
    subst (IsTyped p) (sym l)
    (record {
      calls = call-more p s.calls _ t.calls (decl, at, values-all p decl.args (values (at_invocation p s inv) [] args) fit);
      invocations = one-set p s.invocations i after t.invocations here;
    })
operates-kept p s new i stamp inv q f t r _ _ k l = subst (IsTyped p) (sym l) t

commits-kept : (p : Prog) (s new : State) (i : ℕ) (inv : Invocation) (q : Proc) → IsTyped p s → (r : Runs p q inv)
    → (tx : Option ℕ) (code : Code) → CodeTyped p q (is_some inv.tx) r.set code → Leads s (commits s i inv tx code) new → IsTyped p new
commits-kept p s new i inv q t r (Some tx) (left.End at next) k l =
    let after = record inv { view = machine.reading_set s.calls inv; tx = None; left = next } in
    let here = runs-typed p q after (record { is = r.is; running = r.running; set = r.set; slots = r.slots; typed = k }) in
    subst (IsTyped p) (sym l) (record { calls = t.calls; invocations = one-set p s.invocations i after t.invocations here })
commits-kept p s new i inv q t r _ _ k l = subst (IsTyped p) (sym l) t

-- # Ends

abbrev result-of : Standing → Option Val
result-of (Returned result) = result
result-of Running = None
result-of Failed = None

none-fits : (p : Prog) (o : Option Ty) → is_none o ≡ true → result_fits p o None ≡ true
none-fits p None h = refl
none-fits p (Some t) h = absurd (true≢false (sym h))

ended : (p : Prog) (inv : Invocation) (result : Option Val) → (t : IsTypedInvocation p inv) → result_fits p t.proc.result result ≡ true → IsTypedInvocation p (record inv { standing = Returned result })
ended p inv result t fit = record {
  proc = t.proc;
  is = t.is;
  counted = t.counted;
  slots = t.slots;
  result = λ found e. ap (result_fits p t.proc.result) (sym (ap result-of e)) ∙ fit;
  ready = λ e. absurd (not-running result e);
}

failed : (p : Prog) (inv : Invocation) → IsTypedInvocation p inv → IsTypedInvocation p (record inv { standing = Failed })
failed p inv t = record {
  proc = t.proc;
  is = t.is;
  counted = t.counted;
  slots = t.slots;
  result = λ found e. absurd (failed-returned found e);
  ready = λ e. absurd (not-failed e);
}

returns-kept : (p : Prog) (s new : State) (i : ℕ) (inv : Invocation) → Facts p → IsTyped p s → (ti : IsTypedInvocation p inv) → is_procedure p ti.proc ≡ true → (r : Runs p ti.proc inv)
    → (code : Code) → CodeTyped p ti.proc (is_some inv.tx) r.set code → Leads s (returns p s i inv code) new → IsTyped p new
returns-kept p s new i inv f t ti h r (left.Return at None) k l =
    subst (IsTyped p) (sym l) (replaced p s i _ t (ended p inv None ti (none-fits p ti.proc.result k)))
returns-kept p s new i inv f t ti h r (left.Return at (Some e)) k l =
    let w = value (at_invocation p s inv) [] e in
    let u = agrees-some _ ti.proc.result k in
    let fit = value-fits p s inv ti.proc (is_some inv.tx) r.set (holds p s inv ti.proc f t r) e u.0 (is-type _ u.0 u.2) (result-data p ti.proc u.0 h u.1) in
    subst (IsTyped p) (sym l) (replaced p s i _ t (ended p inv (Some w) ti (ap (λ o. result_fits p o (Some w)) u.1 ∙ fit)))
returns-kept p s new i inv f t ti h r _ k l = subst (IsTyped p) (sym l) t

-- # Each label

invoked-kept : (p : Prog) (s new : State) (proc : ℕ) (args : List Val) → Facts p → IsTyped p s → Free p s (Invoke proc args) → Leads s (invoked p s proc args) new → IsTyped p new
invoked-kept p s new proc args f t free l = go (slice_get p.procs proc) refl l
  where
    go : (o : Option Proc) → slice_get p.procs proc ≡ o → Leads s (option_map_or (λ q. Moved (record s { invocations = s.invocations ++ started q proc args ∷ [] })) o (Moved s)) new → IsTyped p new
    go None e l = subst (IsTyped p) (sym l) t
    go (Some q) e l =
        let h = procedure-of p f proc q e in
        let fit = unless-none (all_fit p q.params args) BadArgs (subst (λ o. unless (option_map_or (takes p args) o false) BadArgs ≡ None) e free.args_fit) in
        let after = started q proc args in
        let here = runs-typed p q after (record { is = e; running = refl; set = λ s. nat_lt s (length q.params); slots = start p q args (params-first p q h) fit; typed = proc-typed p q h }) in
        subst (IsTyped p) (sym l) (record { calls = t.calls; invocations = one-more p s.invocations after t.invocations here })

effect-kept : (p : Prog) (s : State) (label : Label) (new : State) → Facts p → IsTyped p s → Free p s label → Leads s (effect p s label) new → IsTyped p new
effect-kept p s (Invoke proc args) new f t free l = invoked-kept p s new proc args f t free l
effect-kept p s (Begin i stamp sees) new f t free l = elim (acted s new i _ l) [
  | inl same ↦ subst (IsTyped p) (sym same) t
  | inr a ↦
      let ti = t.invocations i a.0 a.1 in
      let r = typed-runs p a.0 ti (running-at s i a.0 a.1 free.stands_ready) in
      begins-kept p s new i stamp sees a.0 ti.proc f t r a.0.left r.typed a.2
]
effect-kept p s (Op i stamp) new f t free l = elim (acted s new i _ l) [
  | inl same ↦ subst (IsTyped p) (sym same) t
  | inr a ↦
      let ti = t.invocations i a.0 a.1 in
      let r = typed-runs p a.0 ti (running-at s i a.0 a.1 free.stands_ready) in
      operates-kept p s new i stamp a.0 ti.proc f t r a.0.tx a.0.left r.typed a.2
]
effect-kept p s (Local i) new f t free l = elim (acted s new i _ l) [
  | inl same ↦ subst (IsTyped p) (sym same) t
  | inr a ↦
      let ti = t.invocations i a.0 a.1 in
      let r = typed-runs p a.0 ti (running-at s i a.0 a.1 free.stands_ready) in
      local-kept p s new i a.0 ti.proc f t (procedure-of p f a.0.proc ti.proc ti.is) r a.0.left r.typed a.2
]
effect-kept p s (New i id) new f t free l = elim (acted s new i _ l) [
  | inl same ↦ subst (IsTyped p) (sym same) t
  | inr a ↦
      let ti = t.invocations i a.0 a.1 in
      let r = typed-runs p a.0 ti (running-at s i a.0 a.1 free.stands_ready) in
      let asked = unless-none (is_asked p id a.0.left) BadArgs (subst (λ o. option_and_then (λ (inv : Invocation). unless (is_asked p id inv.left) BadArgs) o ≡ None) a.1 free.args_fit) in
      made-kept p s new i id a.0 ti.proc t r a.0.left r.typed asked a.2
]
effect-kept p s (Commit i) new f t free l = elim (acted s new i _ l) [
  | inl same ↦ subst (IsTyped p) (sym same) t
  | inr a ↦
      let ti = t.invocations i a.0 a.1 in
      let r = typed-runs p a.0 ti (running-at s i a.0 a.1 free.stands_ready) in
      commits-kept p s new i a.0 ti.proc t r a.0.tx a.0.left r.typed a.2
]
effect-kept p s (Return i) new f t free l = elim (acted s new i _ l) [
  | inl same ↦ subst (IsTyped p) (sym same) t
  | inr a ↦
      let ti = t.invocations i a.0 a.1 in
      let r = typed-runs p a.0 ti (running-at s i a.0 a.1 free.stands_ready) in
      returns-kept p s new i a.0 f t ti (procedure-of p f a.0.proc ti.proc ti.is) r a.0.left r.typed a.2
]
effect-kept p s (Fail i) new f t free l = elim (acted s new i _ l) [
  | inl same ↦ subst (IsTyped p) (sym same) t
  | inr a ↦ subst (IsTyped p) (sym a.2) (replaced p s i _ t (failed p a.0 (t.invocations i a.0 a.1)))
]
effect-kept p s (Check sees) new f t free l = subst (IsTyped p) (sym (check-moves s new (at_snapshot p s (calls_of s.calls sees)) 0 p.invs l)) t

-- # The law

pub procs-typed : (p : Prog) → is_well_formed p ≡ true → (n : ℕ) (q : Proc) → At p.procs n q → CodeTyped p q false (λ s. nat_lt s (length q.params)) (proc_code q)
procs-typed p w n q at = proc-typed p q (procedure-of p (facts p w) n q at)

pub empty-typed : (p : Prog) (universe : ℕ) → IsTyped p (empty universe)
empty-typed p universe = record {
  calls = λ c call at. absurd (none-some call at);
  invocations = λ i inv at. absurd (none-some inv at);
}

pub step-typed : (p : Prog) → is_well_formed p ≡ true → (s : State) (label : Label) (new : State) → IsTyped p s → Leads s (step p s label) new → IsTyped p new
step-typed p w s label new t l = go (refusal p s label) refl l
  where
    go : (why : Option Why) → refusal p s label ≡ why → Leads s (unless_refused why (effect p s label)) new → IsTyped p new
    go None is l = effect-kept p s label new (facts p w) t (free p s label is) l
    go (Some why) is l = absurd l
