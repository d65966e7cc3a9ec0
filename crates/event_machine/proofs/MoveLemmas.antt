-- What an accepted label does: either nothing, or one of the moves below, with what the refusals leave.
use Rattle.std.proofs.Common.{◌≡◌, ◌≢◌, ℕ, zero, suc, ◌+◌, ◌<◌, ◌≤◌, max, Bool, true, false, ◌&&◌, ◌||◌, not, if◌then◌else◌, List, [], ◌∷◌, ◌++◌, length, filter, fold, find, min, refl, ap, sym, ◌∙◌, subst, arith, slice_get, nat_eq, nat_le, option_map, option_and_then, ◌⊎◌, inl, inr, true≢false, le_trans, eqb-true, eq-eqb, leb-true}
use Rattle.std.specs.List.{list_any, AllByRecursion}
use Rattle.std.specs.Option.{option_map_or}
use Rattle.std.specs.declared.option.Option.{Option}
use Rattle.std.specs.declared.option.Option.TheVariants.{None, Some}
use Rattle.std.proofs.lemmas.Option.{none-some}
use Rattle.rp_value.specs.declared.tables.Ty.TheVariants as ty
use Rattle.rp_value.specs.Values as val
use Rattle.rp_value.specs.Values.{Val, Vals, no_val, also_val}
use Rattle.rp_lang.specs.Exprs.{Ex, Exs}
use Rattle.rp_lang.specs.Programs.{Proc, Inv, Prog}
use Rattle.crdt_defs.specs.Calls.{Call}
use Rattle.crdt_defs.specs.Counting.{any_below, or_this, first_below}
use Rattle.crdt_defs.specs.Meaning.{is_before_one, stamp_of}
use Rattle.crdt_defs.specs.SameValues.{same_val}
use Rattle.crdt_defs.specs.Truths.{Reading, truth_val, list_of, value, values, truth, is_built}
use Rattle.crdt_defs.proofs.SameLemmas.{same_val_is}
use Rattle.event_machine.specs.Code as left
use Rattle.event_machine.specs.Code.{Code, CodeArms, no_code, also_code}
use Rattle.event_machine.specs.Fitting.{fits, all_fit, atoms, all_atoms, is_id, is_below}
use Rattle.event_machine.specs.Machine.{Standing, Running, Returned, Failed, Invocation, Tx, State, Label, Invoke, Begin, Op, Local, New, Commit, Return, Fail, Check, Assertion, Invariant, Why, NotRunning, BadArgs, UnknownId, NotCommitted, NotClosed, StampUsed, StampLow, NotFresh, OutOfUniverse, Answer, Moved, Violated, is_in, calls_of, own_calls, reading_set, at_snapshot, at_invocation, is_running, no_invocation, not_running, takes, is_asked, bad_args, is_known, unknown_id, is_committed, least_of, not_committed, view_of, is_missing, not_closed, reading_of, stamp_used, greatest_stamp, stamp_low, is_generated, not_fresh, out_of_universe, unless, first_why, refusals, refusal, on_invocation, with_invocation, started, invoked, begun, begins, operated, operates, with_slot, with_fields, into_arm, local, made, committed, commits, returns, checked, effect, unless_refused, step}
use Rattle.event_machine.specs.Runs.{Leads}
use Rattle.event_machine.specs.WellFormed.{At, In, Committed, Inside, StandsIn, InSlots, IsCausal, Next, NextArm, Fits, ArmsFit}
use Rattle.event_machine.proofs.PlaceLemmas.{at-lt, same-or, to-calls_of, to-own, to-call_is, or-cases, or-left, or-right, any-at}
use Rattle.event_machine.proofs.ReadLemmas.{From, value-from, any-left}
use Rattle.event_machine.proofs.SlotLemmas.{slots-set, slots-fields}
use Rattle.event_machine.proofs.ViewLemmas.{Sees}

-- # Tests

pub unless-none : (b : Bool) (why : Why) → unless b why ≡ None → b ≡ true
unless-none true why h = refl
unless-none false why h = cc

pub and-make : (a b : Bool) → a ≡ true → b ≡ true → (a && b) ≡ true
and-make true b h k = k
and-make false b h k = h

pub not-false : (b : Bool) → not b ≡ false → b ≡ true
not-false true h = refl
not-false false h = absurd (true≢false h)

pub not-true : (b : Bool) → not b ≡ true → b ≡ false
not-true true h = absurd (true≢false (sym h))
not-true false h = refl

pub false-not : (b : Bool) → b ≡ false → not b ≡ true
false-not true h = absurd (true≢false h)
false-not false h = refl

pub by-cases : (b : Bool) → (b ≡ true) ⊎ (b ≡ false)
by-cases true = inl refl
by-cases false = inr refl

map-none : {A B : Type 0} (f : A → B) (o : Option A) → option_map f o ≡ None → o ≡ None
map-none f None h = refl
map-none f (Some x) h = cc

any-below_at : (test : ℕ → Bool) (n c : ℕ) → c < n → test c ≡ true → any_below test n ≡ true
any-below_at test zero c l h = absurd (omega arith)
any-below_at test (suc n) c l h = elim (same-or c n) [
  | inl e ↦ or-left (test n) (any_below test n) (ap test (sym e) ∙ h)
  | inr d ↦ or-right (test n) (any_below test n) (any-below_at test n c (omega (arith, l, d)) h)
]

first-none : (test : ℕ → Bool) (n t : ℕ) → first_below test n ≡ None → t < n → test t ≡ false
first-none test zero t h l = absurd (omega arith)
first-none test (suc n) t h l = go (λ e l. first-none test n t e l) (first_below test n) refl h
  where
    here : (b : Bool) → test n ≡ b → (if b then Some n else None) ≡ None → test n ≡ false
    here true is e = absurd (none-some n (sym e))
    here false is e = is

    go : (first_below test n ≡ None → t < n → test t ≡ false) → (o : Option ℕ) → first_below test n ≡ o → or_this o (test n) n ≡ None → test t ≡ false
    go earlier (Some b) is e = absurd (none-some b (sym e))
    go earlier None is e = elim (same-or t n) [
      | inl same ↦ ap test same ∙ here (test n) refl e
      | inr d ↦ earlier is (omega (arith, l, d))
    ]

find-none : (test : Val → Bool) (xs : List Val) (x : Val) → find test xs ≡ None → list_any (same_val x) xs ≡ true → test x ≡ false
find-none test [] x h m = absurd (true≢false (sym m))
find-none test (y ∷ xs) x h m = go (λ h m. find-none test xs x h m) (test y) refl h
  where
    go : (find test xs ≡ None → list_any (same_val x) xs ≡ true → test x ≡ false) → (b : Bool) → test y ≡ b → (if b then Some y else find test xs) ≡ None → test x ≡ false
    go rest true e h = absurd (none-some y (sym h))
    go rest false e h = elim (or-cases (same_val x y) (list_any (same_val x) xs) m) [
      | inl q ↦ ap test (same_val_is x y q) ∙ e
      | inr q ↦ rest h q
    ]

filter-none : (test : ℕ → Bool) (xs : List ℕ) (t : ℕ) → least_of (filter test xs) ≡ None → is_in xs t ≡ true → test t ≡ false
filter-none test [] t h m = absurd (true≢false (sym m))
filter-none test (x ∷ xs) t h m = go (λ h m. filter-none test xs t h m) (test x) refl h
  where
    go : (least_of (filter test xs) ≡ None → is_in xs t ≡ true → test t ≡ false) → (b : Bool) → test x ≡ b → least_of (if b then x ∷ filter test xs else filter test xs) ≡ None → test t ≡ false
    go rest true e h = absurd (none-some (fold min x (filter test xs)) (sym h))
    go rest false e h = elim (or-cases (nat_eq x t) (is_in xs t) m) [
      | inl q ↦ ap test (sym (eqb-true x t q)) ∙ e
      | inr q ↦ rest h q
    ]

-- # What the refusals leave

pub record Acts (s : State) (i : ℕ) (inv : Invocation) (code : Code) : Type 0 where
  pub is : At s.invocations i inv
  pub running : inv.standing ≡ Running
  pub point : inv.left ≡ code

pub record Stamps (s : State) (stamp : ℕ) (past : ℕ → Bool) : Type 0 where
  pub unused : (c : ℕ) (call : Call) → At s.calls c call → call.stamp ≢ stamp
  pub high : (c : ℕ) (call : Call) → At s.calls c call → In c past → call.stamp ≤ stamp

-- the transactions that a label sees have the calls of a view
abbrev pub Keeps : State → List ℕ → (ℕ → Bool) → Type 0
Keeps s sees view = (c : ℕ) (call : Call) → At s.calls c call → In c view → is_in sees call.tx ≡ true

runs : (standing : Standing) → is_running standing ≡ true → standing ≡ Running
runs Running h = refl
runs (Returned r) h = absurd (true≢false (sym h))
runs Failed h = absurd (true≢false (sym h))

pub running-at : (s : State) (i : ℕ) (inv : Invocation) → At s.invocations i inv
    → option_and_then (λ inv. unless (is_running inv.standing) (NotRunning i)) (slice_get s.invocations i) ≡ None → inv.standing ≡ Running
running-at s i inv at h =
    runs inv.standing (unless-none (is_running inv.standing) (NotRunning i) (subst (λ o. option_and_then (λ inv. unless (is_running inv.standing) (NotRunning i)) o ≡ None) at h))

is-committed : (s : State) (t : ℕ) → is_committed s t ≡ true → Committed s.txs t
is-committed s t h = go (slice_get s.txs t) refl h
  where
    go : (o : Option Tx) → slice_get s.txs t ≡ o → option_map_or (λ (tx : Tx). tx.committed) o false ≡ true → Committed s.txs t
    go None e h = absurd (true≢false (sym h))
    go (Some tx) e h = (tx, e, h)

-- a transaction that isn't seen has a call of the view, or one before a call that is seen
missing : (s : State) (sees : List ℕ) (view : ℕ → Bool) (d : ℕ) (e : Call) → At s.calls d e → is_in sees e.tx ≡ false
    → (view d || is_before_one s.calls (calls_of s.calls sees) d) ≡ true → is_missing s sees view e.tx ≡ true
missing s sees view d e at unseen inner =
    and-make (not (is_in sees e.tx)) _ (false-not (is_in sees e.tx) unseen)
    (any-below_at _ (length s.calls) d (at-lt s.calls d e at) (and-make (own_calls s.calls (Some e.tx) d) _ (to-own s.calls e.tx d e at refl) inner))

tx-below : (s : State) (d : ℕ) (e : Call) → IsCausal s.calls s.txs → At s.calls d e → e.tx < length s.txs
tx-below s d e h at = let x = h.has_tx d e at in at-lt s.txs e.tx x.0 x.1

pub sees-ok : (s : State) (sees : List ℕ) (view : ℕ → Bool) → IsCausal s.calls s.txs
    → option_map NotCommitted (least_of (filter (λ tx. not (is_committed s tx)) sees)) ≡ None
    → option_map NotClosed (first_below (is_missing s sees view) (length s.txs)) ≡ None → Sees s sees
sees-ok s sees view h all closed = record {
  committed = λ t m. is-committed s t (not-false (is_committed s t) (filter-none (λ tx. not (is_committed s tx)) sees t (map-none NotCommitted _ all) m));
  closed = λ c d call e ac mc p ad. elim (by-cases (is_in sees e.tx)) [
    | inl yes' ↦ yes'
    | inr no' ↦
        let earlier = to-call_is s.calls (λ x. is_in x.past d) c call ac p in
        let inner : is_before_one s.calls (calls_of s.calls sees) d ≡ true =
        any-below_at _ (length s.calls) c (at-lt s.calls c call ac) (and-make (calls_of s.calls sees c) _ (to-calls_of s.calls sees c call ac mc) earlier) in
        absurd (true≢false (sym (missing s sees view d e ad no' (or-right (view d) _ inner)) ∙ first-none (is_missing s sees view) (length s.txs) e.tx (map-none NotClosed _ closed) (tx-below s d e h ad)))
  ];
}

keeps-view : (s : State) (sees : List ℕ) (view : ℕ → Bool) → IsCausal s.calls s.txs
    → option_map NotClosed (first_below (is_missing s sees view) (length s.txs)) ≡ None → Keeps s sees view
keeps-view s sees view h closed c call at m = elim (by-cases (is_in sees call.tx)) [
  | inl yes' ↦ yes'
  | inr no' ↦
      absurd (true≢false (sym (missing s sees view c call at no' (or-left (view c) _ m)) ∙ first-none (is_missing s sees view) (length s.txs) call.tx (map-none NotClosed _ closed) (tx-below s c call h at)))
]

max-left : (a b : ℕ) → a ≤ max b a
max-left a b = omega arith

max-right : (a b c : ℕ) → a ≤ b → a ≤ max b c
max-right a b c l = omega arith

greatest-above : (calls : List Call) (set : ℕ → Bool) (n c : ℕ) (call : Call) → c < n → At calls c call → In c set → call.stamp ≤ greatest_stamp calls set n
greatest-above calls set zero c call l at m = absurd (omega arith)
greatest-above calls set (suc n) c call l at m = elim (same-or c n) [
  | inl e ↦
      let is : (if set n then stamp_of (slice_get calls n) else 0) ≡ call.stamp =
      ap (λ t. if t then stamp_of (slice_get calls n) else 0) (ap set (sym e) ∙ m) ∙ ap stamp_of (ap (slice_get calls) (sym e) ∙ at) in
      subst (λ k. call.stamp ≤ max (greatest_stamp calls set n) k) (sym is) (max-left call.stamp (greatest_stamp calls set n))
  | inr d ↦ max-right call.stamp (greatest_stamp calls set n) _ (greatest-above calls set n c call (omega (arith, l, d)) at m)
]

stamps-ok : (s : State) (stamp : ℕ) (past : ℕ → Bool)
    → unless (not (list_any (λ call. nat_eq call.stamp stamp) s.calls)) (StampUsed stamp) ≡ None
    → unless (nat_le (greatest_stamp s.calls past (length s.calls)) stamp) (StampLow (greatest_stamp s.calls past (length s.calls))) ≡ None
    → Stamps s stamp past
stamps-ok s stamp past used low = record {
  unused = λ c call a e.
      true≢false (sym (any-at (λ (call : Call). nat_eq call.stamp stamp) s.calls c call a (eq-eqb call.stamp stamp e)) ∙ not-true _ (unless-none _ (StampUsed stamp) used));
  high = λ c call a m.
      le_trans (greatest-above s.calls past (length s.calls) c call (at-lt s.calls c call a) a m)
      (leb-true (greatest_stamp s.calls past (length s.calls)) stamp (unless-none _ (StampLow _) low));
}

-- # Moves

-- an action of the invocation alone
pub record IsLocal (p : Prog) (s : State) (inv : Invocation) (code : Code) (new : Invocation) : Type 0 where
  pub proc : new.proc ≡ inv.proc
  pub args : new.args ≡ inv.args
  pub view : new.view ≡ inv.view
  pub tx : new.tx ≡ inv.tx
  pub standing : new.standing ≡ inv.standing
  pub next : Next code new.left
  pub fits : (within : Bool) → Fits p within code → Fits p within new.left
  pub slots : (x : Val) → InSlots x new.slots → InSlots x inv.slots ⊎ From (at_invocation p s inv) x

-- what is left of an argument's values
abbrev pub ArgsKnown : Prog → State → List Val → Type 0
ArgsKnown p s args = (x : Val) → Inside x args → (is_below s.universe x ≡ true) × (is_id p x ≡ true → is_known s x ≡ true)

abbrev pub Does : Prog → State → Label → State → Type 0
Does p s (Invoke proc args) new =
    (q : Proc) × At p.procs proc q × (all_fit p q.params args ≡ true) × ArgsKnown p s args × (new ≡ record s { invocations = s.invocations ++ started q proc args ∷ [] })
Does p s (Begin i stamp sees) new =
    (inv : Invocation) × (next : Code) × Acts s i inv (left.Begin next) × Sees s sees × Keeps s sees inv.view × Stamps s stamp (calls_of s.calls sees)
    × (new ≡ begun s i stamp sees inv next)
Does p s (Op i stamp) new =
    (inv : Invocation) × (op : ℕ) × (args : Exs) × (next : Code) × (t : ℕ) × Acts s i inv (left.Operate op args next) × (inv.tx ≡ Some t)
    × Stamps s stamp (reading_set s.calls inv) × (new ≡ operated s i stamp inv t op (list_of (values (at_invocation p s inv) [] args)) next)
Does p s (Local i) new = (inv : Invocation) × (after : Invocation) × Acts s i inv inv.left × IsLocal p s inv inv.left after × (new ≡ with_invocation s i after)
Does p s (New i id) new =
    (inv : Invocation) × (slot : ℕ) × (of : ℕ) × (next : Code) × Acts s i inv (left.New slot of next) × (is_generated s id ≡ false) × (fits p (ty.Atom of) id ≡ true)
    × ((x : Val) → StandsIn x id → is_below s.universe x ≡ true)
    × (new ≡ record (with_invocation s i (record (with_slot inv slot id) { left = next })) { generated = s.generated ++ id ∷ [] })
Does p s (Commit i) new =
    (inv : Invocation) × (place : Code) × (next : Code) × (t : ℕ) × Acts s i inv place × ((within : Bool) → Fits p within place → (within ≡ true) × Fits p false next) × Next place next × (inv.tx ≡ Some t)
    × (new ≡ committed s i inv t next)
Does p s (Return i) new =
    (inv : Invocation) × (result : Option Ex) × Acts s i inv inv.left × ((within : Bool) → Fits p within inv.left → within ≡ false)
    × (new ≡ with_invocation s i (record inv { standing = Returned (option_map (value (at_invocation p s inv) []) result) }))
Does p s (Fail i) new = (inv : Invocation) × Acts s i inv inv.left × (new ≡ with_invocation s i (record inv { standing = Failed }))
Does p s (Check sees) new = ⊥

-- the label does nothing, or it does what it says
abbrev pub Moves : Prog → State → Label → State → Type 0
Moves p s label new = (new ≡ s) ⊎ Does p s label new

-- what each refusal says where none applies
pub record Free (p : Prog) (s : State) (label : Label) : Type 0 where
  pub there : no_invocation s label ≡ None
  pub stands_ready : not_running s label ≡ None
  pub args_fit : bad_args p s label ≡ None
  pub ids_known : unknown_id p s label ≡ None
  pub all_committed : not_committed s label ≡ None
  pub all_closed : not_closed s label ≡ None
  pub stamp_new : stamp_used s label ≡ None
  pub stamp_high : stamp_low s label ≡ None
  pub fresh : not_fresh s label ≡ None
  pub in_universe : out_of_universe s label ≡ None

none_applies : (whys : List (Option Why)) → first_why whys ≡ None → AllByRecursion (λ why. why ≡ None) whys
none_applies [] h = tt
none_applies (None ∷ others) h = (refl, none_applies others h)
none_applies (Some why ∷ others) h = cc

pub free : (p : Prog) (s : State) (label : Label) → refusal p s label ≡ None → Free p s label
free p s label h =
    let all = none_applies (refusals p s label) h in
    record {
      there = all.0;
      stands_ready = all.1.0;
      args_fit = all.1.1.1.0;
      ids_known = all.1.1.1.1.0;
      all_committed = all.1.1.1.1.1.0;
      all_closed = all.1.1.1.1.1.1.0;
      stamp_new = all.1.1.1.1.1.1.1.0;
      stamp_high = all.1.1.1.1.1.1.1.1.0;
      fresh = all.1.1.1.1.1.1.1.1.1.0;
      in_universe = all.1.1.1.1.1.1.1.1.1.1.0;
    }

-- an action of an invocation that is there
pub acted : (s new : State) (i : ℕ) (act : Invocation → Answer) → Leads s (on_invocation s i act) new
    → (new ≡ s) ⊎ ((inv : Invocation) × At s.invocations i inv × Leads s (act inv) new)
acted s new i act l = go (slice_get s.invocations i) refl l
  where
    go : (o : Option Invocation) → slice_get s.invocations i ≡ o → Leads s (option_map_or act o (Moved s)) new → (new ≡ s) ⊎ ((inv : Invocation) × At s.invocations i inv × Leads s (act inv) new)
    go None e l = inl l
    go (Some inv) e l = inr (inv, e, l)

-- # Local actions

reading : Prog → State → Invocation → Reading
reading p s inv = at_invocation p s inv

chosen-next : (b : Bool) (then_ else_ : Code) → ((if b then then_ else else_) ≡ then_) ⊎ ((if b then then_ else else_) ≡ else_)
chosen-next true then_ else_ = inl refl
chosen-next false then_ else_ = inr refl

chosen-fits : (p : Prog) (b within : Bool) (then_ else_ : Code) → Fits p within then_ → Fits p within else_ → Fits p within (if b then then_ else else_)
chosen-fits p true within then_ else_ f g = f
chosen-fits p false within then_ else_ f g = g

truth-from : (r : Reading) (x : Val) (b : Bool) → StandsIn x (truth_val b) → From r x
truth-from r x true h = absurd (true≢false (sym h))
truth-from r x false h = absurd (true≢false (sym h))

-- what a local action leads to
abbrev LocalTo : Prog → State → ℕ → Invocation → Code → State → Type 0
LocalTo p s i inv code new = (new ≡ s) ⊎ ((after : Invocation) × IsLocal p s inv code after × (new ≡ with_invocation s i after))

same-fields : (inv : Invocation) (places : List ℕ) (v : Val) (body : Code) → record (with_fields inv places v) { left = body } ≡ record inv { slots = (with_fields inv places v).slots; left = body }
same-fields inv places (val.Con con args) body = refl
same-fields inv places (val.Int n) body = refl
same-fields inv places (val.Str bytes) body = refl
same-fields inv places (val.Atom of n) body = refl
same-fields inv places (val.Call c) body = refl
same-fields inv places (val.Inv j) body = refl

arm-moves : (p : Prog) (s new : State) (i : ℕ) (inv : Invocation) (v : Val) → ((x : Val) → StandsIn x v → From (at_invocation p s inv) x) → (arms : CodeArms) → Leads s (into_arm s i inv v arms) new
    → (new ≡ s) ⊎ ((after : Invocation) × (body : Code) × NextArm arms body × ((within : Bool) → ArmsFit p within arms → Fits p within body) × (after ≡ record inv { slots = after.slots; left = body }) × ((x : Val) → InSlots x after.slots → InSlots x inv.slots ⊎ From (at_invocation p s inv) x) × (new ≡ with_invocation s i after))
arm-moves p s new i inv v from no_code l = inl l
arm-moves p s new i inv v from (also_code con places body others) l =
    go (λ l. arm-moves p s new i inv v from others l) (is_built con v) l
  where
    Result : CodeArms → Type 0
    Result arms = (new ≡ s) ⊎ ((after : Invocation) × (body : Code) × NextArm arms body × ((within : Bool) → ArmsFit p within arms → Fits p within body) × (after ≡ record inv { slots = after.slots; left = body }) × ((x : Val) → InSlots x after.slots → InSlots x inv.slots ⊎ From (at_invocation p s inv) x) × (new ≡ with_invocation s i after))

    go : (Leads s (into_arm s i inv v others) new → Result others) → (b : Bool)
        → Leads s (if b then Moved (with_invocation s i (record (with_fields inv places v) { left = body })) else into_arm s i inv v others) new
        → Result (also_code con places body others)
    go rest true l = inr (
      record inv { slots = (with_fields inv places v).slots; left = body },
      body,
      inl refl,
      (λ within fit. fit.0),
      refl,
      (λ x m. elim (slots-fields x inv places v m) [ inl old ↦ inl old | inr here ↦ inr (from x here) ]),
      l ∙ ap (with_invocation s i) (same-fields inv places v body),
    )
    go rest false l = elim (rest l) [
      | inl same ↦ inl same
      | inr r ↦ inr (r.0, r.1, inr r.2, (λ within fit. r.3 within fit.1), r.4, r.5, r.6)
    ]

local-moves : (p : Prog) (s new : State) (i : ℕ) (inv : Invocation) (code : Code) → Leads s (local p s i inv code) new → LocalTo p s i inv code new
local-moves p s new i inv (left.Put slot e next) l = inr (
  record (with_slot inv slot (value (at_invocation p s inv) [] e)) { left = next },
  record {
    proc = refl;
    args = refl;
    view = refl;
    tx = refl;
    standing = refl;
    next = refl;
    fits = λ within fit. fit;
    slots = λ x m. elim (slots-set x inv.slots slot (value (at_invocation p s inv) [] e) m) [
      | inl old ↦ inl old
      | inr here ↦ inr (value-from (at_invocation p s inv) x e here)
    ];
  },
  l,
)
local-moves p s new i inv (left.Decide slot f next) l =
    let v = truth_val (truth (at_invocation p s inv) [] f) in
    inr (
      record (with_slot inv slot v) { left = next },
      record {
        proc = refl;
        args = refl;
        view = refl;
        tx = refl;
        standing = refl;
        next = refl;
        fits = λ within fit. fit;
        slots = λ x m. elim (slots-set x inv.slots slot v m) [
          | inl old ↦ inl old
          | inr here ↦ inr (truth-from (at_invocation p s inv) x (truth (at_invocation p s inv) [] f) here)
        ];
      },
      l,
    )
local-moves p s new i inv (left.Assert at f next) l = asserted (truth (at_invocation p s inv) [] f) l
  where
    asserted : (b : Bool) → Leads s (if b then Moved (with_invocation s i (record inv { left = next })) else Violated (Assertion at)) new → LocalTo p s i inv (left.Assert at f next) new
    asserted true l = inr (
      record inv { left = next },
      record { proc = refl; args = refl; view = refl; tx = refl; standing = refl; next = refl; fits = λ within fit. fit; slots = λ x m. inl m },
      l,
    )
    asserted false l = absurd l
local-moves p s new i inv (left.Choose f then_ else_) l =
    let b = truth (at_invocation p s inv) [] f in
    inr (
      record inv { left = (if b then then_ else else_) },
      record {
        proc = refl;
        args = refl;
        view = refl;
        tx = refl;
        standing = refl;
        next = chosen-next b then_ else_;
        fits = λ within fit. chosen-fits p b within then_ else_ fit.0 fit.1;
        slots = λ x m. inl m;
      },
      l,
    )
local-moves p s new i inv (left.Match on arms) l = elim (arm-moves p s new i inv (value (at_invocation p s inv) [] on) (λ x m. value-from (at_invocation p s inv) x on m) arms l) [
  | inl same ↦ inl same
  | inr r ↦ inr (
    r.0,
    record {
      proc = ap (λ (v : Invocation). v.proc) r.4;
      args = ap (λ (v : Invocation). v.args) r.4;
      view = ap (λ (v : Invocation). v.view) r.4;
      tx = ap (λ (v : Invocation). v.tx) r.4;
      standing = ap (λ (v : Invocation). v.standing) r.4;
      next = subst (NextArm arms) (sym (ap (λ (v : Invocation). v.left) r.4)) r.2;
      fits = λ within fit. subst (Fits p within) (sym (ap (λ (v : Invocation). v.left) r.4)) (r.3 within fit);
      slots = r.5;
    },
    r.6,
  )
]
local-moves p s new i inv _ l = inl l

-- # Each label

invoke-moves : (p : Prog) (s new : State) (proc : ℕ) (args : List Val) → Free p s (Invoke proc args) → Leads s (invoked p s proc args) new → Moves p s (Invoke proc args) new
invoke-moves p s new proc args f l = go (slice_get p.procs proc) refl l
  where
    known : ArgsKnown p s args
    known x m = (
      not-false (is_below s.universe x) (find-none (λ v. not (is_below s.universe v)) (all_atoms args) x (map-none OutOfUniverse _ f.in_universe) m),
      λ id. not-false (is_known s x) (and-not (is_id p x) (is_known s x) id (find-none (λ v. is_id p v && not (is_known s v)) (all_atoms args) x (map-none UnknownId _ f.ids_known) m)),
    )
      where
        and-not : (a b : Bool) → a ≡ true → (a && not b) ≡ false → not b ≡ false
        and-not true b h k = k
        and-not false b h k = absurd (true≢false (sym h))

    go : (o : Option Proc) → slice_get p.procs proc ≡ o → Leads s (option_map_or (λ q. Moved (record s { invocations = s.invocations ++ started q proc args ∷ [] })) o (Moved s)) new → Moves p s (Invoke proc args) new
    go None e l = inl l
    go (Some q) e l =
        inr (q, e, unless-none (all_fit p q.params args) BadArgs (subst (λ o. unless (option_map_or (takes p args) o false) BadArgs ≡ None) e f.args_fit), known, l)

begin-moves : (p : Prog) (s new : State) (i stamp : ℕ) (sees : List ℕ) → IsCausal s.calls s.txs → Free p s (Begin i stamp sees) → Leads s (effect p s (Begin i stamp sees)) new → Moves p s (Begin i stamp sees) new
begin-moves p s new i stamp sees h f l = elim (acted s new i _ l) [
  | inl same ↦ inl same
  | inr a ↦ go a.0 a.1 a.0.left refl a.2
]
  where
    go : (inv : Invocation) → At s.invocations i inv → (code : Code) → inv.left ≡ code → Leads s (begins s i stamp sees inv code) new → Moves p s (Begin i stamp sees) new
    go inv at (left.Begin next) e l =
        let closed = subst (λ o. option_map NotClosed (first_below (is_missing s sees (view_of o)) (length s.txs)) ≡ None) at f.all_closed in
        inr (
          inv,
          next,
          record { is = at; running = running-at s i inv at f.stands_ready; point = e },
          sees-ok s sees inv.view h f.all_committed closed,
          keeps-view s sees inv.view h closed,
          stamps-ok s stamp (calls_of s.calls sees) f.stamp_new f.stamp_high,
          l,
        )
    go inv at _ e l = inl l

op-moves : (p : Prog) (s new : State) (i stamp : ℕ) → Free p s (Op i stamp) → Leads s (effect p s (Op i stamp)) new → Moves p s (Op i stamp) new
op-moves p s new i stamp f l = elim (acted s new i _ l) [
  | inl same ↦ inl same
  | inr a ↦ go a.0 a.1 a.0.tx refl a.0.left refl a.2
]
  where
    go : (inv : Invocation) → At s.invocations i inv → (tx : Option ℕ) → inv.tx ≡ tx → (code : Code) → inv.left ≡ code → Leads s (operates p s i stamp inv tx code) new → Moves p s (Op i stamp) new
    go inv at (Some t) is (left.Operate op args next) e l = inr (
      inv,
      op,
      args,
      next,
      t,
      record { is = at; running = running-at s i inv at f.stands_ready; point = e },
      is,
      stamps-ok s stamp (reading_set s.calls inv) f.stamp_new
          (subst (λ o. unless (nat_le (greatest_stamp s.calls (reading_of s.calls o) (length s.calls)) stamp) (StampLow (greatest_stamp s.calls (reading_of s.calls o) (length s.calls))) ≡ None) at f.stamp_high),
      l,
    )
    go inv at _ is _ e l = inl l

new-moves : (p : Prog) (s new : State) (i : ℕ) (id : Val) → Free p s (New i id) → Leads s (effect p s (New i id)) new → Moves p s (New i id) new
new-moves p s new i id f l = elim (acted s new i _ l) [
  | inl same ↦ inl same
  | inr a ↦ go a.0 a.1 a.0.left refl a.2
]
  where
    go : (inv : Invocation) → At s.invocations i inv → (code : Code) → inv.left ≡ code → Leads s (made s i id inv code) new → Moves p s (New i id) new
    go inv at (left.New slot of next) e l = inr (
      inv,
      slot,
      of,
      next,
      record { is = at; running = running-at s i inv at f.stands_ready; point = e },
      not-true (is_generated s id) (unless-none (not (is_generated s id)) (NotFresh id) f.fresh),
      ap (is_asked p id) (sym e) ∙ unless-none (is_asked p id inv.left) BadArgs (subst (λ o. option_and_then (λ inv. unless (is_asked p id inv.left) BadArgs) o ≡ None) at f.args_fit),
      (λ x m. not-false (is_below s.universe x) (find-none (λ v. not (is_below s.universe v)) (all_atoms (id ∷ [])) x (map-none OutOfUniverse _ f.in_universe) (any-left x (atoms id) [] m))),
      l,
    )
    go inv at _ e l = inl l

commit-moves : (p : Prog) (s new : State) (i : ℕ) → Free p s (Commit i) → Leads s (effect p s (Commit i)) new → Moves p s (Commit i) new
commit-moves p s new i f l = elim (acted s new i _ l) [
  | inl same ↦ inl same
  | inr a ↦ go a.0 a.1 a.0.tx refl a.0.left refl a.2
]
  where
    go : (inv : Invocation) → At s.invocations i inv → (tx : Option ℕ) → inv.tx ≡ tx → (code : Code) → inv.left ≡ code → Leads s (commits s i inv tx code) new → Moves p s (Commit i) new
    go inv at (Some t) is (left.End place next) e l = inr (
      inv,
      left.End place next,
      next,
      t,
      record { is = at; running = running-at s i inv at f.stands_ready; point = e },
      (λ within fit. fit),
      refl,
      is,
      l,
    )
    go inv at _ is _ e l = inl l

return-moves : (p : Prog) (s new : State) (i : ℕ) → Free p s (Return i) → Leads s (effect p s (Return i)) new → Moves p s (Return i) new
return-moves p s new i f l = elim (acted s new i _ l) [
  | inl same ↦ inl same
  | inr a ↦ go a.0 a.1 a.0.left refl a.2
]
  where
    go : (inv : Invocation) → At s.invocations i inv → (code : Code) → inv.left ≡ code → Leads s (returns p s i inv code) new → Moves p s (Return i) new
    go inv at (left.Return place result) e l = inr (
      inv,
      result,
      record { is = at; running = running-at s i inv at f.stands_ready; point = refl },
      (λ within fit. subst (Fits p within) e fit),
      l,
    )
    go inv at _ e l = inl l

local-label : (p : Prog) (s new : State) (i : ℕ) → Free p s (Local i) → Leads s (effect p s (Local i)) new → Moves p s (Local i) new
local-label p s new i f l = elim (acted s new i _ l) [
  | inl same ↦ inl same
  | inr a ↦ elim (local-moves p s new i a.0 a.0.left a.2) [
    | inl same ↦ inl same
    | inr m ↦ inr (a.0, m.0, record { is = a.1; running = running-at s i a.0 a.1 f.stands_ready; point = refl }, m.1, m.2)
  ]
]

fail-moves : (p : Prog) (s new : State) (i : ℕ) → Free p s (Fail i) → Leads s (effect p s (Fail i)) new → Moves p s (Fail i) new
fail-moves p s new i f l = elim (acted s new i _ l) [
  | inl same ↦ inl same
  | inr a ↦ inr (a.0, record { is = a.1; running = running-at s i a.0 a.1 f.stands_ready; point = refl }, a.2)
]

pub check-moves : (s new : State) (r : Reading) (n : ℕ) (invs : List Inv) → Leads s (checked r n invs) new → new ≡ s
check-moves s new r n [] l = l
check-moves s new r n (inv ∷ others) l = go (λ l. check-moves s new r (n + 1) others l) (truth r [] inv.body) l
  where
    go : (Leads s (checked r (n + 1) others) new → new ≡ s) → (b : Bool) → Leads s (if b then checked r (n + 1) others else Violated (Invariant n)) new → new ≡ s
    go rest true l = rest l
    go rest false l = absurd l

effect-moves : (p : Prog) (s : State) (label : Label) (new : State) → IsCausal s.calls s.txs → Free p s label → Leads s (effect p s label) new → Moves p s label new
effect-moves p s (Invoke proc args) new h f l = invoke-moves p s new proc args f l
effect-moves p s (Begin i stamp sees) new h f l = begin-moves p s new i stamp sees h f l
effect-moves p s (Op i stamp) new h f l = op-moves p s new i stamp f l
effect-moves p s (Local i) new h f l = local-label p s new i f l
effect-moves p s (New i id) new h f l = new-moves p s new i id f l
effect-moves p s (Commit i) new h f l = commit-moves p s new i f l
effect-moves p s (Return i) new h f l = return-moves p s new i f l
effect-moves p s (Fail i) new h f l = fail-moves p s new i f l
effect-moves p s (Check sees) new h f l = inl (check-moves s new (at_snapshot p s (calls_of s.calls sees)) 0 p.invs l)

-- an accepted label is a move
pub step-moves : (p : Prog) (s : State) (label : Label) (new : State) → IsCausal s.calls s.txs → Leads s (step p s label) new → Moves p s label new
step-moves p s label new h l = go (refusal p s label) refl l
  where
    go : (why : Option Why) → refusal p s label ≡ why → Leads s (unless_refused why (effect p s label)) new → Moves p s label new
    go None is l = effect-moves p s label new h (free p s label is) l
    go (Some why) is l = absurd l
