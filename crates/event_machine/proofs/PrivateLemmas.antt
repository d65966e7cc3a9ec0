-- What its own labels do to an identifier that is private to an invocation.
use Rattle.std.proofs.Common.{◌≡◌, ℕ, true, false, List, [], ◌∷◌, ◌++◌, length, refl, ap, sym, ◌∙◌, subst, slice_get, slice_set, ◌⊎◌, inl, inr, true≢false, eqb-true}
use Rattle.std.specs.List.{list_any}
use Rattle.std.specs.declared.option.Option.{Option}
use Rattle.std.specs.declared.option.Option.TheVariants.{None, Some}
use Rattle.std.proofs.lemmas.Option.{none-some, same_Some}
use Rattle.rp_value.specs.declared.tables.Ty.TheVariants as ty
use Rattle.rp_value.specs.Values as val
use Rattle.rp_value.specs.Values.{Val}
use Rattle.rp_lang.specs.Programs.{Prog}
use Rattle.crdt_defs.specs.Calls.{Call}
use Rattle.crdt_defs.specs.SameValues.{same_val}
use Rattle.crdt_defs.specs.Truths.{list_of, values}
use Rattle.crdt_defs.proofs.SameLemmas.{same_val_itself}
use Rattle.event_machine.specs.Code as left
use Rattle.event_machine.specs.Code.{Code}
use Rattle.event_machine.specs.Fitting.{fits, is_id, names_ids}
use Rattle.event_machine.specs.Machine.{Failed, Invocation, State, Label, Invoke, Begin, Op, Local, New, Commit, Return, Fail, Check, calls_of, reading_set, at_invocation, named, stands_in, is_generated, with_invocation, with_slot, begun, operated, committed, step}
use Rattle.event_machine.specs.Runs.{Leads}
use Rattle.event_machine.specs.WellFormed.{At, Inside, IsWellFormed}
use Rattle.event_machine.specs.Growth.{IsPrivate, IsValid}
use Rattle.event_machine.specs.OldCalls.{is_quiet}
use Rattle.event_machine.proofs.PlaceLemmas.{at-push, at-one, at-set, at-set_same, or-left}
use Rattle.event_machine.proofs.ReadLemmas.{any-left, any-right}
use Rattle.event_machine.proofs.ViewLemmas.{marker_call}
use Rattle.event_machine.proofs.MoveLemmas.{Does, step-moves}
use Rattle.event_machine.proofs.KnownLemmas.{changed}
use Rattle.event_machine.proofs.KeptLemmas.{is-none, fits-at, own_call}

pub private-set : (s new : State) (i : ℕ) (inv after : Invocation) (x : Val) → At s.invocations i inv → after.args ≡ inv.args → (stands_in x after.standing ≡ true → stands_in x inv.standing ≡ true)
    → new.invocations ≡ slice_set s.invocations i after → (is_generated s x ≡ true → is_generated new x ≡ true)
    → ((c : ℕ) (call : Call) → At new.calls c call → Inside x call.args → after.tx ≡ Some call.tx)
    → IsPrivate s i x → IsPrivate new i x
private-set s new i inv after x at args standing is gen calls q = record {
  generated = gen q.generated;
  args = λ j v a st. elim (at-set s.invocations i after j v (subst (λ xs. At xs j v) is a)) [
    | inl e ↦ q.args i inv at (subst (Inside x) (ap (λ (v : Invocation). v.args) e.1 ∙ args) st)
    | inr e ↦ q.args j v e.1 st
  ];
  results = λ j v a st. elim (at-set s.invocations i after j v (subst (λ xs. At xs j v) is a)) [
    | inl e ↦ q.results i inv at (standing (ap (stands_in x) (sym (ap (λ (v : Invocation). v.standing) e.1)) ∙ st))
    | inr e ↦ q.results j v e.1 st
  ];
  slots = λ j v a st. elim (at-set s.invocations i after j v (subst (λ xs. At xs j v) is a)) [
    | inl e ↦ e.0
    | inr e ↦ q.slots j v e.1 st
  ];
  calls = λ c call a st. (after, subst (λ xs. At xs i after) (sym is) (at-set_same s.invocations i after inv at), calls c call a st);
}

-- a call that holds a private identifier is of the open transaction
pub of-open : (s : State) (i : ℕ) (inv : Invocation) (x : Val) → At s.invocations i inv → IsPrivate s i x → (c : ℕ) (call : Call) → At s.calls c call → Inside x call.args → inv.tx ≡ Some call.tx
of-open s i inv x at q c call a st =
    let k = q.calls c call a st in
    ap (λ (v : Invocation). v.tx) (at-one s.invocations i inv k.0 at k.1) ∙ k.2

-- the invocation with other slots, and this left
abbrev pub placed : Invocation → List (Option Val) → Code → Invocation
placed inv slots next = record inv { slots = slots; left = next }

pub private-local : (s : State) (i : ℕ) (inv : Invocation) (slots : List (Option Val)) (next : Code) (gen : List Val) (x : Val) → At s.invocations i inv
    → (is_generated s x ≡ true → list_any (same_val x) gen ≡ true) → IsPrivate s i x → IsPrivate (changed s i (placed inv slots next) gen) i x
private-local s i inv slots next gen x at grow q =
    private-set s (changed s i (placed inv slots next) gen) i inv (placed inv slots next) x at refl (λ st. st) refl grow (of-open s i inv x at q) q

-- what fits an id type is an identifier
pub id-of : (p : Prog) (of : ℕ) (id : Val) → names_ids (slice_get p.types.atoms of) ≡ true → fits p (ty.Atom of) id ≡ true → is_id p id ≡ true
id-of p of (val.Atom t n) names fit = ap (λ k. names_ids (slice_get p.types.atoms k)) (eqb-true t of fit) ∙ names
id-of p of _ names fit = absurd (true≢false (sym fit))

-- a new identifier
pub private-new : (p : Prog) (s : State) (i : ℕ) (inv : Invocation) (slots : List (Option Val)) (next : Code) (id : Val) → IsWellFormed p s → At s.invocations i inv
    → is_id p id ≡ true → is_generated s id ≡ false → same_val id id ≡ true → IsPrivate (changed s i (placed inv slots next) (s.generated ++ id ∷ [])) i id
private-new p s i inv slots next id h at is fresh same =
    let after = placed inv slots next in
    record {
      generated = any-right id s.generated (id ∷ []) (or-left (same_val id id) false same);
      args = λ j v a st. elim (at-set s.invocations i after j v a) [
        | inl e ↦ nowhere ((h.known.in_args i id inv at (subst (λ (v : Invocation). Inside id v.args) e.1 st)).generated is)
        | inr e ↦ nowhere ((h.known.in_args j id v e.1 st).generated is)
      ];
      results = λ j v a st. elim (at-set s.invocations i after j v a) [
        | inl e ↦ nowhere ((h.known.in_results i id inv at (ap (stands_in id) (sym (ap (λ (v : Invocation). v.standing) e.1)) ∙ st)).generated is)
        | inr e ↦ nowhere ((h.known.in_results j id v e.1 st).generated is)
      ];
      slots = λ j v a st. elim (at-set s.invocations i after j v a) [
        | inl e ↦ e.0
        | inr e ↦ absurd (nowhere ((h.known.in_slots j id v e.1 st).generated is))
      ];
      calls = λ d call a st. absurd (nowhere ((h.known.in_calls d id call a st).generated is));
    }
  where
    nowhere : is_generated s id ≡ true → ⊥
    nowhere m = true≢false (sym m ∙ fresh)

-- # The labels of the invocation itself

-- where it neither commits nor returns, what is private stays so
does-private : (p : Prog) (s : State) (label : Label) (new : State) (i : ℕ) (x : Val) → IsValid p s → is_quiet label ≡ true → named label ≡ Some i → Does p s label new
    → IsPrivate s i x → IsPrivate new i x
does-private p s (Begin j stamp sees) new i x valid quiet names m q =
    let e = same_Some j i names in
    let v : Invocation = m.0 in
    let mark : Call = marker_call s j stamp sees in
    let after : Invocation = record v { view = calls_of s.calls sees; tx = Some (length s.txs); left = m.1 } in
    let at : At s.invocations i v = subst (λ j. At s.invocations j v) e m.2.is in
    let none : v.tx ≡ None = is-none v.tx (fits-at p s j v (left.Begin m.1) valid.formed m.2).0 in
    subst (λ n. IsPrivate n i x) (sym m.6) (private-set s (begun s j stamp sees v m.1) i v after x at refl (λ st. st) (ap (λ j. slice_set s.invocations j after) e) (λ g. g)
    (λ c call a st. elim (at-push s.calls mark c call a) [
      | inl k ↦ absurd (none-some call.tx (sym none ∙ of-open s i v x at q c call k st))
      | inr k ↦ absurd (true≢false (sym (subst (λ (y : Call). Inside x y.args) k.1 st)))
    ]) q)
does-private p s (Op j stamp) new i x valid quiet names m q =
    let e = same_Some j i names in
    let v : Invocation = m.0 in
    let vs : List Val = list_of (values (at_invocation p s v) [] m.2) in
    let after : Invocation = record v { left = m.3 } in
    let at : At s.invocations i v = subst (λ j. At s.invocations j v) e m.5.is in
    subst (λ n. IsPrivate n i x) (sym m.8) (private-set s (operated s j stamp v m.4 m.1 vs m.3) i v after x at refl (λ st. st) (ap (λ j. slice_set s.invocations j after) e) (λ g. g)
    (λ c call a st. elim (at-push s.calls (own_call s j stamp v m.4 m.1 vs) c call a) [
      | inl k ↦ of-open s i v x at q c call k st
      | inr k ↦ m.6 ∙ ap (λ (y : Call). Some y.tx) (sym k.1)
    ]) q)
does-private p s (Local j) new i x valid quiet names m q =
    let e = same_Some j i names in
    let v : Invocation = m.0 in
    let after : Invocation = m.1 in
    let at : At s.invocations i v = subst (λ j. At s.invocations j v) e m.2.is in
    subst (λ n. IsPrivate n i x) (sym m.4) (private-set s (with_invocation s j after) i v after x at m.3.args
    (λ st. ap (stands_in x) (sym m.3.standing) ∙ st) (ap (λ j. slice_set s.invocations j after) e) (λ g. g)
    (λ c call a st. m.3.tx ∙ of-open s i v x at q c call a st) q)
does-private p s (New j id) new i x valid quiet names m q =
    let e = same_Some j i names in
    let v : Invocation = m.0 in
    let after : Invocation = record (with_slot v m.1 id) { left = m.3 } in
    let at : At s.invocations i v = subst (λ j. At s.invocations j v) e m.4.is in
    subst (λ n. IsPrivate n i x) (sym m.8) (private-set s (changed s j after (s.generated ++ id ∷ [])) i v after x at refl (λ st. st) (ap (λ j. slice_set s.invocations j after) e)
    (λ g. any-left x s.generated (id ∷ []) g) (λ c call a st. of-open s i v x at q c call a st) q)
does-private p s (Fail j) new i x valid quiet names m q =
    let e = same_Some j i names in
    let v : Invocation = m.0 in
    let after : Invocation = record v { standing = Failed } in
    let at : At s.invocations i v = subst (λ j. At s.invocations j v) e m.1.is in
    subst (λ n. IsPrivate n i x) (sym m.2) (private-set s (with_invocation s j after) i v after x at refl (λ st. absurd (true≢false (sym st)))
    (ap (λ j. slice_set s.invocations j after) e) (λ g. g) (λ c call a st. of-open s i v x at q c call a st) q)
does-private p s (Invoke proc args) new i x valid quiet names m q = absurd (true≢false (sym quiet))
does-private p s (Commit j) new i x valid quiet names m q = absurd (true≢false (sym quiet))
does-private p s (Return j) new i x valid quiet names m q = absurd (true≢false (sym quiet))
does-private p s (Check sees) new i x valid quiet names m q = absurd (true≢false (sym quiet))

pub quiet-private : (p : Prog) (s : State) (label : Label) (new : State) (i : ℕ) (x : Val) → IsValid p s → is_quiet label ≡ true → named label ≡ Some i
    → Leads s (step p s label) new → IsPrivate s i x → IsPrivate new i x
quiet-private p s label new i x valid quiet names l q = elim (step-moves p s label new valid.formed.history l) [
  | inl same ↦ subst (λ n. IsPrivate n i x) (sym same) q
  | inr m ↦ does-private p s label new i x valid quiet names m q
]

-- a commit tells no identifier that stands in no call
pub commit-private : (p : Prog) (s new : State) (i : ℕ) (x : Val) → IsValid p s → Leads s (step p s (Commit i)) new
    → ((c : ℕ) (call : Call) → At s.calls c call → Inside x call.args → ⊥) → IsPrivate s i x → IsPrivate new i x
commit-private p s new i x valid l nowhere q = elim (step-moves p s (Commit i) new valid.formed.history l) [
  | inl same ↦ subst (λ n. IsPrivate n i x) (sym same) q
  | inr m ↦
      let v : Invocation = m.0 in
      let after : Invocation = record v { view = reading_set s.calls v; tx = None; left = m.2 } in
      subst (λ n. IsPrivate n i x) (sym m.8) (private-set s (committed s i v m.3 m.2) i v after x m.4.is refl (λ st. st) refl (λ g. g)
      (λ c call a st. absurd (nowhere c call a st)) q)
]

pub new-private : (p : Prog) (s new : State) (i : ℕ) (id : Val) → IsValid p s → Leads s (step p s (New i id)) new → (new ≡ s) ⊎ IsPrivate new i id
new-private p s new i id valid l = elim (step-moves p s (New i id) new valid.formed.history l) [
  | inl same ↦ inl same
  | inr m ↦
      let v : Invocation = m.0 in
      let fit = fits-at p s i v (left.New m.1 m.2 m.3) valid.formed m.4 in
      inr (subst (λ n. IsPrivate n i id) (sym m.8)
      (private-new p s i v (slice_set v.slots m.1 (Some id)) m.3 id valid.formed m.4.is (id-of p m.2 id fit.0 m.6) m.5 (same_val_itself id)))
]
