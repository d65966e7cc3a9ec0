-- Each label of the invocation itself carries a trail on.
use Rattle.std.proofs.Common.{◌≡◌, ℕ, ◌<◌, Bool, true, false, ◌||◌, if◌then◌else◌, List, [], ◌∷◌, ◌++◌, length, refl, ap, ap₂, sym, ◌∙◌, subst, arith, slice_set, nat_eq, inl, inr, true≢false, eqb-true, eq-eqb, lt_irrefl}
use Rattle.std.specs.List.{list_any}
use Rattle.std.specs.declared.option.Option.{Option}
use Rattle.std.specs.declared.option.Option.TheVariants.{None, Some}
use Rattle.std.proofs.lemmas.Option.{none-some, same_Some}
use Rattle.rp_value.specs.declared.tables.Ty.TheVariants as ty
use Rattle.rp_value.specs.Values as val
use Rattle.rp_value.specs.Values.{Val, Vals}
use Rattle.rp_lang.specs.Exprs.{Ex, Exs}
use Rattle.rp_lang.specs.Formulas.{Fo}
use Rattle.rp_lang.specs.Programs.{Proc, Prog}
use Rattle.crdt_defs.specs.Calls.{Call}
use Rattle.crdt_defs.specs.Histories.{meets, before}
use Rattle.crdt_defs.specs.SameValues.{same_val}
use Rattle.crdt_defs.specs.Truths.{truth_val, list_of, value, values, truth}
use Rattle.crdt_defs.proofs.SameLemmas.{same_val_is}
use Rattle.event_machine.specs.Code.{Code}
use Rattle.event_machine.specs.Fitting.{fits, is_id}
use Rattle.event_machine.specs.Machine.{Invocation, Tx, State, first_slots, is_in, listed, calls_of, own_calls, reading_set, at_invocation, is_generated, begun, operated, committed, filled}
use Rattle.event_machine.specs.WellFormed.{At, In, opened_by, Inside, IsCausal, IsWellFormed}
use Rattle.event_machine.specs.Growth.{IsPrivate, IsValid}
use Rattle.event_machine.proofs.PlaceLemmas.{longer-from, both-ways, at-push, at-keep, at-new, at-one, at-lt, at-exists, at-set_same, or-cases, or-left, or-right, to-call_is, in-calls_of, to-calls_of, in-own, to-own, in-listed, to-listed}
use Rattle.event_machine.proofs.ReadLemmas.{any-left}
use Rattle.event_machine.proofs.ViewLemmas.{marker_call}
use Rattle.event_machine.proofs.MoveLemmas.{Keeps}
use Rattle.event_machine.proofs.KnownLemmas.{changed}
use Rattle.event_machine.proofs.PrivateLemmas.{placed, private-set, of-open, private-local, private-new}
use Rattle.one_invocation.specs.Trails.{Done, HasPut, HasDecided, HasMade, HasOperated, HasTaken, HasTakenArm, HasBegun, HasEnded, slots_after, reads, open_tx, has_operated, untold, own}
use Rattle.one_invocation.specs.CameAlong.{Start, start_of, reads_at, Follows, CameAlong}
use Rattle.crdt_defs.specs.Longer.{IsLonger}
use Rattle.one_invocation.proofs.FollowsLonger.{IsPlain, reads-in, reads-same, values-here, follows-more}
use Rattle.one_invocation.proofs.CameGrows.{state-plain}

-- what the invocation reads is what its trail reads
pub here : (p : Prog) (s : State) (i : ℕ) (q : Proc) (inv : Invocation) (trail : List Done) → CameAlong p s i q inv trail
    → at_invocation p s inv ≡ reads_at (start_of p s i q inv) s.calls trail
here p s i q inv trail c =
    let seen : reading_set s.calls inv ≡ reads s.calls trail = λ k d. c.reads_are d k in
    let set = c.slots in
    λ k. record { program = p; parts = record { universe = s.universe; calls = s.calls; committed = []; infos = [] }; visible = seen k; slots = set k }

pub came-local : (p : Prog) (s : State) (i : ℕ) (q : Proc) (inv : Invocation) (slots : List (Option Val)) (next : Code) (gen : List Val) (trail trail' : List Done)
    → CameAlong p s i q inv trail
    → slots ≡ slots_after (first_slots q inv.args) trail'
    → open_tx trail' ≡ open_tx trail
    → ((c : ℕ) → reads s.calls trail' c ≡ reads s.calls trail c)
    → Follows (start_of p s i q inv) s.calls trail'
    → own trail' ≡ own trail
    → ((x : Val) → list_any (same_val x) (untold trail') ≡ true → IsPrivate (changed s i (placed inv slots next) gen) i x)
    → CameAlong p (changed s i (placed inv slots next) gen) i q (placed inv slots next) trail'
came-local p s i q inv slots next gen trail trail' c set opens reading follows owns hidden = record {
  is = at-set_same s.invocations i (placed inv slots next) inv c.is;
  running = c.running;
  proc = c.proc;
  slots = set;
  tx = c.tx ∙ sym opens;
  reads_are = λ d. c.reads_are d ∙ sym (reading d);
  follows = follows;
  all = λ d call at e. ap (λ xs. is_in xs d) owns ∙ c.all d call at e;
  hidden = hidden;
}

-- # Own calls

pub own-read : (a : Start) (h : List Call) (trail : List Done) → Follows a h trail → (d : ℕ) → is_in (own trail) d ≡ true → reads h trail d ≡ true
own-read a h [] f d m = absurd (true≢false (sym m))
own-read a h (HasBegun mark tx ∷ earlier) f d m = elim (or-cases (nat_eq mark d) (is_in (own earlier) d) m) [
  | inl e ↦ or-right (before h d mark) (nat_eq d mark) (eq-eqb d mark (sym (eqb-true mark d e)))
  | inr k ↦ or-left (before h d mark) (nat_eq d mark)
      (to-call_is h (λ call. list_any (λ b. nat_eq b d) call.past) mark f.0.0.call f.0.0.at (f.0.1 f.0.0.call d f.0.0.at (own-read a h earlier f.1 d k)))
]
own-read a h (HasOperated op args vs own' ∷ earlier) f d m = elim (or-cases (nat_eq own' d) (is_in (own earlier) d) m) [
  | inl e ↦ or-right (reads h earlier d) (nat_eq d own') (eq-eqb d own' (sym (eqb-true own' d e)))
  | inr k ↦ or-left (reads h earlier d) (nat_eq d own') (own-read a h earlier f.1 d k)
]
own-read a h (_ ∷ earlier) f d m = own-read a h earlier f.1 d m

-- where no operation was done since the begin, the marker is the only call of the open transaction
only-mark : (a : Start) (h : List Call) (txs : List Tx) → IsCausal h txs → (t d : ℕ) (call : Call) → At h d call → call.tx ≡ t
    → (trail : List Done) → Follows a h trail → has_operated trail ≡ false → open_tx trail ≡ Some t → is_in (own trail) d ≡ true → call.args ≡ []
only-mark a h txs hist t d call at tx [] f no' opens m = absurd (none-some t opens)
only-mark a h txs hist t d call at tx (HasBegun mark u ∷ earlier) f no' opens m = elim (or-cases (nat_eq mark d) (is_in (own earlier) d) m) [
  | inl e ↦ ap (λ (x : Call). x.args) (at-one h d call f.0.0.call at (subst (λ k. At h k f.0.0.call) (eqb-true mark d e) f.0.0.at)) ∙ f.0.0.args_are
  | inr k ↦
      let l = hist.earlier mark d f.0.0.call f.0.0.at (f.0.1 f.0.0.call d f.0.0.at (own-read a h earlier f.1 d k)) in
      let g = hist.first mark d f.0.0.call call f.0.0.at f.0.0.op_is at (tx ∙ (same_Some t u (sym opens) ∙ sym f.0.0.tx_is)) in
      absurd (omega (arith, l, g))
]
only-mark a h txs hist t d call at tx (HasOperated op args vs own' ∷ earlier) f no' opens m = absurd (true≢false no')
only-mark a h txs hist t d call at tx (HasEnded ∷ earlier) f no' opens m = absurd (none-some t opens)
only-mark a h txs hist t d call at tx (_ ∷ earlier) f no' opens m = only-mark a h txs hist t d call at tx earlier f.1 no' opens m

module _ (p : Prog) (s : State) (i : ℕ) (q : Proc) (inv : Invocation) (trail : List Done) (c : CameAlong p s i q inv trail) where
  private-stays : (slots : List (Option Val)) (next : Code) (x : Val) → list_any (same_val x) (untold trail) ≡ true → IsPrivate (changed s i (placed inv slots next) s.generated) i x
  private-stays slots next x m = private-local s i inv slots next s.generated x c.is (λ g. g) (c.hidden x m)

  pub came-put : (slot : ℕ) (e : Ex) (next : Code) → (slots : List (Option Val)) → slots ≡ slice_set inv.slots slot (Some (value (at_invocation p s inv) [] e))
      → CameAlong p (changed s i (placed inv slots next) s.generated) i q (placed inv slots next) (HasPut slot e (value (at_invocation p s inv) [] e) ∷ trail)
  came-put slot e next slots is =
      let v = value (at_invocation p s inv) [] e in
      came-local p s i q inv slots next s.generated trail (HasPut slot e v ∷ trail) c
      (is ∙ ap (λ xs. slice_set xs slot (Some v)) c.slots) refl (λ d. refl) (ap (λ r. value r [] e) (sym (here p s i q inv trail c)), c.follows) refl (private-stays slots next)

  pub came-decide : (slot : ℕ) (f : Fo) (next : Code)
      → (slots : List (Option Val)) → slots ≡ slice_set inv.slots slot (Some (truth_val (truth (at_invocation p s inv) [] f)))
      → CameAlong p (changed s i (placed inv slots next) s.generated) i q (placed inv slots next) (HasDecided slot f (truth (at_invocation p s inv) [] f) ∷ trail)
  came-decide slot f next slots is =
      let b = truth (at_invocation p s inv) [] f in
      came-local p s i q inv slots next s.generated trail (HasDecided slot f b ∷ trail) c
      (is ∙ ap (λ xs. slice_set xs slot (Some (truth_val b))) c.slots) refl (λ d. refl) (ap (λ r. truth r [] f) (sym (here p s i q inv trail c)), c.follows) refl (private-stays slots next)

  pub came-pass : (next : Code) → CameAlong p (changed s i (placed inv inv.slots next) s.generated) i q (placed inv inv.slots next) trail
  came-pass next = came-local p s i q inv inv.slots next s.generated trail trail c c.slots refl (λ d. refl) c.follows refl (private-stays inv.slots next)

  pub came-take : (f : Fo) (b : Bool) (next : Code) → truth (at_invocation p s inv) [] f ≡ b
      → CameAlong p (changed s i (placed inv inv.slots next) s.generated) i q (placed inv inv.slots next) (HasTaken f b ∷ trail)
  came-take f b next is =
      came-local p s i q inv inv.slots next s.generated trail (HasTaken f b ∷ trail) c
      c.slots refl (λ d. refl) (ap (λ r. truth r [] f) (sym (here p s i q inv trail c)) ∙ is, c.follows) refl (private-stays inv.slots next)

  pub came-arm : (on : Ex) (arm con : ℕ) (places : List ℕ) (fields : Vals) (next : Code) → value (at_invocation p s inv) [] on ≡ val.Con con fields
      → CameAlong p (changed s i (placed inv (filled places fields inv.slots) next) s.generated) i q (placed inv (filled places fields inv.slots) next) (HasTakenArm on arm con places fields ∷ trail)
  came-arm on arm con places fields next is =
      came-local p s i q inv (filled places fields inv.slots) next s.generated trail (HasTakenArm on arm con places fields ∷ trail) c
      (ap (filled places fields) c.slots) refl (λ d. refl) (ap (λ r. value r [] on) (sym (here p s i q inv trail c)) ∙ is, c.follows) refl (private-stays (filled places fields inv.slots) next)

  -- # A new identifier

  module _ (h : IsWellFormed p s) where
    pub came-new : (slot of : ℕ) (next : Code) (id : Val) → is_id p id ≡ true → same_val id id ≡ true → is_generated s id ≡ false → fits p (ty.Atom of) id ≡ true
        → CameAlong p (changed s i (placed inv (slice_set inv.slots slot (Some id)) next) (s.generated ++ id ∷ [])) i q (placed inv (slice_set inv.slots slot (Some id)) next) (HasMade slot of id ∷ trail)
    came-new slot of next id is same fresh fit =
        came-local p s i q inv (slice_set inv.slots slot (Some id)) next (s.generated ++ id ∷ []) trail (HasMade slot of id ∷ trail) c
        (ap (λ xs. slice_set xs slot (Some id)) c.slots) refl (λ d. refl) (fit, c.follows) refl
        (λ x m. elim (or-cases (same_val x id) (list_any (same_val x) (untold trail)) m) [
          | inl e ↦
              subst (λ y. IsPrivate (changed s i (placed inv (slice_set inv.slots slot (Some id)) next) (s.generated ++ id ∷ [])) i y) (sym (same_val_is x id e))
              (private-new p s i inv (slice_set inv.slots slot (Some id)) next id h c.is is fresh same)
          | inr k ↦ private-local s i inv (slice_set inv.slots slot (Some id)) next (s.generated ++ id ∷ []) x c.is (λ g. any-left x s.generated (id ∷ []) g) (c.hidden x k)
        ])

  -- # Begin

  pub came-begin : IsValid p s → (stamp : ℕ) (sees : List ℕ) (next : Code) → inv.tx ≡ None → Keeps s sees inv.view
      → CameAlong p (begun s i stamp sees inv next) i q (record inv { view = calls_of s.calls sees; tx = Some (length s.txs); left = next }) (HasBegun (length s.calls) (length s.txs) ∷ trail)
  came-begin valid stamp sees next none keeps = record {
    is = at-set_same s.invocations i after inv c.is;
    running = c.running;
    proc = c.proc;
    slots = c.slots;
    tx = refl;
    reads_are = λ d. ap₂ (λ a b. a || b) (sym (past-is d)) (own-is d);
    follows = (
      (record { call = mark; at = at-new s.calls mark; op_is = refl; args_are = refl; inv_is = refl; tx_is = refl }, kept),
      follows-more a s.calls calls plain more trail c.follows,
    );
    all = λ d call at e. elim (at-push s.calls mark d call at) [
      | inl k ↦ or-right (nat_eq M d) (is_in (own trail) d) (c.all d call k e)
      | inr k ↦ or-left (nat_eq M d) (is_in (own trail) d) (eq-eqb M d (sym k.0))
    ];
    hidden = λ x m. private-set s (begun s i stamp sees inv next) i inv after x c.is refl (λ st. st) refl (λ g. g)
        (λ d call at st. elim (at-push s.calls mark d call at) [
          | inl k ↦ absurd (none-some call.tx (sym none ∙ of-open s i inv x c.is (c.hidden x m) d call k st))
          | inr k ↦ absurd (true≢false (sym (subst (λ (v : Call). Inside x v.args) k.1 st)))
        ]) (c.hidden x m);
  }
    where
      after : Invocation
      after = record inv { view = calls_of s.calls sees; tx = Some (length s.txs); left = next }

      M : ℕ
      M = length s.calls

      mark : Call
      mark = marker_call s i stamp sees

      calls : List Call
      calls = s.calls ++ mark ∷ []

      a : Start
      a = start_of p s i q inv

      plain : IsPlain a s.calls
      plain = state-plain p s i q inv valid c.is c.proc

      more : IsLonger s.calls calls
      more = longer-from s.calls calls (λ d call at. at-keep s.calls mark d call at)

      view-in : (d : ℕ) → In d (calls_of s.calls sees) → d < length s.calls
      view-in d m = let k = in-calls_of s.calls sees d m in at-lt s.calls d k.0 k.1

      past-is : (d : ℕ) → before calls d M ≡ calls_of s.calls sees d
      past-is d = ap (λ o. meets (λ call. list_any (λ b. nat_eq b d) call.past) o) (at-new s.calls mark)
          ∙ both-ways (is_in (listed (calls_of s.calls sees) M) d) (calls_of s.calls sees d)
          (λ m. (in-listed (calls_of s.calls sees) M d m).1) (λ m. to-listed (calls_of s.calls sees) M d (view-in d m) m)

      own-is : (d : ℕ) → own_calls calls (Some (length s.txs)) d ≡ nat_eq d M
      own-is d = both-ways (own_calls calls (Some (length s.txs)) d) (nat_eq d M)
          (λ m.
          let k = in-own calls (length s.txs) d m in
          elim (at-push s.calls mark d k.0 k.1) [
            | inl old ↦
                let x = valid.formed.history.has_tx d k.0 old in
                absurd (lt_irrefl _ (subst (λ t. t < length s.txs) k.2 (at-lt s.txs k.0.tx x.0 x.1)))
            | inr new ↦ eq-eqb d M new.0
          ])
          (λ m. to-own calls (length s.txs) d mark (subst (λ d. At calls d mark) (sym (eqb-true d M m)) (at-new s.calls mark)) refl)

      kept : (call : Call) (d : ℕ) → At calls M call → reads calls trail d ≡ true → is_in call.past d ≡ true
      kept call d at m =
          let old : reads s.calls trail d ≡ true = sym (reads-same a s.calls calls plain more trail c.follows d) ∙ m in
          let seen : reading_set s.calls inv d ≡ true = c.reads_are d ∙ old in
          let view : inv.view d ≡ true = elim (or-cases (inv.view d) (own_calls s.calls inv.tx d) seen) [
            | inl v ↦ v
            | inr o ↦ absurd (true≢false (sym (subst (λ t. own_calls s.calls t d ≡ true) none o)))
          ] in
          let e = at-exists s.calls d (reads-in a s.calls calls plain more trail c.follows d old) in
          subst (λ (x : Call). is_in x.past d ≡ true) (at-one calls M mark call (at-new s.calls mark) at)
          (to-listed (calls_of s.calls sees) M d (at-lt s.calls d e.0 e.1) (to-calls_of s.calls sees d e.0 e.1 (keeps d e.0 e.1 view)))

  -- # An operation

  pub came-op : IsValid p s → (stamp op : ℕ) (args : Exs) (next : Code) (t : ℕ) → inv.tx ≡ Some t
      → CameAlong p (operated s i stamp inv t op (list_of (values (at_invocation p s inv) [] args)) next) i q (record inv { left = next })
      (HasOperated op args (list_of (values (at_invocation p s inv) [] args)) (length s.calls) ∷ trail)
  came-op valid stamp op args next t is = record {
    is = at-set_same s.invocations i (record inv { left = next }) inv c.is;
    running = c.running;
    proc = c.proc;
    slots = c.slots;
    tx = c.tx;
    reads_are = λ d.
        ap (λ o. inv.view d || own_calls calls o d) is
        ∙ (ap (λ b. inv.view d || b) (own-is d)
        ∙ (or-assoc (inv.view d) (own_calls s.calls (Some t) d) (nat_eq d C)
        ∙ ap (λ b. b || nat_eq d C) (ap (λ o. inv.view d || own_calls s.calls o d) (sym is) ∙ (c.reads_are d ∙ sym (reads-same a s.calls calls plain more trail c.follows d)))));
    follows = (
      (
        ap list_of (values-here a s.calls calls plain more trail c.follows args ∙ ap (λ r. values r [] args) (sym (here p s i q inv trail c))),
        (t, sym c.tx ∙ is, record { call = new; at = at-new s.calls new; op_is = refl; args_are = refl; inv_is = refl; tx_is = refl }),
        (λ call at d.
            ap (λ (x : Call). is_in x.past d) (at-one calls C call new at (at-new s.calls new))
            ∙ (both-ways (is_in (listed (reading_set s.calls inv) C) d) (reading_set s.calls inv d)
            (λ m. (in-listed (reading_set s.calls inv) C d m).1)
            (λ m. to-listed (reading_set s.calls inv) C d (reads-in a s.calls calls plain more trail c.follows d (sym (c.reads_are d) ∙ m)) m)
            ∙ (c.reads_are d ∙ sym (reads-same a s.calls calls plain more trail c.follows d)))),
      ),
      follows-more a s.calls calls plain more trail c.follows,
    );
    all = λ d call at e. elim (at-push s.calls new d call at) [
      | inl k ↦ or-right (nat_eq C d) (is_in (own trail) d) (c.all d call k e)
      | inr k ↦ or-left (nat_eq C d) (is_in (own trail) d) (eq-eqb C d (sym k.0))
    ];
    hidden = λ x m. private-set s (operated s i stamp inv t op vs next) i inv (record inv { left = next }) x c.is refl (λ st. st) refl (λ g. g)
        (λ d call at st. elim (at-push s.calls new d call at) [
          | inl k ↦ of-open s i inv x c.is (c.hidden x m) d call k st
          | inr k ↦ is ∙ ap (λ (v : Call). Some v.tx) (sym k.1)
        ]) (c.hidden x m);
  }
    where
      vs : List Val
      vs = list_of (values (at_invocation p s inv) [] args)

      C : ℕ
      C = length s.calls

      new : Call
      new = record { op = op; args = vs; inv = i; tx = t; stamp = stamp; past = listed (reading_set s.calls inv) (length s.calls) }

      calls : List Call
      calls = s.calls ++ new ∷ []

      a : Start
      a = start_of p s i q inv

      plain : IsPlain a s.calls
      plain = state-plain p s i q inv valid c.is c.proc

      more : IsLonger s.calls calls
      more = longer-from s.calls calls (λ d call at. at-keep s.calls new d call at)

      or-assoc : (a b c : Bool) → (a || (b || c)) ≡ ((a || b) || c)
      or-assoc true b c = refl
      or-assoc false b c = refl

      own-is : (d : ℕ) → own_calls calls (Some t) d ≡ (own_calls s.calls (Some t) d || nat_eq d C)
      own-is d = both-ways (own_calls calls (Some t) d) (own_calls s.calls (Some t) d || nat_eq d C)
          (λ m.
          let k = in-own calls t d m in
          elim (at-push s.calls new d k.0 k.1) [
            | inl old ↦ or-left (own_calls s.calls (Some t) d) (nat_eq d C) (to-own s.calls t d k.0 old k.2)
            | inr here ↦ or-right (own_calls s.calls (Some t) d) (nat_eq d C) (eq-eqb d C here.0)
          ])
          (λ m. elim (or-cases (own_calls s.calls (Some t) d) (nat_eq d C) m) [
            | inl o ↦ let k = in-own s.calls t d o in to-own calls t d k.0 (at-keep s.calls new d k.0 k.1) k.2
            | inr e ↦ to-own calls t d new (subst (λ d. At calls d new) (sym (eqb-true d C e)) (at-new s.calls new)) refl
          ])

  -- # A commit

  pub came-commit : IsValid p s → (t : ℕ) (next : Code) → inv.tx ≡ Some t
      → CameAlong p (committed s i inv t next) i q (record inv { view = reading_set s.calls inv; tx = None; left = next }) (HasEnded ∷ trail)
  came-commit valid t next is = record {
    is = at-set_same s.invocations i after inv c.is;
    running = c.running;
    proc = c.proc;
    slots = c.slots;
    tx = refl;
    reads_are = λ d. or-none (reading_set s.calls inv d) ∙ c.reads_are d;
    follows = (tt, c.follows);
    all = c.all;
    hidden = λ x m. untold-here x (has_operated trail) refl m;
  }
    where
      after : Invocation
      after = record inv { view = reading_set s.calls inv; tx = None; left = next }

      or-none : (b : Bool) → (b || false) ≡ b
      or-none true = refl
      or-none false = refl

      -- no call holds it
      nowhere : (x : Val) → has_operated trail ≡ false → IsPrivate s i x → (d : ℕ) (call : Call) → At s.calls d call → Inside x call.args → ⊥
      nowhere x no' hid d call at st =
          let tx : call.tx ≡ t = same_Some call.tx t (sym (of-open s i inv x c.is hid d call at st) ∙ is) in
          let u = valid.formed.history.has_tx d call at in
          let mine = valid.formed.linked.still_open i t inv c.is is in
          let of : call.inv ≡ i = u.2 ∙ ap (λ (x : Tx). x.inv) (at-one s.txs t u.0 (opened_by i) (subst (λ t. At s.txs t u.0) tx u.1) mine) in
          let empty = only-mark (start_of p s i q inv) s.calls s.txs valid.formed.history t d call at tx trail c.follows no' (sym c.tx ∙ is) (c.all d call at of) in
          true≢false (sym (subst (Inside x) empty st))

      untold-here : (x : Val) (b : Bool) → has_operated trail ≡ b → list_any (same_val x) (if b then [] else untold trail) ≡ true → IsPrivate (committed s i inv t next) i x
      untold-here x true e m = absurd (true≢false (sym m))
      untold-here x false e m =
          private-set s (committed s i inv t next) i inv after x c.is refl (λ st. st) refl (λ g. g)
          (λ d call at st. absurd (nowhere x e (c.hidden x m) d call at st)) (c.hidden x m)
