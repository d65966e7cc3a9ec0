-- What an accepted label keeps of calls: they keep their numbers, and no committed transaction gets another.
use Rattle.std.proofs.Common.{◌≡◌, ◌≢◌, ℕ, suc, true, List, [], length, refl, ap, sym, ◌∙◌, subst, slice_set, ◌⊎◌, inl, inr, true≢false, arith}
use Rattle.std.specs.declared.option.Option.{Option}
use Rattle.std.specs.declared.option.Option.TheVariants.{None, Some}
use Rattle.std.proofs.lemmas.Option.{none-some, same_Some}
use Rattle.rp_value.specs.Values.{Val}
use Rattle.crdt_defs.specs.Fitting.{is_id}
use Rattle.rp_lang.specs.Programs.{Prog}
use Rattle.crdt_defs.specs.Calls.{Call}
use Rattle.crdt_defs.specs.Truths.{list_of, values}
use Rattle.event_machine.specs.Machine.{Invocation, Tx, State, Label, Invoke, Begin, Op, Local, New, Commit, Return, Fail, Check, named, at_invocation, started, is_known}
use Rattle.event_machine.specs.WellFormed.{At, Committed, opened_by, Inside, IsWellFormed}
use Rattle.event_machine.specs.Growth.{Grows}
use Rattle.event_machine.proofs.PlaceLemmas.{at-push, at-set, at-one, at-lt}
use Rattle.event_machine.proofs.ViewLemmas.{marker_call}
use Rattle.event_machine.proofs.KeptLemmas.{own_call}
use Rattle.event_machine.proofs.MoveLemmas.{Does, ArgsKnown, step-moves}
use Rattle.rp_lang.specs.WellFormed.{is_well_formed}
use Rattle.event_machine.proofs.GrowthLemmas.{step-grows, grows-itself}
use Rattle.hist_struct.specs.Steps.{Step, IsStep}
use Rattle.hist_struct.proofs.SetFacts.{Later}

not-added : (p : Prog) (s : State) (label : Label) (new : State) → IsWellFormed p s → Does p s label new
    → (c : ℕ) (call : Call) → At new.calls c call → Committed s.txs call.tx → At s.calls c call
not-added p s (Invoke proc args) new h m c call a k = subst (λ (n : State). At n.calls c call) m.4 a
not-added p s (Begin j stamp sees) new h m c call a k =
    elim (at-push s.calls (marker_call s j stamp sees) c call (subst (λ (n : State). At n.calls c call) m.6 a)) [
      | inl e ↦ e
      | inr e ↦
          let t : call.tx ≡ length s.txs = ap (λ (x : Call). x.tx) e.1 in
          let l = at-lt s.txs call.tx k.0 k.1 in
          absurd (omega (arith, t, l))
    ]
not-added p s (Op j stamp) new h m c call a k =
    elim (at-push s.calls (own_call s j stamp m.0 m.4 m.1 (list_of (values (at_invocation p s m.0) [] m.2))) c call (subst (λ (n : State). At n.calls c call) m.8 a)) [
      | inl e ↦ e
      | inr e ↦
          let t : call.tx ≡ m.4 = ap (λ (x : Call). x.tx) e.1 in
          let o = h.linked.still_open j m.4 m.0 m.5.is m.6 in
          let q : k.0 ≡ opened_by j = at-one s.txs m.4 k.0 (opened_by j) (subst (λ n. At s.txs n k.0) t k.1) o in
          absurd (true≢false (sym k.2 ∙ ap (λ (x : Tx). x.committed) q))
    ]
not-added p s (Local j) new h m c call a k = subst (λ (n : State). At n.calls c call) m.4 a
not-added p s (New j id) new h m c call a k = subst (λ (n : State). At n.calls c call) m.8 a
not-added p s (Commit j) new h m c call a k = subst (λ (n : State). At n.calls c call) m.8 a
not-added p s (Return j) new h m c call a k = subst (λ (n : State). At n.calls c call) m.4 a
not-added p s (Fail j) new h m c call a k = subst (λ (n : State). At n.calls c call) m.2 a
not-added p s (Check sees) new h m c call a k = absurd m

-- # Arguments

-- an invocation of the new state has the arguments of one before, or of the label
abbrev Argued : Prog → State → List Val → Type 0
Argued p s args = ((i : ℕ) × (inv : Invocation) × At s.invocations i inv × (inv.args ≡ args)) ⊎ ArgsKnown p s args

put-argued : (p : Prog) (s : State) (j : ℕ) (old upd : Invocation) → At s.invocations j old → old.args ≡ upd.args
    → (i : ℕ) (inv : Invocation) → At (slice_set s.invocations j upd) i inv → Argued p s inv.args
put-argued p s j old upd is same i inv a = elim (at-set s.invocations j upd i inv a) [
  | inl e ↦ inl (j, old, is, same ∙ ap (λ (x : Invocation). x.args) (sym e.1))
  | inr e ↦ inl (i, inv, e.1, refl)
]

argued : (p : Prog) (s : State) (label : Label) (new : State) → Does p s label new → (i : ℕ) (inv : Invocation) → At new.invocations i inv → Argued p s inv.args
argued p s (Invoke proc args) new m i inv a = elim (at-push s.invocations (started m.0 proc args) i inv (subst (λ (n : State). At n.invocations i inv) m.4 a)) [
  | inl e ↦ inl (i, inv, e, refl)
  | inr e ↦ inr (subst (ArgsKnown p s) (ap (λ (x : Invocation). x.args) (sym e.1)) m.3)
]
argued p s (Begin j stamp sees) new m i inv a = put-argued p s j m.0 _ m.2.is refl i inv (subst (λ (n : State). At n.invocations i inv) m.6 a)
argued p s (Op j stamp) new m i inv a = put-argued p s j m.0 (record m.0 { left = m.3 }) m.5.is refl i inv (subst (λ (n : State). At n.invocations i inv) m.8 a)
argued p s (Local j) new m i inv a = put-argued p s j m.0 m.1 m.2.is (sym m.3.args) i inv (subst (λ (n : State). At n.invocations i inv) m.4 a)
argued p s (New j id) new m i inv a = put-argued p s j m.0 _ m.4.is refl i inv (subst (λ (n : State). At n.invocations i inv) m.8 a)
argued p s (Commit j) new m i inv a = put-argued p s j m.0 _ m.4.is refl i inv (subst (λ (n : State). At n.invocations i inv) m.8 a)
argued p s (Return j) new m i inv a = put-argued p s j m.0 _ m.2.is refl i inv (subst (λ (n : State). At n.invocations i inv) m.4 a)
argued p s (Fail j) new m i inv a = put-argued p s j m.0 _ m.1.is refl i inv (subst (λ (n : State). At n.invocations i inv) m.2 a)
argued p s (Check sees) new m i inv a = absurd m

-- an identifier among arguments after the step stands in a result before it
abbrev pub ArgsStand : Prog → State → State → Type 0
ArgsStand p s new = (i : ℕ) (inv : Invocation) (x : Val) → At new.invocations i inv → Inside x inv.args → is_id p x ≡ true → is_known s x ≡ true

args-stand : (p : Prog) (s : State) (label : Label) (new : State) → IsWellFormed p s → Does p s label new → ArgsStand p s new
args-stand p s label new h does i inv x a st id = elim (argued p s label new does i inv a) [
  | inl k ↦ h.known.args_known k.0 x k.1 k.2 (subst (Inside x) (sym k.3) st) id
  | inr k ↦ (k x st).1 id
]

-- one that the label doesn't name
another : (o : Option ℕ) → (j : ℕ) × (o ≢ Some j)
another None = (0, λ e. none-some 0 e)
another (Some i) = (suc i, λ e. let q = same_Some i (suc i) e in omega (arith, q))

-- The step is a growth for some invocation, and no call is added to what is committed.
pub record Kept (x : Step) : Type 0 where
  pub by : ℕ
  pub grows : Grows x.program x.old x.new by
  pub later : Later x.old.calls x.old.txs x.new.calls
  pub args : ArgsStand x.program x.old x.new

kept-same : (x : Step) → IsStep x → x.new ≡ x.old → Kept x
kept-same x m e = record {
  by = 0;
  grows = subst (λ n. Grows x.program x.old n 0) (sym e) (grows-itself x.program x.old 0 m.before);
  args = λ i inv y a. m.before.formed.known.args_known i y inv (subst (λ (n : State). At n.invocations i inv) e a);
  later = record { calls = λ c call a. subst (λ (n : State). At n.calls c call) (sym e) a; added = λ c call a k. subst (λ (n : State). At n.calls c call) e a };
}

pub kept : (x : Step) → is_well_formed x.program ≡ true → IsStep x → Kept x
kept x w m = elim m.moves [
  | inl e ↦ kept-same x m e
  | inr l ↦ elim (step-moves x.program x.old l.0 x.new m.before.formed.history l.1) [
    | inl e ↦ kept-same x m e
    | inr does ↦
        let j = another (named l.0) in
        let g = step-grows x.program w x.old l.0 x.new j.0 m.before l.1 j.1 in
        record { by = j.0; grows = g; later = record { calls = g.calls; added = not-added x.program x.old l.0 x.new m.before.formed does }; args = args-stand x.program x.old l.0 x.new m.before.formed does }
  ]
]
