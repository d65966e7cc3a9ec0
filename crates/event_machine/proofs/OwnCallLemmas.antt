-- How the calls of one invocation lie in the history: its markers, the calls behind them, and what it sees.
use Rattle.std.proofs.Common.{◌≡◌, ◌≢◌, ℕ, ◌<◌, refl, sym, ◌∙◌, subst, arith, ◌⊎◌, inl, inr, lt_trans}
use Rattle.std.specs.declared.option.Option.TheVariants.{Some}
use Rattle.rp_lang.specs.Programs.{Prog}
use Rattle.crdt_defs.specs.Calls.{Call}
use Rattle.event_machine.specs.Machine.{Running, Invocation, State}
use Rattle.event_machine.specs.WellFormed.{At, In, Past, IsMarker, IsCausal}
use Rattle.event_machine.specs.Growth.{IsValid}
use Rattle.event_machine.proofs.PlaceLemmas.{at-lt, at-exists, same-or}
use Rattle.event_machine.proofs.ViewLemmas.{closed-snapshot}
use Rattle.event_machine.proofs.MoveLemmas.{by-cases}

module _ (p : Prog) (s : State) (valid : IsValid p s) where
  h : IsCausal s.calls s.txs
  h = valid.formed.history

  -- # Calls of one transaction, and of one invocation

  pub one-marker : (m n : ℕ) (mark other : Call) → At s.calls m mark → At s.calls n other → IsMarker mark → IsMarker other → mark.tx ≡ other.tx → m ≡ n
  one-marker m n mark other at at' is is' same =
      let l = h.first m n mark other at is at' (sym same) in
      let g = h.first n m other mark at' is' at same in
      omega (arith, l, g)

  pub line-past : (m n c : ℕ) (call later : Call) → At s.calls m call → At s.calls n later → call.inv ≡ later.inv → m < n → Past c call → Past c later
  line-past m n c call later at at' same l past = h.closed n m c later call at' (h.line m n call later at at' same l) at past

  -- no call of its transaction is before a marker
  not-own : (m c : ℕ) (mark call : Call) → At s.calls m mark → IsMarker mark → At s.calls c call → Past c mark → call.tx ≢ mark.tx
  not-own m c mark call at is at' past same =
      let l = h.earlier m c mark at past in
      let g = h.first m c mark call at is at' same in
      absurd (omega (arith, l, g))

  -- a call that isn't its transaction's marker: what it has before it
  pub past-of : (m c d : ℕ) (mark call before' : Call) → At s.calls m mark → IsMarker mark → At s.calls c call → call.tx ≡ mark.tx → At s.calls d before' → Past d call
      → Past d mark ⊎ ((before'.tx ≡ call.tx) × (d < c))
  past-of m c d mark call e at is at' same atd past = elim (same-or e.tx call.tx) [
    | inl own ↦ inr (own, h.earlier c d call at' past)
    | inr other ↦ inl (h.outside c m d call mark e at' at same atd other past)
  ]

  pub to-past-of : (m c d : ℕ) (mark call : Call) → At s.calls m mark → IsMarker mark → At s.calls c call → call.tx ≡ mark.tx → c ≢ m → Past d mark → Past d call
  to-past-of m c d mark call at is at' same other past =
      let l = h.first m c mark call at is at' same in
      h.closed c m d call mark at' (h.inside m c mark call at at' (sym same) (omega (arith, l, other))) at past

  -- # A running invocation

  module _ (i : ℕ) (inv : Invocation) (is : At s.invocations i inv) (running : inv.standing ≡ Running) where
    -- its calls are of its open transaction or lie in its view
    pub own-seen : (c : ℕ) (call : Call) → At s.calls c call → call.inv ≡ i → (inv.tx ≡ Some call.tx) ⊎ In c inv.view
    own-seen c call at of =
        let t = h.has_tx c call at in
        elim (by-cases t.0.committed) [
          | inl yes' ↦ inr ((valid.formed.views i inv is running).own c call at of (t.0, t.1, yes'))
          | inr no' ↦ inl (valid.formed.linked.opened call.tx t.0 inv t.1 no' (subst (λ j. At s.invocations j inv) (sym of ∙ t.2) is))
        ]

    -- what a marker of it has before it lies in its view
    pub mark-in_view : (m c : ℕ) (mark : Call) → At s.calls m mark → IsMarker mark → mark.inv ≡ i → Past c mark → In c inv.view
    mark-in_view m c mark at op of past =
        let e = at-exists s.calls c (lt_trans (h.earlier m c mark at past) (at-lt s.calls m mark at)) in
        let view = valid.formed.views i inv is running in
        elim (own-seen m mark at of) [
          | inl open' ↦ view.to_view mark.tx m c mark e.0 open' at refl past e.1 (not-own m c mark e.0 at op e.1 past)
          | inr seen ↦ (closed-snapshot s.calls s.txs inv.view view.snapshot).down m c mark seen at past
        ]

    -- the marker of its open transaction has exactly the view before it
    pub view-in_mark : (m c : ℕ) (mark : Call) → At s.calls m mark → inv.tx ≡ Some mark.tx → In c inv.view → Past c mark
    view-in_mark m c mark at open' seen = (valid.formed.views i inv is running).from_view mark.tx m c mark open' at refl seen
