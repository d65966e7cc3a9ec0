-- Growth by others carries a trail on.
use Rattle.std.proofs.Common.{◌≡◌, ℕ, ◌-◌, ◌||◌, List, length, refl, ap, sym, ◌∙◌, subst}
use Rattle.std.specs.declared.option.Option.{Option}
use Rattle.std.specs.declared.option.Option.TheVariants.{None, Some}
use Rattle.rp_lang.specs.Programs.{Proc, Prog}
use Rattle.event_machine.specs.Machine.{Invocation, Tx, State, first_slots, own_calls, reading_set}
use Rattle.event_machine.specs.WellFormed.{At, opened_by}
use Rattle.event_machine.specs.Growth.{IsValid, Grows}
use Rattle.event_machine.proofs.PlaceLemmas.{longer-from, both-ways, at-one, in-own, to-own}
use Rattle.event_machine.proofs.SlotLemmas.{first-args}
use Rattle.one_invocation.specs.Trails.{Done}
use Rattle.one_invocation.specs.CameAlong.{start_of, Follows, CameAlong}
use Rattle.event_machine.proofs.DataValues.{args-old}
use Rattle.one_invocation.proofs.FollowsLonger.{IsPlain, reads-same, follows-more}

-- the values of a typed state name no call
pub state-plain : (p : Prog) (s : State) (i : ℕ) (q : Proc) (inv : Invocation) → IsValid p s → At s.invocations i inv → At p.procs inv.proc q → IsPlain (start_of p s i q inv) s.calls
state-plain p s i q inv h at proc = record {
  earlier = h.formed.history.earlier;
  args = λ c call k v atc atk. let t = h.typed.calls c call atc in args-old p (length s.calls) call.args _ t.2 k v atk;
  start = λ k v atk.
      let of = h.formed.invocations i inv at in
      args-old p (length s.calls) inv.args of.proc.params of.args k v (first-args inv.args (length q.slots - length inv.args) k v atk);
}

-- what i reads is the same
reading-same : (p : Prog) (s mid : State) (i : ℕ) (inv : Invocation) → Grows p s mid i → At s.invocations i inv → (c : ℕ) → reading_set mid.calls inv c ≡ reading_set s.calls inv c
reading-same p s mid i inv g at c = ap (λ b. inv.view c || b) (go inv.tx refl)
  where
    go : (o : Option ℕ) → inv.tx ≡ o → own_calls mid.calls o c ≡ own_calls s.calls o c
    go None e = refl
    go (Some t) e = both-ways _ _
        (λ m.
        let k = in-own mid.calls t c m in
        let x = g.after.formed.history.has_tx c k.0 k.1 in
        let mine = g.after.formed.linked.still_open i t inv (g.same inv at) e in
        let same : x.0 ≡ opened_by i = at-one mid.txs t x.0 (opened_by i) (subst (λ t. At mid.txs t x.0) k.2 x.1) mine in
        to-own s.calls t c k.0 (g.others c k.0 k.1 (x.2 ∙ ap (λ (t : Tx). t.inv) same)) k.2)
        (λ m. let k = in-own s.calls t c m in to-own mid.calls t c k.0 (g.calls c k.0 k.1) k.2)

pub came-grows : (p : Prog) (s mid : State) (i : ℕ) (q : Proc) (inv : Invocation) (trail : List Done) → Grows p s mid i → CameAlong p s i q inv trail → CameAlong p mid i q inv trail
came-grows p s mid i q inv trail g c =
    let a = start_of p s i q inv in
    let plain = state-plain p s i q inv g.before c.is c.proc in
    let more = longer-from s.calls mid.calls g.calls in
    record {
      is = g.same inv c.is;
      running = c.running;
      proc = c.proc;
      slots = c.slots;
      tx = c.tx;
      reads_are = λ d. reading-same p s mid i inv g c.is d ∙ (c.reads_are d ∙ sym (reads-same a s.calls mid.calls plain more trail c.follows d));
      follows =
          subst (λ u. Follows (record { program = p; universe = u; inv = i; slots = first_slots q inv.args }) mid.calls trail) g.universe
          (follows-more a s.calls mid.calls plain more trail c.follows);
      all = λ d call at e. c.all d call (g.others d call at e) e;
      hidden = λ x m. g.private x (c.hidden x m);
    }
