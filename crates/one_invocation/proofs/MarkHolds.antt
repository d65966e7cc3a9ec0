-- The invariants hold at what is committed, and at what the last begin sees.
use Rattle.std.proofs.Common.{◌≡◌, ℕ, List, [], ◌∷◌, refl, subst}
use Rattle.std.specs.declared.option.Option.{Option}
use Rattle.std.specs.declared.option.Option.TheVariants.{None, Some}
use Rattle.std.proofs.lemmas.Option.{none-some, same_Some}
use Rattle.rp_lang.specs.Programs.{Prog}
use Rattle.crdt_defs.specs.Calls.{Call}
use Rattle.crdt_defs.specs.Histories.{before}
use Rattle.event_machine.specs.Machine.{State}
use Rattle.event_machine.specs.Growth.{IsValid}
use Rattle.event_machine.specs.LocalSafety.{HoldsAt, HoldsAll}
use Rattle.event_machine.specs.OldCalls.{old}
use Rattle.event_machine.proofs.ViewLemmas.{snapshot-closed}
use Rattle.event_machine.proofs.SnapshotLemmas.{old-closed, mark-closed}
use Rattle.one_invocation.specs.Trails.{Done, HasBegun, last_mark}
use Rattle.one_invocation.specs.CameAlong.{Start, IsOwn, Follows}
use Rattle.one_invocation.specs.Goals.{HoldsAtMark}

-- the last marker of a trail
pub mark-of : (a : Start) (h : List Call) (trail : List Done) (mark : ℕ) → Follows a h trail → last_mark trail ≡ Some mark → (tx : ℕ) × IsOwn h mark 0 [] a.inv tx
mark-of a h [] mark f e = absurd (none-some mark e)
mark-of a h (HasBegun m tx ∷ earlier) mark f e = subst (λ m. (tx : ℕ) × IsOwn h m 0 [] a.inv tx) (same_Some m mark e) (tx, f.0.0)
mark-of a h (_ ∷ earlier) mark f e = mark-of a h earlier mark f.1 e

pub hold-old : (p : Prog) (s : State) → IsValid p s → HoldsAll p s → HoldsAt p s (old s)
hold-old p s valid h = h (old s) (snapshot-closed s.calls s.txs (old s) (old-closed s valid.formed.history))

pub hold-mark : (p : Prog) (s : State) (a : Start) (trail : List Done) → IsValid p s → HoldsAll p s → Follows a s.calls trail → HoldsAtMark p s (last_mark trail)
hold-mark p s a trail valid h f = go (last_mark trail) refl
  where
    go : (o : Option ℕ) → last_mark trail ≡ o → HoldsAtMark p s o
    go None e = tt
    go (Some mark) e =
        let k = mark-of a s.calls trail mark f e in
        h (λ c. before s.calls c mark) (snapshot-closed s.calls s.txs (λ c. before s.calls c mark) (mark-closed s mark k.1.call valid.formed.history k.1.at k.1.op_is))
