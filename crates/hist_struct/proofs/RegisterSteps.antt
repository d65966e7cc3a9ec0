-- The axiom of registers in the structure of every step.
use Rattle.std.proofs.Common.{◌≡◌, ◌↔◌, ℕ, zero, suc, ◌<◌, Bool, true, List, [], ◌++◌, length, nat_lt, slice_get, sym, ap₂, ◌∙◌, subst, inl, inr, arith}
use Rattle.rp_value.specs.declared.tables.Ty.{Ty}
use Rattle.rp_value.specs.Values.{Val}
use Rattle.rp_lang.specs.Types.{is_ordinary}
use Rattle.rp_lang.specs.WellFormed.{is_well_formed}
use Rattle.rp_lang.specs.Programs.{Prog}
use Rattle.rp_lang.proofs.ProgramFacts.{facts}
use Rattle.crdt_defs.specs.Fitting.{fits}
use Rattle.crdt_defs.specs.Histories.{meets}
use Rattle.event_machine.specs.Machine.{State}
use Rattle.event_machine.specs.Growth.{IsValid}
use Rattle.event_machine.proofs.PlaceLemmas.{at-lt, at-exists, same-or}
use Rattle.rp_logic.specs.Elements.{Elem, Point}
use Rattle.rp_logic.specs.Truth.{Meaning, AllTrue}
use Rattle.rp_symbols.specs.Numbers.{stamp_rel, old_rel, snapshot_rel, part_rel, seen_rel, read_rel, added_rel}
use Rattle.rp_symbols.specs.Signatures.{sort_of}
use Rattle.crdt_enc.specs.Elements.{elem_of}
use Rattle.crdt_enc.specs.FitsParts.{Is, holds_of_two}
use Rattle.crdt_enc.specs.Places as places
use Rattle.crdt_enc.specs.Stages.{Stage}
use Rattle.hist_struct.specs.Registers.{RegistersTell, RegistersAreTold, registers_tell, registers_of_views, registers_of_added, registers_are_told}
use Rattle.hist_struct.specs.Snapshots.{reading}
use Rattle.hist_struct.specs.Steps.{Step, IsStep, begins, is_lesser}
use Rattle.hist_struct.specs.Structure.{sig_at, meaning_of}
use Rattle.hist_struct.proofs.ElementValues.{value-of}
use Rattle.hist_struct.proofs.Implied.{all-both}
use Rattle.hist_struct.proofs.MoveFacts.{Kept, kept}
use Rattle.hist_struct.proofs.RegisterExact.{registers_tell-exact}
use Rattle.hist_struct.proofs.RegisterMet.{registers-met}
use Rattle.hist_struct.proofs.StageLaws.{stages}
use Rattle.hist_struct.proofs.TableLaws.{in-pairs}

-- # Exact

views-exact : (p : Prog) (M : Meaning) (n : ℕ) → AllTrue M (registers_of_views p n) ↔ ((k : ℕ) → k < n → RegistersTell p M (seen_rel p k) × RegistersTell p M (read_rel p k))
views-exact p M zero = ((λ h k l. absurd (omega (arith, l))), λ h. tt)
views-exact p M (suc n) =
    let b = all-both (registers_tell p (seen_rel p n)) (registers_tell p (read_rel p n) ++ registers_of_views p n) M in
    let c = all-both (registers_tell p (read_rel p n)) (registers_of_views p n) M in
    let s = registers_tell-exact p M (seen_rel p n) in
    let r = registers_tell-exact p M (read_rel p n) in
    let v = views-exact p M n in (
      (λ h k l.
          let x = b.0 h in
          let y = c.0 x.1 in
          elim (same-or k n) [
            | inl e ↦ subst (λ k. RegistersTell p M (seen_rel p k) × RegistersTell p M (read_rel p k)) (sym e) (s.0 x.0, r.0 y.0)
            | inr d ↦ v.0 y.1 k (omega (arith, l, d))
          ]),
      λ h. let k = h n (omega arith) in b.1 (s.1 k.0, c.1 (r.1 k.1, v.1 (λ k l. h k (omega (arith, l))))),
    )

added-exact : (p : Prog) (M : Meaning) (begins n : ℕ) → AllTrue M (registers_of_added p begins n) ↔ ((j : ℕ) → j < n → RegistersTell p M (added_rel p begins j))
added-exact p M begins zero = ((λ h j l. absurd (omega (arith, l))), λ h. tt)
added-exact p M begins (suc n) =
    let b = all-both (registers_tell p (added_rel p begins n)) (registers_of_added p begins n) M in
    let s = registers_tell-exact p M (added_rel p begins n) in
    let v = added-exact p M begins n in (
      (λ h j l.
          let x = b.0 h in
          elim (same-or j n) [
            | inl e ↦ subst (λ j. RegistersTell p M (added_rel p begins j)) (sym e) (s.0 x.0)
            | inr d ↦ v.0 x.1 j (omega (arith, l, d))
          ]),
      λ h. b.1 (s.1 (h n (omega arith)), v.1 (λ j l. h j (omega (arith, l)))),
    )

pub registers_are_told-exact : (p : Prog) (begins reads : ℕ) (M : Meaning) → AllTrue M (registers_are_told p begins reads) ↔ RegistersAreTold p begins reads M
registers_are_told-exact p begins reads M =
    let late = registers_of_views p begins ++ registers_of_added p begins reads in
    let b = all-both (registers_tell p old_rel) (registers_tell p snapshot_rel ++ (registers_tell p part_rel ++ late)) M in
    let c = all-both (registers_tell p snapshot_rel) (registers_tell p part_rel ++ late) M in
    let d = all-both (registers_tell p part_rel) late M in
    let f = all-both (registers_of_views p begins) (registers_of_added p begins reads) M in
    let a = added-exact p M begins reads in
    let o = registers_tell-exact p M old_rel in
    let s = registers_tell-exact p M snapshot_rel in
    let q = registers_tell-exact p M part_rel in
    let v = views-exact p M begins in (
      (λ h.
          let x = b.0 h in
          let y = c.0 x.1 in
          let z = d.0 y.1 in
          let w = f.0 z.1 in
          record { old = o.0 x.0; snapshot = s.0 y.0; part = q.0 z.0; seen = λ k l. (v.0 w.0 k l).0; read = λ k l. (v.0 w.0 k l).1; added = λ j l. a.0 w.1 j l }),
      λ t. b.1 (o.1 t.old, c.1 (s.1 t.snapshot, d.1 (q.1 t.part, f.1 (v.1 (λ k l. (t.seen k l, t.read k l)), a.1 (λ j l. t.added j l))))),
    )

-- # In every step

from-stage : (p : Prog) → is_well_formed p ≡ true → (s : State) → IsValid p s → (M : Meaning) (at : places.At) (visible : ℕ → Bool) → Stage (reading p s visible []) M at
    → ((c d : ℕ) → c < length s.calls → d < length s.calls → holds_of_two M stamp_rel (Point c) (Point d) ≡ is_lesser s.calls c d)
    → ((t : Ty) → is_ordinary p.types t ≡ true → (e : Elem) → Is M (sort_of p t) e → (v : Val) × (fits p t v ≡ true) × (elem_of v ≡ e)) → RegistersTell p M at.view
from-stage p formed s w M at visible stage stamps values =
    registers-met p formed M s.calls at.view visible stage.parts.calls stage.view stage.calls_fit s.txs w.formed.history stamps values stage.vals.asked_is

pub registers_are_told-met : (x : Step) (consts : List ℕ) → is_well_formed x.program ≡ true → IsStep x → RegistersAreTold x.program (begins x) (length x.reads) (meaning_of (sig_at x consts) x)
registers_are_told-met x consts formed m =
    let all = stages x consts formed m [] in
    record {
      old = from-stage x.program formed x.old m.before (meaning_of (sig_at x consts) x) _ _ all.old old_stamps values;
      snapshot = from-stage x.program formed x.new m.after (meaning_of (sig_at x consts) x) _ _ all.snapshot stamps values;
      part = from-stage x.program formed x.old m.before (meaning_of (sig_at x consts) x) _ _ all.part old_stamps values;
      seen = λ k l. from-stage x.program formed x.old m.before (meaning_of (sig_at x consts) x) _ _ (all.seen k l) old_stamps values;
      read = λ k l. from-stage x.program formed x.old m.before (meaning_of (sig_at x consts) x) _ _ (all.read k l) old_stamps values;
      added = λ j l. let set = at-exists x.reads j l in from-stage x.program formed x.old m.before (meaning_of (sig_at x consts) x) _ _ (all.added j set.0 set.1) old_stamps values;
    }
  where
    its : Kept x
    its = kept x formed m

    stamps : (c d : ℕ) → c < length x.new.calls → d < length x.new.calls → holds_of_two (meaning_of (sig_at x consts) x) stamp_rel (Point c) (Point d) ≡ is_lesser x.new.calls c d
    stamps c d lc ld = in-pairs (is_lesser x.new.calls) (length x.new.calls) c d lc ld

    same : (c : ℕ) → c < length x.old.calls → slice_get x.new.calls c ≡ slice_get x.old.calls c
    same c l = let a = at-exists x.old.calls c l in its.grows.calls c a.0 a.1 ∙ sym a.1

    below : (c : ℕ) → c < length x.old.calls → c < length x.new.calls
    below c l = let a = at-exists x.old.calls c l in at-lt x.new.calls c a.0 (its.grows.calls c a.0 a.1)

    old_stamps : (c d : ℕ) → c < length x.old.calls → d < length x.old.calls → holds_of_two (meaning_of (sig_at x consts) x) stamp_rel (Point c) (Point d) ≡ is_lesser x.old.calls c d
    old_stamps c d lc ld = stamps c d (below c lc) (below d ld) ∙ ap₂ (λ o q. meets (λ a. meets (λ b. nat_lt a.stamp b.stamp) q) o) (same c lc) (same d ld)

    values : (t : Ty) → is_ordinary x.program.types t ≡ true → (e : Elem) → Is (meaning_of (sig_at x consts) x) (sort_of x.program t) e → (v : Val) × (fits x.program t v ≡ true) × (elem_of v ≡ e)
    values t o e i = value-of x consts (facts x.program formed) t e o i
