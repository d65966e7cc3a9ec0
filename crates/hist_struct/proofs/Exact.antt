-- The formulas of the axioms are true exactly where the conditions hold.
use Rattle.std.proofs.Common.{ℕ, zero, suc, ◌<◌, [], ◌∷◌, ◌++◌, true, ◌↔◌, sym, subst, inl, inr, arith}
use Rattle.rp_lang.specs.Programs.{Prog}
use Rattle.rp_logic.specs.Formulas.{no_fm}
use Rattle.rp_logic.specs.Elements.{Elem}
use Rattle.rp_logic.specs.Truth.{Meaning, Holds, AllTrue}
use Rattle.event_machine.proofs.PlaceLemmas.{same-or}
use Rattle.rp_symbols.specs.Numbers.{before_rel, stamp_rel, same_rel, origin_fn}
use Rattle.crdt_enc.specs.Builders.{one_fm}
use Rattle.crdt_enc.specs.Builders.{over_one, applied}
use Rattle.rp_logic.specs.Terms.{Var}
use Rattle.rp_symbols.specs.Numbers.{old_rel, new_rel, was_rel, snapshot_rel, part_rel, seen_rel, read_rel}
use Rattle.hist_struct.specs.Conditions.{BeforeOrders, StampsOrder, TransactionsPart, TransactionsAreWhole, CommitsGrow, ViewsGrow, OwnCallsInLine, MarkersStand, IsClosed, IsView, Within, Differ, Rel}
use Rattle.hist_struct.specs.Axioms.{implied, two, three, rel, not_rel, within, equal, differ, is_mark, same_origin, before_orders, stamps_order, transactions_part, transactions_are_whole, closed, part_of, commits_grow, of_view, of_views, of_chain, views_grow, own_calls_in_line, markers_stand}
use Rattle.hist_struct.proofs.Implied.{implied-is, each-call-is, each-two-is, each-three-is, all-both}

pub before_orders-exact : (M : Meaning) → AllTrue M before_orders ↔ BeforeOrders M
before_orders-exact M =
    let i = each-call-is M no_fm (not_rel before_rel 0 0) in
    let t = each-three-is M (two (rel before_rel 2 1) (rel before_rel 1 0)) (rel before_rel 2 0) in (
      (λ h. record { irreflexive = i.0 h.0; transitive = t.0 h.1.0 }),
      λ a. (i.1 a.irreflexive, (t.1 a.transitive, tt)),
    )

pub stamps_order-exact : (M : Meaning) → AllTrue M stamps_order ↔ StampsOrder M
stamps_order-exact M =
    let i = each-call-is M no_fm (not_rel stamp_rel 0 0) in
    let t = each-three-is M (two (rel stamp_rel 2 1) (rel stamp_rel 1 0)) (rel stamp_rel 2 0) in
    let o = each-two-is M (two (differ 1 0) (not_rel stamp_rel 1 0)) (rel stamp_rel 0 1) in
    let r = each-two-is M (one_fm (rel before_rel 1 0)) (rel stamp_rel 1 0) in (
      (λ h. record { irreflexive = i.0 h.0; transitive = t.0 h.1.0; total = o.0 h.1.1.0; rises = r.0 h.1.1.1.0 }),
      λ a. (i.1 a.irreflexive, (t.1 a.transitive, (o.1 a.total, (r.1 a.rises, tt)))),
    )

pub transactions_part-exact : (M : Meaning) → AllTrue M transactions_part ↔ TransactionsPart M
transactions_part-exact M =
    let i = each-call-is M no_fm (rel same_rel 0 0) in
    let y = each-two-is M (one_fm (rel same_rel 1 0)) (rel same_rel 0 1) in
    let t = each-three-is M (two (rel same_rel 2 1) (rel same_rel 1 0)) (rel same_rel 2 0) in
    let o = each-two-is M (one_fm (rel same_rel 1 0)) same_origin in (
      (λ h. record { reflexive = i.0 h.0; symmetric = y.0 h.1.0; transitive = t.0 h.1.1.0; of_one = o.0 h.1.1.1.0 }),
      λ a. (i.1 a.reflexive, (y.1 a.symmetric, (t.1 a.transitive, (o.1 a.of_one, tt)))),
    )

pub transactions_are_whole-exact : (M : Meaning) → AllTrue M transactions_are_whole ↔ TransactionsAreWhole M
transactions_are_whole-exact M =
    let p = each-three-is M (three (rel same_rel 2 0) (not_rel same_rel 2 1) (rel before_rel 1 2)) (rel before_rel 1 0) in
    let f = each-three-is M (three (rel same_rel 2 0) (not_rel same_rel 2 1) (rel before_rel 2 1)) (rel before_rel 0 1) in (
      (λ h. record { past = p.0 h.0; future = f.0 h.1.0 }),
      λ a. (p.1 a.past, (f.1 a.future, tt)),
    )

-- # Closed sets

pub exact-closed : (M : Meaning) (r : ℕ) → AllTrue M (closed r) ↔ IsClosed M r
exact-closed M r =
    let b = each-two-is M (two (within r 0) (rel before_rel 1 0)) (within r 1) in
    let w = each-two-is M (two (within r 1) (rel same_rel 1 0)) (within r 0) in (
      (λ h. record { causes = b.0 h.0; whole = w.0 h.1.0 }),
      λ a. (b.1 a.causes, (w.1 a.whole, tt)),
    )

exact-part : (M : Meaning) (r s : ℕ) → Holds M [] (part_of r s) ↔ Within M r s
exact-part M r s = each-call-is M (one_fm (within r 0)) (within s 0)

pub commits_grow-exact : (M : Meaning) → AllTrue M commits_grow ↔ CommitsGrow M
commits_grow-exact M =
    let s = exact-part M old_rel new_rel in
    let w = each-call-is M (one_fm (within old_rel 0)) (over_one true was_rel (applied origin_fn (Var 0))) in
    let b = all-both (closed old_rel) (closed new_rel) M in
    let o = exact-closed M old_rel in
    let n = exact-closed M new_rel in (
      (λ h. record { stays = s.0 h.0; was = w.0 h.1.0; there = h.1.1.0; old = o.0 (b.0 h.1.1.1).0; new = n.0 (b.0 h.1.1.1).1 }),
      λ a. (s.1 a.stays, (w.1 a.was, (a.there, b.1 (o.1 a.old, n.1 a.new)))),
    )

-- # Views

exact-view : (p : Prog) (M : Meaning) (k : ℕ) → AllTrue M (of_view p k) ↔ IsView p M k
exact-view p M k =
    let o = exact-part M (seen_rel p k) old_rel in
    let r = exact-part M (seen_rel p k) (read_rel p k) in
    let c = exact-closed M (seen_rel p k) in (
      (λ h. record { old = o.0 h.0; read = r.0 h.1.0; closed = c.0 h.1.1 }),
      λ a. (o.1 a.old, (r.1 a.read, c.1 a.closed)),
    )

exact-views : (p : Prog) (M : Meaning) (n : ℕ) → AllTrue M (of_views p n) ↔ ((k : ℕ) → k < n → IsView p M k)
exact-views p M zero = ((λ h k l. absurd (omega (arith, l))), λ h. tt)
exact-views p M (suc n) =
    let b = all-both (of_view p n) (of_views p n) M in
    let v = exact-view p M n in
    let r = exact-views p M n in (
      (λ h k l. elim (same-or k n) [ inl e ↦ subst (λ k. IsView p M k) (sym e) (v.0 (b.0 h).0) | inr d ↦ r.0 (b.0 h).1 k (omega (arith, l, d)) ]),
      λ h. b.1 (v.1 (h n (omega arith)), r.1 (λ k l. h k (omega (arith, l)))),
    )

exact-chain : (p : Prog) (M : Meaning) (n : ℕ) → AllTrue M (of_chain p n) ↔ ((k : ℕ) → suc k < n → Within M (seen_rel p k) (seen_rel p (suc k)))
exact-chain p M zero = ((λ h k l. absurd (omega (arith, l))), λ h. tt)
exact-chain p M (suc zero) = ((λ h k l. absurd (omega (arith, l))), λ h. tt)
exact-chain p M (suc (suc n)) =
    let v = exact-part M (seen_rel p n) (seen_rel p (suc n)) in
    let r = exact-chain p M (suc n) in (
      (λ h k l. elim (same-or k n) [ inl e ↦ subst (λ k. Within M (seen_rel p k) (seen_rel p (suc k))) (sym e) (v.0 h.0) | inr d ↦ r.0 h.1 k (omega (arith, l, d)) ]),
      λ h. (v.1 (h n (omega arith)), r.1 (λ k l. h k (omega (arith, l)))),
    )

pub views_grow-exact : (p : Prog) (begins : ℕ) (M : Meaning) → AllTrue M (views_grow p begins) ↔ ViewsGrow p begins M
views_grow-exact p begins M =
    let po = exact-part M part_rel old_rel in
    let sn = exact-part M snapshot_rel new_rel in
    let ps = exact-part M part_rel snapshot_rel in
    let pt = each-call-is M (two (within snapshot_rel 0) (within old_rel 0)) (within part_rel 0) in
    let b = all-both (closed snapshot_rel) (closed part_rel ++ (of_views p begins ++ of_chain p begins)) M in
    let c = all-both (closed part_rel) (of_views p begins ++ of_chain p begins) M in
    let d = all-both (of_views p begins) (of_chain p begins) M in
    let cs = exact-closed M snapshot_rel in
    let cp = exact-closed M part_rel in
    let v = exact-views p M begins in
    let r = exact-chain p M begins in (
      (λ h.
          let k = b.0 h.1.1.1.1 in
          let l = c.0 k.1 in
          let m = d.0 l.1 in
          record { part_old = po.0 h.0; new = sn.0 h.1.0; part_in = ps.0 h.1.1.0; part = pt.0 h.1.1.1.0; snapshot = cs.0 k.0; part_closed = cp.0 l.0; views = v.0 m.0; rise = r.0 m.1 }),
      λ a. (po.1 a.part_old, (sn.1 a.new, (ps.1 a.part_in, (pt.1 a.part, b.1 (cs.1 a.snapshot, c.1 (cp.1 a.part_closed, d.1 (v.1 a.views, r.1 a.rise))))))),
    )

pub own_calls_in_line-exact : (M : Meaning) → AllTrue M own_calls_in_line ↔ OwnCallsInLine M
own_calls_in_line-exact M =
    let l = each-two-is M (three same_origin (differ 1 0) (not_rel before_rel 1 0)) (rel before_rel 0 1) in
    ((λ h. record { line = l.0 h.0 }), λ a. (l.1 a.line, tt))

pub markers_stand-exact : (p : Prog) (M : Meaning) → AllTrue M (markers_stand p) ↔ MarkersStand p M
markers_stand-exact p M =
    let o = each-two-is M (three (rel same_rel 1 0) (is_mark p 1) (is_mark p 0)) (equal (Var 1) (Var 0)) in (
      (λ h. record { marked = λ c i k. h.0 c i (λ m j a. k m j a.0 a.1.0 ((after c m).0 a.1.1.0)); one = o.0 h.1.0 }),
      λ a. ((λ c i k. a.marked c i (λ m j s t b. k m j (s, (t, ((after c m).1 b, tt))))), (o.1 a.one, tt)),
    )
  where
    after : (c m : Elem) → Holds M (m ∷ c ∷ []) (implied (one_fm (differ 1 0)) (rel before_rel 0 1)) ↔ (Differ c m → Rel M before_rel m c)
    after c m = implied-is (one_fm (differ 1 0)) (rel before_rel 0 1) M (m ∷ c ∷ [])
