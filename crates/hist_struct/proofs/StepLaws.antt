-- The conditions hold in the structure of every step.
use Rattle.std.proofs.Common.{◌≡◌, ℕ, suc, ◌<◌, Bool, true, false, List, [], ◌∷◌, length, nat_lt, refl, ap, ap₂, sym, ◌∙◌, subst, eqb-true, eq-eqb, arith, slice_get}
use borrow.Author.Tests.{eqb-false}
use Rattle.std.specs.declared.option.Option.TheVariants.{Some}
use Rattle.rp_value.specs.Values.{Val}
use Rattle.crdt_defs.specs.Calls.{Call}
use Rattle.crdt_defs.specs.Histories.{before, same_tx}
use Rattle.crdt_defs.specs.Fitting.{all_fit}
use Rattle.event_machine.specs.WellFormed.{At, commits_of, IsMarker, IsCausal}
use Rattle.event_machine.proofs.PlaceLemmas.{at-lt, at-exists}
use Rattle.event_machine.proofs.ViewLemmas.{Closed}
use Rattle.event_machine.proofs.MoveLemmas.{and-make}
use Rattle.rp_logic.specs.Signatures.{Signature, is_plain}
use Rattle.rp_logic.specs.Elements.{Point, Made, no_elem, same_elem}
use Rattle.rp_logic.specs.Structures.{is_related}
use Rattle.std.proofs.lemmas.Bool.{and_parts, and_from}
use Rattle.rp_logic.proofs.SortLaws.{no}
use Rattle.rp_logic.proofs.ElementLaws.{same-is, same-self}
use Rattle.rp_symbols.specs.Numbers.{call_sort, op_fn, origin_fn, op_con}
use Rattle.crdt_enc.specs.Elements.{elems_of}
use Rattle.hist_struct.specs.Tables.{one_point, set_relation}
use Rattle.hist_struct.proofs.TableLaws.{found-at, in-table}
use Rattle.hist_struct.specs.Steps.{Step, begins, is_done, is_lesser, is_part, is_seen, is_read, IsStep}
use Rattle.hist_struct.proofs.StepPrograms.{IsProgram}
use Rattle.hist_struct.specs.Structure.{IsSig, meaning_of, op_elem, origin_elem}
use Rattle.rp_symbols.specs.Numbers.{old_rel, new_rel, was_rel, snapshot_rel, part_rel, seen_rel, read_rel}
use Rattle.crdt_enc.specs.FitsParts.{Is, holds_of, value_at}
use Rattle.hist_struct.specs.Conditions.{IsMark, BeforeOrders, StampsOrder, TransactionsPart, TransactionsAreWhole, CommitsGrow, ViewsGrow, OwnCallsInLine, MarkersStand, IsClosed, IsView}
use Rattle.hist_struct.proofs.CallFacts.{never-before, before-before, never-lesser, lesser-lesser, lesser-total, before-lesser, same-itself, same-back, same-same, same-inv, one-past, one-future, in-line, marker, one-marker, lt-true}
use Rattle.hist_struct.proofs.SetFacts.{in-done, to-done, done-closed, ClosedIn, snapshot-in, closed-later, both-in}
use Rattle.hist_struct.proofs.MoveFacts.{Kept, kept}
use Rattle.hist_struct.proofs.MarkFacts.{seen-closed, seen-rises, seen-read}
use Rattle.hist_struct.proofs.TableFacts.{each-call, get-one, put-one, get-two, put-two, seen-at, read-at}

module _ (S : Signature) (g : IsSig S) (x : Step) (keeps : IsProgram x.program) (m : IsStep x) where
  history : IsCausal x.new.calls x.new.txs
  history = m.after.formed.history

  before_it : IsCausal x.old.calls x.old.txs
  before_it = m.before.formed.history

  its : Kept x
  its = kept x keeps.formed m

  pub before_orders-met : BeforeOrders (meaning_of S x)
  before_orders-met = record {
    irreflexive = each-call S x g _ (λ c lc. put-two (before x.new.calls) (length x.new.calls) c c false lc lc (never-before x.new.calls x.new.txs history c));
    transitive = each-call S x g _ (λ c lc. each-call S x g _ (λ d ld. each-call S x g _ (λ e le i j.
        put-two (before x.new.calls) (length x.new.calls) c e true lc le (before-before x.new.calls x.new.txs history c d e (get-two (before x.new.calls) (length x.new.calls) c d true lc ld i) (get-two (before x.new.calls) (length x.new.calls) d e true ld le j)))));
  }

  pub stamps_order-met : StampsOrder (meaning_of S x)
  stamps_order-met = record {
    irreflexive = each-call S x g _ (λ c lc. put-two (is_lesser x.new.calls) (length x.new.calls) c c false lc lc (never-lesser x.new.calls x.new.txs history c));
    transitive = each-call S x g _ (λ c lc. each-call S x g _ (λ d ld. each-call S x g _ (λ e le i j.
        put-two (is_lesser x.new.calls) (length x.new.calls) c e true lc le (lesser-lesser x.new.calls x.new.txs history c d e (get-two (is_lesser x.new.calls) (length x.new.calls) c d true lc ld i) (get-two (is_lesser x.new.calls) (length x.new.calls) d e true ld le j)))));
    total = each-call S x g _ (λ c lc. each-call S x g _ (λ d ld q i.
        put-two (is_lesser x.new.calls) (length x.new.calls) d c true ld lc (lesser-total x.new.calls x.new.txs history c d lc ld (λ e. eqb-false c d q e) (get-two (is_lesser x.new.calls) (length x.new.calls) c d false lc ld i))));
    rises = each-call S x g _ (λ c lc. each-call S x g _ (λ d ld i. put-two (is_lesser x.new.calls) (length x.new.calls) c d true lc ld (before-lesser x.new.calls x.new.txs history c d (get-two (before x.new.calls) (length x.new.calls) c d true lc ld i))));
  }

  pub origin-at : (c : ℕ) (call : Call) → At x.new.calls c call → value_at (meaning_of S x) origin_fn (Point c) ≡ Point call.inv
  origin-at c call a = in-table (λ c. origin_elem (slice_get x.new.calls c)) (length x.new.calls) c (at-lt x.new.calls c call a) ∙ ap origin_elem a

  pub transactions_part-met : TransactionsPart (meaning_of S x)
  transactions_part-met = record {
    reflexive = each-call S x g _ (λ c lc. put-two (same_tx x.new.calls) (length x.new.calls) c c true lc lc (same-itself x.new.calls x.new.txs history c lc));
    symmetric = each-call S x g _ (λ c lc. each-call S x g _ (λ d ld i. put-two (same_tx x.new.calls) (length x.new.calls) d c true ld lc (same-back x.new.calls x.new.txs history c d (get-two (same_tx x.new.calls) (length x.new.calls) c d true lc ld i))));
    transitive = each-call S x g _ (λ c lc. each-call S x g _ (λ d ld. each-call S x g _ (λ e le i j.
        put-two (same_tx x.new.calls) (length x.new.calls) c e true lc le (same-same x.new.calls x.new.txs history c d e (get-two (same_tx x.new.calls) (length x.new.calls) c d true lc ld i) (get-two (same_tx x.new.calls) (length x.new.calls) d e true ld le j)))));
    of_one = each-call S x g _ (λ c lc. each-call S x g _ (λ d ld i.
        let a = at-exists x.new.calls c lc in
        let b = at-exists x.new.calls d ld in
        ap₂ same_elem (origin-at c a.0 a.1) (origin-at d b.0 b.1) ∙ eq-eqb a.0.inv b.0.inv (same-inv x.new.calls x.new.txs history c d a.0 b.0 a.1 b.1 (get-two (same_tx x.new.calls) (length x.new.calls) c d true lc ld i))));
  }

  pub transactions_are_whole-met : TransactionsAreWhole (meaning_of S x)
  transactions_are_whole-met = record {
    past = each-call S x g _ (λ c lc. each-call S x g _ (λ d ld. each-call S x g _ (λ e le s o i.
        put-two (before x.new.calls) (length x.new.calls) d e true ld le (one-past x.new.calls x.new.txs history c d e (get-two (same_tx x.new.calls) (length x.new.calls) c e true lc le s) (get-two (same_tx x.new.calls) (length x.new.calls) c d false lc ld o) (get-two (before x.new.calls) (length x.new.calls) d c true ld lc i)))));
    future = each-call S x g _ (λ c lc. each-call S x g _ (λ d ld. each-call S x g _ (λ e le s o i.
        put-two (before x.new.calls) (length x.new.calls) e d true le ld (one-future x.new.calls x.new.txs history c d e (get-two (same_tx x.new.calls) (length x.new.calls) c e true lc le s) (get-two (same_tx x.new.calls) (length x.new.calls) c d false lc ld o) (get-two (before x.new.calls) (length x.new.calls) c d true lc ld i)))));
  }

  -- # Closed sets

  lifted : (r : ℕ) (v : ℕ → Bool) → ((c : ℕ) → c < length x.new.calls → holds_of (meaning_of S x) r (Point c) ≡ v c) → ClosedIn x.new.calls v → IsClosed (meaning_of S x) r
  lifted r v is k = record {
    causes = each-call S x g _ (λ c lc. each-call S x g _ (λ d ld i b. is c lc ∙ k.causes c d (sym (is d ld) ∙ i) (get-two (before x.new.calls) (length x.new.calls) c d true lc ld b)));
    whole = each-call S x g _ (λ c lc. each-call S x g _ (λ d ld i s. is d ld ∙ k.whole c d (sym (is c lc) ∙ i) (get-two (same_tx x.new.calls) (length x.new.calls) c d true lc ld s)));
  }

  set-is : (v : ℕ → Bool) (c : ℕ) → c < length x.new.calls → is_related (Some (set_relation v (length x.new.calls))) (one_point c) ≡ v c
  set-is v c l = found-at v false (length x.new.calls) c l

  old-in : ClosedIn x.new.calls (is_done x.old)
  old-in = closed-later x.old.calls x.old.txs x.new.calls (is_done x.old) its.later (done-closed x.old before_it)

  new-in : ClosedIn x.new.calls (is_done x.new)
  new-in = closed-later x.new.calls x.new.txs x.new.calls (is_done x.new) (record { calls = λ c call a. a; added = λ c call a k. a }) (done-closed x.new history)

  snapshot-is-in : ClosedIn x.new.calls x.snapshot
  snapshot-is-in = snapshot-in x.new.calls (commits_of x.new.txs) x.snapshot m.snapshot

  done-stays : (c : ℕ) → is_done x.old c ≡ true → is_done x.new c ≡ true
  done-stays c i =
      let k = in-done x.old c i in
      let t = its.grows.txs k.0.tx k.2.0 k.2.1 in
      to-done x.new c k.0 (its.grows.calls c k.0 k.1) (t.0, t.1, t.2.1 k.2.2)

  inv-below : (c : ℕ) (call : Call) → At x.old.calls c call → (call.inv < length x.old.invocations) × (call.inv < length x.new.invocations)
  inv-below c call a =
      let t = before_it.has_tx c call a in
      let v = m.before.formed.linked.has_inv call.tx t.0 t.1 in
      let there : At x.old.invocations call.inv v.0 = subst (λ i. At x.old.invocations i v.0) (sym t.2) v.1 in
      let w = its.grows.invs call.inv v.0 there in
      (at-lt x.old.invocations call.inv v.0 there, at-lt x.new.invocations call.inv w.0 w.1)

  pub commits_grow-met : CommitsGrow (meaning_of S x)
  commits_grow-met = record {
    stays = each-call S x g _ (λ c lc i. put-one (is_done x.new) (length x.new.calls) c true lc (done-stays c (get-one (is_done x.old) (length x.new.calls) c true lc i)));
    old = lifted old_rel (is_done x.old) (λ c l. set-is (is_done x.old) c l) old-in;
    new = lifted new_rel (is_done x.new) (λ c l. set-is (is_done x.new) c l) new-in;
    was = each-call S x g _ (λ c lc i.
        let k = in-done x.old c (get-one (is_done x.old) (length x.new.calls) c true lc i) in
        let b = inv-below c k.0 k.1 in
        ap (holds_of (meaning_of S x) was_rel) (origin-at c k.0 (its.grows.calls c k.0 k.1))
        ∙ put-one (λ i. nat_lt i (length x.old.invocations)) (length x.new.invocations) k.0.inv true b.1 (lt-true k.0.inv (length x.old.invocations) b.0));
    there = λ i h. refl;
  }

  -- # Views

  seen-of : (k : ℕ) → Closed x.old.calls x.old.txs (is_seen x.old x.inv k)
  seen-of k = seen-closed x.program x.old m.before.formed x.inv m.acts k

  seen-is : (k c : ℕ) → k < begins x → c < length x.new.calls → holds_of (meaning_of S x) (seen_rel x.program k) (Point c) ≡ is_seen x.old x.inv k c
  seen-is k c l lc = ap (λ o. is_related o (one_point c)) (seen-at x k l) ∙ set-is (is_seen x.old x.inv k) c lc

  read-is : (k c : ℕ) → k < begins x → c < length x.new.calls → holds_of (meaning_of S x) (read_rel x.program k) (Point c) ≡ is_read x.old x.inv k c
  read-is k c l lc = ap (λ o. is_related o (one_point c)) (read-at x k l) ∙ set-is (is_read x.old x.inv k) c lc

  view-of : (k : ℕ) → k < begins x → IsView x.program (meaning_of S x) k
  view-of k l = record {
    old = each-call S x g _ (λ c lc i.
        let d = (seen-of k).committed c (sym (seen-is k c l lc) ∙ i) in
        put-one (is_done x.old) (length x.new.calls) c true lc (to-done x.old c d.0 d.1 d.2));
    closed = lifted (seen_rel x.program k) (is_seen x.old x.inv k) (λ c lc. seen-is k c l lc) (closed-later x.old.calls x.old.txs x.new.calls (is_seen x.old x.inv k) its.later (seen-of k));
    read = each-call S x g _ (λ c lc i. read-is k c l lc ∙ seen-read x.old x.inv k c (sym (seen-is k c l lc) ∙ i));
  }

  pub views_grow-met : ViewsGrow x.program (begins x) (meaning_of S x)
  views_grow-met = record {
    part_old = each-call S x g _ (λ c lc i. put-one (is_done x.old) (length x.new.calls) c true lc (and_parts (x.snapshot c) (is_done x.old c) (get-one (is_part x) (length x.new.calls) c true lc i)).1);
    new = each-call S x g _ (λ c lc i. put-one (is_done x.new) (length x.new.calls) c true lc (m.snapshot.commits c (get-one x.snapshot (length x.new.calls) c true lc i)));
    part_in = each-call S x g _ (λ c lc i. put-one x.snapshot (length x.new.calls) c true lc (and_parts (x.snapshot c) (is_done x.old c) (get-one (is_part x) (length x.new.calls) c true lc i)).0);
    part = each-call S x g _ (λ c lc i j. put-one (is_part x) (length x.new.calls) c true lc
        (and-make (x.snapshot c) (is_done x.old c) (get-one x.snapshot (length x.new.calls) c true lc i) (get-one (is_done x.old) (length x.new.calls) c true lc j)));
    snapshot = lifted snapshot_rel x.snapshot (λ c l. set-is x.snapshot c l) snapshot-is-in;
    part_closed = lifted part_rel (is_part x) (λ c l. set-is (is_part x) c l) (both-in x.new.calls x.snapshot (is_done x.old) snapshot-is-in old-in);
    views = view-of;
    rise = λ k l. each-call S x g _ (λ c lc i.
        seen-is (suc k) c l lc ∙ seen-rises x.program x.old m.before.formed x.inv m.acts k c (sym (seen-is k c (omega (arith, l)) lc) ∙ i));
  }

  pub own_calls_in_line-met : OwnCallsInLine (meaning_of S x)
  own_calls_in_line-met = record {
    line = each-call S x g _ (λ c lc. each-call S x g _ (λ d ld o q i.
        let a = at-exists x.new.calls c lc in
        let b = at-exists x.new.calls d ld in
        let same : a.0.inv ≡ b.0.inv = eqb-true a.0.inv b.0.inv (sym (ap₂ same_elem (origin-at c a.0 a.1) (origin-at d b.0 b.1)) ∙ o) in
        put-two (before x.new.calls) (length x.new.calls) d c true ld lc (in-line x.new.calls x.new.txs history c d a.0 b.0 a.1 b.1 same (λ e. eqb-false c d q e) (get-two (before x.new.calls) (length x.new.calls) c d false lc ld i))));
  }

  -- # Markers

  pub op-at : (c : ℕ) (call : Call) → At x.new.calls c call → value_at (meaning_of S x) op_fn (Point c) ≡ Made (op_con x.program call.op) (elems_of call.args)
  op-at c call a = in-table (λ c. op_elem x.program (slice_get x.new.calls c)) (length x.new.calls) c (at-lt x.new.calls c call a) ∙ ap (op_elem x.program) a

  no-args : (c : ℕ) (call : Call) → At x.new.calls c call → IsMarker call → call.args ≡ []
  no-args c call a mark =
      let t = m.after.typed.calls c call a in
      let none : t.0.args ≡ [] = keeps.tx t.0 (subst (λ o. At x.program.ops o t.0) mark t.1) in
      empty call.args (subst (λ tys. all_fit x.program tys call.args ≡ true) none t.2)
    where
      empty : (vs : List Val) → all_fit x.program [] vs ≡ true → vs ≡ []
      empty [] h = refl
      empty (v ∷ vs) h = no h

  to-mark : (c : ℕ) (call : Call) → At x.new.calls c call → IsMarker call → IsMark x.program (meaning_of S x) (Point c)
  to-mark c call a mark =
      let e : value_at (meaning_of S x) op_fn (Point c) ≡ Made (op_con x.program 0) no_elem =
      op-at c call a ∙ ap₂ (λ o vs. Made (op_con x.program o) (elems_of vs)) mark (no-args c call a mark) in
      ap (λ y. same_elem y (Made (op_con x.program 0) no_elem)) e ∙ same-self (Made (op_con x.program 0) no_elem)

  of-mark : (c : ℕ) (call : Call) → At x.new.calls c call → IsMark x.program (meaning_of S x) (Point c) → IsMarker call
  of-mark c call a i =
      let e = sym (op-at c call a) ∙ same-is (value_at (meaning_of S x) op_fn (Point c)) (Made (op_con x.program 0) no_elem) i in
      let cons : op_con x.program call.op ≡ op_con x.program 0 = cc in
      omega (arith, cons)

  pub is-call : (c : ℕ) → c < length x.new.calls → Is (meaning_of S x) call_sort (Point c)
  is-call c l = and_from (is_plain (slice_get S.sorts 0)) (nat_lt c (length x.new.calls)) (ap (λ sorts. is_plain (slice_get sorts 0)) g.are) (lt-true c (length x.new.calls) l)

  pub markers_stand-met : MarkersStand x.program (meaning_of S x)
  markers_stand-met = record {
    marked = each-call S x g _ (λ c lc k.
        let t = marker x.new.calls x.new.txs history c lc in
        let l = at-lt x.new.calls t.place t.mark t.is in
        k (Point t.place) (is-call t.place l) (put-two (same_tx x.new.calls) (length x.new.calls) c t.place true lc l t.same) (to-mark t.place t.mark t.is t.marks)
        (λ q. put-two (before x.new.calls) (length x.new.calls) t.place c true l lc (t.first (λ e. eqb-false c t.place q e))));
    one = each-call S x g _ (λ c lc. each-call S x g _ (λ d ld s i j.
        let a = at-exists x.new.calls c lc in
        let b = at-exists x.new.calls d ld in
        eq-eqb c d (one-marker x.new.calls x.new.txs history c d a.0 b.0 a.1 b.1 (of-mark c a.0 a.1 i) (of-mark d b.0 b.1 j) (get-two (same_tx x.new.calls) (length x.new.calls) c d true lc ld s))));
  }
