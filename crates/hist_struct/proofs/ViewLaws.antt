-- The sets of the structure that formulas take for a snapshot are those of the state.
use Rattle.std.proofs.Common.{◌≡◌, ℕ, ◌<◌, List, Bool, true, false, ◌&&◌, ◌||◌, nat_lt, length, Option, Some, None, slice_get, refl, sym, ap, ◌∙◌, subst, eqb-true}
use Rattle.std.proofs.lemmas.Bool.{and_parts}
use Rattle.rp_lang.specs.WellFormed.{is_well_formed}
use Rattle.rp_logic.specs.Structures.{is_related}
use Rattle.rp_logic.proofs.SortLaws.{no}
use Rattle.event_machine.proofs.PlaceLemmas.{at-lt}
use Rattle.hist_struct.specs.Steps.{Step, IsStep, is_done, is_part, marks, is_that, is_seen, is_read}
use Rattle.hist_struct.specs.Structure.{sig_at, meaning_of}
use Rattle.hist_struct.specs.Snapshots.{AreViews}
use Rattle.hist_struct.specs.Tables.{one_point}
use Rattle.hist_struct.proofs.CallFacts.{lt-true}
use Rattle.hist_struct.proofs.SetFacts.{in-done}
use Rattle.hist_struct.proofs.MarkFacts.{mark-of, seen-closed}
use Rattle.hist_struct.proofs.MoveFacts.{Kept, kept}
use Rattle.hist_struct.proofs.TableFacts.{seen-at, read-at, added-at}
use Rattle.hist_struct.proofs.TableLaws.{in-set}

-- a set of numbers below m, in a table that is as long or longer
narrow : (f : ℕ → Bool) (m n c : ℕ) → (f c ≡ true → (c < m) × (c < n)) → (f c && nat_lt c n) ≡ (f c && nat_lt c m)
narrow f m n c low = go (f c) refl
  where
    go : (b : Bool) → f c ≡ b → (f c && nat_lt c n) ≡ (f c && nat_lt c m)
    go false e = ap (λ b. b && nat_lt c n) e ∙ sym (ap (λ b. b && nat_lt c m) e)
    go true e =
        let l = low e in
        ap (λ b. b && nat_lt c n) e ∙ (lt-true c n l.1 ∙ (sym (lt-true c m l.0) ∙ sym (ap (λ b. b && nat_lt c m) e)))

pub views-fit : (x : Step) (consts : List ℕ) → is_well_formed x.program ≡ true → IsStep x → AreViews x (meaning_of (sig_at x consts) x)
views-fit x consts w m = record {
  old = record { visible_calls = λ c i. in-set (is_done x.old) (length x.new.calls) c ∙ narrow (is_done x.old) _ _ c (done-low c) };
  part = record { visible_calls = λ c i. in-set (is_part x) (length x.new.calls) c ∙ narrow (is_part x) _ _ c (λ e. done-low c (and_parts (x.snapshot c) (is_done x.old c) e).1) };
  seen = λ k l. record {
    visible_calls = λ c i.
        ap (λ o. is_related o (one_point c)) (seen-at x k l)
        ∙ (in-set (is_seen x.old x.inv k) (length x.new.calls) c ∙ narrow (is_seen x.old x.inv k) _ _ c (λ e. seen-low k c e));
  };
  read = λ k l. record {
    visible_calls = λ c i.
        ap (λ o. is_related o (one_point c)) (read-at x k l)
        ∙ (in-set (is_read x.old x.inv k) (length x.new.calls) c ∙ narrow (is_read x.old x.inv k) _ _ c (λ e. read-low k c e));
  };
  added = λ j set e. record { visible_calls = λ c i. ap (λ o. is_related o (one_point c)) (added-at x j set e) ∙ in-set set (length x.old.calls) c };
  snapshot = record { visible_calls = λ c i. in-set x.snapshot (length x.new.calls) c };
}
  where
    its : Kept x
    its = kept x w m

    done-low : (c : ℕ) → is_done x.old c ≡ true → (c < length x.old.calls) × (c < length x.new.calls)
    done-low c e =
        let r = in-done x.old c e in
        (at-lt x.old.calls c r.0 r.1, at-lt x.new.calls c r.0 (its.grows.calls c r.0 r.1))

    seen-low : (k c : ℕ) → is_seen x.old x.inv k c ≡ true → (c < length x.old.calls) × (c < length x.new.calls)
    seen-low k c e =
        let r = (seen-closed x.program x.old m.before.formed x.inv m.acts k).committed c e in
        (at-lt x.old.calls c r.0 r.1, at-lt x.new.calls c r.0 (its.grows.calls c r.0 r.1))

    read-low : (k c : ℕ) → is_read x.old x.inv k c ≡ true → (c < length x.old.calls) × (c < length x.new.calls)
    read-low k c e = go (is_seen x.old x.inv k c) refl e
      where
        that : (o : Option ℕ) → slice_get (marks x.old x.inv) k ≡ o → is_that o c ≡ true → (c < length x.old.calls) × (c < length x.new.calls)
        that None q t = no t
        that (Some m) q t =
            let mark = mark-of x.old x.inv k m q in
            subst (λ c. (c < length x.old.calls) × (c < length x.new.calls)) (eqb-true m c t)
            (at-lt x.old.calls m mark.mark mark.is, at-lt x.new.calls m mark.mark (its.grows.calls m mark.mark mark.is))

        go : (b : Bool) → is_seen x.old x.inv k c ≡ b → (b || is_that (slice_get (marks x.old x.inv) k) c) ≡ true → (c < length x.old.calls) × (c < length x.new.calls)
        go true s e = seen-low k c s
        go false s e = that (slice_get (marks x.old x.inv) k) refl e
