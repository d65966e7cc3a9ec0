-- The structure of a step fits the parts of the state before it, and of the state after it.
use Rattle.std.proofs.Common.{◌≡◌, ℕ, zero, suc, ◌<◌, false, List, [], ◌∷◌, length, map, nat_eq, nat_lt, refl, ap, ap₂, sym, ◌∙◌, subst, ltb-true, slice_get}
use Rattle.std.proofs.lemmas.Option.{none-some, same_Some}
use Rattle.rp_lang.specs.Programs.{Prog}
use Rattle.crdt_defs.specs.Calls.{Call}
use Rattle.crdt_defs.specs.Histories.{meets, before, same_tx}
use Rattle.crdt_defs.specs.Parts.{Info, Result, Unreturned, Returned, ReturnedWith}
use Rattle.crdt_defs.specs.Truths.{ended}
use Rattle.event_machine.specs.Machine.{Invocation, State, is_in, info, plain, result_of}
use Rattle.event_machine.specs.WellFormed.{At}
use Rattle.event_machine.proofs.PlaceLemmas.{at-lt, at-exists}
use Rattle.rp_logic.specs.Signatures.{Signature, is_plain}
use Rattle.rp_logic.specs.Elements.{Point, Made}
use Rattle.std.proofs.lemmas.Bool.{and_parts}
use Rattle.rp_symbols.specs.Numbers.{call_sort, info_con}
use Rattle.crdt_enc.specs.Places as places
use Rattle.crdt_enc.specs.Elements.{elems_of}
use Rattle.hist_struct.proofs.TableLaws.{found-at, in-pairs}
use Rattle.hist_struct.specs.Steps.{Step, IsStep, is_done}
use Rattle.hist_struct.proofs.StepPrograms.{IsProgram}
use Rattle.hist_struct.specs.Structure.{IsSig, meaning_of, outcome_elem, result_elem}
use Rattle.rp_symbols.specs.Numbers.{old_rel, new_rel, was_rel, there_rel, old_result_fn, new_result_fn}
use Rattle.crdt_enc.specs.FitsParts.{Is, holds_of, value_at}
use Rattle.crdt_enc.specs.FitsParts.{elem_meant}
use Rattle.hist_struct.specs.means.Fitting.{FitsMost}
use Rattle.hist_struct.proofs.CallFacts.{lt-true}
use Rattle.hist_struct.proofs.MoveFacts.{Kept, kept}
use Rattle.hist_struct.proofs.TableFacts.{point-of, inv-of}
use Rattle.hist_struct.proofs.StepLaws.{is-call, op-at, origin-at}
use Rattle.hist_struct.proofs.ResultLaws.{is-inv, info-at, old-at, new-at}

pub map-at : {A B : Type 0} (f : A → B) (xs : List A) (i : ℕ) (y : B) → At (map f xs) i y → (x : A) × At xs i x × (f x ≡ y)
map-at f [] i y a = absurd (none-some y a)
map-at f (x ∷ xs) zero y a = (x, refl, same_Some (f x) y a)
map-at f (x ∷ xs) (suc i) y a = map-at f xs i y a

pub map-length : {A B : Type 0} (f : A → B) (xs : List A) → length (map f xs) ≡ length xs
map-length f [] = refl
map-length f (x ∷ xs) = ap suc (map-length f xs)

outcome-meant : (p : Prog) (proc : ℕ) (r : Result) → outcome_elem p proc r ≡ elem_meant p (ended proc r)
outcome-meant p proc Unreturned = refl
outcome-meant p proc Returned = refl
outcome-meant p proc (ReturnedWith v) = refl

-- the state is a part of the new one, and the place has its sets
record Part (S : Signature) (x : Step) (s : State) (at : places.At) : Type 0 where
  calls : (c : ℕ) (call : Call) → At s.calls c call → At x.new.calls c call
  invs : (i : ℕ) (inv : Invocation) → At s.invocations i inv → (inv' : Invocation) × At x.new.invocations i inv' × (inv.proc ≡ inv'.proc) × (inv.args ≡ inv'.args)
  committed : (c : ℕ) → c < length x.new.calls → holds_of (meaning_of S x) at.calls (Point c) ≡ is_done s c
  existing : (i : ℕ) → i < length x.new.invocations → holds_of (meaning_of S x) at.invs (Point i) ≡ nat_lt i (length s.invocations)
  results : (i : ℕ) → i < length x.new.invocations → value_at (meaning_of S x) at.results (Point i) ≡ result_elem x.program (slice_get s.invocations i)

module _ (S : Signature) (g : IsSig S) (x : Step) (keeps : IsProgram x.program) (m : IsStep x) where
  part-fits : (s : State) (at : places.At) → Part S x s at → FitsMost x.program (meaning_of S x) at (plain s)
  part-fits s at k = record {
    calls = record {
      calls = λ c l. is-call S g x keeps m c (below c l);
      points = λ e i. let r = point-of S x g e i in (r.0, r.1);
      before = λ c d lc ld. in-pairs (before x.new.calls) (length x.new.calls) c d (below c lc) (below d ld) ∙ ap (meets (λ call. is_in call.past c)) (same d ld);
      ops = λ c call a. op-at S g x keeps m c call (k.calls c call a);
    };
    committed = λ c i. k.committed c (call-below c i);
    invs = λ i l. is-inv S g x keeps m i (inv-below i (subst (λ n. i < n) (map-length info s.invocations) l));
    inv_points = λ e i. let r = inv-of S x g e i in (r.0, r.1);
    existing = λ i h. k.existing i (ltb-true i (length x.new.invocations) (and_parts _ _ h).1) ∙ ap (nat_lt i) (sym (map-length info s.invocations));
    same = λ c d lc ld. in-pairs (same_tx x.new.calls) (length x.new.calls) c d (below c lc) (below d ld)
        ∙ ap₂ (λ o q. meets (λ a. meets (λ b. nat_eq a.tx b.tx) q) o) (same c lc) (same d ld);
    origins = λ c call a. origin-at S g x keeps m c call (k.calls c call a);
    infos = λ i y a.
        let r = map-at info s.invocations i y a in
        let w = k.invs i r.0 r.1 in
        info-at S g x keeps m i w.0 w.1 ∙ (ap₂ (λ n vs. Made (info_con x.program n) (elems_of vs)) (sym w.2) (sym w.3) ∙ ap (λ (y : Info). Made (info_con x.program y.proc) (elems_of y.args)) r.2);
    results = λ i y a.
        let r = map-at info s.invocations i y a in
        let w = k.invs i r.0 r.1 in
        k.results i (at-lt x.new.invocations i w.0 w.1)
        ∙ (ap (result_elem x.program) r.1 ∙ (outcome-meant x.program r.0.proc (result_of r.0.standing) ∙ ap (λ (y : Info). elem_meant x.program (ended y.proc y.result)) r.2));
    sums = λ xs. refl;
    differences = λ xs. refl;
  }
    where
      below : (c : ℕ) → c < length s.calls → c < length x.new.calls
      below c l = let a = at-exists s.calls c l in at-lt x.new.calls c a.0 (k.calls c a.0 a.1)

      inv-below : (i : ℕ) → i < length s.invocations → i < length x.new.invocations
      inv-below i l = let a = at-exists s.invocations i l in let w = k.invs i a.0 a.1 in at-lt x.new.invocations i w.0 w.1

      call-below : (c : ℕ) → Is (meaning_of S x) call_sort (Point c) → c < length x.new.calls
      call-below c i = ltb-true c (length x.new.calls) (and_parts (is_plain (slice_get S.sorts 0)) (nat_lt c (length x.new.calls)) i).1

      same : (c : ℕ) → c < length s.calls → slice_get x.new.calls c ≡ slice_get s.calls c
      same c l = let a = at-exists s.calls c l in k.calls c a.0 a.1 ∙ sym a.1

  pub fits-before : (view : ℕ) → FitsMost x.program (meaning_of S x) (record { view = view; calls = old_rel; invs = was_rel; results = old_result_fn }) (plain x.old)
  fits-before view =
      let its : Kept x = kept x keeps.formed m in
      part-fits x.old (record { view = view; calls = old_rel; invs = was_rel; results = old_result_fn }) (record {
        calls = its.grows.calls;
        invs = λ i inv a. let w = its.grows.invs i inv a in (w.0, w.1, w.2.proc, w.2.args);
        committed = λ c l. found-at (is_done x.old) false (length x.new.calls) c l;
        existing = λ i l. found-at (λ i. nat_lt i (length x.old.invocations)) false (length x.new.invocations) i l;
        results = λ i l. old-at S g x keeps m i l;
      })

  pub fits-after : (view : ℕ) → FitsMost x.program (meaning_of S x) (record { view = view; calls = new_rel; invs = there_rel; results = new_result_fn }) (plain x.new)
  fits-after view =
      part-fits x.new (record { view = view; calls = new_rel; invs = there_rel; results = new_result_fn }) (record {
        calls = λ c call a. a;
        invs = λ i inv a. (inv, a, refl, refl);
        committed = λ c l. found-at (is_done x.new) false (length x.new.calls) c l;
        existing = λ i l. sym (lt-true i (length x.new.invocations) l);
        results = λ i l. new-at S g x keeps m i l;
      })
