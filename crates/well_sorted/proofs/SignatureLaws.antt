-- What the signatures of programs have, and the laws of encoded formulas from it.
use Rattle.std.proofs.Common.{◌≡◌, ◌<◌, ℕ, suc, ◌+◌, ◌-◌, ◌*◌, List, [], ◌∷◌, slice_get, true, Some, refl, sym, subst, arith}
use Rattle.std.proofs.lemmas.Bool.{and_parts, and_from}
use Rattle.std.proofs.lemmas.Option.{none-some}
use Rattle.rp_value.specs.declared.tables.Ty.{Ty}
use Rattle.rp_lang.specs.Formulas.{Fo}
use Rattle.rp_lang.specs.Exprs.{Ex}
use Rattle.rp_lang.specs.Typing.{Frame, in_invariant, type_of, is_typed}
use Rattle.rp_lang.specs.Programs.{Prog}
use Rattle.rp_lang.specs.WellFormed.{is_well_formed}
use Rattle.rp_logic.specs.declared.sort.NewConst.{NewConst}
use Rattle.rp_logic.specs.Terms.{Tm, Tms, Var, Const, Fn, Int, Str, Con, Sel, Plus, no_tm, also_tm}
use Rattle.rp_logic.specs.Signatures.{Signature, is_int, is_con_of, fields_of}
use Rattle.rp_logic.specs.Sorted.{is_sort, gives, takes, sort_of_con, has_sort, have_sorts, IsSorted}
use Rattle.rp_logic.proofs.SortLaws.{no}
use Rattle.rp_symbols.specs.Numbers.{ids, view_place, old_rel, snapshot_rel, part_rel, seen_rel, read_rel, added_rel}
use Rattle.rp_symbols.specs.Signatures.{sort_of, set_decl, set_decls, rel_decls, sig_of, with_path}
use Rattle.rp_symbols.proofs.LookUps.{get-front}
use Rattle.rp_symbols.proofs.StandToo.{seen-stands, read-stands, added-stands, values-with, view-place}
use Rattle.crdt_enc.specs.Places.{At}
use Rattle.crdt_enc.specs.FormulaFormulas.{or_false_tm, formula_of, term_of, nothing_around}
use Rattle.hist_struct.specs.Snapshots.{before_at, after_at}
use Rattle.well_sorted.specs.Symbols.{HasSymbols, HasPlace, SlotsSorted, with_slots}
use Rattle.well_sorted.proofs.TermSorts.{setting, AroundSorted, term-sorted}
use Rattle.well_sorted.proofs.FormulaSorts.{formula-sorted}

-- # Signatures

pub symbols : (p : Prog) (views reads : ℕ) (consts : List ℕ) → HasSymbols p (with_path p consts reads (sig_of p views))
symbols p views reads consts = record { sorts = refl; cons = refl; before = refl; same = refl; op = refl; origin = refl; info = refl; add = refl; sub = refl }

-- at the state before the step
before-place : (p : Prog) (views reads : ℕ) (consts : List ℕ) (view place : ℕ) → slice_get (with_path p consts reads (sig_of p views)).rels view ≡ Some set_decl → view_place p view ≡ place
    → place < 3 + (views - 1 + (views - 1)) + reads → HasPlace p (with_path p consts reads (sig_of p views)) (before_at view)
before-place p views reads consts view place e q l = record {
  view = e;
  calls = refl;
  invs = refl;
  results = refl;
  vals = λ n query a g. values-with p (views - 1) reads view n query a g (subst (λ k. k < 3 + (views - 1 + (views - 1)) + reads) (sym q) l);
}

pub old-place : (p : Prog) (views reads : ℕ) (consts : List ℕ) → HasPlace p (with_path p consts reads (sig_of p views)) (before_at old_rel)
old-place p views reads consts = before-place p views reads consts old_rel 0 refl refl (omega arith)

pub part-place : (p : Prog) (views reads : ℕ) (consts : List ℕ) → HasPlace p (with_path p consts reads (sig_of p views)) (before_at part_rel)
part-place p views reads consts = before-place p views reads consts part_rel 2 refl refl (omega arith)

pub snapshot-place : (p : Prog) (views reads : ℕ) (consts : List ℕ) → HasPlace p (with_path p consts reads (sig_of p views)) (after_at snapshot_rel)
snapshot-place p views reads consts = record {
  view = refl;
  calls = refl;
  invs = refl;
  results = refl;
  vals = λ n query a g. values-with p (views - 1) reads snapshot_rel n query a g (let l : 1 < 3 + (views - 1 + (views - 1)) + reads = omega arith in l);
}

pub seen-place : (p : Prog) (views reads : ℕ) (consts : List ℕ) (k : ℕ) → k < views - 1 → HasPlace p (with_path p consts reads (sig_of p views)) (before_at (seen_rel p k))
seen-place p views reads consts k l =
    before-place p views reads consts (seen_rel p k) (suc (suc (suc (k + k)))) (get-front (rel_decls p (views - 1)) (set_decls reads) (seen_rel p k) set_decl (seen-stands p (views - 1) k l))
    (view-place p (3 * ids p.types.atoms + (k + k)) (k + k) refl) (omega (arith, l))

pub read-place : (p : Prog) (views reads : ℕ) (consts : List ℕ) (k : ℕ) → k < views - 1 → HasPlace p (with_path p consts reads (sig_of p views)) (before_at (read_rel p k))
read-place p views reads consts k l =
    before-place p views reads consts (read_rel p k) (suc (suc (suc (suc (k + k))))) (get-front (rel_decls p (views - 1)) (set_decls reads) (read_rel p k) set_decl (read-stands p (views - 1) k l))
    (view-place p (3 * ids p.types.atoms + suc (k + k)) (suc (k + k)) refl) (omega (arith, l))

pub added-place : (p : Prog) (views reads : ℕ) (consts : List ℕ) (j : ℕ) → j < reads → HasPlace p (with_path p consts reads (sig_of p views)) (before_at (added_rel p (views - 1) j))
added-place p views reads consts j l =
    before-place p views reads consts (added_rel p (views - 1) j) (suc (suc (suc (views - 1 + (views - 1) + j)))) (added-stands p (views - 1) reads j l)
    (view-place p (3 * ids p.types.atoms + (views - 1 + (views - 1) + j)) (views - 1 + (views - 1) + j) refl) (omega (arith, l))

-- # Closed terms

mutual
  closed-anywhere : (t : Tm) (S : Signature) (added : List NewConst) (scope : List ℕ) (s : ℕ) → has_sort S added [] s t ≡ true → has_sort S added scope s t ≡ true
  closed-anywhere (Var n) S added scope s h = no h
  closed-anywhere (Const c) S added scope s h = h
  closed-anywhere (Fn f ts) S added scope s h =
      let b = and_parts (gives (slice_get S.fns f) s) (have_sorts S added [] (takes (slice_get S.fns f)) ts) h in
      and_from (gives (slice_get S.fns f) s) _ b.0 (all-anywhere ts S added scope (takes (slice_get S.fns f)) b.1)
  closed-anywhere (Int n) S added scope s h = h
  closed-anywhere (Str n) S added scope s h = h
  closed-anywhere (Con c ts) S added scope s h =
      let b = and_parts (is_con_of (slice_get S.cons c) s) (have_sorts S added [] (fields_of (slice_get S.cons c)) ts) h in
      and_from (is_con_of (slice_get S.cons c) s) _ b.0 (all-anywhere ts S added scope (fields_of (slice_get S.cons c)) b.1)
  closed-anywhere (Sel c i t) S added scope s h =
      let b = and_parts (is_sort (slice_get (fields_of (slice_get S.cons c)) i) s) (has_sort S added [] (sort_of_con (slice_get S.cons c)) t) h in
      and_from (is_sort (slice_get (fields_of (slice_get S.cons c)) i) s) _ b.0 (closed-anywhere t S added scope (sort_of_con (slice_get S.cons c)) b.1)
  closed-anywhere (Plus t n) S added scope s h =
      let b = and_parts (is_int (slice_get S.sorts s)) (has_sort S added [] s t) h in and_from (is_int (slice_get S.sorts s)) _ b.0 (closed-anywhere t S added scope s b.1)

  all-anywhere : (ts : Tms) (S : Signature) (added : List NewConst) (scope : List ℕ) (ss : List ℕ) → have_sorts S added [] ss ts ≡ true → have_sorts S added scope ss ts ≡ true
  all-anywhere no_tm S added scope [] h = refl
  all-anywhere no_tm S added scope (s ∷ ss) h = h
  all-anywhere (also_tm t ts) S added scope [] h = h
  all-anywhere (also_tm t ts) S added scope (s ∷ ss) h =
      let b = and_parts (has_sort S added [] s t) (have_sorts S added [] ss ts) h in and_from (has_sort S added scope s t) _ (closed-anywhere t S added scope s b.0) (all-anywhere ts S added scope ss b.1)

-- # The laws

pub invariant-sorted : (p : Prog) (S : Signature) (at : At) → is_well_formed p ≡ true → HasSymbols p S → HasPlace p S at → (f : Fo) → is_typed p in_invariant [] f ≡ true
    → IsSorted S [] [] (formula_of p at nothing_around f)
invariant-sorted p S at w has place f h =
    formula-sorted p (setting p S [] at w has place) in_invariant f [] nothing_around [] (record { slots = λ s t e. absurd (none-some t e); bounds = tt }) h

around : (p : Prog) (S : Signature) (added : List NewConst) (at : At) → (w : is_well_formed p ≡ true) → (has : HasSymbols p S) → (place : HasPlace p S at) → (frame : Frame) (slots : List Tm)
    → SlotsSorted p S added frame slots → AroundSorted p (setting p S added at w has place) frame [] (with_slots slots) []
around p S added at w has place frame slots h = record { slots = λ s t e. let k = h s t e in (k.0, λ scope. closed-anywhere (or_false_tm (slice_get slots s)) S added scope (sort_of p t) k.1); bounds = tt }

pub slots-sorted : (p : Prog) (S : Signature) (added : List NewConst) (at : At) → is_well_formed p ≡ true → HasSymbols p S → HasPlace p S at → (frame : Frame) (slots : List Tm) → SlotsSorted p S added frame slots
    → (f : Fo) → is_typed p frame [] f ≡ true → IsSorted S added [] (formula_of p at (with_slots slots) f)
slots-sorted p S added at w has place frame slots s f h = formula-sorted p (setting p S added at w has place) frame f [] (with_slots slots) [] (around p S added at w has place frame slots s) h

pub expr-sorted : (p : Prog) (S : Signature) (added : List NewConst) (at : At) → is_well_formed p ≡ true → HasSymbols p S → HasPlace p S at → (frame : Frame) (slots : List Tm) → SlotsSorted p S added frame slots
    → (e : Ex) (t : Ty) → type_of p frame [] e ≡ Some t → has_sort S added [] (sort_of p t) (term_of p at (with_slots slots) e) ≡ true
expr-sorted p S added at w has place frame slots s e t h = term-sorted p (setting p S added at w has place) frame e t [] (with_slots slots) [] (around p S added at w has place frame slots s) h
