-- Formulas of the axioms put together are well sorted.
use Rattle.std.proofs.Common.{◌≡◌, ◌<◌, ℕ, List, [], ◌∷◌, ◌++◌, length, map, slice_get, true, false, Option, Some, None, refl, sym, ap, ◌∙◌, arith}
use Rattle.std.proofs.lemmas.Bool.{and_parts}
use Rattle.std.proofs.lemmas.List.{length-map}
use Rattle.rp_value.specs.declared.tables.Ty.{Ty}
use Rattle.rp_lang.specs.declared.op.OpDecl.{OpDecl}
use Rattle.rp_lang.specs.Paths.{is_tx}
use Rattle.rp_lang.specs.Programs.{Prog}
use Rattle.rp_lang.specs.WellFormed.{are_ops}
use Rattle.rp_lang.proofs.ProgramFacts.{Facts, nothing}
use Rattle.rp_logic.specs.declared.sort.NewConst.{NewConst}
use Rattle.rp_logic.specs.Dual.{duals}
use Rattle.rp_logic.specs.Terms.{Tm, Var, no_tm}
use Rattle.rp_logic.specs.Formulas.{Fm, Fms, no_fm, also_fm}
use Rattle.rp_logic.specs.Signatures.{Signature}
use Rattle.rp_logic.specs.Sorted.{has_sort, have_sorts, IsSorted, AreSorted}
use Rattle.rp_logic.proofs.DualSorts.{dual-sorted, duals-sorted}
use Rattle.rp_logic.proofs.SortLaws.{no}
use Rattle.refute_defs.specs.Closed.{AreWellSorted}
use Rattle.rp_symbols.specs.Numbers.{call_sort, inv_sort, op_sort, info_sort, outcome_sort, op_fn, origin_fn, info_fn, op_con, unreturned_con}
use Rattle.rp_symbols.specs.Signatures.{sort_of, con_of, result_list, fn_of, sig_of, with_path}
use Rattle.rp_symbols.proofs.Stand.{operations-stand, unreturned-stands}
use Rattle.crdt_enc.specs.Builders.{one_fm, applied}
use Rattle.hist_struct.specs.Axioms.{implied, each_call, each_two, each_three, each_inv, rel, not_rel, within, differ, is_mark, same_origin, is_returned, is_built}
use Rattle.hist_struct.specs.Conditions.{values_of}
use Rattle.well_sorted.proofs.Pieces.{applied-sorted, con-sorted, built-sorted, set-sorted, pair-sorted, joined-sorted}

-- # Lists of closed formulas

pub each-both : (S : Signature) (fs gs : List Fm) → AreWellSorted S fs → AreWellSorted S gs → AreWellSorted S (fs ++ gs)
each-both S [] gs h k = k
each-both S (f ∷ fs) gs h k = (h.0, each-both S fs gs h.1 k)

pub implied-sorted : (S : Signature) (added : List NewConst) (scope : List ℕ) (gs : Fms) (f : Fm) → AreSorted S added scope gs → IsSorted S added scope f → IsSorted S added scope (implied gs f)
implied-sorted S added scope no_fm f h k = k
implied-sorted S added scope (also_fm g gs) f h k = (dual-sorted g S added scope h.0, joined-sorted S added scope (duals gs) (one_fm f) (duals-sorted gs S added scope h.1) (k, tt))

-- # Over one, two and three calls

abbrev pub one_call : List ℕ
one_call = call_sort ∷ []

abbrev pub two_calls : List ℕ
two_calls = call_sort ∷ one_call

abbrev pub three_calls : List ℕ
three_calls = call_sort ∷ two_calls

-- operation 0 opens transactions and has no arguments
first-op : (p : Prog) (ops : List OpDecl) → are_ops p.roots ops ≡ true → (op : OpDecl) × (slice_get ops 0 ≡ Some op) × (op.args ≡ [])
first-op p [] h = no h
first-op p (op ∷ ops) h = (op, refl, nothing op.args (and_parts _ _ (and_parts (is_tx op) _ (and_parts _ _ h).0).0).1)

module _ (p : Prog) (f : Facts p) (views : ℕ) (consts : List ℕ) (reads : ℕ) where
  abbrev pub sig : Signature
  sig = with_path p consts reads (sig_of p views)

  abbrev pub Fine : List ℕ → Fm → Type 0
  Fine scope g = IsSorted sig [] scope g

  abbrev pub AllFine : List ℕ → Fms → Type 0
  AllFine scope gs = AreSorted sig [] scope gs

  pub calls-below : call_sort < length sig.sorts
  calls-below = omega arith

  pub invs-below : inv_sort < length sig.sorts
  invs-below = omega arith

  pub on-one : (gs : Fms) (g : Fm) → AllFine one_call gs → Fine one_call g → Fine [] (each_call gs g)
  on-one gs g h k = (calls-below, implied-sorted sig [] one_call gs g h k)

  pub on-two : (gs : Fms) (g : Fm) → AllFine two_calls gs → Fine two_calls g → Fine [] (each_two gs g)
  on-two gs g h k = (calls-below, (calls-below, implied-sorted sig [] two_calls gs g h k))

  pub on-three : (gs : Fms) (g : Fm) → AllFine three_calls gs → Fine three_calls g → Fine [] (each_three gs g)
  on-three gs g h k = (calls-below, (calls-below, (calls-below, implied-sorted sig [] three_calls gs g h k)))

  pub on-inv : (gs : Fms) (g : Fm) → AllFine (inv_sort ∷ []) gs → Fine (inv_sort ∷ []) g → Fine [] (each_inv gs g)
  on-inv gs g h k = (invs-below, implied-sorted sig [] (inv_sort ∷ []) gs g h k)

  -- the variable is a call
  abbrev pub IsCall : List ℕ → ℕ → Type 0
  IsCall scope a = has_sort sig [] scope call_sort (Var a) ≡ true

  -- a set of calls, a relation of calls
  abbrev pub IsSet : ℕ → Type 0
  IsSet r = slice_get sig.rels r ≡ Some (call_sort ∷ [])

  abbrev pub IsPair : ℕ → Type 0
  IsPair r = slice_get sig.rels r ≡ Some (call_sort ∷ call_sort ∷ [])

  pub within-fine : (scope : List ℕ) (r a : ℕ) → IsSet r → IsCall scope a → Fine scope (within r a)
  within-fine scope r a e h = set-sorted sig [] scope true r call_sort (Var a) e h

  pub rel-fine : (scope : List ℕ) (r a b : ℕ) → IsPair r → IsCall scope a → IsCall scope b → Fine scope (rel r a b)
  rel-fine scope r a b e h k = pair-sorted sig [] scope true r call_sort call_sort (Var a) (Var b) e h k

  pub not-fine : (scope : List ℕ) (r a b : ℕ) → IsPair r → IsCall scope a → IsCall scope b → Fine scope (not_rel r a b)
  not-fine scope r a b e h k = pair-sorted sig [] scope false r call_sort call_sort (Var a) (Var b) e h k

  pub differ-fine : (scope : List ℕ) (a b : ℕ) → IsCall scope a → IsCall scope b → Fine scope (differ a b)
  differ-fine scope a b h k = (call_sort, h, k)

  pub origin-sorted : (scope : List ℕ) (a : ℕ) → IsCall scope a → has_sort sig [] scope inv_sort (applied origin_fn (Var a)) ≡ true
  origin-sorted scope a h = applied-sorted sig [] scope origin_fn call_sort inv_sort (Var a) refl h

  pub origins-fine : Fine two_calls same_origin
  origins-fine = (inv_sort, origin-sorted two_calls 1 refl, origin-sorted two_calls 0 refl)

  pub mark-fine : (scope : List ℕ) (a : ℕ) → IsCall scope a → Fine scope (is_mark p a)
  mark-fine scope a h =
      let op = first-op p p.ops f.ops in (
        op_sort p,
        applied-sorted sig [] scope op_fn call_sort (op_sort p) (Var a) refl h,
        con-sorted sig [] scope (op_con p 0) (con_of (op_sort p) (map (sort_of p) op.0.args)) no_tm (operations-stand p 0 op.0 op.1) (ap (λ tys. have_sorts sig [] scope (map (sort_of p) tys) no_tm) op.2),
      )

  -- # Over invocations

  -- a function that gives outcomes
  abbrev pub IsOutcomes : ℕ → Type 0
  IsOutcomes g = slice_get sig.fns g ≡ Some (fn_of (inv_sort ∷ []) (outcome_sort p))

  pub outcome-sorted : (g : ℕ) → IsOutcomes g → has_sort sig [] (inv_sort ∷ []) (outcome_sort p) (applied g (Var 0)) ≡ true
  outcome-sorted g e = applied-sorted sig [] (inv_sort ∷ []) g inv_sort (outcome_sort p) (Var 0) e refl

  pub returned-fine : (g : ℕ) → IsOutcomes g → Fine (inv_sort ∷ []) (is_returned p g)
  returned-fine g e = (outcome_sort p, outcome-sorted g e, con-sorted sig [] (inv_sort ∷ []) (unreturned_con p) (con_of (outcome_sort p) []) no_tm (unreturned-stands p) refl)

  pub info-sorted : has_sort sig [] (inv_sort ∷ []) (info_sort p) (applied info_fn (Var 0)) ≡ true
  info-sorted = applied-sorted sig [] (inv_sort ∷ []) info_fn inv_sort (info_sort p) (Var 0) refl refl

  -- built with a constructor over so many
  pub built-fine : (scope : List ℕ) (con n s : ℕ) (tys : List Ty) (t : Tm) → slice_get sig.cons con ≡ Some (con_of s (map (sort_of p) tys)) → n ≡ length tys → has_sort sig [] scope s t ≡ true → Fine scope (is_built con n t)
  built-fine scope con n s tys t e c h =
      (s, h, built-sorted sig [] scope con (con_of s (map (sort_of p) tys)) n [] t e (c ∙ sym (length-map tys (sort_of p))) (record { heads = []; rest = map (sort_of p) tys; are = refl; have = refl }) h)

  pub values-count : (o : Option Ty) → values_of o ≡ length (result_list o)
  values-count None = refl
  values-count (Some t) = refl
