-- The axioms but for those of identifiers and registers are well sorted.
use Rattle.std.proofs.Common.{◌≡◌, ◌<◌, ◌≤◌, ℕ, zero, suc, ◌+◌, ◌-◌, List, [], ◌∷◌, ◌++◌, length, slice_get, true, Some, refl, ap, ◌∙◌, arith}
use Rattle.rp_lang.specs.Programs.{Prog, Proc}
use Rattle.rp_lang.proofs.ProgramFacts.{Facts}
use Rattle.rp_logic.specs.Terms.{Var}
use Rattle.rp_logic.specs.Formulas.{Fm, no_fm}
use Rattle.refute_defs.specs.Closed.{AreWellSorted}
use Rattle.rp_symbols.specs.Numbers.{call_sort, inv_sort, before_rel, stamp_rel, same_rel, old_rel, new_rel, was_rel, there_rel, snapshot_rel, part_rel, seen_rel, read_rel, origin_fn, info_fn, old_result_fn, new_result_fn, info_con, outcome_con, info_sort, outcome_sort}
use Rattle.rp_symbols.specs.Signatures.{result_list, set_decl, set_decls, rel_decls}
use Rattle.rp_symbols.proofs.LookUps.{get-front}
use Rattle.rp_symbols.proofs.Stand.{records-stand, outcomes-stand}
use Rattle.rp_symbols.proofs.StandToo.{seen-stands, read-stands}
use Rattle.crdt_enc.specs.Builders.{one_fm, over_one, applied}
use Rattle.hist_struct.specs.Conditions.{values_of}
use Rattle.hist_struct.specs.Axioms.{two, three, within, rel, not_rel, differ, equal, same_origin, is_mark, is_built, is_returned, before_orders, stamps_order, transactions_part, transactions_are_whole, closed, part_of, commits_grow, of_view, of_views, of_chain, views_grow, own_calls_in_line, markers_stand, results_fit, results_stay}
use Rattle.well_sorted.proofs.Pieces.{set-sorted}
use Rattle.well_sorted.proofs.AxiomPieces.{one_call, two_calls, three_calls, each-both, implied-sorted, sig, Fine, IsSet, IsOutcomes, calls-below, invs-below, on-one, on-two, on-three, on-inv, within-fine, rel-fine, not-fine, differ-fine, origin-sorted, origins-fine, mark-fine, outcome-sorted, returned-fine, info-sorted, built-fine, values-count}

module _ (p : Prog) (f : Facts p) (views : ℕ) (consts : List ℕ) (reads : ℕ) where
  abbrev Each : List Fm → Type 0
  Each fs = AreWellSorted (sig p f views consts reads) fs

  abbrev On : List ℕ → Fm → Type 0
  On scope g = Fine p f views consts reads scope g

  -- # Orders

  pub before_orders-sorted : Each before_orders
  before_orders-sorted = (
    on-one p f views consts reads no_fm (not_rel before_rel 0 0) tt (not-fine p f views consts reads one_call before_rel 0 0 refl refl refl),
    (
      on-three p f views consts reads (two (rel before_rel 2 1) (rel before_rel 1 0)) (rel before_rel 2 0)
          (rel-fine p f views consts reads three_calls before_rel 2 1 refl refl refl, (rel-fine p f views consts reads three_calls before_rel 1 0 refl refl refl, tt))
          (rel-fine p f views consts reads three_calls before_rel 2 0 refl refl refl),
      tt,
    ),
  )

  pub stamps_order-sorted : Each stamps_order
  stamps_order-sorted = (
    on-one p f views consts reads no_fm (not_rel stamp_rel 0 0) tt (not-fine p f views consts reads one_call stamp_rel 0 0 refl refl refl),
    (
      on-three p f views consts reads (two (rel stamp_rel 2 1) (rel stamp_rel 1 0)) (rel stamp_rel 2 0)
          (rel-fine p f views consts reads three_calls stamp_rel 2 1 refl refl refl, (rel-fine p f views consts reads three_calls stamp_rel 1 0 refl refl refl, tt))
          (rel-fine p f views consts reads three_calls stamp_rel 2 0 refl refl refl),
      (
        on-two p f views consts reads (two (differ 1 0) (not_rel stamp_rel 1 0)) (rel stamp_rel 0 1)
            (differ-fine p f views consts reads two_calls 1 0 refl refl, (not-fine p f views consts reads two_calls stamp_rel 1 0 refl refl refl, tt))
            (rel-fine p f views consts reads two_calls stamp_rel 0 1 refl refl refl),
        (
          on-two p f views consts reads (one_fm (rel before_rel 1 0)) (rel stamp_rel 1 0) (rel-fine p f views consts reads two_calls before_rel 1 0 refl refl refl, tt) (rel-fine p f views consts reads two_calls stamp_rel 1 0 refl refl refl),
          tt,
        ),
      ),
    ),
  )

  -- # Transactions

  pub transactions_part-sorted : Each transactions_part
  transactions_part-sorted = (
    on-one p f views consts reads no_fm (rel same_rel 0 0) tt (rel-fine p f views consts reads one_call same_rel 0 0 refl refl refl),
    (
      on-two p f views consts reads (one_fm (rel same_rel 1 0)) (rel same_rel 0 1) (rel-fine p f views consts reads two_calls same_rel 1 0 refl refl refl, tt) (rel-fine p f views consts reads two_calls same_rel 0 1 refl refl refl),
      (
        on-three p f views consts reads (two (rel same_rel 2 1) (rel same_rel 1 0)) (rel same_rel 2 0)
            (rel-fine p f views consts reads three_calls same_rel 2 1 refl refl refl, (rel-fine p f views consts reads three_calls same_rel 1 0 refl refl refl, tt))
            (rel-fine p f views consts reads three_calls same_rel 2 0 refl refl refl),
        (on-two p f views consts reads (one_fm (rel same_rel 1 0)) same_origin (rel-fine p f views consts reads two_calls same_rel 1 0 refl refl refl, tt) (origins-fine p f views consts reads), tt),
      ),
    ),
  )

  pub transactions_are_whole-sorted : Each transactions_are_whole
  transactions_are_whole-sorted = (
    on-three p f views consts reads (three (rel same_rel 2 0) (not_rel same_rel 2 1) (rel before_rel 1 2)) (rel before_rel 1 0) (
      rel-fine p f views consts reads three_calls same_rel 2 0 refl refl refl,
      (not-fine p f views consts reads three_calls same_rel 2 1 refl refl refl, (rel-fine p f views consts reads three_calls before_rel 1 2 refl refl refl, tt)),
    ) (rel-fine p f views consts reads three_calls before_rel 1 0 refl refl refl),
    (
      on-three p f views consts reads (three (rel same_rel 2 0) (not_rel same_rel 2 1) (rel before_rel 2 1)) (rel before_rel 0 1) (
        rel-fine p f views consts reads three_calls same_rel 2 0 refl refl refl,
        (not-fine p f views consts reads three_calls same_rel 2 1 refl refl refl, (rel-fine p f views consts reads three_calls before_rel 2 1 refl refl refl, tt)),
      ) (rel-fine p f views consts reads three_calls before_rel 0 1 refl refl refl),
      tt,
    ),
  )

  -- # Sets of calls

  closed-sorted : (r : ℕ) → IsSet p f views consts reads r → Each (closed r)
  closed-sorted r e = (
    on-two p f views consts reads (two (within r 0) (rel before_rel 1 0)) (within r 1)
        (within-fine p f views consts reads two_calls r 0 e refl, (rel-fine p f views consts reads two_calls before_rel 1 0 refl refl refl, tt))
        (within-fine p f views consts reads two_calls r 1 e refl),
    (
      on-two p f views consts reads (two (within r 1) (rel same_rel 1 0)) (within r 0)
          (within-fine p f views consts reads two_calls r 1 e refl, (rel-fine p f views consts reads two_calls same_rel 1 0 refl refl refl, tt))
          (within-fine p f views consts reads two_calls r 0 e refl),
      tt,
    ),
  )

  part-fine : (r s : ℕ) → IsSet p f views consts reads r → IsSet p f views consts reads s → On [] (part_of r s)
  part-fine r s e h = on-one p f views consts reads (one_fm (within r 0)) (within s 0) (within-fine p f views consts reads one_call r 0 e refl, tt) (within-fine p f views consts reads one_call s 0 h refl)

  pub commits_grow-sorted : Each commits_grow
  commits_grow-sorted = (
    part-fine old_rel new_rel refl refl,
    (
      on-one p f views consts reads (one_fm (within old_rel 0)) (over_one true was_rel (applied origin_fn (Var 0))) (within-fine p f views consts reads one_call old_rel 0 refl refl, tt)
          (set-sorted (sig p f views consts reads) [] one_call true was_rel inv_sort (applied origin_fn (Var 0)) refl (origin-sorted p f views consts reads one_call 0 refl)),
      (
        (invs-below p f views consts reads, set-sorted (sig p f views consts reads) [] (inv_sort ∷ []) true there_rel inv_sort (Var 0) refl refl),
        each-both (sig p f views consts reads) (closed old_rel) (closed new_rel) (closed-sorted old_rel refl) (closed-sorted new_rel refl),
      ),
    ),
  )

  seen-set : (k : ℕ) → k < views - 1 → IsSet p f views consts reads (seen_rel p k)
  seen-set k l = get-front (rel_decls p (views - 1)) (set_decls reads) (seen_rel p k) set_decl (seen-stands p (views - 1) k l)

  read-set : (k : ℕ) → k < views - 1 → IsSet p f views consts reads (read_rel p k)
  read-set k l = get-front (rel_decls p (views - 1)) (set_decls reads) (read_rel p k) set_decl (read-stands p (views - 1) k l)

  view-sorted : (k : ℕ) → k < views - 1 → Each (of_view p k)
  view-sorted k l =
      (part-fine (seen_rel p k) old_rel (seen-set k l) refl, (part-fine (seen_rel p k) (read_rel p k) (seen-set k l) (read-set k l), closed-sorted (seen_rel p k) (seen-set k l)))

  views-sorted : (n : ℕ) → n ≤ views - 1 → Each (of_views p n)
  views-sorted zero l = tt
  views-sorted (suc n) l = each-both (sig p f views consts reads) (of_view p n) (of_views p n) (view-sorted n (omega (arith, l))) (views-sorted n (omega (arith, l)))

  chain-sorted : (n : ℕ) → n ≤ views - 1 → Each (of_chain p n)
  chain-sorted zero l = tt
  chain-sorted (suc zero) l = tt
  chain-sorted (suc (suc n)) l = (part-fine (seen_rel p n) (seen_rel p (suc n)) (seen-set n (omega (arith, l))) (seen-set (suc n) (omega (arith, l))), chain-sorted (suc n) (omega (arith, l)))

  pub views_grow-sorted : Each (views_grow p (views - 1))
  views_grow-sorted =
      let late = of_views p (views - 1) ++ of_chain p (views - 1) in (
        part-fine part_rel old_rel refl refl,
        (
          part-fine snapshot_rel new_rel refl refl,
          (
            part-fine part_rel snapshot_rel refl refl,
            (
              on-one p f views consts reads (two (within snapshot_rel 0) (within old_rel 0)) (within part_rel 0)
                  (within-fine p f views consts reads one_call snapshot_rel 0 refl refl, (within-fine p f views consts reads one_call old_rel 0 refl refl, tt))
                  (within-fine p f views consts reads one_call part_rel 0 refl refl),
              each-both (sig p f views consts reads) (closed snapshot_rel) (closed part_rel ++ late) (closed-sorted snapshot_rel refl)
                  (each-both (sig p f views consts reads) (closed part_rel) late (closed-sorted part_rel refl)
                  (each-both (sig p f views consts reads) (of_views p (views - 1)) (of_chain p (views - 1)) (views-sorted (views - 1) (omega arith)) (chain-sorted (views - 1) (omega arith)))),
            ),
          ),
        ),
      )

  pub own_calls_in_line-sorted : Each own_calls_in_line
  own_calls_in_line-sorted = (
    on-two p f views consts reads (three same_origin (differ 1 0) (not_rel before_rel 1 0)) (rel before_rel 0 1)
        (origins-fine p f views consts reads, (differ-fine p f views consts reads two_calls 1 0 refl refl, (not-fine p f views consts reads two_calls before_rel 1 0 refl refl refl, tt)))
        (rel-fine p f views consts reads two_calls before_rel 0 1 refl refl refl),
    tt,
  )

  pub markers_stand-sorted : Each (markers_stand p)
  markers_stand-sorted = (
    (
      calls-below p f views consts reads,
      (
        calls-below p f views consts reads,
        (
          rel-fine p f views consts reads two_calls same_rel 1 0 refl refl refl,
          (
            mark-fine p f views consts reads two_calls 0 refl,
            (
              implied-sorted (sig p f views consts reads) [] two_calls (one_fm (differ 1 0)) (rel before_rel 0 1) (differ-fine p f views consts reads two_calls 1 0 refl refl, tt)
                  (rel-fine p f views consts reads two_calls before_rel 0 1 refl refl refl),
              tt,
            ),
          ),
        ),
      ),
    ),
    (
      on-two p f views consts reads (three (rel same_rel 1 0) (is_mark p 1) (is_mark p 0)) (equal (Var 1) (Var 0))
          (rel-fine p f views consts reads two_calls same_rel 1 0 refl refl refl, (mark-fine p f views consts reads two_calls 1 refl, (mark-fine p f views consts reads two_calls 0 refl, tt)))
          (call_sort, refl, refl),
      tt,
    ),
  )

  -- # Results

  fit-sorted : (g : ℕ) → IsOutcomes p f views consts reads g → (n : ℕ) (procs : List Proc) → ((j : ℕ) (q : Proc) → slice_get procs j ≡ Some q → slice_get p.procs (n + j) ≡ Some q) → Each (results_fit p g n procs)
  fit-sorted g e n [] at = tt
  fit-sorted g e n (q ∷ procs) at =
      let a : slice_get p.procs n ≡ Some q = ap (slice_get p.procs) (let z : n ≡ n + 0 = omega arith in z) ∙ at 0 q refl in (
        on-inv p f views consts reads (two (is_built (info_con p n) (length q.params) (applied info_fn (Var 0))) (is_returned p g)) (is_built (outcome_con p n) (values_of q.result) (applied g (Var 0))) (
          built-fine p f views consts reads (inv_sort ∷ []) (info_con p n) (length q.params) (info_sort p) q.params (applied info_fn (Var 0)) (records-stand p n q a) refl (info-sorted p f views consts reads),
          (returned-fine p f views consts reads g e, tt),
        )
            (built-fine p f views consts reads (inv_sort ∷ []) (outcome_con p n) (values_of q.result) (outcome_sort p) (result_list q.result) (applied g (Var 0)) (outcomes-stand p n q a)
            (values-count p f views consts reads q.result) (outcome-sorted p f views consts reads g e)),
        fit-sorted g e (suc n) procs (λ j r h. ap (slice_get p.procs) (let z : suc n + j ≡ n + suc j = omega arith in z) ∙ at (suc j) r h),
      )

  pub results_stay-sorted : Each (results_stay p)
  results_stay-sorted =
      let first : (j : ℕ) (q : Proc) → slice_get p.procs j ≡ Some q → slice_get p.procs (0 + j) ≡ Some q = λ j q h. ap (slice_get p.procs) (let z : 0 + j ≡ j = omega arith in z) ∙ h in (
        on-inv p f views consts reads (one_fm (is_returned p old_result_fn)) (equal (applied old_result_fn (Var 0)) (applied new_result_fn (Var 0))) (returned-fine p f views consts reads old_result_fn refl, tt)
            (outcome_sort p, outcome-sorted p f views consts reads old_result_fn refl, outcome-sorted p f views consts reads new_result_fn refl),
        each-both (sig p f views consts reads) (results_fit p old_result_fn 0 p.procs) (results_fit p new_result_fn 0 p.procs) (fit-sorted old_result_fn refl 0 p.procs first) (fit-sorted new_result_fn refl 0 p.procs first),
      )
