-- All axioms are well sorted.
use Rattle.std.proofs.Common.{◌≡◌, ℕ, ◌-◌, List, [], ◌∷◌, true}
use Rattle.rp_lang.specs.Programs.{Prog}
use Rattle.rp_lang.specs.WellFormed.{is_well_formed}
use Rattle.rp_lang.proofs.ProgramFacts.{facts}
use Rattle.rp_logic.specs.Formulas.{Fm}
use Rattle.rp_logic.specs.Signatures.{Signature}
use Rattle.refute_defs.specs.Closed.{AreWellSorted}
use Rattle.rp_symbols.specs.Signatures.{sig_of, with_path}
use Rattle.hist_struct.specs.Axioms.{before_orders, stamps_order, transactions_part, transactions_are_whole, commits_grow, views_grow, own_calls_in_line, results_stay, places_are_told, arguments_were_results, markers_stand}
use Rattle.hist_struct.specs.Holding.{gathered, axioms}
use Rattle.hist_struct.specs.Registers.{registers_are_told}
use Rattle.well_sorted.proofs.AxiomPieces.{each-both}
use Rattle.well_sorted.proofs.AxiomSorts.{before_orders-sorted, stamps_order-sorted, transactions_part-sorted, transactions_are_whole-sorted, commits_grow-sorted, views_grow-sorted, own_calls_in_line-sorted, markers_stand-sorted, results_stay-sorted}
use Rattle.well_sorted.proofs.PlaceSorts.{places_are_told-sorted, arguments_were_results-sorted}
use Rattle.well_sorted.proofs.RegisterSorts.{registers_are_told-sorted}

abbrev EachList : Signature → List (List Fm) → Type 0
EachList S [] = Unit {0}
EachList S (fs ∷ fss) = AreWellSorted S fs × EachList S fss

all-gathered : (S : Signature) (fss : List (List Fm)) → EachList S fss → AreWellSorted S (gathered fss)
all-gathered S [] h = tt
all-gathered S (fs ∷ fss) h = each-both S fs (gathered fss) h.0 (all-gathered S fss h.1)

pub axioms-sorted : (p : Prog) (views reads : ℕ) (consts : List ℕ) → is_well_formed p ≡ true → AreWellSorted (with_path p consts reads (sig_of p views)) (axioms p (views - 1) reads)
axioms-sorted p views reads consts w =
    let f = facts p w in
    all-gathered (with_path p consts reads (sig_of p views)) (before_orders ∷ stamps_order ∷ transactions_part ∷ transactions_are_whole ∷ commits_grow ∷ views_grow p (views - 1) ∷ own_calls_in_line ∷ results_stay p ∷ places_are_told p ∷ arguments_were_results p ∷ markers_stand p ∷ registers_are_told p (views - 1) reads ∷ []) (
      before_orders-sorted p f views consts reads,
      (
        stamps_order-sorted p f views consts reads,
        (
          transactions_part-sorted p f views consts reads,
          (
            transactions_are_whole-sorted p f views consts reads,
            (
              commits_grow-sorted p f views consts reads,
              (
                views_grow-sorted p f views consts reads,
                (
                  own_calls_in_line-sorted p f views consts reads,
                  (
                    results_stay-sorted p f views consts reads,
                    (
                      places_are_told-sorted p f views consts reads,
                      (arguments_were_results-sorted p f views consts reads, (markers_stand-sorted p f views consts reads, (registers_are_told-sorted p w views consts reads, tt))),
                    ),
                  ),
                ),
              ),
            ),
          ),
        ),
      ),
    )
