-- All axioms together.
use Rattle.std.proofs.Common.{◌≡◌, ℕ, true, List, [], ◌∷◌, length}
use Rattle.rp_lang.specs.WellFormed.{is_well_formed}
use Rattle.hist_struct.proofs.SigLaws.{sig-is}
use Rattle.rp_lang.specs.Programs.{Prog}
use Rattle.rp_logic.specs.Formulas.{Fm}
use Rattle.rp_logic.specs.Truth.{Meaning, AllTrue}
use Rattle.hist_struct.specs.Steps.{Step, begins, IsStep}
use Rattle.hist_struct.proofs.StepPrograms.{program-is}
use Rattle.hist_struct.specs.Structure.{sig_at, meaning_of}
use Rattle.hist_struct.specs.Axioms.{before_orders, stamps_order, transactions_part, transactions_are_whole, commits_grow, views_grow, own_calls_in_line, results_stay, places_are_told, arguments_were_results, markers_stand}
use Rattle.hist_struct.specs.Registers.{registers_are_told}
use Rattle.hist_struct.proofs.RegisterSteps.{registers_are_told-exact, registers_are_told-met}
use Rattle.hist_struct.specs.Holding.{AreExact, AreMet, gathered, axioms}
use Rattle.hist_struct.proofs.Implied.{all-both}
use Rattle.hist_struct.proofs.Exact.{before_orders-exact, stamps_order-exact, transactions_part-exact, transactions_are_whole-exact, commits_grow-exact, views_grow-exact, own_calls_in_line-exact, markers_stand-exact}
use Rattle.hist_struct.proofs.ResultExact.{results_stay-exact, arguments_were_results-exact}
use Rattle.hist_struct.proofs.PlaceExact.{places_are_told-exact}
use Rattle.hist_struct.proofs.RegisterExact.{registers_tell-exact}
use Rattle.hist_struct.proofs.PlaceLaws.{places_are_told-met}
use Rattle.hist_struct.proofs.StepLaws.{before_orders-met, stamps_order-met, transactions_part-met, transactions_are_whole-met, commits_grow-met, views_grow-met, own_calls_in_line-met, markers_stand-met}
use Rattle.hist_struct.proofs.ResultLaws.{results_stay-met, arguments_were_results-met}

pub exact : (p : Prog) (begins reads : ℕ) (M : Meaning) → AreExact p begins reads M
exact p begins reads M = record {
  before_orders = before_orders-exact M;
  stamps_order = stamps_order-exact M;
  transactions_part = transactions_part-exact M;
  transactions_are_whole = transactions_are_whole-exact M;
  commits_grow = commits_grow-exact M;
  views_grow = views_grow-exact p begins M;
  own_calls_in_line = own_calls_in_line-exact M;
  results_stay = results_stay-exact p M;
  places_are_told = places_are_told-exact p M;
  arguments_were_results = arguments_were_results-exact p M;
  markers_stand = markers_stand-exact p M;
  registers_are_told = registers_are_told-exact p begins reads M;
  registers_tell = registers_tell-exact p M;
}

pub met : (x : Step) (consts : List ℕ) → is_well_formed x.program ≡ true → IsStep x → AreMet x.program (begins x) (length x.reads) (meaning_of (sig_at x consts) x)
met x consts w m =
    let g = sig-is x.program x.views consts (length x.reads) in
    let k = program-is x.program w in
    record {
      before_orders = before_orders-met (sig_at x consts) g x k m;
      stamps_order = stamps_order-met (sig_at x consts) g x k m;
      transactions_part = transactions_part-met (sig_at x consts) g x k m;
      transactions_are_whole = transactions_are_whole-met (sig_at x consts) g x k m;
      commits_grow = commits_grow-met (sig_at x consts) g x k m;
      views_grow = views_grow-met (sig_at x consts) g x k m;
      own_calls_in_line = own_calls_in_line-met (sig_at x consts) g x k m;
      results_stay = results_stay-met (sig_at x consts) g x k m;
      places_are_told = places_are_told-met (sig_at x consts) g x k m;
      arguments_were_results = arguments_were_results-met (sig_at x consts) g x k m;
      markers_stand = markers_stand-met (sig_at x consts) g x k m;
      registers_are_told = registers_are_told-met x consts w m;
    }

abbrev EachTrue : Meaning → List (List Fm) → Type 0
EachTrue M [] = Unit {0}
EachTrue M (fs ∷ fss) = AllTrue M fs × EachTrue M fss

all-gathered : (fss : List (List Fm)) (M : Meaning) → EachTrue M fss → AllTrue M (gathered fss)
all-gathered [] M h = tt
all-gathered (fs ∷ fss) M h = (all-both fs (gathered fss) M).1 (h.0, all-gathered fss M h.1)

pub all-true : (p : Prog) (begins reads : ℕ) (M : Meaning) → AreMet p begins reads M → AllTrue M (axioms p begins reads)
all-true p begins reads M h =
    let e = exact p begins reads M in
    all-gathered (before_orders ∷ stamps_order ∷ transactions_part ∷ transactions_are_whole ∷ commits_grow ∷ views_grow p begins ∷ own_calls_in_line ∷ results_stay p ∷ places_are_told p ∷ arguments_were_results p ∷ markers_stand p ∷ registers_are_told p begins reads ∷ []) M (
      e.before_orders.1 h.before_orders,
      (
        e.stamps_order.1 h.stamps_order,
        (
          e.transactions_part.1 h.transactions_part,
          (
            e.transactions_are_whole.1 h.transactions_are_whole,
            (
              e.commits_grow.1 h.commits_grow,
              (
                e.views_grow.1 h.views_grow,
                (
                  e.own_calls_in_line.1 h.own_calls_in_line,
                  (e.results_stay.1 h.results_stay, (e.places_are_told.1 h.places_are_told, (e.arguments_were_results.1 h.arguments_were_results, (e.markers_stand.1 h.markers_stand, (e.registers_are_told.1 h.registers_are_told, tt))))),
                ),
              ),
            ),
          ),
        ),
      ),
    )
