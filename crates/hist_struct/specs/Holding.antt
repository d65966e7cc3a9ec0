-- What the laws say together.
use Rattle.std.specs.Prelude.{◌↔◌, ℕ, List, [], ◌∷◌, ◌++◌}
use Rattle.rp_logic.specs.Formulas.{Fm}
use Rattle.rp_lang.specs.Programs.{Prog}
use Rattle.rp_logic.specs.Truth.{Meaning, AllTrue}
use Rattle.hist_struct.specs.Conditions.{BeforeOrders, StampsOrder, TransactionsPart, TransactionsAreWhole, CommitsGrow, ViewsGrow, OwnCallsInLine, ResultsStay, PlacesAreTold, ArgumentsWereResults, MarkersStand}
use Rattle.hist_struct.specs.Registers.{RegistersTell, RegistersAreTold, registers_tell, registers_are_told}
use Rattle.hist_struct.specs.Axioms.{before_orders, stamps_order, transactions_part, transactions_are_whole, commits_grow, views_grow, own_calls_in_line, results_stay, places_are_told, arguments_were_results, markers_stand}

-- the formulas are true exactly where the conditions hold
pub record AreExact (p : Prog) (begins reads : ℕ) (M : Meaning) : Type 0 where
  pub before_orders : AllTrue M before_orders ↔ BeforeOrders M
  pub stamps_order : AllTrue M stamps_order ↔ StampsOrder M
  pub transactions_part : AllTrue M transactions_part ↔ TransactionsPart M
  pub transactions_are_whole : AllTrue M transactions_are_whole ↔ TransactionsAreWhole M
  pub commits_grow : AllTrue M commits_grow ↔ CommitsGrow M
  pub views_grow : AllTrue M (views_grow p begins) ↔ ViewsGrow p begins M
  pub own_calls_in_line : AllTrue M own_calls_in_line ↔ OwnCallsInLine M
  pub results_stay : AllTrue M (results_stay p) ↔ ResultsStay p M
  pub places_are_told : AllTrue M (places_are_told p) ↔ PlacesAreTold p M
  pub arguments_were_results : AllTrue M (arguments_were_results p) ↔ ArgumentsWereResults p M
  pub markers_stand : AllTrue M (markers_stand p) ↔ MarkersStand p M
  pub registers_are_told : AllTrue M (registers_are_told p begins reads) ↔ RegistersAreTold p begins reads M
  -- at whatever relation stands for a view
  pub registers_tell : (view : ℕ) → AllTrue M (registers_tell p view) ↔ RegistersTell p M view

-- the conditions
pub record AreMet (p : Prog) (begins reads : ℕ) (M : Meaning) : Type 0 where
  pub before_orders : BeforeOrders M
  pub stamps_order : StampsOrder M
  pub transactions_part : TransactionsPart M
  pub transactions_are_whole : TransactionsAreWhole M
  pub commits_grow : CommitsGrow M
  pub views_grow : ViewsGrow p begins M
  pub own_calls_in_line : OwnCallsInLine M
  pub results_stay : ResultsStay p M
  pub places_are_told : PlacesAreTold p M
  pub arguments_were_results : ArgumentsWereResults p M
  pub markers_stand : MarkersStand p M
  pub registers_are_told : RegistersAreTold p begins reads M

abbrev pub gathered : List (List Fm) → List Fm
gathered [] = []
gathered (fs ∷ fss) = fs ++ gathered fss

-- the axioms of a program's signatures with so many begins, and so many reading sets that a path adds
abbrev pub axioms : Prog → ℕ → ℕ → List Fm
axioms p begins reads = gathered (before_orders ∷ stamps_order ∷ transactions_part ∷ transactions_are_whole ∷ commits_grow ∷ views_grow p begins ∷ own_calls_in_line ∷ results_stay p ∷ places_are_told p ∷ arguments_were_results p ∷ markers_stand p ∷ registers_are_told p begins reads ∷ [])
