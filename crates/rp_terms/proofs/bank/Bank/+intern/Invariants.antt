use Rattle.std.proofs.Common.{◌≡◌, take, map}
use Rattle.std.specs.Prelude.{slice_get, Some}
use Rattle.rp_logic.specs.Views.{term_view, terms_view}
use Rattle.rp_terms.specs.Numbered.{AddsAll, parts_of_each}
use Rattle.rp_terms.proofs.bank.Bank.+intern.Given as goal

abbrev pub invariant-intern_all-loop-t : goal.invariant-intern_all-loop-t
invariant-intern_all-loop-t l =
    (map (slice_get l.self) l.ids ≡ map (λ t. Some (term_view t)) (take l.t-index l.terms))
    × AddsAll l.fn.self (parts_of_each (terms_view (take l.t-index l.terms))) l.self
