use Rattle.std.proofs.Common.{◌≡◌, ◌<◌, ℕ}
use Rattle.std.specs.Prelude.{slice_get, Some}
use Rattle.rp_logic.specs.declared.term.Term.{Term}
use Rattle.rp_logic.specs.Views.{term_view}
use Rattle.rp_terms.proofs.bank.Bank.+is_at.Given as goal

abbrev pub invariant-are_at-loop-i : goal.invariant-are_at-loop-i
invariant-are_at-loop-i l =
    (k p : ℕ) (t : Term) → k < l.i → slice_get l.ids k ≡ Some p → slice_get l.terms k ≡ Some t → slice_get l.self p ≡ Some (term_view t)
