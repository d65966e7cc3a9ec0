use Rattle.std.proofs.Common.{◌≡◌, drop}
use Rattle.rp_logic.specs.SigView.{sig_view}
use Rattle.rp_logic.specs.Scopes.{scope_view}
use Rattle.rp_logic.specs.Sorted.{have_sorts}
use Rattle.rp_logic.specs.Views.{terms_view}
use Rattle.rp_logic.proofs.sorted.+has_sort.Given as goal

abbrev pub invariant-have_sorts-loop-i : goal.invariant-have_sorts-loop-i
invariant-have_sorts-loop-i l =
    have_sorts (sig_view l.sig) l.added (scope_view l.scope) l.sorts (terms_view l.terms)
    ≡ have_sorts (sig_view l.sig) l.added (scope_view l.scope) (drop l.i l.sorts) (terms_view (drop l.i l.terms))
