use Rattle.std.proofs.Common.{◌≡◌, drop, reverse}
use Rattle.rp_logic.specs.Views.{terms_view}
use Rattle.refute_branch.specs.means.Marking.{with_terms}
use Rattle.refute_branch.proofs.marks.+mark_term.Given as goal

abbrev pub invariant-mark_terms-loop-t : goal.invariant-mark_terms-loop-t
invariant-mark_terms-loop-t l =
    with_terms l.consts l.place (terms_view l.terms) (reverse l.initial.marks)
    ≡ with_terms l.consts l.place (terms_view (drop l.t-index l.terms)) (reverse l.marks)
