use Rattle.std.proofs.Common.{◌≡◌, drop}
use Rattle.std.specs.List.{list_all}
use Rattle.rp_logic.specs.Views.{formula_view}
use Rattle.rp_logic.specs.SigView.{sig_view}
use Rattle.spent_tests.specs.Views.{only_terms, ranked_view}
use Rattle.spent_tests.specs.means.Parts.{is_plain_there}
use Rattle.spent_tests.proofs.due.are_plain_instances_there.Given as goal

abbrev pub invariant-loop-s : goal.invariant-loop-s
invariant-loop-s l =
    list_all (is_plain_there (sig_view l.sig) (ranked_view l.b) l.n l.all.rank l.all.sort
    (formula_view l.all.body.now)) (only_terms l.standing)
    ≡ list_all (is_plain_there (sig_view l.sig) (ranked_view l.b) l.n l.all.rank l.all.sort
    (formula_view l.all.body.now)) (only_terms (drop l.s-index l.standing))
