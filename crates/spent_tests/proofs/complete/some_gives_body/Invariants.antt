use Rattle.std.proofs.Common.{◌≡◌, drop}
use Rattle.std.specs.List.{list_any}
use Rattle.rp_logic.specs.Views.{formula_view}
use Rattle.rp_logic.specs.SigView.{sig_view}
use Rattle.refute_branch.specs.Views.{branch_view}
use Rattle.spent_defs.specs.Complete.{gives_body}
use Rattle.spent_tests.specs.Views.{only_terms}
use Rattle.spent_tests.proofs.complete.some_gives_body.Given as goal

abbrev pub invariant-loop-s : goal.invariant-loop-s
invariant-loop-s l =
    list_any (gives_body (sig_view l.sig) (branch_view l.b) l.sort (formula_view l.body)) (only_terms l.standing)
    ≡ list_any (gives_body (sig_view l.sig) (branch_view l.b) l.sort (formula_view l.body)) (only_terms (drop l.s-index l.standing))
