use Rattle.std.proofs.Common.{◌∙◌, ap, length, reverse}
use Rattle.rp_logic.specs.Views.{formula_view}
use Rattle.refute_branch.specs.means.Marking.{with_formula}
use Rattle.refute_branch.proofs.MarkedBranches.{formula_marked}
use Rattle.refute_branch.proofs.branch.add_formula.Goals as goal

pub returns-clause-marked : goal.returns-clause-marked
returns-clause-marked c =
    formula_marked (length c.args.sig.now.consts) c.count-place.result c.args.b.now.formulas
    c.push.new.self c.args.formula c.get-formula.result.now c.args.b.now.marks
    c.mark_formula.new.marks c.count-place.ensures.length c.in_ok-push.ensures.ok
    c.get-formula.ensures
    (c.in_ok-mark_formula.ensures ∙ ap
    (λ n. with_formula n c.count-place.result (formula_view c.get-formula.result.now)
    (reverse c.args.b.now.marks)) c.count.ensures.length)
    c.requires
