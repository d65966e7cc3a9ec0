use Rattle.std.proofs.Common.{◌∙◌, not, length, reverse, map, ap, arith}
use Rattle.rp_logic.specs.Views.{formula_view}
use Rattle.refute_branch.proofs.Marking.{new_past}
use Rattle.refute_branch.proofs.branch.is_new.Goals as goal

pub returns-then-count-c : goal.returns-then-count-c
returns-then-count-c c =
    ap not c.is_marked.ensures
    ∙ new_past (length c.args.sig.now.consts) (reverse c.args.b.now.marks)
    (map formula_view c.args.b.now.formulas) c.requires c.args.c (omega arith)
