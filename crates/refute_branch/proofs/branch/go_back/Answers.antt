use Rattle.std.proofs.Common.{length}
use Rattle.refute_branch.proofs.MarkedBranches.{formulas_dropped}
use Rattle.refute_branch.proofs.branch.go_back.Goals as goal

pub returns-clause-marked : goal.returns-clause-marked
returns-clause-marked c =
    formulas_dropped (length c.args.sig.now.consts) c.args.formulas c.args.b.now.formulas
    c.shorten.new.list c.args.b.now.marks c.drop_marks.new.marks c.requires.fewer
    c.shorten.ensures c.drop_marks.ensures c.requires.marked
