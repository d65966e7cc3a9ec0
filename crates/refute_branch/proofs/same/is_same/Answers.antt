use Rattle.refute_defs.proofs.TermsKnown.{term_test}
use Rattle.refute_branch.proofs.same.is_same.Goals as goal

pub returns : goal.returns
returns c = term_test c.same.result c.args.a.now c.args.b.now c.same.ensures
