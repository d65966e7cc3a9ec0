use Rattle.refute_defs.proofs.TermsKnown.{atom_test}
use Rattle.refute_branch.proofs.same.is_same_atom.Goals as goal

pub returns : goal.returns
returns c = atom_test c.same.result c.args.a.now c.args.b.now c.same.ensures
