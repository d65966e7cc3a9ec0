use Rattle.rp_tokens.proofs.OneTree.{one_tree}
use Rattle.rp_tokens.proofs.laws.one_tree.Goals as goal

pub returns : goal.returns
returns c = one_tree
