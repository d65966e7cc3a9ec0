use Rattle.rp_ast.proofs.AstKnown.{same_ast_view}
use Rattle.rp_ast.proofs.laws.views_lose_nothing.Goals as goal

pub returns : goal.returns
returns c = same_ast_view
