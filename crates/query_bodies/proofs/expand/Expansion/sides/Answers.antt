use Rattle.std.proofs.Common.{Some, sym, ap, ◌∙◌}
use Rattle.rp_lang.specs.declared.expr.Expr.{Expr}
use Rattle.rp_lang.specs.Views.{expr_view}
use Rattle.query_bodies.proofs.expand.Expansion.sides.Goals as goal

pub returns-clause-left : goal.returns-clause-left
returns-clause-left c = c.in_ok-a.ensures ∙ ap (λ (x : Expr). Some (expr_view x)) (sym c.into_inner.ensures)

pub returns-clause-right : goal.returns-clause-right
returns-clause-right c = c.in_ok-b.ensures
