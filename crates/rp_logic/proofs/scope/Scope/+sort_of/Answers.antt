use Rattle.std.proofs.Common.{sym, ◌∙◌}
use Rattle.rp_logic.proofs.ScopeViews.{get_past, scope_view-Under}
use Rattle.rp_logic.proofs.scope.Scope.+sort_of.Goals as goal

pub returns-else-n-eq0 : goal.returns-else-n-eq0
returns-else-n-eq0 t c =
    rw (c.in-Under.is, scope_view-Under c.in-Under.sort c.in-Under.outer) (c.sort_of.ensures ∙ sym (get_past _ _ c.args.n c.if-n-eq0.false))
