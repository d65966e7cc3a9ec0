use Rattle.std.proofs.Common.{unwrap_or, ap, sym, ◌∙◌}
use Rattle.program_bounds.specs.UsesView.{uses_view}
use Rattle.program_bounds.proofs.UsesViews.{uses_view-Quantified, uses_view-Fields, among_equal, past_equal, get_past}
use Rattle.program_bounds.proofs.bounds.Uses.+get.Goals as goal

pub returns-else-n-eq0 : goal.returns-else-n-eq0
returns-else-n-eq0 t c =
    rw (c.in-Quantified.is, uses_view-Quantified c.in-Quantified.outer) (c.get.ensures ∙ ap (λ found. unwrap_or found 1) (sym (get_past _ _ c.args.n c.if-n-eq0.false)))

pub returns-then-n-count : goal.returns-then-n-count
returns-then-n-count t c =
    rw (c.in-Fields.is, uses_view-Fields c.in-Fields.count c.in-Fields.each c.in-Fields.outer)
    (ap (λ found. unwrap_or found 1) (sym (among_equal c.in-Fields.count c.in-Fields.each c.args.n (uses_view c.in-Fields.outer.now) c.if-n-count.true)))

pub returns-else-n-count : goal.returns-else-n-count
returns-else-n-count t c =
    rw (c.in-Fields.is, uses_view-Fields c.in-Fields.count c.in-Fields.each c.in-Fields.outer)
    (c.get-else-n-count.ensures ∙ ap (λ found. unwrap_or found 1) (sym (past_equal c.in-Fields.count c.in-Fields.each c.args.n (uses_view c.in-Fields.outer.now) c.if-n-count.false)))
