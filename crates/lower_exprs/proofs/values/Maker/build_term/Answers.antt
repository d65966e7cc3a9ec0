use Rattle.std.proofs.Common.{sym}
use Rattle.rp_lang.specs.Views.{expr_view}
use Rattle.desugaring.specs.Values.{term}
use Rattle.query_bodies.specs.Expanded.{uses_of}
use Rattle.query_bodies.specs.Expanding.{uses_before}
use Rattle.query_bodies.specs.Terms.{said_term}
use Rattle.query_bodies.specs.Views.{term_view}
use Rattle.lower_exprs.proofs.Notes.{term_made, value_past}
use Rattle.lower_exprs.proofs.values.Maker.build_term.Goals as goal

pub returns-then-is_small_ex-clause-made : goal.returns-then-is_small_ex-clause-made
returns-then-is_small_ex-clause-made c =
    term_made (uses_before c.new-expansion.result) (uses_of c.args.self.now.work.bodies.now) (term_view c.args.term.now)
    (expr_view c.in_ok-e.e) c.new-expansion.ensures c.in_ok-e.ensures

pub returns-else-is_small_ex-clause-nodes : goal.returns-else-is_small_ex-clause-nodes
returns-else-is_small_ex-clause-nodes c is v h =
    let w = c.args.self.now.work in
    let e = term_view c.args.term.now in
    let made = term_made (uses_before c.new-expansion.result) (uses_of w.bodies.now) e (expr_view c.in_ok-e.e)
    c.new-expansion.ensures c.in_ok-e.ensures in
    value_past w (said_term e) (term (expr_view c.in_ok-e.e)) v made (sym c.if-is_small_ex.ensures) h
