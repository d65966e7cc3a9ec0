use Rattle.std.proofs.Common.{List, map, ap, ◌∙◌, arith}
use Rattle.std.proofs.lemmas.List.{take_all}
use Rattle.rp_lang.specs.ProgramView.{program_view}
use Rattle.rp_lang.specs.Sizes.{ex_nodes, exs_nodes}
use Rattle.rp_lang.specs.Views.{expr_view, exprs_view}
use Rattle.rp_lang.specs.declared.expr.Expr.{Expr}
use Rattle.rp_lang.proofs.ExprViews.{expr_view-Con, expr_view-Query, expr_view-OpTerm, expr_view-InfoTerm}
use Rattle.rp_logic.specs.Views.{tms_of}
use Rattle.crdt_enc.specs.FormulaFormulas.{term_of}
use Rattle.formula_enc.specs.Settings.{place_view, around_view}
use Rattle.formula_enc.proofs.TermLists.{nodes_at, terms_seen}
use Rattle.formula_enc.proofs.terms.+term_of.Goals as goal

pub term_of-terms_of-requires : goal.term_of-terms_of-requires
term_of-terms_of-requires t c =
    let nodes = ap ex_nodes (ap expr_view c.in-Con.is ∙ expr_view-Con c.in-Con.con c.in-Con.args) in
    let same = ap (λ (x : List Expr). exs_nodes (exprs_view x)) c.as_slice-in-Con.ensures.items in
    omega (arith, nodes, same)

pub term_of-terms_of-requires-in-Query : goal.term_of-terms_of-requires-in-Query
term_of-terms_of-requires-in-Query t c =
    let nodes = ap ex_nodes (ap expr_view c.in-Query.is ∙ expr_view-Query c.in-Query.query c.in-Query.args) in
    let same = ap (λ (x : List Expr). exs_nodes (exprs_view x)) c.as_slice-in-Query.ensures.items in
    omega (arith, nodes, same)

pub term_of-terms_of-requires-in-OpTerm : goal.term_of-terms_of-requires-in-OpTerm
term_of-terms_of-requires-in-OpTerm t c =
    let nodes = ap ex_nodes (ap expr_view c.in-OpTerm.is ∙ expr_view-OpTerm c.in-OpTerm.op c.in-OpTerm.args) in
    let same = ap (λ (x : List Expr). exs_nodes (exprs_view x)) c.as_slice-in-OpTerm.ensures.items in
    omega (arith, nodes, same)

pub term_of-terms_of-requires-in-InfoTerm : goal.term_of-terms_of-requires-in-InfoTerm
term_of-terms_of-requires-in-InfoTerm t c =
    let nodes = ap ex_nodes (ap expr_view c.in-InfoTerm.is ∙ expr_view-InfoTerm c.in-InfoTerm.proc c.in-InfoTerm.args) in
    let same = ap (λ (x : List Expr). exs_nodes (exprs_view x)) c.as_slice-in-InfoTerm.ensures.items in
    omega (arith, nodes, same)

pub terms_of-term_of-requires : goal.terms_of-term_of-requires
terms_of-term_of-requires t c =
    let below = nodes_at c.args.exprs.now c.loop-e.e-index c.e-item.result c.loop-e-test.true c.e-item.is in
    omega (arith, below)

pub terms_of-returns : goal.terms_of-returns
terms_of-returns t c =
    ap tms_of (c.loop-e.invariant ∙ ap (λ es. map (λ e. term_of (program_view c.args.s.now.program.now) (place_view c.args.s.now.at) (around_view c.args.s.now c.args.bounds.now) (expr_view e)) es) (take_all c.loop-e.e-index c.args.exprs.now c.loop-e-test.false))
    ∙ terms_seen (program_view c.args.s.now.program.now) (place_view c.args.s.now.at) (around_view c.args.s.now c.args.bounds.now) c.args.exprs.now
