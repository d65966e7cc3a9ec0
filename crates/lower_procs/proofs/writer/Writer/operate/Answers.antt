use Rattle.std.proofs.Common.{◌≡◌, true, None, refl, ap, sym, subst, ◌∙◌}
use Rattle.std.proofs.lemmas.Result.{err_from_is_err_and}
use Rattle.rp_grammar.specs.Trees.{ExprForm, ExprTree}
use Rattle.rp_lang.specs.Views.{stmts_view}
use Rattle.rp_lang.proofs.StmtViews.{kind_view-Operate}
use Rattle.rp_ast.specs.View.{access_view}
use Rattle.desugaring.specs.Limits.{some_in_all}
use Rattle.desugaring.specs.Statements.{Made}
use Rattle.desugaring.proofs.Options.{then_there}
use Rattle.query_bodies.specs.Views.{body_view, terms_view}
use Rattle.lower_procs.specs.Noting.{is_large_in}
use Rattle.lower_procs.specs.Writing.{Adds, value_in}
use Rattle.lower_procs.proofs.Simple.{operated_adds, operated_past, operation_is, operation_there, stopped}
use Rattle.lower_procs.proofs.writer.Writer.operate.Goals as goal

pub returns-in_err-terms-clause-nodes : goal.returns-in_err-terms-clause-nodes
returns-in_err-terms-clause-nodes c err ready m h =
    let w = c.args.self.now in
    let e = ExprTree.node c.args.at (ExprForm.access (access_view c.args.access.now)) in
    let op = c.in_ok-applied.applied.op in
    let ts = terms_view c.in_ok-applied.applied.args in
    then_there _ (value_in w.maker None e) m h (λ v v_is h2.
    let read = (c.in_ok-said.ensures c.args.at None).left ready.kept in
    let there = operation_there w.maker e (body_view c.in_ok-said.said) op ts v ready read.says c.in_ok-applied.ensures v_is in
    ap (λ (y : Made). some_in_all (is_large_in w.maker.work.cons.now) y.body) (sym (operation_is c.args.frame c.args.at op there.0 v m there.1 h2))
    ∙ operated_past w.maker.work.cons.now c.args.frame c.args.at op there.0
    (c.in_err-terms.ensures.nodes
    (stopped (err_from_is_err_and c.from_residual-in_err-terms.result c.from_residual-in_err-terms.ensures.1) err) ready.measured there.0 there.2))

pub returns-clause-writes : goal.returns-clause-writes
returns-clause-writes c ready m h =
    let w = c.args.self.now in
    let e = ExprTree.node c.args.at (ExprForm.access (access_view c.args.access.now)) in
    let op = c.in_ok-applied.applied.op in
    let ts = terms_view c.in_ok-applied.applied.args in
    let new = record w { maker = c.made_args.new.maker } in
    then_there _ (value_in w.maker None e) m h (λ v v_is h2.
    let read = (c.in_ok-said.ensures c.args.at None).left ready.kept in
    let there = operation_there w.maker e (body_view c.in_ok-said.said) op ts v ready read.says c.in_ok-applied.ensures v_is in
    subst (λ (y : Made). Adds w y w.maker.reader (stmts_view c.args.out.now) new (stmts_view c.put.new.out))
    (operation_is c.args.frame c.args.at op there.0 v m there.1 h2)
    (operated_adds (record w.maker { reader = c.access.new.self }) c.args.frame c.args.at op _ refl refl read.same
    (c.in_ok-terms.ensures.made ready.measured there.0 there.2) refl c.in_ok-put.ensures (kind_view-Operate _ _ _)))
