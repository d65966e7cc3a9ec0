use Rattle.std.proofs.Common.{ap, sym, ◌∙◌}
use Rattle.rp_lang.specs.Stmts.{St, Sts, Atomic}
use Rattle.rp_lang.specs.Views.{kind_view}
use Rattle.rp_lang.proofs.StmtViews.{kind_view-Atomic, stmt_view-what}
use Rattle.desugaring.specs.Statements.{one_st, set_apart}
use Rattle.reading.proofs.Declared.{on_ok}
use Rattle.lower_procs.proofs.Rows.{pushed}
use Rattle.lower_procs.proofs.pieces.put.Goals as goal

pub returns-in_ok-one : goal.returns-in_ok-one
returns-in_ok-one c =
    let at = c.args.at in
    on_ok c.push.result
    (λ is. pushed c.args.out.now c.push.new.self _ _ is
    (stmt_view-what _ ∙ kind_view-Atomic _ _
    ∙ ap (λ (x : Sts). Atomic at x) (c.in_ok-one.ensures ∙ ap (λ (s : St). one_st s) (stmt_view-what _))
    ∙ sym (ap (λ b. set_apart b at (kind_view c.args.what at)) c.if-apart.true)))
    c.push.ensures.ok

pub returns-else-apart : goal.returns-else-apart
returns-else-apart c =
    on_ok c.push-else-apart.result
    (λ is. pushed c.args.out.now c.push-else-apart.new.self _ _ is
    (stmt_view-what _ ∙ sym (ap (λ b. set_apart b c.args.at (kind_view c.args.what c.args.at)) c.if-apart.false)))
    c.push-else-apart.ensures.ok
