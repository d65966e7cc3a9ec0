use Rattle.std.proofs.Common.{ap, ◌∙◌}
use Rattle.rp_lang.specs.Stmts.{Match}
use Rattle.rp_lang.specs.Views.{expr_view, stmt_arms_view}
use Rattle.rp_lang.proofs.StmtViews.{kind_view-Match, stmt_view-what}
use Rattle.reading.proofs.Declared.{on_ok}
use Rattle.lower_procs.proofs.Rows.{pushed}
use Rattle.lower_procs.proofs.pieces.put_match.Goals as goal

pub returns : goal.returns
returns c =
    on_ok c.push.result
    (λ is. pushed c.args.out.now c.push.new.self _ _ is (stmt_view-what _ ∙ kind_view-Match _ _ _
    ∙ ap (λ e. Match c.args.at (expr_view e) (stmt_arms_view c.args.arms)) c.into_inner.ensures))
    c.push.ensures.ok
