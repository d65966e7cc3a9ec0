use Rattle.std.proofs.Common.{ap, ◌∙◌}
use Rattle.rp_lang.specs.Stmts.{If}
use Rattle.rp_lang.specs.Views.{formula_view, stmts_view}
use Rattle.rp_lang.proofs.StmtViews.{kind_view-If, stmt_view-what}
use Rattle.reading.proofs.Declared.{on_ok}
use Rattle.lower_procs.proofs.Rows.{pushed}
use Rattle.lower_procs.proofs.pieces.put_if.Goals as goal

pub returns : goal.returns
returns c =
    on_ok c.push.result
    (λ is. pushed c.args.out.now c.push.new.self _ _ is (stmt_view-what _ ∙ kind_view-If _ _ _ _
    ∙ ap (λ f. If c.args.at (formula_view f) (stmts_view c.args.left) (stmts_view c.args.right)) c.into_inner.ensures))
    c.push.ensures.ok
