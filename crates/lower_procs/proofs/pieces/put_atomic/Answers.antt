use Rattle.std.proofs.Common.{◌∙◌}
use Rattle.rp_lang.proofs.StmtViews.{kind_view-Atomic, stmt_view-what}
use Rattle.reading.proofs.Declared.{on_ok}
use Rattle.lower_procs.proofs.Rows.{pushed}
use Rattle.lower_procs.proofs.pieces.put_atomic.Goals as goal

pub returns : goal.returns
returns c =
    on_ok c.push.result
    (λ is. pushed c.args.out.now c.push.new.self _ _ is (stmt_view-what _ ∙ kind_view-Atomic _ _))
    c.push.ensures.ok
