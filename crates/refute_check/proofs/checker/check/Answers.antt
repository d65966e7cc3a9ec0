use Rattle.rp_logic.specs.SigView.{sig_view}
use Rattle.refute_defs.specs.Views.{given_view, nodes_view}
use Rattle.refute_check.proofs.Checked.{closed, first_bad, refuted}
use Rattle.refute_check.proofs.checker.check.Goals as goal

pub returns : goal.returns
returns c =
    let S = sig_view c.args.sig.now in
    let keeps = c.args.sig.now.kept in
    let given = given_view c.args.given.now in
    let nodes = nodes_view c.args.tree.now in
    record {
      closed = closed S keeps given nodes c.walk.result c.walk.ensures;
      first_bad = first_bad S keeps given nodes c.walk.result c.walk.ensures;
      verdict = c.walk.ensures;
      refuted = refuted S keeps given nodes c.requires.sorted c.walk.result c.walk.ensures;
    }
