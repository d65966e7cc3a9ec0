use Rattle.text_names.proofs.Entries.{if_ok}
use Rattle.rp_ast.specs.View.{expr_view}
use Rattle.query_bodies.specs.Views.{claim_view}
use Rattle.reading.proofs.Declared.{on_ok}
use Rattle.lower_procs.proofs.Claimed.{claim_notes, claim_past, claim_turns}
use Rattle.lower_procs.proofs.stmts.claimed.Goals as goal

pub returns-clause-made : goal.returns-clause-made
returns-clause-made c =
    if_ok c.made.result
    (λ m is. claim_turns c.args.maker.now c.claim.new.self (expr_view c.args.e.now) (claim_view c.in_ok-claim.claim) m c.in_ok-claim.ensures is)
    c.made.ensures.made

pub returns-clause-notes : goal.returns-clause-notes
returns-clause-notes c =
    on_ok c.made.result
    (claim_notes c.args.maker.now c.made.new.self c.claim.new.self (expr_view c.args.e.now) (claim_view c.in_ok-claim.claim) c.in_ok-claim.ensures)
    c.made.ensures.notes

pub returns-clause-nodes : goal.returns-clause-nodes
returns-clause-nodes c err =
    claim_past c.args.maker.now c.claim.new.self (expr_view c.args.e.now) (claim_view c.in_ok-claim.claim) c.in_ok-claim.ensures
    (c.made.ensures.nodes err)
