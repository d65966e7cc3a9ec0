use Rattle.std.proofs.Common.{ap, subst, sym, ◌∙◌}
use Rattle.std.proofs.lemmas.Result.{err_from_is_err_and}
use Rattle.rp_lang.specs.Views.{expr_view}
use Rattle.query_bodies.specs.Views.{term_view}
use Rattle.query_bodies.specs.declared.term.Term.{Term}
use Rattle.query_bodies.specs.Terms.{Te, also_te, no_te, said_term}
use Rattle.lower_exprs.specs.Making.{IsMade, IsPastOf, NotesSaid}
use Rattle.lower_procs.proofs.Simple.{stopped}
use Rattle.lower_procs.proofs.Terms.{one_made, one_past}
use Rattle.lower_procs.proofs.stmts.made_arg.Goals as goal

pub returns-in_err-made-clause-nodes : goal.returns-in_err-made-clause-nodes
returns-in_err-made-clause-nodes c err =
    one_past c.args.maker.now (term_view c.args.arg)
    (subst (λ (t : Term). IsPastOf c.args.maker.now.work (said_term (term_view t))) c.in_ok-boxed.ensures
    (c.in_err-made.ensures.nodes (stopped (err_from_is_err_and c.from_residual-in_err-made.result c.from_residual-in_err-made.ensures.1) err)))

pub returns-clause-made : goal.returns-clause-made
returns-clause-made c =
    let m = c.args.maker.now in
    one_made m c.made.new.self (term_view c.args.arg) c.in_ok-made.made (expr_view c.in_ok-e.e)
    (subst (λ (t : Term). IsMade m.work (said_term (term_view t)) c.in_ok-made.made) c.in_ok-boxed.ensures c.in_ok-made.ensures.made)
    (subst (λ (t : Term). NotesSaid m (said_term (term_view t)) c.made.new.self) c.in_ok-boxed.ensures c.in_ok-made.ensures.notes)
    c.in_ok-e.ensures
