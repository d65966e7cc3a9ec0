use Rattle.std.proofs.Common.{rules, ◌≡◌, ◌∙◌, Err, sym}
use Rattle.rp_ast.specs.View.{expr_view}
use Rattle.query_bodies.specs.Views.{body_view}
use Rattle.lower_exprs.proofs.Notes.{said_there}
use Rattle.lower_exprs.proofs.values.Maker.value.Goals as goal

pub returns-clause-made : goal.returns-clause-made
returns-clause-made c ready v h =
    let old = c.args.self.now in
    let left = c.in_ok-body.ensures.left ready.kept in
    c.in_ok-made.ensures.made ready.measured v
    (said_there old c.args.asked (expr_view c.args.e.now) (body_view c.in_ok-body.body) ready left.says v h)

pub returns-clause-notes : goal.returns-clause-notes
returns-clause-notes c ready v h =
    let old = c.args.self.now in
    let left = c.in_ok-body.ensures.left ready.kept in
    let noted = c.in_ok-made.ensures.notes ready.measured v
    (said_there old c.args.asked (expr_view c.args.e.now) (body_view c.in_ok-body.body) ready left.says v h) in
    record { work = noted.work; same = noted.same ∙ left.same; passed = noted.passed }

pub returns-in_err-made-clause-nodes : goal.returns-in_err-made-clause-nodes
returns-in_err-made-clause-nodes c is ready v h =
    let old = c.args.self.now in
    let left = c.in_ok-body.ensures.left ready.kept in
    let same : c.from_residual-in_err-made.result ≡ Err c.in_err-made.field-0.0 =
    search (rules, c.from_residual-in_err-made.ensures) in
    c.in_err-made.ensures.nodes (sym same ∙ is) ready.measured v
    (said_there old c.args.asked (expr_view c.args.e.now) (body_view c.in_ok-body.body) ready left.says v h)
