use Rattle.std.proofs.Common.{◌≡◌, List, ℕ, Some, ap, subst, ◌∙◌}
use Rattle.std.proofs.lemmas.Result.{err_from_is_err_and}
use Rattle.rp_ast.specs.View.{expr_view, ident_view, optional}
use Rattle.rp_lang.specs.Programs.{Inv}
use Rattle.rp_lang.specs.Views.{formula_view}
use Rattle.desugaring.specs.Programs.{InvTree}
use Rattle.lower_exprs.specs.declared.values.Passed.{Passed}
use Rattle.lower_exprs.specs.Making.{AreMeasuredIn}
use Rattle.lower_procs.specs.Noting.{IsPassedBy}
use Rattle.lower_procs.specs.Whole.{inv_in, inv_passing, inv_tree}
use Rattle.lower_procs.proofs.Simple.{stopped}
use Rattle.lower_procs.proofs.Wholes.{InvParts, inv_parts, inv_past}
use Rattle.lower_procs.proofs.procs.invariant.Goals as goal

pub returns-in_err-made-clause-nodes : goal.returns-in_err-made-clause-nodes
returns-in_err-made-clause-nodes c d wanted is measured h err =
    let w = c.args.work in
    let tree = inv_tree c.args.number c.args.at (optional ident_view c.args.name.now) (expr_view c.args.e.now) in
    let e = c.new-maker.ensures in
    inv_past c.new-maker.result w tree wanted e.work e.vars (e.ready measured)
    (c.in_err-made.ensures.nodes (stopped (err_from_is_err_and c.from_residual-in_err-made.result c.from_residual-in_err-made.ensures.1) err))
    (subst (λ (d : InvTree). inv_in w d ≡ Some wanted) is h)

pub returns-clause-made : goal.returns-clause-made
returns-clause-made c d wanted is measured h on =
    let w = c.args.work in
    let tree = inv_tree c.args.number c.args.at (optional ident_view c.args.name.now) (expr_view c.args.e.now) in
    let e = c.new-maker.ensures in
    let parts = inv_parts c.new-maker.result c.claimed.new.maker w c.in_ok-made.made tree wanted _ e.work e.vars (e.ready measured)
    c.in_ok-made.ensures.made c.in_ok-made.ensures.notes c.as_formula.ensures (subst (λ (d : InvTree). inv_in w d ≡ Some wanted) is h) in
    ap (λ (n : List ℕ). let made : Inv = record { name = n; at = c.args.at; body = formula_view c.as_formula.result } in made) c.in_ok-name.ensures
    ∙ parts.built on

pub returns-clause-passed : goal.returns-clause-passed
returns-clause-passed c d wanted is measured h =
    let w = c.args.work in
    let tree = inv_tree c.args.number c.args.at (optional ident_view c.args.name.now) (expr_view c.args.e.now) in
    let e = c.new-maker.ensures in
    let parts = inv_parts c.new-maker.result c.claimed.new.maker w c.in_ok-made.made tree wanted _ e.work e.vars (e.ready measured)
    c.in_ok-made.ensures.made c.in_ok-made.ensures.notes c.as_formula.ensures (subst (λ (d : InvTree). inv_in w d ≡ Some wanted) is h) in
    subst (λ (p : Passed). IsPassedBy w p (inv_passing wanted) c.claimed.new.maker.passed) e.passed parts.passed

pub returns-clause-small : goal.returns-clause-small
returns-clause-small c d wanted is measured h on =
    let w = c.args.work in
    let tree = inv_tree c.args.number c.args.at (optional ident_view c.args.name.now) (expr_view c.args.e.now) in
    let e = c.new-maker.ensures in
    let parts = inv_parts c.new-maker.result c.claimed.new.maker w c.in_ok-made.made tree wanted _ e.work e.vars (e.ready measured)
    c.in_ok-made.ensures.made c.in_ok-made.ensures.notes c.as_formula.ensures (subst (λ (d : InvTree). inv_in w d ≡ Some wanted) is h) in
    parts.small on
