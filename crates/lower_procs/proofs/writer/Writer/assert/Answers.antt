use Rattle.std.proofs.Common.{ap, ◌∙◌}
use Rattle.std.proofs.lemmas.Result.{err_from_is_err_and}
use Rattle.rp_lang.specs.Stmts.{Assert}
use Rattle.rp_lang.specs.Views.{stmts_view}
use Rattle.rp_lang.proofs.StmtViews.{kind_view-Assert}
use Rattle.rp_ast.specs.View.{expr_view}
use Rattle.type_rules.specs.Kinds.{bool_kind}
use Rattle.desugaring.specs.Limits.{some_in_all}
use Rattle.desugaring.specs.Statements.{Made, asserted}
use Rattle.desugaring.specs.Values.{as_formula, formula}
use Rattle.desugaring.proofs.Options.{map_there}
use Rattle.std.proofs.Common.{◌≡◌, true, Some, refl}
use Rattle.lower_procs.specs.Noting.{is_large_in}
use Rattle.lower_procs.specs.Writing.{Adds, place_view, value_in}
use Rattle.lower_procs.proofs.Simple.{asserted_adds, asserted_past, claim_there, stopped}
use Rattle.lower_procs.proofs.writer.Writer.assert.Goals as goal

pub returns-in_err-made-clause-nodes : goal.returns-in_err-made-clause-nodes
returns-in_err-made-clause-nodes c err ready m h =
    let w = c.args.self.now in
    let e = expr_view c.args.condition.now in
    map_there (λ (y : Made). some_in_all (is_large_in w.maker.work.cons.now) y.body ≡ true) (asserted (place_view c.args.frame) c.args.at)
    (value_in w.maker (Some bool_kind) e) m h (λ v is.
    asserted_past w.maker.work c.args.frame c.args.at v
    (c.in_err-made.ensures.nodes (stopped (err_from_is_err_and c.from_residual.result c.from_residual.ensures.1) err) ready
    (formula (as_formula v)) (claim_there w.maker e v is)))

pub returns-clause-writes : goal.returns-clause-writes
returns-clause-writes c ready m h =
    let w = c.args.self.now in
    let e = expr_view c.args.condition.now in
    let new = record w { maker = c.claimed.new.maker } in
    map_there (λ (y : Made). Adds w y w.maker.reader (stmts_view c.args.out.now) new (stmts_view c.put.new.out))
    (asserted (place_view c.args.frame) c.args.at) (value_in w.maker (Some bool_kind) e) m h (λ v is.
    let claim = claim_there w.maker e v is in
    asserted_adds v c.args.frame c.args.at c.is_apart-apart.result _
    (c.in_ok-made.ensures.made ready (formula (as_formula v)) claim) (c.in_ok-made.ensures.notes ready (formula (as_formula v)) claim) refl
    c.is_apart-apart.ensures c.in_ok-put.ensures
    (kind_view-Assert _ _ ∙ ap (Assert c.args.at) c.as_formula.ensures))
