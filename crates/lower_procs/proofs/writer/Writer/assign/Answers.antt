use Rattle.std.proofs.Common.{◌≡◌, true, Some, refl, ap, subst, ◌∙◌}
use Rattle.std.proofs.lemmas.Result.{err_from_is_err_and}
use Rattle.rp_lang.specs.Views.{stmts_view}
use Rattle.rp_ast.specs.View.{expr_view, ident_view}
use Rattle.type_rules.specs.declared.kind.Kind.{Kind}
use Rattle.type_rules.specs.Names.{text_of}
use Rattle.desugaring.specs.Callees.{stand_named}
use Rattle.desugaring.specs.Limits.{some_in_all}
use Rattle.desugaring.specs.Statements.{Made, assigned_to, slot_for}
use Rattle.desugaring.proofs.Options.{both_there, then_there}
use Rattle.reading.proofs.Found.{one_number}
use Rattle.lower_procs.specs.Noting.{is_large_in}
use Rattle.lower_procs.specs.Writing.{Adds, place_view, value_in, vars_of}
use Rattle.lower_procs.proofs.Simple.{assigned_adds, assigned_past, stopped}
use Rattle.lower_procs.proofs.writer.Writer.assign.Goals as goal

pub returns-in_err-made-clause-nodes : goal.returns-in_err-made-clause-nodes
returns-in_err-made-clause-nodes c err ready m h =
    let w = c.args.self.now in
    let e = expr_view c.args.value.now in
    let x = text_of (ident_view c.args.name.now) in
    then_there _ (stand_named (vars_of w) x) m h (λ s found assigns.
    both_there (λ (y : Made). some_in_all (is_large_in w.maker.work.cons.now) y.body ≡ true) (assigned_to (place_view c.args.frame) c.args.at)
    (slot_for s) (value_in w.maker (Some s.kind) e) m assigns (λ slot v slot_is v_is.
    assigned_past w.maker.work c.args.frame c.args.at slot v
    (c.in_err-made.ensures.nodes
    (stopped (err_from_is_err_and c.from_residual-in_err-made.result c.from_residual-in_err-made.ensures.1) err) ready v
    (subst (λ (k : Kind). value_in w.maker (Some k) e ≡ Some v) (c.in_ok-kind.ensures ready s found) v_is))))

pub returns-clause-writes : goal.returns-clause-writes
returns-clause-writes c ready m h =
    let w = c.args.self.now in
    let e = expr_view c.args.value.now in
    let x = text_of (ident_view c.args.name.now) in
    let new = record w { maker = c.value.new.self } in
    let before = stmts_view c.args.out.now in
    let after = stmts_view c.put.new.out in
    then_there _ (stand_named (vars_of w) x) m h (λ s found assigns.
    both_there (λ (y : Made). Adds w y w.maker.reader before new after) (assigned_to (place_view c.args.frame) c.args.at)
    (slot_for s) (value_in w.maker (Some s.kind) e) m assigns (λ slot v slot_is v_is.
    let there = subst (λ (k : Kind). value_in w.maker (Some k) e ≡ Some v) (c.in_ok-kind.ensures ready s found) v_is in
    let same = one_number (slot_for s) c.in_ok-slot.slot slot (c.in_ok-slot.ensures s found) slot_is in
    subst (λ n. Adds w (assigned_to (place_view c.args.frame) c.args.at n v) w.maker.reader before new after) same
    (assigned_adds c.args.frame c.args.at c.in_ok-slot.slot c.is_apart-apart.result _ (c.in_ok-made.ensures.made ready v there)
    (c.in_ok-made.ensures.notes ready v there) refl c.is_apart-apart.ensures
    c.in_ok-put.ensures (c.assigned-what.ensures c.args.at))))
