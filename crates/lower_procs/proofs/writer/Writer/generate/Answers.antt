use Rattle.std.proofs.Common.{◌≡◌, Some, ap, ap₂, ◌∙◌}
use Rattle.std.specs.Prelude.{option_and_then}
use Rattle.rp_lang.specs.Stmts.{New}
use Rattle.rp_lang.specs.Views.{stmts_view}
use Rattle.rp_lang.proofs.StmtViews.{kind_view-New, stmt_view-what}
use Rattle.rp_ast.specs.View.{ident_view}
use Rattle.type_rules.specs.Names.{text_of}
use Rattle.desugaring.specs.Callees.{stand_named}
use Rattle.desugaring.specs.Statements.{Made, id_named, just, slot_for}
use Rattle.desugaring.proofs.Options.{both_there, then_there}
use Rattle.reading.proofs.Declared.{on_ok}
use Rattle.reading.proofs.Found.{one_number}
use Rattle.lower_procs.specs.Writing.{Adds, sight_in, vars_of}
use Rattle.lower_procs.proofs.Rows.{pushed}
use Rattle.lower_procs.proofs.Simple.{generated_adds}
use Rattle.lower_procs.proofs.writer.Writer.generate.Goals as goal

pub returns : goal.returns
returns c =
    let w = c.args.self.now in
    let x = text_of (ident_view c.args.name.now) in
    let id = text_of (ident_view c.args.id.now) in
    on_ok c.push.result
    (λ is ready m h.
    both_there (λ (y : Made). Adds w y w.maker.reader (stmts_view c.args.out.now) w (stmts_view c.push.new.self))
    (λ slot n. just (New c.args.at slot n)) (option_and_then slot_for (stand_named (vars_of w) x)) (id_named (sight_in w).tables id) m h
    (λ slot n slot_is n_is.
    then_there slot_for (stand_named (vars_of w) x) slot slot_is (λ s found there.
    generated_adds c.args.at slot n _
    (pushed c.args.out.now c.push.new.self _ _ is (stmt_view-what _ ∙ kind_view-New _ _ _))
    (ap₂ (λ i j. New c.args.at i j)
    (one_number (slot_for s) c.in_ok-slot.slot slot (c.in_ok-slot.ensures s found) there)
    (one_number (id_named (sight_in w).tables id) c.in_ok-number.number n c.in_ok-number.ensures n_is)))))
    c.push.ensures.ok
