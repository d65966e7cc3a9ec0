use Rattle.std.proofs.Common.{◌≡◌, Err, ap, refl, rules, subst, sym, ◌∙◌}
use Rattle.rp_ast.specs.View.{decls_view}
use Rattle.rp_lang.specs.Programs.{Prog}
use Rattle.desugaring.specs.Limits.{HasProgram}
use Rattle.text_tables.specs.Seen.{tables_view}
use Rattle.resolve.specs.declared.program.TypeErr.{TypeErr}
use Rattle.resolve.proofs.Declaring.{same_err}
use Rattle.resolve.proofs.Whole.{cons_is, decls_long, has_tables, program_by_bodies}
use Rattle.resolve.proofs.program.program_by.Goals as goal

pub returns-in_err-declared-clause-limit : goal.returns-in_err-declared-clause-limit
returns-in_err-declared-clause-limit c l is =
    let tree = decls_view c.args.decls.now in
    let has = c.texts_have_programs.ensures tree c.requires.lawful in
    let err : c.from_residual-in_err-declared.result ≡ Err c.in_err-declared.field-0.0 = search (rules, c.from_residual-in_err-declared.ensures) in (
      has.0,
      has.1,
      c.in_err-declared.ensures.limit has.0 l
          (program_by_bodies _ tree has.0 c.requires.tables has.1.1 c.in_ok-cons.ensures c.in_ok-bodies.ensures.uses
          (c.in_ok-bodies.ensures.count ∙ decls_long c.args.decls.now)
          (c.if-not-are_sound.ensures.measured tree refl c.in_ok-bodies.ensures.measured))
          (ap (λ (e : TypeErr). Err e) (same_err _ _ (sym err ∙ is))),
    )

pub with_tables-requires-clause-well_formed : goal.with_tables-requires-clause-well_formed
with_tables-requires-clause-well_formed c =
    let tree = decls_view c.args.decls.now in
    let has = c.texts_have_programs.ensures tree c.requires.lawful in
    let own = c.in_ok-declared.ensures.program has.0
    (program_by_bodies _ tree has.0 c.requires.tables has.1.1 c.in_ok-cons.ensures c.in_ok-bodies.ensures.uses
    (c.in_ok-bodies.ensures.count ∙ decls_long c.args.decls.now)
    (c.if-not-are_sound.ensures.measured tree refl c.in_ok-bodies.ensures.measured)) in
    let none = c.in_ok-declared.ensures.none has.0
    (program_by_bodies _ tree has.0 c.requires.tables has.1.1 c.in_ok-cons.ensures c.in_ok-bodies.ensures.uses
    (c.in_ok-bodies.ensures.count ∙ decls_long c.args.decls.now)
    (c.if-not-are_sound.ensures.measured tree refl c.in_ok-bodies.ensures.measured)) in
    let tables = has_tables (tables_view c.args.tables.now) tree has.0 c.requires.tables has.1.1 in (
      has.0,
      tables,
      cons_is (tables_view c.args.tables.now) has.0 c.in_ok-cons.cons tables c.in_ok-cons.ensures,
      own,
      c.programs_are_well_formed.ensures c.requires.text.0 tree c.requires.text.1 has.0 (has.1, none),
    )

pub returns-clause-program : goal.returns-clause-program
returns-clause-program c =
    let tree = decls_view c.args.decls.now in
    let has = c.texts_have_programs.ensures tree c.requires.lawful in
    let own = c.in_ok-declared.ensures.program has.0
    (program_by_bodies _ tree has.0 c.requires.tables has.1.1 c.in_ok-cons.ensures c.in_ok-bodies.ensures.uses
    (c.in_ok-bodies.ensures.count ∙ decls_long c.args.decls.now)
    (c.if-not-are_sound.ensures.measured tree refl c.in_ok-bodies.ensures.measured)) in
    let none = c.in_ok-declared.ensures.none has.0
    (program_by_bodies _ tree has.0 c.requires.tables has.1.1 c.in_ok-cons.ensures c.in_ok-bodies.ensures.uses
    (c.in_ok-bodies.ensures.count ∙ decls_long c.args.decls.now)
    (c.if-not-are_sound.ensures.measured tree refl c.in_ok-bodies.ensures.measured)) in
    let tables = has_tables (tables_view c.args.tables.now) tree has.0 c.requires.tables has.1.1 in
    let same = c.in_ok-program.ensures has.0 tables
    (cons_is (tables_view c.args.tables.now) has.0 c.in_ok-cons.cons tables c.in_ok-cons.ensures) own in
    subst (λ (q : Prog). HasProgram tree q) (sym same) (has.1, none)
