use Rattle.std.proofs.Common.{List, subst, sym}
use Rattle.rp_ast.specs.declared.decl.Decl.{Decl}
use Rattle.rp_ast.specs.View.{decls_view}
use Rattle.rp_lang.specs.ProgramView.{program_view}
use Rattle.std.specs.Prelude.{IfOk}
use Rattle.type_rules.specs.Faults.{IsLawful}
use Rattle.desugaring.specs.Limits.{HasProgram, PassesLimit}
use Rattle.resolve.proofs.program.lawful_program.Goals as goal

pub program_of_names-requires-clause-lawful : goal.program_of_names-requires-clause-lawful
program_of_names-requires-clause-lawful c =
    subst (λ (ds : List Decl). IsLawful (decls_view ds)) (sym c.as_slice.ensures.items) c.requires.lawful

pub returns-clause-program : goal.returns-clause-program
returns-clause-program c =
    subst (λ (ds : List Decl). IfOk c.program_of_names.result (λ p. HasProgram (decls_view ds) (program_view p)))
    c.as_slice.ensures.items c.program_of_names.ensures.program

pub returns-clause-limit : goal.returns-clause-limit
returns-clause-limit c l is =
    subst (λ (ds : List Decl). PassesLimit (decls_view ds) l) c.as_slice.ensures.items (c.program_of_names.ensures.limit l is)
