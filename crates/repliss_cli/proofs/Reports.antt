-- A text has exactly one report.
use Rattle.std.proofs.Common.{◌≡◌, ℕ, List}
use Rattle.rp_grammar.specs.Trees.{DeclTree}
use Rattle.rp_lang.specs.Programs.{Prog}
use Rattle.desugaring.specs.Programs.{IsProgramOf}
use Rattle.desugaring.proofs.Programs as programs
use Rattle.repliss_cli.specs.declared.report.Report.{Report}
use Rattle.repliss_cli.specs.Answers.{IsReportOf}
use Rattle.repliss_cli.proofs.OneReport as one
use Rattle.repliss_cli.proofs.SomeReport as some
use Rattle.repliss_cli.proofs.SomeReport.{SomeProgram}

pub one_program : (t : List DeclTree) (p q : Prog) → IsProgramOf t p → IsProgramOf t q → p ≡ q
one_program t p q is also = programs.one_program t p q is.1 also.1

pub one_report : (content : List ℕ) (r s : Report) → IsReportOf content r → IsReportOf content s → r ≡ s
one_report = one.one_report one_program

pub some_report : SomeProgram → (content : List ℕ) → (r : Report) × IsReportOf content r
some_report = some.some_report
