use Rattle.std.proofs.Common.{[]}
use Rattle.rp_ast.specs.View.{decls_view}
use Rattle.rp_tokens.specs.MachineStates.{in_decls}
use Rattle.rp_tokens.specs.Machine.{bounded}
use Rattle.rp_parser.specs.means.Marks.{toks}
use Rattle.rp_parser.specs.means.Reading.{Stands, left}
use Rattle.rp_parser.proofs.decls.read_program.Given as goal

abbrev pub invariant-decls : goal.invariant-decls
invariant-decls l = Stands l.rest (in_decls (decls_view l.decls)) (bounded 64 (in_decls []) (toks l.fn.marks))

abbrev pub decreases-decls : goal.decreases-decls
decreases-decls l = left l.rest
