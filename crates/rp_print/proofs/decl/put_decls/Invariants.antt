use Rattle.std.proofs.Common.{◌≡◌, ◌++◌, drop}
use Rattle.rp_print.specs.Printed.{printed}
use Rattle.rp_ast.specs.View.{decls_view}
use Rattle.rp_print.proofs.decl.put_decls.Given as goal

-- what is still to come completes the whole
abbrev pub invariant-loop-d : goal.invariant-loop-d
invariant-loop-d l = l.out.items ++ printed (decls_view (drop l.d-index l.decls)) ≡ l.initial.out.items ++ printed (decls_view l.decls)
