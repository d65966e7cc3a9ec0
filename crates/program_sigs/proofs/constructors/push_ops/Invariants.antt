use Rattle.std.proofs.Common.{◌≡◌, ◌++◌, map, take}
use Rattle.rp_lang.specs.declared.op.OpDecl.{OpDecl}
use Rattle.rp_lang.specs.ProgramView.{program_view}
use Rattle.rp_symbols.specs.Numbers.{op_sort}
use Rattle.rp_symbols.specs.Signatures.{con_of, sort_of}
use Rattle.program_sigs.proofs.constructors.push_ops.Given as goal

abbrev pub invariant-loop-decl : goal.invariant-loop-decl
invariant-loop-decl l =
    l.cons ≡ l.fn.cons ++ map (λ (decl : OpDecl). con_of (op_sort (program_view l.p)) (map (sort_of (program_view l.p)) decl.args)) (take l.decl-index l.decls)
