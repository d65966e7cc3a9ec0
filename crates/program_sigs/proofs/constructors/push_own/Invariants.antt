use Rattle.std.proofs.Common.{◌≡◌, ◌++◌, map, take}
use Rattle.rp_value.specs.declared.tables.ConDecl.{ConDecl}
use Rattle.rp_lang.specs.ProgramView.{program_view}
use Rattle.rp_symbols.specs.Numbers.{data_sort}
use Rattle.rp_symbols.specs.Signatures.{con_of, sort_of}
use Rattle.program_sigs.proofs.constructors.push_own.Given as goal

abbrev pub invariant-loop-decl : goal.invariant-loop-decl
invariant-loop-decl l =
    l.cons ≡ l.fn.cons ++ map (λ (decl : ConDecl). con_of (data_sort (program_view l.p) decl.of) (map (sort_of (program_view l.p)) decl.fields)) (take l.decl-index l.decls)
