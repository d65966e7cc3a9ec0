use Rattle.std.proofs.Common.{List, ◌++◌, map, take, ap, ◌∙◌}
use Rattle.std.proofs.lemmas.List.{take_all}
use Rattle.rp_lang.specs.declared.op.OpDecl.{OpDecl}
use Rattle.rp_lang.specs.ProgramView.{program_view}
use Rattle.rp_symbols.specs.Numbers.{op_sort}
use Rattle.rp_symbols.specs.Signatures.{con_of, sort_of}
use Rattle.program_sigs.proofs.constructors.push_ops.Goals as goal

pub returns : goal.returns
returns c =
    let p = program_view c.args.p.now in
    let made = λ (decls : List OpDecl). c.args.cons.now ++ map (λ (decl : OpDecl). con_of (op_sort p) (map (sort_of p) decl.args)) decls in
    c.loop-decl.invariant ∙ ap made (take_all c.loop-decl.decl-index c.args.decls.now c.loop-decl-test.false)
