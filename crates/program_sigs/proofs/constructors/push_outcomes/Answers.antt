use Rattle.std.proofs.Common.{List, ◌++◌, map, take, ap, ◌∙◌}
use Rattle.std.proofs.lemmas.List.{take_all}
use Rattle.rp_lang.specs.declared.proc.ProcDecl.{ProcDecl}
use Rattle.rp_lang.specs.Programs.{Proc}
use Rattle.rp_lang.specs.ProgramView.{program_view}
use Rattle.rp_lang.specs.Views.{proc_view}
use Rattle.rp_symbols.specs.Numbers.{outcome_sort}
use Rattle.rp_symbols.specs.Signatures.{con_of, result_list, sort_of}
use Rattle.program_sigs.proofs.constructors.push_outcomes.Goals as goal

pub returns : goal.returns
returns c =
    let p = program_view c.args.p.now in
    let made = λ (qs : List ProcDecl). c.args.cons.now ++ map (λ (q : Proc). con_of (outcome_sort p) (map (sort_of p) (result_list q.result))) (map proc_view qs) in
    c.loop-q.invariant ∙ ap made (take_all c.loop-q.q-index c.args.procs.now c.loop-q-test.false)
