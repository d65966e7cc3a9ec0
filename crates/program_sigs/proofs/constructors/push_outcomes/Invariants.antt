use Rattle.std.proofs.Common.{◌≡◌, ◌++◌, map, take}
use Rattle.rp_lang.specs.Programs.{Proc}
use Rattle.rp_lang.specs.ProgramView.{program_view}
use Rattle.rp_lang.specs.Views.{proc_view}
use Rattle.rp_symbols.specs.Numbers.{outcome_sort}
use Rattle.rp_symbols.specs.Signatures.{con_of, result_list, sort_of}
use Rattle.program_sigs.proofs.constructors.push_outcomes.Given as goal

abbrev pub invariant-loop-q : goal.invariant-loop-q
invariant-loop-q l =
    l.cons ≡ l.fn.cons ++ map (λ (q : Proc). con_of (outcome_sort (program_view l.p)) (map (sort_of (program_view l.p)) (result_list q.result))) (map proc_view (take l.q-index l.procs))
