use Rattle.std.proofs.Common.{◌≡◌, ◌++◌, map, take}
use Rattle.rp_lang.specs.Programs.{Proc}
use Rattle.rp_lang.specs.ProgramView.{program_view}
use Rattle.rp_lang.specs.Views.{proc_view}
use Rattle.rp_symbols.specs.Numbers.{info_sort}
use Rattle.rp_symbols.specs.Signatures.{con_of, sort_of}
use Rattle.program_sigs.proofs.constructors.push_infos.Given as goal

abbrev pub invariant-loop-q : goal.invariant-loop-q
invariant-loop-q l =
    l.cons ≡ l.fn.cons ++ map (λ (q : Proc). con_of (info_sort (program_view l.p)) (map (sort_of (program_view l.p)) q.params)) (map proc_view (take l.q-index l.procs))
