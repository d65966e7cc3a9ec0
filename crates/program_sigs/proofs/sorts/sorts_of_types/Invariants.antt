use Rattle.std.proofs.Common.{◌≡◌, map, take}
use Rattle.rp_lang.specs.ProgramView.{program_view}
use Rattle.rp_symbols.specs.Signatures.{sort_of}
use Rattle.program_sigs.proofs.sorts.sorts_of_types.Given as goal

abbrev pub invariant-loop-ty : goal.invariant-loop-ty
invariant-loop-ty l = l.sorts ≡ map (sort_of (program_view l.p)) (take l.ty-index l.types)
