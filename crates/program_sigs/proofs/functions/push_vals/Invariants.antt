use Rattle.std.proofs.Common.{◌≡◌, ◌++◌}
use Rattle.rp_lang.specs.ProgramView.{program_view}
use Rattle.rp_symbols.specs.Signatures.{val_decls_at}
use Rattle.program_sigs.proofs.functions.push_vals.Given as goal

abbrev pub invariant-loop-view : goal.invariant-loop-view
invariant-loop-view l = l.fns ≡ l.fn.fns ++ val_decls_at (program_view l.p) l._view
