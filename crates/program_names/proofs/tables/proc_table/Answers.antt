use Rattle.std.proofs.Common.{ap, sym}
use Rattle.type_rules.specs.Names.{same_name}
use Rattle.rp_lang.specs.Views.{proc_view}
use Rattle.program_names.specs.Called.{proc_is_called}
use Rattle.program_names.proofs.FirstNames.{found_next_seen}
use Rattle.program_names.proofs.tables.proc_table.Goals as goal

pub loop-n-preserved : goal.loop-n-preserved
loop-n-preserved c =
    found_next_seen proc_is_called proc_view c.args.procs.now c.loop-n.n c.get-proc.result.now c.as_slice.result.now c.loop-n.table c.add.new.self
    c.loop-n.invariant c.get-proc.ensures (λ x. ap (λ z. same_name z x) (sym c.as_slice.ensures.items)) c.in_ok-add.ensures.ok
