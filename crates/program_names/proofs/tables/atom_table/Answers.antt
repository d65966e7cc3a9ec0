use Rattle.std.proofs.Common.{ap, sym}
use Rattle.type_rules.specs.Names.{same_name}
use Rattle.program_names.specs.Called.{atom_is_called}
use Rattle.program_names.proofs.FirstNames.{found_next}
use Rattle.program_names.proofs.tables.atom_table.Goals as goal

pub loop-n-preserved : goal.loop-n-preserved
loop-n-preserved c =
    found_next atom_is_called c.args.atoms.now c.loop-n.n c.get-atom.result.now c.as_slice.result.now c.loop-n.table c.add.new.self c.loop-n.invariant
    c.get-atom.ensures (λ x. ap (λ z. same_name z x) (sym c.as_slice.ensures.items)) c.in_ok-add.ensures.ok
