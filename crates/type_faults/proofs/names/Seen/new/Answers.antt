use Rattle.type_faults.proofs.Lists.{no_names}
use Rattle.type_faults.proofs.names.Seen.new.Goals as goal

pub returns : goal.returns
returns c = record { types = no_names c.new.ensures; others = no_names c.new-2.ensures; invariants = no_names c.new-3.ensures }
