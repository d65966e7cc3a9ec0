use Rattle.type_rules.specs.TextSites.{nothing_seen}
use Rattle.type_faults.proofs.names.decls_differ.Goals as goal

pub returns : goal.returns
returns c = λ n. c.all.ensures n nothing_seen c.new-seen.ensures
