use Rattle.std.proofs.Common.{sym, ◌∙◌}
use Rattle.std.proofs.lemmas.Iterator.Adapters.{position_from-zero}
use Rattle.type_rules.specs.Names.{same_name}
use Rattle.desugaring.specs.Tables.{proc_name}
use Rattle.text_kinds.specs.Seen.{kinds_view}
use Rattle.text_tables.specs.means.Kept.{procs_of}
use Rattle.text_tables.proofs.ProcsLaw.{place_position}
use Rattle.text_tables.proofs.tables.Tables.proc_number.Goals as goal

pub returns : goal.returns
returns c =
    let tables = c.args.self.now in
    let name = c.args.name.now in
    c.number.ensures ∙ tables.known.procs_are.found name ∙ place_position 0 (procs_of (kinds_view tables.kinds).names) name
    ∙ sym (position_from-zero (λ p. same_name (proc_name p) name) (procs_of (kinds_view tables.kinds).names))
