use Rattle.std.proofs.Common.{◌∙◌}
use Rattle.text_kinds.specs.Seen.{kinds_view}
use Rattle.text_tables.proofs.CountLaw.{ops_counted}
use Rattle.text_tables.proofs.tables.Tables.op_count.Goals as goal

pub returns : goal.returns
returns c =
    let tables = c.args.self.now in
    tables.known.objects_are.ops_are ∙ ops_counted (kinds_view tables.kinds).names
