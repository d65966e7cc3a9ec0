use Rattle.std.proofs.Common.{◌∙◌}
use Rattle.std.proofs.lemmas.List.{length-map}
use Rattle.desugaring.specs.Objects.{Root, roots_of}
use Rattle.text_kinds.specs.Seen.{kinds_view}
use Rattle.text_tables.proofs.tables.Tables.root_count.Goals as goal

pub returns : goal.returns
returns c =
    let tables = c.args.self.now in
    tables.known.objects_are.roots_are ∙ length-map (roots_of (kinds_view tables.kinds).names) (λ (root : Root). root.crdt)
