use Rattle.std.proofs.Common.{List, drop, map}
use Rattle.type_terms.specs.Members.{member_over, written_kind}
use Rattle.desugaring.specs.Objects.{KindStep}
use Rattle.text_tables.specs.Seen.{tables_view}
use Rattle.text_tables.specs.declared.members.Members.{Members}
use Rattle.text_tables.specs.means.Rooted.{DeclaresOwn, IsAt}
use Rattle.text_tables.proofs.members.Members.add_members.Given as goal

abbrev pub invariant-loop-does : goal.invariant-loop-does
invariant-loop-does l =
    let t = tables_view l.tables in
    (path : List KindStep) (new : Members) → IsAt t path l.spot
    → DeclaresOwn t l.spot.root path (map (member_over (written_kind t.names l.over)) (drop l.does-index l.all)) l.self new
    → DeclaresOwn t l.spot.root path (map (member_over (written_kind t.names l.over)) l.all) l.initial.self new
