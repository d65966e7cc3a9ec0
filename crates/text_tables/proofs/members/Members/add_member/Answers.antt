use Rattle.std.proofs.Common.{ap, sym, ◌∙◌}
use Rattle.type_terms.specs.Members.{member_over, written_kind}
use Rattle.desugaring.specs.Objects as objects
use Rattle.text_tables.specs.Seen.{tables_view}
use Rattle.text_tables.proofs.MembersLaw.{does_is, nothing_declared}
use Rattle.text_tables.proofs.members.Members.add_member.Goals as goal

pub returns-in-Some : goal.returns-in-Some
returns-in-Some c = λ path at. c.add_op.ensures path at (sym c.op_kind.ensures ∙ c.in-Some.is)

pub returns-in-Some-query_kind : goal.returns-in-Some-query_kind
returns-in-Some-query_kind c = λ path at. c.add_query.ensures path at (sym c.query_kind.ensures ∙ c.in-Some-query_kind.is)

pub returns-in-None-query_kind : goal.returns-in-None-query_kind
returns-in-None-query_kind c = λ path at.
    let t = tables_view c.args.tables.now in
    let k = written_kind t.names c.args.over in
    let same = does_is k c.args.does.now in
    nothing_declared t c.args.spot.now.root path (member_over k c.args.does.now) c.args.self.now
    (ap objects.op_kind same ∙ sym c.op_kind.ensures ∙ c.in-None.is) (ap objects.query_kind same ∙ sym c.query_kind.ensures ∙ c.in-None-query_kind.is)
