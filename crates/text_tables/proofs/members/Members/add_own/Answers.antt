use Rattle.std.proofs.Common.{ap, map, subst, ◌∙◌}
use Rattle.std.specs.Prelude.{OnOk}
use Rattle.type_terms.specs.Members.{member_over}
use Rattle.text_tables.specs.Seen.{tables_view}
use Rattle.text_tables.specs.means.Rooted.{DeclaresOwn}
use Rattle.text_tables.proofs.members.Members.add_own.Goals as goal

pub returns : goal.returns
returns c = λ path at.
    let t = tables_view c.args.tables.now in
    subst (λ ms. OnOk c.add_members.result (DeclaresOwn t c.args.spot.now.root path ms c.args.self.now c.add_members.new.self))
    (ap (λ k. map (member_over k) c.members_of-all.result.now) (c.data_of.ensures t.names) ∙ c.members_of-all.ensures t.names)
    (c.add_members.ensures path at)
