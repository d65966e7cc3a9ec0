use Rattle.std.proofs.Common.{get_or, ◌+◌, List, drop, map, sym, subst}
use Rattle.type_terms.specs.Members.{member_over, written_kind}
use Rattle.type_terms.specs.declared.members.Does.{Does}
use Rattle.type_terms.specs.declared.members.Does.TheVariants as does
use Rattle.std.proofs.lemmas.List.{drop_more}
use Rattle.text_names.proofs.Entries.{drop_past}
use Rattle.text_tables.specs.Seen.{tables_view}
use Rattle.text_tables.specs.means.Rooted.{DeclaresOwn}
use Rattle.text_tables.proofs.RootsLaw.{declares_none, own_step}
use Rattle.text_tables.proofs.members.Members.add_members.Goals as goal

pub loop-does-preserved : goal.loop-does-preserved
loop-does-preserved c = λ path new at adds.
    let t = tables_view c.args.tables.now in
    let root = c.args.spot.now.root in
    let all = c.args.all.now in
    let i = c.loop-does.does-index in
    let x = get_or all i does.Adds in
    let now = c.loop-does.self in
    let over = member_over (written_kind t.names c.args.over) in
    c.loop-does.invariant path new at
    (subst (λ (xs : List Does). DeclaresOwn t root path (map over xs) now new) (sym (drop_more all i does.Adds c.loop-does-test.true))
    (own_step t root path (over x) (map over (drop (i + 1) all)) now c.add_member.new.self new (c.in_ok-add_member.ensures path at) adds))

pub returns : goal.returns
returns c = λ path at.
    let t = tables_view c.args.tables.now in
    let all = c.args.all.now in
    let now = c.loop-does.self in
    c.loop-does.invariant path now at
    (subst (λ (xs : List Does). DeclaresOwn t c.args.spot.now.root path (map (member_over (written_kind t.names c.args.over)) xs) now now)
    (sym (drop_past all c.loop-does.does-index c.loop-does-test.false)) (declares_none t now))
