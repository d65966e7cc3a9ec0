use Rattle.std.proofs.Common.{◌++◌, ◌∷◌, [], refl, ap, subst, ◌∙◌}
use Rattle.type_terms.specs.Members.{member_view, written_kind}
use Rattle.desugaring.specs.Objects as objects
use Rattle.text_names.proofs.Placed.{on_ok}
use Rattle.text_tables.specs.Seen.{tables_view}
use Rattle.text_tables.specs.means.Rooted.{HasArgs}
use Rattle.text_tables.proofs.MembersLaw.{does_is, op_declared}
use Rattle.text_tables.proofs.members.Members.add_op.Goals as goal

pub returns : goal.returns
returns c = λ path at of.
    let t = tables_view c.args.tables.now in
    let spot = c.args.spot.now in
    let member = c.args.member in
    let m = member_view t.names member in
    let keys = c.in_ok-keys.ensures ∙ c.as_slice-2.ensures.items in
    on_ok c.push.result
    (λ pushed. op_declared t path spot m c.args.kind c.in_ok-args.args c.args.self.now _ at
    (ap objects.op_kind (does_is (written_kind t.names member.over) member.does) ∙ of)
    (subst (λ ks. HasArgs t ks m.args c.in_ok-args.args) keys c.in_ok-args.ensures)
    (pushed ∙ ap (λ p. c.args.self.now.ops ++ record { root = spot.root; path = p; kind = c.args.kind; args = c.in_ok-args.args } ∷ [])
    (c.in_ok-path.ensures ∙ c.as_slice.ensures.items)) refl)
    c.push.ensures.ok
