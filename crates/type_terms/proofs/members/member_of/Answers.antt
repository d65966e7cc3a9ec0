use Rattle.std.proofs.Common.{Some, ap, sym, ◌∙◌}
use Rattle.std.specs.Prelude.{find}
use Rattle.std.specs.Option.{option_map}
use Rattle.rp_ast.specs.View.{crdt_view}
use Rattle.type_rules.specs.Names.{same_name}
use Rattle.type_terms.specs.Members.{data_kind, member_over}
use Rattle.type_terms.proofs.members.member_of.Goals as goal

pub returns-in-Some : goal.returns-in-Some
returns-in-Some c = λ n.
    let k = data_kind n (crdt_view c.args.crdt.now) in
    let name = c.args.name.now in
    ap (λ k. Some (member_over k c.in-Some.does)) (c.data_of.ensures n) ∙ ap (option_map (member_over k)) (sym c.in-Some.is)
    ∙ c.named.ensures k ∙ ap (find (λ m. same_name m.name name)) (c.members_of.ensures n)

pub returns-in-None : goal.returns-in-None
returns-in-None c = λ n.
    let k = data_kind n (crdt_view c.args.crdt.now) in
    let name = c.args.name.now in
    ap (option_map (member_over k)) (sym c.in-None.is) ∙ c.named.ensures k
    ∙ ap (find (λ m. same_name m.name name)) (c.members_of.ensures n)
