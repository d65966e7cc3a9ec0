use Rattle.std.proofs.Common.{◌++◌, Some, ap, sym, ◌∙◌}
use Rattle.std.specs.Option.{option_map}
use Rattle.type_terms.specs.Members.{written_kind}
use Rattle.desugaring.specs.Tables.{ty_of}
use Rattle.text_tables.specs.Seen.{tables_view}
use Rattle.text_tables.proofs.ConsLaw.{one_ty}
use Rattle.text_tables.proofs.members.with_arg.Goals as goal

pub returns : goal.returns
returns c =
    let t = tables_view c.args.tables.now in
    let k = written_kind t.names c.args.member.over in
    let kind = ap (ty_of t) (sym (c.in_ok-kind.ensures ∙ ap (λ n. written_kind n c.args.member.over) c.names.ensures)) in
    ap (option_map (λ own. c.args.args ++ own)) (one_ty t k c.in_ok-ty.ty (kind ∙ c.in_ok-ty.ensures.found)) ∙ ap Some (sym c.in_ok-push.ensures.ok)
