use Rattle.std.proofs.Common.{[], map, sym, ap, ap₂, ◌∙◌}
use Rattle.rp_ast.specs.View.{ident_view, params_view}
use Rattle.type_rules.specs.declared.role.Role.TheVariants as role
use Rattle.type_rules.specs.Names.{param_name}
use Rattle.type_rules.specs.DeclSites.{named_all, written_all}
use Rattle.type_rules.specs.Faults.{first, sooner}
use Rattle.type_faults.specs.Walks.{names_at}
use Rattle.type_faults.proofs.Named.{con_parts}
use Rattle.type_faults.proofs.walk.Walk.con.Goals as goal

pub returns : goal.returns
returns c =
    let w = c.args.self.now in
    let n = names_at w in
    let con = c.args.con.now in
    c.sooner.ensures ∙ ap₂ sooner (c.in_ok-named.ensures n) c.in_ok-written.ensures
    ∙ ap (λ l. sooner (first n (named_all [] (map param_name (params_view l)))) (first n (written_all w.decl role.Field (params_view l)))) c.as_slice-fields.ensures.items
    ∙ sym (con_parts n w.decl (ident_view con.name) (params_view con.fields))
