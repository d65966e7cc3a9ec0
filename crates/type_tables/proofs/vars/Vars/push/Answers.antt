use Rattle.std.proofs.Common.{◌≡◌, ◌∷◌, ◌++◌, [], length, ap, ap₂, sym, ◌∙◌, subst, arith}
use Rattle.type_tables.specs.declared.vars.Known.{Known}
use Rattle.type_tables.specs.Variables.{ArePlaces, vars_seen, var_view}
use Rattle.type_tables.proofs.Seen.{not_failed, pushed, push_seen}
use Rattle.type_tables.proofs.vars.Vars.push.Goals as goal

pub invariant_of-self-else-is_err-2 : goal.invariant_of-self-else-is_err-2
invariant_of-self-else-is_err-2 c =
    let known : Known = record { name = c.args.var.name; kind = c.args.var.kind; fixed = c.args.var.fixed } in
    let flags = not_failed c.push-2.result c.if-is_err.ensures.value c.push-2.ensures.ok in
    let places = not_failed c.add.result c.if-is_err-2.ensures.value c.add.ensures.ok in
    let place : c.in-Ok.place ≡ length c.self.inside.items.items =
    omega (arith, c.in-Ok.ensures, c.len.ensures, c.self.inside.items.ok.0) in
    subst (λ (items : _). ArePlaces items c.push-2.new.self c.add.new.self) (sym c.in_ok-push.ensures.items)
    (subst (λ (set : _). ArePlaces (c.self.inside.items.items ++ known ∷ []) set c.add.new.self) (sym flags)
    (pushed c.self.inside.items.items known c.self.inside.set c.args.var.set c.self.inside.places c.add.new.self c.in-Ok.place
    c.self.invariant place (omega (arith, c.in-Ok.ensures)) places))

pub returns-clause-ok : goal.returns-clause-ok
returns-clause-ok c =
    let known : Known = record { name = c.args.var.name; kind = c.args.var.kind; fixed = c.args.var.fixed } in
    let flags = not_failed c.push-2.result c.if-is_err.ensures.value c.push-2.ensures.ok in
    ap₂ vars_seen c.in_ok-push.ensures.items flags
    ∙ push_seen c.self.inside.items.items c.self.inside.set known c.args.var.set c.self.invariant.long
    ∙ ap (λ vs. vs ++ var_view c.args.var ∷ []) c.self.view_is
