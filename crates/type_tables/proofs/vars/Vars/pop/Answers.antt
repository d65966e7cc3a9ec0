use Rattle.std.proofs.Common.{ap, sym, ◌∙◌, ◌≡◌, ◌-◌, length, take, subst}
use Rattle.type_tables.specs.Variables.{ArePlaces, vars_seen}
use Rattle.type_tables.proofs.Seen.{popped, popped_seen}
use Rattle.type_tables.proofs.vars.Vars.pop.Goals as goal

pub invariant_of-self : goal.invariant_of-self
invariant_of-self c =
    let place : c.len-place.result ≡ length c.pop.new.self.items = c.len-place.ensures ∙ c.pop.new.self.ok.0 in
    subst (λ (set : _). ArePlaces c.pop.new.self.items set c.remove.new.self) (sym c.truncate.ensures)
    (popped c.self.inside.items.items c.pop.new.self.items c.in-Some.var c.self.inside.set c.self.inside.places c.remove.new.self
    c.len-place.result c.self.invariant c.in-Some.ensures.items place c.remove.ensures)

pub returns-in-Some : goal.returns-in-Some
returns-in-Some c =
    let items = c.self.inside.items.items in
    let place : c.len-place.result ≡ length c.pop.new.self.items = c.len-place.ensures ∙ c.pop.new.self.ok.0 in
    ap (vars_seen c.pop.new.self.items) c.truncate.ensures
    ∙ popped_seen items c.pop.new.self.items c.in-Some.var c.self.inside.set c.len-place.result c.in-Some.ensures.items
    c.self.invariant.long place
    ∙ ap (λ vs. take (length vs - 1) vs) c.self.view_is
