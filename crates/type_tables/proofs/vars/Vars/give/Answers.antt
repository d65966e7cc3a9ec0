use Rattle.std.proofs.Common.{ap, sym, ◌∙◌, arith}
use Rattle.type_rules.specs.Flow.{give}
use Rattle.type_tables.specs.Tables.{place_from}
use Rattle.type_tables.specs.Variables.{known_names, vars_seen}
use Rattle.type_tables.proofs.Seen.{give_seen, none_seen}
use Rattle.type_tables.proofs.vars.Vars.give.Goals as goal

pub returns-in-Some : goal.returns-in-Some
returns-in-Some c =
    let items = c.self.inside.items.items in
    let name = c.args.name.now in
    let place = c.in-Some.place in
    ap (vars_seen items) c.put.ensures
    ∙ give_seen 0 items c.self.inside.set name place place (omega arith) (sym (c.place_in.ensures ∙ ap (λ items. place_from 0 (known_names items) name) c.as_slice.ensures.value) ∙ c.in-Some.is)
    ∙ ap (give name) c.self.view_is

pub returns-in_default : goal.returns-in_default
returns-in_default c =
    let name = c.args.name.now in
    sym c.self.view_is
    ∙ none_seen c.self.inside.items.items c.self.inside.set name c.self.invariant.long
    (sym (c.place_in.ensures ∙ ap (λ items. place_from 0 (known_names items) name) c.as_slice.ensures.value) ∙ c.in_default.is)
    ∙ ap (give name) c.self.view_is
