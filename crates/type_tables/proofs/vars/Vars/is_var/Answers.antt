use Rattle.std.proofs.Common.{ap, ◌∙◌}
use Rattle.std.specs.Option.{is_some}
use Rattle.type_rules.specs.Accesses.{find_var}
use Rattle.type_tables.specs.Tables.{place_from}
use Rattle.type_tables.specs.Variables.{known_names}
use Rattle.type_tables.proofs.Seen.{is_seen}
use Rattle.type_tables.proofs.vars.Vars.is_var.Goals as goal

pub returns : goal.returns
returns c =
    let name = c.args.name.now in
    c.is_some.ensures ∙ ap is_some (c.place_in.ensures ∙ ap (λ items. place_from 0 (known_names items) name) c.as_slice.ensures.value)
    ∙ is_seen c.self.inside.items.items c.self.inside.set name c.self.invariant.long
    ∙ ap (λ vs. is_some (find_var vs name)) c.self.view_is
