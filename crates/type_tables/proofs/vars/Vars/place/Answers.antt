use Rattle.std.proofs.Common.{ap, sym, ◌∙◌, map}
use Rattle.type_tables.specs.Tables.{place_from}
use Rattle.type_tables.specs.Variables.{known_names}
use Rattle.type_tables.proofs.Seen.{names_seen}
use Rattle.type_tables.proofs.vars.Vars.place.Goals as goal

pub returns : goal.returns
returns c =
    let name = c.args.name.now in
    let names = names_seen c.self.inside.items.items c.self.inside.set c.self.invariant.long in
    c.place_in.ensures ∙ ap (λ items. place_from 0 (known_names items) name) c.as_slice.ensures.value
    ∙ ap (λ ns. place_from 0 ns name) (sym names ∙ ap (map (λ v. v.name)) c.self.view_is)
