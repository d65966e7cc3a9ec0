use Rattle.std.proofs.Common.{◌+◌, ◌≡◌, Some, ap, sym, ◌∙◌}
use Rattle.std.specs.Map.{update, count_at}
use Rattle.std.specs.Option.{unwrap_or}
use Rattle.type_rules.specs.Names.{same_name}
use Rattle.type_tables.specs.Tables.{number_in}
use Rattle.type_tables.proofs.Held.{held, held_updates, count_updated}
use Rattle.type_tables.proofs.later.Later.raise.Goals as goal

pub returns-in_ok-insert-in-Some : goal.returns-in_ok-insert-in-Some
returns-in_ok-insert-in-Some c =
    let name = c.args.name.now in
    let table = number_in c.args.self.now in
    let more : c.in-Some.more ≡ count_at table name + 1 =
    c.in-Some.ensures.1
    ∙ ap (λ n. n + 1) (c.unwrap_or-count.ensures ∙ ap (λ o. unwrap_or o 0) (c.copied.ensures ∙ c.get.ensures.value
    ∙ sym (held name c.self.inside.counts) ∙ ap (λ es. number_in es name) c.self.view_is)) in
    let updated = held_updates name c.self.inside.counts c.insert.new.self _ c.in_ok-insert-in-Some.ensures.updates
    ∙ ap (λ es. update same_name (number_in es) name (Some c.in-Some.more)) c.self.view_is in
    λ i y. count_updated table _ name c.in-Some.more updated (λ n. n + 1) more y i
