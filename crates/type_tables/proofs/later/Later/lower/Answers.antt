use Rattle.std.proofs.Common.{◌≡◌, ◌-◌, Some, ap, sym, ◌∙◌, rules}
use Rattle.std.specs.Map.{update, count_at}
use Rattle.std.specs.Option.{option_copied_mut, unwrap_or}
use Rattle.type_rules.specs.Names.{same_name}
use Rattle.type_tables.specs.Tables.{entries_of, number_in}
use Rattle.type_tables.specs.Counts.{count_in}
use Rattle.type_tables.proofs.Held.{held, held_updates, count_updated, none_less}
use Rattle.type_tables.proofs.later.Later.lower.Goals as goal
use Rattle.type_tables.proofs.later.Later.lower.Goals.{in-Some, in_default}

pub returns : goal.returns
returns c =
    let name = c.args.name.now in
    let table = number_in c.args.self.now in
    let told = c.get_mut.ensures.value ∙ sym (held name c.self.inside.counts) ∙ ap (λ es. number_in es name) c.self.view_is in
    elim c.match-get_mut.branch [
      | in-Some w ↦
          (let count = w.saturating_sub.result in
          let less : count ≡ count_at table name - 1 =
          w.saturating_sub.ensures ∙ ap (λ o. unwrap_or o 0 - 1) (ap option_copied_mut (sym w.in-Some.is) ∙ told) in
          let updated =
          held_updates name c.self.inside.counts (c.get_mut.follows.lender count) _
          ((c.get_mut.follows.holds count).3 (search rules))
          ∙ ap (λ es. update same_name (number_in es) name (Some count)) c.self.view_is in
          ap (λ (it : _). count_in (entries_of it.counts)) w.self-inside-is
          ∙ (λ i y. count_updated table _ name count updated (λ n. n - 1) less y i))
      | in_default w ↦
          ap (λ (it : _). count_in (entries_of it.counts)) w.self-inside-is
          ∙ ap (λ (m : _). count_in (entries_of m)) c.get_mut.follows.holds-at-none ∙ ap count_in c.self.view_is
          ∙ (λ i y. none_less table name (ap option_copied_mut (sym w.in_default.is) ∙ told) y i)
    ]
