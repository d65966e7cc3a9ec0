use Rattle.std.proofs.Common.{◌≡◌, ◌/◌, ◌%◌, ◌∷◌, ◌++◌, [], ℕ, ap, ◌∙◌}
use Rattle.type_tables.specs.Flags.{one_at, truth_at}
use Rattle.type_tables.proofs.Rows.{set_last, zero_more}
use Rattle.type_tables.proofs.flags.Flags.push.Goals as goal
use Rattle.type_tables.proofs.flags.Flags.push.Goals.{then-place-len+in_ok-push, else-place-len}

pub returns-clause-ok : goal.returns-clause-ok
returns-clause-ok c =
    let ws = c.self.inside.words.items in
    let same : (j : ℕ) → truth_at c.if-place-len.self-inside.words.items j ≡ truth_at ws j =
    elim c.if-place-len.branch [
      | then-place-len+in_ok-push w ↦ λ j.
          ap (λ (it : _). truth_at it.words.items j) w.self-inside-is ∙ ap (λ vs. truth_at vs j) w.in_ok-push.ensures.items
          ∙ ap (λ word. one_at word (j % 64)) (zero_more ws (j / 64))
      | else-place-len w ↦ λ j. ap (λ (it : _). truth_at it.words.items j) w.self-inside-is
    ] in
    c.put.ensures
    ∙ set_last ws c.if-place-len.self-inside.words.items 0 c.self.inside.len c.in-Some.more c.args.flag c.in-Some.ensures.1 same
    ∙ ap (λ bs. bs ++ c.args.flag ∷ []) c.self.view_is
