use Rattle.std.proofs.Common.{◌+◌, ◌-◌, ◌++◌, ◌∷◌, [], sym, ap, ◌∙◌}
use Rattle.std.proofs.lemmas.List.{append_assoc}
use Rattle.desugaring.specs.Tables.{up_from}
use Rattle.text_tables.proofs.TextsLaw.{up_one}
use Rattle.text_tables.proofs.type_table.numbers_from.Goals as goal

pub loop-number-preserved : goal.loop-number-preserved
loop-number-preserved c =
    let now = c.loop-number.numbers in
    let i = c.loop-number.number in
    let end = c.args.end in
    let rest = up_from (i + 1) (end - (i + 1)) in
    ap (λ xs. xs ++ rest) c.in_ok-push.ensures.ok ∙ append_assoc now (i ∷ []) rest
    ∙ ap (λ xs. now ++ xs) (sym (up_one i end c.loop-number-test.true)) ∙ c.loop-number.invariant
