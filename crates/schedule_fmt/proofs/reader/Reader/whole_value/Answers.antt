use Rattle.std.proofs.Common.{◌≡◌, ◌+◌, ◌∷◌, ◌++◌, [], List, Some, sym, ap, ◌∙◌}
use Rattle.rp_value.specs.declared.value.Value.{Value}
use Rattle.rp_value.specs.ValueView.{value_view}
use Rattle.schedule_fmt.proofs.Gathered.{one_last}
use Rattle.schedule_fmt.proofs.reader.Reader.whole_value.Goals as goal

pub returns-in-Some-clause-found : goal.returns-in-Some-clause-found
returns-in-Some-clause-found c =
    let a = c.in_ok-to.ensures.found in
    let alone = a.1 ∙ ap (λ (vs : List Value). vs ++ a.0 ∷ []) c.new-values.ensures in
    a.2 ∙ ap (λ (v : Value). Some (value_view v, c.in_ok-to.to)) (one_last a.0 c.in-Some.value c.pop.new.self (sym alone ∙ c.in-Some.ensures))
