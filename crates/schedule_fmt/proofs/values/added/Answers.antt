use Rattle.std.proofs.Common.{◌≡◌, ℕ, Some, ap, subst, ◌∙◌}
use Rattle.std.specs.Prelude.{Result}
use Rattle.std.specs.Result.{IfOk, result_from_control_flow}
use Rattle.rp_value.specs.declared.value.Value.{Value}
use Rattle.schedule_fmt.specs.declared.stop.Stop.{Stop}
use Rattle.schedule_fmt.specs.Views.{value_at}
use Rattle.schedule_fmt.proofs.values.added.Goals as goal

pub returns-clause-found : goal.returns-clause-found
returns-clause-found c = λ o h.
    let read = c.branch-value.ensures ∙ ap (λ r. result_from_control_flow r) c.in_ok-value.is in
    (c.in_ok-value.value, c.in_ok-push.ensures.ok, subst (λ (found : Result (Value × ℕ) Stop). IfOk found (λ r. o ≡ Some (value_at r))) read h)
