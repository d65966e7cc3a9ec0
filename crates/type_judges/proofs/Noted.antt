-- What is noted of a place, rule by rule.
use Rattle.std.proofs.Common.{◌≡◌, ℕ, Option, None, sym, ap, ap₂, ◌∙◌}
use Rattle.rp_span.specs.declared.Span.{Span}
use Rattle.type_rules.specs.declared.fault.Fault.{Fault}
use Rattle.type_rules.specs.Faults.{marked, sooner}

-- one rule more, which says the same as that of the definitions
pub noted : {found best all : Option Fault} {at broken : Option Span} (rule : ℕ)
    → found ≡ sooner (marked rule at) best → at ≡ broken → best ≡ all → found ≡ sooner (marked rule broken) all
noted rule e a b = e ∙ ap₂ (λ x o. sooner (marked rule x) o) a b

-- one rule more, which says nothing
pub passed : {found all : Option Fault} {broken : Option Span} (rule : ℕ)
    → found ≡ all → broken ≡ None → found ≡ sooner (marked rule broken) all
passed {all = all} rule e b = e ∙ sym (ap (λ x. sooner (marked rule x) all) b)
