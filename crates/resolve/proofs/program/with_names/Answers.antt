use Rattle.std.proofs.Common.{◌≡◌, Option, Some, ap, subst, sym, ◌∙◌}
use Rattle.rp_ast.specs.View.{ast_view}
use Rattle.type_rules.specs.declared.fault.Fault.{Fault}
use Rattle.type_rules.specs.Faults.{IsFirstFault}
use Rattle.type_rules.proofs.Least.{fault_least, none_lawful}
use Rattle.resolve.proofs.program.with_names.Goals as goal

pub lawful_program-requires-clause-lawful : goal.lawful_program-requires-clause-lawful
lawful_program-requires-clause-lawful c = none_lawful (ast_view c.args.ast.now) (sym c.in_ok-fault.ensures ∙ c.in-None.is)

pub returns-in-Some-clause-rule : goal.returns-in-Some-clause-rule
returns-in-Some-clause-rule c rule span is =
    let fault : Fault = c.in-Some.fault in
    let same_rule : fault.rule ≡ rule = cc in
    let same_span : fault.span ≡ span = cc in
    let same : fault ≡ record { rule = rule; span = span } = λ i. record { rule = same_rule i; span = same_span i } in
    subst (λ (o : Option Fault). IsFirstFault (ast_view c.args.ast.now) o)
    (sym c.in_ok-fault.ensures ∙ c.in-Some.is ∙ ap (λ (f : Fault). Some f) same)
    (fault_least (ast_view c.args.ast.now))
