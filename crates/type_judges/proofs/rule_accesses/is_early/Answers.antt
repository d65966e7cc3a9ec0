use Rattle.std.proofs.Common.{◌&&◌, sym, ap, ◌∙◌}
use Rattle.rp_ast.specs.View.{ident_view}
use Rattle.type_rules.specs.Rules as spec
use Rattle.type_judges.specs.Places.{scope_view}
use Rattle.type_judges.proofs.rule_accesses.is_early.Goals as goal

pub returns-then-nothing : goal.returns-then-nothing
returns-then-nothing c = λ later counted.
    let late = spec.is_later (scope_view c.args.scope.now later) (ident_view c.args.name.now) in
    c.is_later.ensures later counted ∙ ap (λ b. b && late) (sym c.if-nothing.true)
