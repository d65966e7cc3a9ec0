use Rattle.std.proofs.Common.{◌≡◌, ◌&&◌, not, sym, ap, ◌∙◌}
use Rattle.rp_ast.specs.View.{ident_view}
use Rattle.type_rules.specs.Rules as spec
use Rattle.text_names.specs.Declarations.{names_view}
use Rattle.type_judges.specs.Places.{scope_view}
use Rattle.type_judges.proofs.rule_uses.nowhere.Goals as goal
use Rattle.type_judges.proofs.rule_uses.nowhere.Goals.{then-is_out_of_sight, else-is_out_of_sight}

pub returns : goal.returns
returns c = λ later counted.
    let sc = scope_view c.args.scope.now later in
    let x = ident_view c.args.name.now in
    let unlisted = not (spec.is_later sc x) in
    let out = sym (c.is_out_of_sight.ensures later) in
    let both : c.if-is_out_of_sight.missing ≡ (spec.is_out_of_sight (names_view c.args.scope.now.names.now) sc x && unlisted) =
    elim c.if-is_out_of_sight.branch [
      | then-is_out_of_sight w ↦
          w.missing-is ∙ ap not (w.is_later.ensures later counted) ∙ ap (λ b. b && unlisted) (sym (out ∙ w.if-is_out_of_sight.true))
      | else-is_out_of_sight w ↦
          w.missing-is ∙ w.if-is_out_of_sight.false ∙ ap (λ b. b && unlisted) (sym (out ∙ w.if-is_out_of_sight.false))
    ] in
    c.when.ensures ∙ ap (λ b. spec.when b c.args.name.now.span) both
