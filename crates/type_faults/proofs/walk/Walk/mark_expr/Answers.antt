use Rattle.std.proofs.Common.{ap, sym, ◌∙◌}
use Rattle.std.specs.Option.{option_map}
use Rattle.rp_ast.specs.View.{access_view, expr_view}
use Rattle.text_names.proofs.Placed.{on_ok}
use Rattle.type_faults.specs.Walks.{names_at, scope_at, stand_of}
use Rattle.type_faults.proofs.Walked.{marks_same, used_in_access, used_of}
use Rattle.type_faults.proofs.walk.Walk.mark_expr.Goals as goal

pub returns-in-Some : goal.returns-in-Some
returns-in-Some c = λ later.
    let n = names_at c.args.self.now in
    let sc = scope_at later (stand_of c.args.self.now) in
    on_ok c.mark_access.result
    (marks_same (ap (λ o. used_of n sc (option_map (λ access. access_view access.now) o)) (sym c.in-Some.is)
    ∙ ap (used_of n sc) c.accessed.ensures ∙ used_in_access n sc (expr_view c.args.e.now)))
    c.mark_access.ensures

pub returns-in-None : goal.returns-in-None
returns-in-None c = λ later.
    let n = names_at c.args.self.now in
    let sc = scope_at later (stand_of c.args.self.now) in
    on_ok c.mark.result
    (marks_same (ap (λ o. used_of n sc (option_map (λ access. access_view access.now) o)) (sym c.in-None.is)
    ∙ ap (used_of n sc) c.accessed.ensures ∙ used_in_access n sc (expr_view c.args.e.now)))
    c.mark.ensures
