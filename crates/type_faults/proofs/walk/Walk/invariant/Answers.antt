use Rattle.std.proofs.Common.{[], true, ap, ◌∙◌}
use Rattle.rp_ast.specs.View.{expr_view}
use Rattle.type_rules.specs.Faults.{first}
use Rattle.type_rules.specs.DeclSites.{scope_for}
use Rattle.type_rules.specs.ExprSites.{bool_whole, expr_sites}
use Rattle.type_rules.specs.Sites.{Scope}
use Rattle.type_rules.specs.TextSites.{used}
use Rattle.type_tables.specs.Flags.{flag_at}
use Rattle.text_names.proofs.Entries.{if_ok}
use Rattle.type_judges.specs.Places.{want_view}
use Rattle.type_faults.specs.Walks.{names_at}
use Rattle.type_faults.proofs.Named.{none_new}
use Rattle.type_faults.proofs.Walked.{same_names}
use Rattle.type_faults.proofs.walk.Walk.invariant.Goals as goal

pub returns : goal.returns
returns c = λ behind name marked counted empty.
    let a = c.args.self.now in
    let n = names_at a in
    let truth = expr_view c.args.truth.now in
    let scope : Scope = record (scope_for n a.decl true []) { vars = a.vars } in
    if_ok c.expr.result
    (λ f w. record {
      fault_is = w.fault_is ∙ ap (λ w. first n (expr_sites n scope w truth)) c.bool_whole.ensures
          ∙ ap (λ vs. first n (expr_sites n (record scope { vars = vs }) bool_whole truth)) empty;
      marked = none_new (flag_at a.used) (flag_at c.expr.new.self.used) (used n (expr_sites n scope (want_view c.bool_whole.result) truth)) behind marked w.marks;
      names = same_names w;
      counted = w.counted;
    })
    (c.expr.ensures [] counted)
