use Rattle.std.proofs.Common.{◌≡◌, Some, ap, sym, subst, ◌∙◌}
use Rattle.rp_ast.specs.View.{step_view, steps_view}
use Rattle.rp_grammar.specs.Trees.{StepTrees}
use Rattle.text_names.proofs.Entries.{if_ok}
use Rattle.text_names.specs.Views.{part_view}
use Rattle.type_terms.specs.Views.{way_view}
use Rattle.type_rules.specs.Paths.{Way}
use Rattle.desugaring.specs.Objects.{follow}
use Rattle.reading.proofs.Ends.{end_next}
use Rattle.reading.proofs.path.+end_past.Goals as goal

pub returns-in-Came : goal.returns-in-Came
returns-in-Came t c = λ n r e.
    let s = step_view c.args.step.now in
    let part = part_view c.args.part in
    let inner = part_view c.in-Came.inner in
    let next = step_view c.in-Some.next.now in
    let rest = steps_view c.in-Some.more.now in
    let whole = subst (λ l. follow n (StepTrees.more_steps s (steps_view l)) part ≡ Some r) c.in-Some.ensures.cases.0 e in
    let l = end_next n s next rest part r whole in
    let way : Way.came inner ≡ Way.came l.next = sym (ap (way_view n) c.in-Came.is) ∙ c.in_ok-inner-in-Some.ensures n ∙ l.comes in
    let same : inner ≡ l.next = cc in
    if_ok c.end_past.result (λ crdt is. is ∙ l.same)
    (c.end_past.ensures n l.reached (subst (λ d. follow n (StepTrees.more_steps next rest) d ≡ Some l.reached) (sym same) l.follows))
