use Rattle.std.proofs.Common.{◌≡◌, ◌∷◌, codes, Option, Some, None, refl, ap, ap₂, ◌∙◌}
use Rattle.std.specs.Option.{is_some, unwrap_or}
use Rattle.rp_ast.specs.declared.expr.ExprNode.{ExprNode}
use Rattle.rp_ast.specs.View.{expr_view, optional}
use Rattle.rp_grammar.specs.Trees.{StmtForm}
use Rattle.type_rules.specs.declared.kind.Kind.{Kind}
use Rattle.type_rules.specs.Sites.{Site}
use Rattle.type_rules.specs.Starts.{word_at}
use Rattle.type_rules.specs.Faults.{judged}
use Rattle.type_rules.specs.Flow.{dead, has_value}
use Rattle.type_rules.specs.Kinds.{unknown_kind}
use Rattle.type_rules.specs.ExprSites.{asks}
use Rattle.type_rules.specs.StmtSites.{is_there, leaving, result_kind, stmt_form_sites, value_sites}
use Rattle.type_judges.specs.Places.{want_view}
use Rattle.type_faults.specs.Walks.{frame_at, names_at, quiet_at, stand_of}
use Rattle.type_faults.proofs.Walked.{both, here_one, quiet, recast, then_turned}
use Rattle.type_faults.proofs.walk.Walk.leave.Goals as goal

there_is : (o : Option Kind) → is_some o ≡ is_there o
there_is None = refl
there_is (Some k) = refl

value_is : (o : Option ExprNode) → is_some o ≡ has_value (optional expr_view o)
value_is None = refl
value_is (Some e) = refl

kind_is : (o : Option Kind) → unwrap_or o unknown_kind ≡ result_kind o
kind_is None = refl
kind_is (Some k) = refl

pub returns : goal.returns
returns c = λ later counted words.
    let a = c.args.self.now in
    let n = names_at a in
    let frame = c.args.frame in
    let last = c.args.last in
    let value = optional expr_view c.args.value.now in
    let at = word_at (codes "return") c.args.at in
    let spec_frame = frame_at later frame (stand_of a) in
    let leaves = ap₂ (λ v r. Site.leaves (record (leaving spec_frame last value) { has_value = v; has_result = r }))
    (c.is_some.ensures ∙ value_is c.args.value.now) (c.is_some-2.ensures ∙ there_is frame.result) in
    let own = here_one {later = later} (λ p. Site.leaves (leaving (frame_at later frame p) last value) at)
    (c.judge_leaves-here.ensures n ∙ ap₂ (λ (site : _ → Site) at. judged n (site at)) leaves c.in_ok-word.ensures) refl counted in
    let below = quiet (λ n sc. value_sites n sc (want_view c.asks.result) value) words (c.in_ok-below.ensures later counted) in
    recast (λ p. stmt_form_sites p.names (frame_at later frame p) p.sight last c.args.at (StmtForm.return value)) (λ p. dead p.sight)
    (then_turned (both own below c.sooner.ensures) c.end.ensures)
    (ap (λ w. Site.leaves (leaving spec_frame last value) at ∷ value_sites n (quiet_at later (stand_of a)) w value)
    (c.asks.ensures ∙ ap (asks 23) (c.unwrap_or-asked.ensures ∙ kind_is frame.result)))
    refl
