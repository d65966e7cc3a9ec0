use Rattle.std.proofs.Common.{◌≡◌, [], ◌∷◌, ◌++◌, Option, Some, None, false, refl, ap, ap₂, ◌∙◌}
use Rattle.std.specs.Option.{is_some}
use Rattle.rp_ast.specs.declared.ty.TypeNode.{TypeNode}
use Rattle.rp_ast.specs.View.{block_view, optional, type_view}
use Rattle.type_rules.specs.declared.kind.Kind.{Kind}
use Rattle.type_rules.specs.Sites.{Site}
use Rattle.type_rules.specs.Starts.{brace_of}
use Rattle.type_rules.specs.Faults.{judged}
use Rattle.type_rules.specs.Flow.{after_block}
use Rattle.type_rules.specs.DeclSites.{frame_for}
use Rattle.type_rules.specs.StmtSites.{Frame, block_sites, is_there}
use Rattle.type_faults.specs.Walks.{Stand, names_at, sight_of}
use Rattle.type_faults.proofs.Walked.{both, here_one, recast}
use Rattle.type_faults.proofs.walk.Walk.body.Goals as goal

there_is : (o : Option TypeNode) → is_some o ≡ is_there (optional type_view o)
there_is None = refl
there_is (Some t) = refl

pub returns : goal.returns
returns c = λ counted words.
    let a = c.args.self.now in
    let n = names_at a in
    let proc = c.args.proc.now in
    let result = optional type_view proc.result in
    let body = block_view proc.body in
    let inside = c.in_ok-body.ensures [] counted words in
    let frame : Option Kind → Frame = λ kind. record { decl = a.decl; result = kind; inside_atomic = false; later = [] } in
    let live = ap (λ (p : Stand). p.sight.live) inside.stands in
    let m = names_at c.block.new.self in
    let close = here_one {later = []} (λ p. Site.closes p.sight.live (is_there result) (brace_of body))
    (c.judge_closes-close.ensures m
    ∙ ap₂ (λ r at. judged m (Site.closes c.block.new.self.live r at)) (c.is_some.ensures ∙ there_is proc.result) c.brace_of.ensures)
    refl inside.counted in
    recast (λ p. block_sites p.names (frame_for p.names p.decl result) p.sight body
    ++ Site.closes (after_block p.names p.sight body).live (is_there result) (brace_of body) ∷ [])
    (λ p. after_block p.names p.sight body)
    (both inside close c.sooner.ensures)
    (ap (λ k. block_sites n (frame k) (sight_of a) body ++ Site.closes (after_block n (sight_of a) body).live (is_there result) (brace_of body) ∷ [])
    c.in_ok-result_kind.ensures)
    refl
