use Rattle.std.proofs.Common.{◌∷◌, false, not, sym, ap, ◌∙◌}
use Rattle.rp_ast.specs.View.{expr_view, ident_view, optional, type_view}
use Rattle.rp_grammar.specs.Trees.{StmtForm}
use Rattle.type_rules.specs.declared.role.Role.TheVariants as role
use Rattle.type_rules.specs.Sites.{Site}
use Rattle.type_rules.specs.Kinds.{kind_of}
use Rattle.type_rules.specs.Flow.{after_form, declared_var, with_declared}
use Rattle.type_rules.specs.ExprSites.{asks}
use Rattle.type_rules.specs.StmtSites.{value_sites, var_sites}
use Rattle.type_judges.specs.Places.{want_view}
use Rattle.type_faults.specs.Walks.{frame_at, names_at, quiet_at, seeing, sight_of, stand_of}
use Rattle.type_faults.proofs.Lists.{last_given}
use Rattle.type_faults.proofs.Walked.{both, quiet, recast, same_names, same_words, then_turned}
use Rattle.type_faults.proofs.walk.Walk.var.Goals as goal

pub returns-in-Some : goal.returns-in-Some
returns-in-Some c = λ later frame counted words.
    let a = c.args.self.now in
    let n = names_at a in
    let x = ident_view c.args.name.now in
    let ty = type_view c.args.ty.now in
    let value = optional expr_view c.args.value.now in
    let here = c.in_ok-here.ensures later counted in
    let kind = c.in_ok-kind.ensures ∙ ap (λ n. kind_of n ty) (same_names here) in
    let below = quiet (λ n sc. value_sites n sc (want_view c.asks.result) value) (same_words here ∙ words) (c.in_ok-below.ensures later here.counted) in
    let inside = quiet_at later (seeing (stand_of a) (with_declared n (sight_of a) false x ty)) in
    recast (λ p. var_sites p.names (frame_at later frame p) p.sight x ty value) (λ p. after_form p.names p.sight (StmtForm.var x ty value))
    (then_turned (both here below c.sooner.ensures) c.give_last.ensures)
    (ap (λ w. Site.declares a.vars x ∷ Site.written a.decl role.Variable ty ∷ value_sites n inside w value)
    (c.asks.ensures ∙ ap (asks 23) kind))
    (ap (λ vs. record (sight_of a) { vars = vs }) (last_given a.vars (declared_var n (not a.live) x ty))
    ∙ ap (λ o. after_form n (sight_of a) (StmtForm.var x ty (optional expr_view o))) (sym c.in-Some.is))

pub returns-in-None : goal.returns-in-None
returns-in-None c = λ later frame counted words.
    let a = c.args.self.now in
    let n = names_at a in
    let x = ident_view c.args.name.now in
    let ty = type_view c.args.ty.now in
    let value = optional expr_view c.args.value.now in
    let here = c.in_ok-here.ensures later counted in
    let kind = c.in_ok-kind.ensures ∙ ap (λ n. kind_of n ty) (same_names here) in
    let below = quiet (λ n sc. value_sites n sc (want_view c.asks.result) value) (same_words here ∙ words) (c.in_ok-below.ensures later here.counted) in
    let inside = quiet_at later (seeing (stand_of a) (with_declared n (sight_of a) false x ty)) in
    recast (λ p. var_sites p.names (frame_at later frame p) p.sight x ty value) (λ p. after_form p.names p.sight (StmtForm.var x ty value))
    (both here below c.sooner-in-None.ensures)
    (ap (λ w. Site.declares a.vars x ∷ Site.written a.decl role.Variable ty ∷ value_sites n inside w value)
    (c.asks.ensures ∙ ap (asks 23) kind))
    (ap (λ o. after_form n (sight_of a) (StmtForm.var x ty (optional expr_view o))) (sym c.in-None.is))
