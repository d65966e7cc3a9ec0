use Rattle.std.proofs.Common.{[], ◌∷◌, ◌++◌, false, not, refl, sym, ap₂}
use Rattle.rp_ast.specs.View.{ident_view, type_view}
use Rattle.type_rules.specs.declared.role.Role.TheVariants as role
use Rattle.type_rules.specs.Sites.{Site}
use Rattle.type_rules.specs.Flow.{with_declared}
use Rattle.type_rules.proofs.Order.{sooner_none}
use Rattle.type_faults.specs.Walks.{sight_of}
use Rattle.type_faults.proofs.Walked.{both, here_one, recast, turned}
use Rattle.type_faults.proofs.walk.Walk.declare.Goals as goal

pub returns : goal.returns
returns c = λ later counted.
    let a = c.args.self.now in
    let x = ident_view c.args.name.now in
    let ty = type_view c.args.ty.now in
    let declared = here_one {later = later} (λ p. Site.declares p.sight.vars x) c.judge_declares-declared.ensures refl counted in
    let written = here_one {later = later} (λ p. Site.written p.decl role.Variable ty) c.in_ok-written.ensures refl counted in
    recast (λ p. Site.declares p.sight.vars x ∷ Site.written p.decl role.Variable ty ∷ []) (λ p. with_declared p.names p.sight false x ty)
    (both (both declared written c.sooner.ensures) (turned {later = later} c.in_ok-bring.ensures counted) (sym (sooner_none c.sooner.result)))
    refl
    (ap₂ (λ name k. record (sight_of a) { vars = a.vars ++ (record { name = name; kind = k; set = not a.live; fixed = false }) ∷ [] })
    c.as_slice.ensures.items c.in_ok-kind.ensures)
