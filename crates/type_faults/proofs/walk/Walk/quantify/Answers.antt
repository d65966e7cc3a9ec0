use Rattle.std.proofs.Common.{[], ◌∷◌, ◌++◌, refl, ap}
use Rattle.rp_ast.specs.View.{param_view}
use Rattle.type_rules.specs.declared.role.Role.TheVariants as role
use Rattle.type_rules.specs.Names.{param_name, param_type}
use Rattle.type_rules.specs.Sites.{Site}
use Rattle.type_rules.specs.Matches.{bound_var}
use Rattle.type_rules.specs.ExprSites.{quantified_sites, quantified_var}
use Rattle.type_faults.specs.Walks.{scope_at, sight_of}
use Rattle.type_faults.proofs.Walked.{both, here_one, judged_in, recast}
use Rattle.type_faults.proofs.walk.Walk.quantify.Goals as goal

pub returns : goal.returns
returns c = λ later counted.
    let a = c.args.self.now in
    let param = param_view c.args.param.now in
    let own = c.in_ok-declared.ensures later counted in
    let written = judged_in (λ n. Site.written a.decl role.Quantified (param_type param)) own c.in_ok-written.ensures in
    recast (λ p. quantified_sites (scope_at later p) param)
    (λ p. record p.sight { vars = p.sight.vars ++ quantified_var p.names param ∷ [] })
    (both own (here_one {later = later} (λ p. Site.written a.decl role.Quantified (param_type param)) written refl own.counted) c.sooner.ensures)
    refl
    (ap (λ k. record (sight_of a) { vars = a.vars ++ bound_var (param_name param) k ∷ [] }) c.in_ok-kind.ensures)
