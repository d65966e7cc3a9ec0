use Rattle.std.proofs.Common.{[], ◌∷◌, ◌++◌, refl, sym, ap}
use Rattle.rp_ast.specs.View.{param_view}
use Rattle.type_rules.specs.Names.{param_name}
use Rattle.type_rules.specs.Sites.{Site}
use Rattle.type_rules.specs.Queries.{param_var}
use Rattle.type_rules.proofs.Order.{sooner_none}
use Rattle.type_faults.specs.Walks.{sight_of}
use Rattle.type_faults.proofs.Walked.{both, here_one, recast, turned}
use Rattle.type_faults.proofs.walk.Walk.bring_param.Goals as goal

pub returns : goal.returns
returns c = λ later counted.
    let a = c.args.self.now in
    let param = param_view c.args.param.now in
    recast (λ p. Site.declares p.sight.vars (param_name param) ∷ []) (λ p. record p.sight { vars = p.sight.vars ++ param_var p.names param ∷ [] })
    (both {before = later} (here_one {later = later} (λ p. Site.declares p.sight.vars (param_name param)) c.judge_declares-fault.ensures refl counted)
    (turned {later = later} c.in_ok-bring.ensures counted) (sym (sooner_none c.judge_declares-fault.result)))
    refl
    (ap (λ v. record (sight_of a) { vars = a.vars ++ v ∷ [] }) c.in_ok-var.ensures)
