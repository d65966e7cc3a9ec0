use Rattle.std.proofs.Common.{[], ◌∷◌, ◌++◌, refl, ap, sym}
use Rattle.rp_ast.specs.View.{ident_view}
use Rattle.type_rules.specs.Sites.{Site}
use Rattle.type_rules.specs.Matches.{bound_var}
use Rattle.type_rules.proofs.Order.{sooner_none}
use Rattle.type_faults.proofs.Walked.{both, here_one, recast, turned}
use Rattle.type_faults.proofs.walk.Walk.bind.Goals as goal

pub returns : goal.returns
returns c = λ later counted.
    let x = ident_view c.args.name.now in
    let kind = c.args.kind in
    let fault = c.judge_declares-fault.result in
    let w = c.args.self.now in
    recast (λ p. Site.declares p.sight.vars x ∷ []) (λ p. record p.sight { vars = p.sight.vars ++ bound_var x kind ∷ [] })
    (both {before = later} (here_one {later = later} (λ p. Site.declares p.sight.vars x) c.judge_declares-fault.ensures refl counted)
    (turned {later = later} c.in_ok-bring.ensures counted) (sym (sooner_none fault)))
    refl
    (ap (λ name. record { vars = w.vars ++ (record (bound_var x kind) { name = name }) ∷ []; live = w.live }) c.as_slice.ensures.items)
