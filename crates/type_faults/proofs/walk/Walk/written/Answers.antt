use Rattle.std.proofs.Common.{◌+◌, drop, refl, ap, ◌∙◌, sym}
use Rattle.rp_ast.specs.View.{params_view}
use Rattle.type_rules.specs.DeclSites.{written_all}
use Rattle.type_rules.specs.Faults.{first, sooner}
use Rattle.text_names.proofs.Entries.{drop_past}
use Rattle.type_faults.specs.Walks.{names_at}
use Rattle.type_faults.proofs.Lists.{next_in}
use Rattle.type_faults.proofs.Named.{best_ended, best_next}
use Rattle.type_faults.proofs.walk.Walk.written.Goals as goal

pub loop-param-init : goal.loop-param-init
loop-param-init c = refl

pub loop-param-preserved : goal.loop-param-preserved
loop-param-preserved c =
    let w = c.args.self.now in
    best_next c.loop-param.best c.in_ok-judge_written.field-0 (first (names_at w) (written_all w.decl c.args.role (params_view (drop (c.loop-param.param-index + 1) c.args.params.now)))) c.loop-param.invariant
    (next_in (λ l. first (names_at w) (written_all w.decl c.args.role (params_view l))) c.args.params.now c.loop-param.param-index c.param-item.result
    c.loop-param-test.true c.param-item.is
    ∙ ap (λ o. sooner o (first (names_at w) (written_all w.decl c.args.role (params_view (drop (c.loop-param.param-index + 1) c.args.params.now))))) (sym c.in_ok-judge_written.ensures))
    c.sooner-best.ensures

pub returns : goal.returns
returns c =
    let w = c.args.self.now in
    best_ended c.loop-param.best c.loop-param.invariant
    (ap (λ l. first (names_at w) (written_all w.decl c.args.role (params_view l))) (drop_past c.args.params.now c.loop-param.param-index c.loop-param-test.false))
