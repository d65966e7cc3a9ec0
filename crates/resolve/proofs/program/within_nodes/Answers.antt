use Rattle.std.proofs.Common.{◌≡◌, true, Some, Err, ap, ◌∙◌}
use Rattle.rp_ast.specs.View.{decls_view}
use Rattle.rp_lang.specs.declared.limit.LimitName.{LimitName}
use Rattle.rp_lang.specs.declared.limit.LimitName.TheVariants.{Nodes}
use Rattle.lower_exprs.specs.declared.stop.Stop as code_stop
use Rattle.resolve.proofs.Within.{declared_in, nodes_passed, none_passed, wanted_of}
use Rattle.resolve.proofs.program.within_nodes.Goals as goal

pub returns-in-Ok-clause-program : goal.returns-in-Ok-clause-program
returns-in-Ok-clause-program c p h =
    declared_in c.args.work p c.in-Ok.whole
    (c.in-Ok.ensures.made p.invs p.procs (wanted_of true c.args.work (decls_view c.args.decls.now) p h))

pub returns-in-Ok-clause-none : goal.returns-in-Ok-clause-none
returns-in-Ok-clause-none c p h none =
    none_passed c.args.work (decls_view c.args.decls.now) p c.in-Ok.whole h none
    (c.in-Ok.ensures.made p.invs p.procs (wanted_of true c.args.work (decls_view c.args.decls.now) p h))

pub returns-in-Err-Nodes-clause-limit : goal.returns-in-Err-Nodes-clause-limit
returns-in-Err-Nodes-clause-limit c p l h none is =
    let same : Nodes ≡ l = cc in
    nodes_passed c.args.work (decls_view c.args.decls.now) p h none
    (c.in-Err-Nodes.ensures.nodes p.invs p.procs (wanted_of true c.args.work (decls_view c.args.decls.now) p h)
    (ap (λ (s : code_stop.Stop). Err s) c.in-Err-Nodes.field-0-is))
    ∙ ap (λ (x : LimitName). Some x) same
