use Rattle.std.proofs.Common.{◌≡◌, false, Some, ap, sym, ◌∙◌}
use Rattle.rp_ast.specs.View.{decls_view}
use Rattle.rp_lang.specs.declared.limit.LimitName.{LimitName}
use Rattle.resolve.proofs.Firsts.{last_limit}
use Rattle.resolve.proofs.Within.{program_with, wanted_of}
use Rattle.resolve.proofs.program.told_first.Goals as goal

pub returns-in-Some-clause-limit : goal.returns-in-Some-clause-limit
returns-in-Some-clause-limit c p l h is =
    let tree = decls_view c.args.decls.now in
    let same : c.in-Some.limit ≡ l = cc in
    last_limit p (Some c.in-Some.limit)
    (sym c.in-Some.is ∙ c.in_ok-limit.ensures p (program_with false c.args.work tree p h)
    (c.in-Ok.ensures.made p.invs p.procs (wanted_of false c.args.work tree p h)))
    ∙ ap (λ (x : LimitName). Some x) same

pub returns-clause-none : goal.returns-clause-none
returns-clause-none c p h =
    let tree = decls_view c.args.decls.now in
    c.within_nodes.ensures.none p h
    (sym c.in-None.is ∙ c.in_ok-limit.ensures p (program_with false c.args.work tree p h)
    (c.in-Ok.ensures.made p.invs p.procs (wanted_of false c.args.work tree p h)))

pub returns-clause-limit : goal.returns-clause-limit
returns-clause-limit c p l h is =
    let tree = decls_view c.args.decls.now in
    c.within_nodes.ensures.limit p l h
    (sym c.in-None.is ∙ c.in_ok-limit.ensures p (program_with false c.args.work tree p h)
    (c.in-Ok.ensures.made p.invs p.procs (wanted_of false c.args.work tree p h)))
    is
