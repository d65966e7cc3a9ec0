use Rattle.std.proofs.Common.{true, subst, sym}
use Rattle.rp_ast.specs.View.{decls_view}
use Rattle.text_names.proofs.Entries.{if_ok}
use Rattle.resolve.specs.Tested.{IsDeclaredIn}
use Rattle.resolve.proofs.Within.{declared_in, none_passed, program_with, wanted_of}
use Rattle.resolve.proofs.program.built_first.Goals as goal

pub returns-in-Ok-clause-program : goal.returns-in-Ok-clause-program
returns-in-Ok-clause-program c p h =
    let tree = decls_view c.args.decls.now in
    if_ok c.unless_passed.result
    (λ kept same. subst (IsDeclaredIn p) (sym same)
    (declared_in c.args.work p c.in-Ok.made (c.in-Ok.ensures.made p.invs p.procs (wanted_of true c.args.work tree p h))))
    c.unless_passed.ensures.made

pub returns-in-Ok-clause-none : goal.returns-in-Ok-clause-none
returns-in-Ok-clause-none c p h =
    let tree = decls_view c.args.decls.now in
    let adds = c.in-Ok.ensures.made p.invs p.procs (wanted_of true c.args.work tree p h) in
    if_ok c.unless_passed.result
    (λ kept none. none_passed c.args.work tree p c.in-Ok.made h none adds)
    (c.unless_passed.ensures.none p (program_with true c.args.work tree p h) adds)

pub returns-in-Ok-clause-limit : goal.returns-in-Ok-clause-limit
returns-in-Ok-clause-limit c p l h is =
    let tree = decls_view c.args.decls.now in
    c.unless_passed.ensures.limit p l (program_with true c.args.work tree p h)
    (c.in-Ok.ensures.made p.invs p.procs (wanted_of true c.args.work tree p h)) is
