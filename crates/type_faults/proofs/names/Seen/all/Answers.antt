use Rattle.std.proofs.Common.{refl, sym, ap, ◌∙◌, subst}
use Rattle.rp_ast.specs.View.{decls_view}
use Rattle.type_rules.specs.Faults.{first, sooner}
use Rattle.type_rules.proofs.Order.{sooner_none}
use Rattle.text_names.proofs.Entries.{drop_past}
use Rattle.type_faults.specs.Texts.{named_from}
use Rattle.type_faults.proofs.Lists.{next_in}
use Rattle.type_faults.proofs.Named.{DeclsNamed, decls_named}
use Rattle.type_faults.proofs.names.Seen.all.Goals as goal

pub loop-decl-init : goal.loop-decl-init
loop-decl-init c = λ n seen are. record { now = seen; are = are; whole = refl }

pub loop-decl-preserved : goal.loop-decl-preserved
loop-decl-preserved c = λ n seen are.
    let decls = c.args.decls.now in
    let now = subst (λ l. DeclsNamed n c.loop-decl.self c.loop-decl.best seen l (decls_view decls))
    (next_in decls_view decls c.loop-decl.decl-index c.decl-item.result c.loop-decl-test.true c.decl-item.is)
    (c.loop-decl.invariant n seen are) in
    decls_named now (c.in_ok-declared.ensures n now.now now.are) c.sooner-best.ensures

pub returns : goal.returns
returns c = λ n seen are.
    let decls = c.args.decls.now in
    let v = c.loop-decl.invariant n seen are in
    sym (sooner_none c.loop-decl.best)
    ∙ ap (λ l. sooner c.loop-decl.best (first n (named_from v.now l)))
    (sym (ap decls_view (drop_past decls c.loop-decl.decl-index c.loop-decl-test.false)))
    ∙ v.whole
