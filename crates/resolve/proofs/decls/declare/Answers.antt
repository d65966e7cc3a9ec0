use Rattle.std.proofs.Common.{◌≡◌, ℕ, ◌+◌, List, [], ◌∷◌, Err, ap, subst, sym, ◌∙◌, rules}
use Rattle.rp_grammar.specs.Trees.{DeclForm, DeclTree}
use Rattle.rp_ast.specs.declared.decl.DeclForm as code_decl
use Rattle.rp_ast.specs.View.{decl_form_view, expr_view, ident_view, optional, proc_view}
use Rattle.rp_lang.specs.declared.inv.InvDecl.{InvDecl}
use Rattle.rp_lang.specs.declared.proc.ProcDecl.{ProcDecl}
use Rattle.lower_exprs.specs.declared.stop.Stop as code_stop
use Rattle.lower_exprs.specs.declared.stop.Stop.TheVariants as stop
use Rattle.resolve.specs.Adds.{Declares, IsTooLarge}
use Rattle.resolve.proofs.Declaring.{declares_inv, declares_proc, failed, large_inv, large_proc, same_err}
use Rattle.resolve.proofs.decls.declare.Goals as goal

pub returns-in_err-inv-in-Invariant-clause-nodes : goal.returns-in_err-inv-in-Invariant-clause-nodes
returns-in_err-inv-in-Invariant-clause-nodes c h =
    let at = c.args.decl.now.span in
    let name = optional ident_view c.in-Invariant.name in
    let e = expr_view c.in-Invariant.e in
    let err : c.from_residual.result ≡ Err c.in_err-inv-in-Invariant.field-0.0 = search (rules, c.from_residual.ensures) in
    let is : failed InvDecl c.in_err-inv-in-Invariant.field-0.0 ≡ failed InvDecl stop.Nodes = ap (λ (s : code_stop.Stop). Err s) (same_err _ _ (sym err ∙ h)) in
    subst (λ (what : code_decl.DeclForm). IsTooLarge c.args.work c.args.made.now (DeclTree.node at (decl_form_view what) ∷ []))
    (sym c.in-Invariant.is)
    (large_inv c.args.work c.args.made.now (c.count-number.result + 1) at name e
    (ap (λ (k : ℕ). k + 1) c.count-number.ensures.length)
    (λ d wanted same measured found. c.in_err-inv-in-Invariant.ensures.nodes d wanted same measured found is))

pub returns-in_err-proc-in-Proc-clause-nodes : goal.returns-in_err-proc-in-Proc-clause-nodes
returns-in_err-proc-in-Proc-clause-nodes c h =
    let at = c.args.decl.now.span in
    let tree = proc_view c.in-Proc.proc in
    let err : c.from_residual-in_err-proc-in-Proc.result ≡ Err c.in_err-proc-in-Proc.field-0.0 =
    search (rules, c.from_residual-in_err-proc-in-Proc.ensures) in
    let is : failed ProcDecl c.in_err-proc-in-Proc.field-0.0 ≡ failed ProcDecl stop.Nodes = ap (λ (s : code_stop.Stop). Err s) (same_err _ _ (sym err ∙ h)) in
    subst (λ (what : code_decl.DeclForm). IsTooLarge c.args.work c.args.made.now (DeclTree.node at (decl_form_view what) ∷ []))
    (sym c.in-Proc.is)
    (large_proc c.args.work c.args.made.now at tree
    (λ d wanted same measured found. c.in_err-proc-in-Proc.ensures.nodes d wanted same measured found is))

pub returns-in_ok-push-in-Invariant-clause-made : goal.returns-in_ok-push-in-Invariant-clause-made
returns-in_ok-push-in-Invariant-clause-made c =
    let at = c.args.decl.now.span in
    let name = optional ident_view c.in-Invariant.name in
    let e = expr_view c.in-Invariant.e in
    let told = c.in_ok-inv-in-Invariant.ensures in
    subst (λ (what : code_decl.DeclForm). Declares c.args.work c.args.made.now (DeclTree.node at (decl_form_view what) ∷ [])
    (record { invs = c.push.new.self; procs = c.args.made.now.procs; passed = c.invariant.new.passed }))
    (sym c.in-Invariant.is)
    (subst (λ (is : List InvDecl). Declares c.args.work c.args.made.now (DeclTree.node at (DeclForm.invariant name e) ∷ [])
    (record { invs = is; procs = c.args.made.now.procs; passed = c.invariant.new.passed }))
    (sym c.in_ok-push-in-Invariant.ensures.ok)
    (declares_inv c.args.work c.args.made.now (c.count-number.result + 1) at name e c.in_ok-inv-in-Invariant.inv
    c.invariant.new.passed (ap (λ (k : ℕ). k + 1) c.count-number.ensures.length) told.made told.small told.passed))

pub returns-in_ok-push-in-Proc-clause-made : goal.returns-in_ok-push-in-Proc-clause-made
returns-in_ok-push-in-Proc-clause-made c =
    let at = c.args.decl.now.span in
    let tree = proc_view c.in-Proc.proc in
    let told = c.in_ok-proc-in-Proc.ensures in
    subst (λ (what : code_decl.DeclForm). Declares c.args.work c.args.made.now (DeclTree.node at (decl_form_view what) ∷ [])
    (record { invs = c.args.made.now.invs; procs = c.push-in-Proc.new.self; passed = c.procedure.new.passed }))
    (sym c.in-Proc.is)
    (subst (λ (ps : List ProcDecl). Declares c.args.work c.args.made.now (DeclTree.node at (DeclForm.proc tree) ∷ [])
    (record { invs = c.args.made.now.invs; procs = ps; passed = c.procedure.new.passed }))
    (sym c.in_ok-push-in-Proc.ensures.ok)
    (declares_proc c.args.work c.args.made.now at tree c.in_ok-proc-in-Proc.proc c.procedure.new.passed
    told.made told.count told.small told.passed))
