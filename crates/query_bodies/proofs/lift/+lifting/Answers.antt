use Rattle.std.proofs.Common.{◌≡◌, ◌+◌, List, ap, sym, ◌∙◌}
use Rattle.rp_lang.specs.declared.expr.Expr.{Expr}
use Rattle.rp_lang.specs.declared.expr.Expr.TheVariants as code
use Rattle.rp_lang.specs.Exprs as ex
use Rattle.rp_lang.specs.Exprs.{Ex}
use Rattle.rp_lang.specs.Views.{expr_view, exprs_view}
use Rattle.rp_lang.proofs.ExprViews.{expr_view-Slot, expr_view-Bound, expr_view-Str, expr_view-Con, expr_view-Query, expr_view-OpTerm, expr_view-InfoTerm, expr_view-OpOf, expr_view-OriginOf, expr_view-InfoOf, expr_view-ResultOf, expr_view-Add, expr_view-Sub, expr_view-Unreturned, expr_view-ResultTerm, expr_view-ResultTerm-with}
use Rattle.query_bodies.specs.Expanded.{lifted_by, all_lifted_by}
use Rattle.query_bodies.proofs.Lifts.{as_lifted, lifted_by-Slot, lifted_by-Bound, lifted_by-Str, lifted_by-Con, lifted_by-Query, lifted_by-OpTerm, lifted_by-InfoTerm, lifted_by-OpOf, lifted_by-OriginOf, lifted_by-InfoOf, lifted_by-ResultOf, lifted_by-Add, lifted_by-Sub, lifted_by-Unreturned, lifted_by-ResultTerm, lifted_by-ResultWith}
use Rattle.query_bodies.proofs.Gathered.{lifted_more, all_are_lifted}
use Rattle.query_bodies.proofs.lift.+lifting.Goals as goal

pub lifted-returns-in-None : goal.lifted-returns-in-None
lifted-returns-in-None t c =
    let p = c.in-ResultTerm in
    let was : expr_view c.args.e.now ≡ ex.ResultTerm p.proc =
    ap expr_view (p.is ∙ ap (code.ResultTerm p.proc) c.in-None.is) ∙ expr_view-ResultTerm p.proc in
    expr_view-ResultTerm p.proc ∙ sym (lifted_by-ResultTerm c.args.by p.proc) ∙ ap (lifted_by c.args.by) (sym was)

pub lifted-returns-in-Ok-boxed-8 : goal.lifted-returns-in-Ok-boxed-8
lifted-returns-in-Ok-boxed-8 t c =
    let p = c.in-ResultTerm in
    let got = c.get-in-Some.result.now in
    let made = c.in-Ok-boxed-8 in
    let with_value = λ (v : Expr). ex.ResultWith p.proc (expr_view v) in
    let was : expr_view c.args.e.now ≡ ex.ResultWith p.proc (expr_view got) =
    ap expr_view (p.is ∙ ap (code.ResultTerm p.proc) c.in-Some.is) ∙ expr_view-ResultTerm-with p.proc c.in-Some.value
    ∙ ap with_value (sym c.get-in-Some.ensures) in
    expr_view-ResultTerm-with p.proc made.made
    ∙ ap (ex.ResultWith p.proc) made.ensures
    ∙ sym (lifted_by-ResultWith c.args.by p.proc (expr_view got)) ∙ ap (lifted_by c.args.by) (sym was)

pub all_lifted-loop-e-preserved : goal.all_lifted-loop-e-preserved
all_lifted-loop-e-preserved t c =
    lifted_more c.args.by c.args.exprs.now c.loop-e.e-index c.e-item.result c.loop-e.made c.push.new.self c.in_ok-lifted.field-0
    c.loop-e-test.true c.e-item.is c.in_ok-lifted.ensures c.in_ok-push.ensures.ok c.loop-e.invariant

pub all_lifted-returns : goal.all_lifted-returns
all_lifted-returns t c = all_are_lifted c.args.by c.args.exprs.now c.loop-e.made c.loop-e.e-index c.loop-e-test.false
    c.loop-e.invariant

pub lifted-returns-in-Slot : goal.lifted-returns-in-Slot
lifted-returns-in-Slot t c =
    as_lifted c.args.by (expr_view c.args.e.now) (ex.Slot c.in-Slot.slot) (ex.Slot c.in-Slot.slot) _
    (expr_view-Slot c.in-Slot.slot)
    (lifted_by-Slot c.args.by c.in-Slot.slot) (ap expr_view c.in-Slot.is ∙ expr_view-Slot c.in-Slot.slot)

pub lifted-returns-in-Unreturned : goal.lifted-returns-in-Unreturned
lifted-returns-in-Unreturned t c =
    as_lifted c.args.by (expr_view c.args.e.now) ex.Unreturned ex.Unreturned _ expr_view-Unreturned
    (lifted_by-Unreturned c.args.by) (ap expr_view c.in-Unreturned.is ∙ expr_view-Unreturned)

pub lifted-returns-in-Ok : goal.lifted-returns-in-Ok
lifted-returns-in-Ok t c =
    let n = c.in-Bound.n in
    let made = c.in-Ok in
    as_lifted c.args.by (expr_view c.args.e.now) (ex.Bound n) (ex.Bound (n + c.args.by)) _ (expr_view-Bound made.made
    ∙ ap ex.Bound made.ensures)
    (lifted_by-Bound c.args.by n) (ap expr_view c.in-Bound.is ∙ expr_view-Bound n)

pub lifted-returns-in-Ok-copy_bytes : goal.lifted-returns-in-Ok-copy_bytes
lifted-returns-in-Ok-copy_bytes t c =
    let bytes = c.in-Str.bytes in
    let made = c.in-Ok-copy_bytes in
    as_lifted c.args.by (expr_view c.args.e.now) (ex.Str bytes) (ex.Str bytes) _ (expr_view-Str made.made
    ∙ ap ex.Str (made.ensures ∙ c.as_slice.ensures.items))
    (lifted_by-Str c.args.by bytes) (ap expr_view c.in-Str.is ∙ expr_view-Str bytes)

pub lifted-returns-in-Ok-all_lifted : goal.lifted-returns-in-Ok-all_lifted
lifted-returns-in-Ok-all_lifted t c =
    let k = c.in-Con.con in
    let args = c.in-Con.args in
    let made = c.in-Ok-all_lifted in
    as_lifted c.args.by (expr_view c.args.e.now) (ex.Con k (exprs_view args))
    (ex.Con k (all_lifted_by c.args.by (exprs_view args))) _
    (expr_view-Con k made.made ∙ ap (ex.Con k) (made.ensures
    ∙ ap (λ (es : List Expr). all_lifted_by c.args.by (exprs_view es)) c.as_slice-in-Con.ensures.items))
    (lifted_by-Con c.args.by k (exprs_view args)) (ap expr_view c.in-Con.is ∙ expr_view-Con k args)

pub lifted-returns-in-Ok-all_lifted-2 : goal.lifted-returns-in-Ok-all_lifted-2
lifted-returns-in-Ok-all_lifted-2 t c =
    let k = c.in-Query.query in
    let args = c.in-Query.args in
    let made = c.in-Ok-all_lifted-2 in
    as_lifted c.args.by (expr_view c.args.e.now) (ex.Query k (exprs_view args))
    (ex.Query k (all_lifted_by c.args.by (exprs_view args))) _
    (expr_view-Query k made.made ∙ ap (ex.Query k) (made.ensures
    ∙ ap (λ (es : List Expr). all_lifted_by c.args.by (exprs_view es)) c.as_slice-in-Query.ensures.items))
    (lifted_by-Query c.args.by k (exprs_view args)) (ap expr_view c.in-Query.is ∙ expr_view-Query k args)

pub lifted-returns-in-Ok-all_lifted-3 : goal.lifted-returns-in-Ok-all_lifted-3
lifted-returns-in-Ok-all_lifted-3 t c =
    let k = c.in-OpTerm.op in
    let args = c.in-OpTerm.args in
    let made = c.in-Ok-all_lifted-3 in
    as_lifted c.args.by (expr_view c.args.e.now) (ex.OpTerm k (exprs_view args))
    (ex.OpTerm k (all_lifted_by c.args.by (exprs_view args))) _
    (expr_view-OpTerm k made.made ∙ ap (ex.OpTerm k) (made.ensures
    ∙ ap (λ (es : List Expr). all_lifted_by c.args.by (exprs_view es)) c.as_slice-in-OpTerm.ensures.items))
    (lifted_by-OpTerm c.args.by k (exprs_view args)) (ap expr_view c.in-OpTerm.is ∙ expr_view-OpTerm k args)

pub lifted-returns-in-Ok-all_lifted-4 : goal.lifted-returns-in-Ok-all_lifted-4
lifted-returns-in-Ok-all_lifted-4 t c =
    let k = c.in-InfoTerm.proc in
    let args = c.in-InfoTerm.args in
    let made = c.in-Ok-all_lifted-4 in
    as_lifted c.args.by (expr_view c.args.e.now) (ex.InfoTerm k (exprs_view args))
    (ex.InfoTerm k (all_lifted_by c.args.by (exprs_view args))) _
    (expr_view-InfoTerm k made.made ∙ ap (ex.InfoTerm k) (made.ensures
    ∙ ap (λ (es : List Expr). all_lifted_by c.args.by (exprs_view es)) c.as_slice-in-InfoTerm.ensures.items))
    (lifted_by-InfoTerm c.args.by k (exprs_view args)) (ap expr_view c.in-InfoTerm.is ∙ expr_view-InfoTerm k args)

pub lifted-returns-in-Ok-boxed-4 : goal.lifted-returns-in-Ok-boxed-4
lifted-returns-in-Ok-boxed-4 t c =
    let part = c.in-OpOf.call in
    let made = c.in-Ok-boxed-4 in
    as_lifted c.args.by (expr_view c.args.e.now) (ex.OpOf (expr_view part)) (ex.OpOf (lifted_by c.args.by (expr_view part))) _
    (expr_view-OpOf made.made ∙ ap ex.OpOf (made.ensures ∙ ap (λ (x : Expr). lifted_by c.args.by (expr_view x))
    c.get-in-OpOf.ensures))
    (lifted_by-OpOf c.args.by (expr_view part)) (ap expr_view c.in-OpOf.is ∙ expr_view-OpOf part)

pub lifted-returns-in-Ok-boxed-5 : goal.lifted-returns-in-Ok-boxed-5
lifted-returns-in-Ok-boxed-5 t c =
    let part = c.in-OriginOf.call in
    let made = c.in-Ok-boxed-5 in
    as_lifted c.args.by (expr_view c.args.e.now) (ex.OriginOf (expr_view part))
    (ex.OriginOf (lifted_by c.args.by (expr_view part))) _
    (expr_view-OriginOf made.made ∙ ap ex.OriginOf (made.ensures
    ∙ ap (λ (x : Expr). lifted_by c.args.by (expr_view x)) c.get-in-OriginOf.ensures))
    (lifted_by-OriginOf c.args.by (expr_view part)) (ap expr_view c.in-OriginOf.is ∙ expr_view-OriginOf part)

pub lifted-returns-in-Ok-boxed-6 : goal.lifted-returns-in-Ok-boxed-6
lifted-returns-in-Ok-boxed-6 t c =
    let part = c.in-InfoOf.inv in
    let made = c.in-Ok-boxed-6 in
    as_lifted c.args.by (expr_view c.args.e.now) (ex.InfoOf (expr_view part))
    (ex.InfoOf (lifted_by c.args.by (expr_view part))) _
    (expr_view-InfoOf made.made ∙ ap ex.InfoOf (made.ensures
    ∙ ap (λ (x : Expr). lifted_by c.args.by (expr_view x)) c.get-in-InfoOf.ensures))
    (lifted_by-InfoOf c.args.by (expr_view part)) (ap expr_view c.in-InfoOf.is ∙ expr_view-InfoOf part)

pub lifted-returns-in-Ok-boxed-7 : goal.lifted-returns-in-Ok-boxed-7
lifted-returns-in-Ok-boxed-7 t c =
    let part = c.in-ResultOf.inv in
    let made = c.in-Ok-boxed-7 in
    as_lifted c.args.by (expr_view c.args.e.now) (ex.ResultOf (expr_view part))
    (ex.ResultOf (lifted_by c.args.by (expr_view part))) _
    (expr_view-ResultOf made.made ∙ ap ex.ResultOf (made.ensures
    ∙ ap (λ (x : Expr). lifted_by c.args.by (expr_view x)) c.get-in-ResultOf.ensures))
    (lifted_by-ResultOf c.args.by (expr_view part)) (ap expr_view c.in-ResultOf.is ∙ expr_view-ResultOf part)

pub lifted-returns-in-Ok-boxed-2 : goal.lifted-returns-in-Ok-boxed-2
lifted-returns-in-Ok-boxed-2 t c =
    let p = c.in-Add in
    let a = c.in_ok-a-in-Add in
    let b = c.in-Ok-boxed-2 in
    let left = a.ensures ∙ ap (λ (x : Expr). lifted_by c.args.by (expr_view x)) c.get-in-Add.ensures in
    let right = b.ensures ∙ ap (λ (x : Expr). lifted_by c.args.by (expr_view x)) c.get-in-Add-2.ensures in
    as_lifted c.args.by (expr_view c.args.e.now) (ex.Add (expr_view p.a) (expr_view p.b))
    (ex.Add (lifted_by c.args.by (expr_view p.a)) (lifted_by c.args.by (expr_view p.b))) _
    (expr_view-Add a.a b.made ∙ ap (λ (x : Ex). ex.Add x (expr_view b.made)) left
    ∙ ap (ex.Add (lifted_by c.args.by (expr_view p.a))) right)
    (lifted_by-Add c.args.by (expr_view p.a) (expr_view p.b)) (ap expr_view p.is ∙ expr_view-Add p.a p.b)

pub lifted-returns-in-Ok-boxed-3 : goal.lifted-returns-in-Ok-boxed-3
lifted-returns-in-Ok-boxed-3 t c =
    let p = c.in-Sub in
    let a = c.in_ok-a-in-Sub in
    let b = c.in-Ok-boxed-3 in
    let left = a.ensures ∙ ap (λ (x : Expr). lifted_by c.args.by (expr_view x)) c.get-in-Sub.ensures in
    let right = b.ensures ∙ ap (λ (x : Expr). lifted_by c.args.by (expr_view x)) c.get-in-Sub-2.ensures in
    as_lifted c.args.by (expr_view c.args.e.now) (ex.Sub (expr_view p.a) (expr_view p.b))
    (ex.Sub (lifted_by c.args.by (expr_view p.a)) (lifted_by c.args.by (expr_view p.b))) _
    (expr_view-Sub a.a b.made ∙ ap (λ (x : Ex). ex.Sub x (expr_view b.made)) left
    ∙ ap (ex.Sub (lifted_by c.args.by (expr_view p.a))) right)
    (lifted_by-Sub c.args.by (expr_view p.a) (expr_view p.b)) (ap expr_view p.is ∙ expr_view-Sub p.a p.b)
