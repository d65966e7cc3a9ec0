-- What each variant of an expression is seen as.
use Rattle.std.proofs.Common.{◌≡◌, ℕ, ℤ, List, Some, None, ap, sym, ◌∙◌}
use Rattle.rp_lang.specs.declared.expr.Expr.{Expr}
use Rattle.rp_lang.specs.declared.expr.Expr.TheVariants as made
use Rattle.rp_lang.specs.declared.expr.Expr.TheOpen as layer
use Rattle.rp_lang.specs.declared.expr.Expr.TheFolds.{fold-roll-Expr}
use Rattle.rp_lang.specs.Exprs as ex
use Rattle.rp_lang.specs.Exprs.{Ex}
use Rattle.rp_lang.specs.Views.{expr_step, expr_view, exprs_view}

pub expr_view-Slot : (s : ℕ) → expr_view (made.Slot s) ≡ ex.Slot s
expr_view-Slot s = ap expr_view (sym (made.rolls-Slot s)) ∙ fold-roll-Expr Ex expr_step (layer.Slot s)

pub expr_view-Bound : (n : ℕ) → expr_view (made.Bound n) ≡ ex.Bound n
expr_view-Bound n = ap expr_view (sym (made.rolls-Bound n)) ∙ fold-roll-Expr Ex expr_step (layer.Bound n)

pub expr_view-Int : (n : ℤ) → expr_view (made.Int n) ≡ ex.Int n
expr_view-Int n = ap expr_view (sym (made.rolls-Int n)) ∙ fold-roll-Expr Ex expr_step (layer.Int n)

pub expr_view-Str : (bytes : List ℕ) → expr_view (made.Str bytes) ≡ ex.Str bytes
expr_view-Str bytes = ap expr_view (sym (made.rolls-Str bytes)) ∙ fold-roll-Expr Ex expr_step (layer.Str bytes)

pub expr_view-Con : (con : ℕ) (args : List Expr) → expr_view (made.Con con args) ≡ ex.Con con (exprs_view args)
expr_view-Con con args = ap expr_view (sym (made.rolls-Con con args)) ∙ fold-roll-Expr Ex expr_step (layer.Con con args)

pub expr_view-Plus : (e : Expr) (n : ℤ) → expr_view (made.Plus e n) ≡ ex.Plus (expr_view e) n
expr_view-Plus e n = ap expr_view (sym (made.rolls-Plus e n)) ∙ fold-roll-Expr Ex expr_step (layer.Plus e n)

pub expr_view-Add : (a b : Expr) → expr_view (made.Add a b) ≡ ex.Add (expr_view a) (expr_view b)
expr_view-Add a b = ap expr_view (sym (made.rolls-Add a b)) ∙ fold-roll-Expr Ex expr_step (layer.Add a b)

pub expr_view-Sub : (a b : Expr) → expr_view (made.Sub a b) ≡ ex.Sub (expr_view a) (expr_view b)
expr_view-Sub a b = ap expr_view (sym (made.rolls-Sub a b)) ∙ fold-roll-Expr Ex expr_step (layer.Sub a b)

pub expr_view-Query : (query : ℕ) (args : List Expr) → expr_view (made.Query query args) ≡ ex.Query query (exprs_view args)
expr_view-Query query args = ap expr_view (sym (made.rolls-Query query args)) ∙ fold-roll-Expr Ex expr_step (layer.Query query args)

pub expr_view-OpOf : (call : Expr) → expr_view (made.OpOf call) ≡ ex.OpOf (expr_view call)
expr_view-OpOf call = ap expr_view (sym (made.rolls-OpOf call)) ∙ fold-roll-Expr Ex expr_step (layer.OpOf call)

pub expr_view-OpTerm : (op : ℕ) (args : List Expr) → expr_view (made.OpTerm op args) ≡ ex.OpTerm op (exprs_view args)
expr_view-OpTerm op args = ap expr_view (sym (made.rolls-OpTerm op args)) ∙ fold-roll-Expr Ex expr_step (layer.OpTerm op args)

pub expr_view-OriginOf : (call : Expr) → expr_view (made.OriginOf call) ≡ ex.OriginOf (expr_view call)
expr_view-OriginOf call = ap expr_view (sym (made.rolls-OriginOf call)) ∙ fold-roll-Expr Ex expr_step (layer.OriginOf call)

pub expr_view-InfoOf : (inv : Expr) → expr_view (made.InfoOf inv) ≡ ex.InfoOf (expr_view inv)
expr_view-InfoOf inv = ap expr_view (sym (made.rolls-InfoOf inv)) ∙ fold-roll-Expr Ex expr_step (layer.InfoOf inv)

pub expr_view-InfoTerm : (proc : ℕ) (args : List Expr) → expr_view (made.InfoTerm proc args) ≡ ex.InfoTerm proc (exprs_view args)
expr_view-InfoTerm proc args = ap expr_view (sym (made.rolls-InfoTerm proc args)) ∙ fold-roll-Expr Ex expr_step (layer.InfoTerm proc args)

pub expr_view-ResultOf : (inv : Expr) → expr_view (made.ResultOf inv) ≡ ex.ResultOf (expr_view inv)
expr_view-ResultOf inv = ap expr_view (sym (made.rolls-ResultOf inv)) ∙ fold-roll-Expr Ex expr_step (layer.ResultOf inv)

pub expr_view-ResultTerm : (proc : ℕ) → expr_view (made.ResultTerm proc None) ≡ ex.ResultTerm proc
expr_view-ResultTerm proc = ap expr_view (sym (made.rolls-ResultTerm proc None)) ∙ fold-roll-Expr Ex expr_step (layer.ResultTerm proc None)

pub expr_view-ResultTerm-with : (proc : ℕ) (value : Expr) → expr_view (made.ResultTerm proc (Some value)) ≡ ex.ResultWith proc (expr_view value)
expr_view-ResultTerm-with proc value = ap expr_view (sym (made.rolls-ResultTerm proc (Some value))) ∙ fold-roll-Expr Ex expr_step (layer.ResultTerm proc (Some value))

pub expr_view-Unreturned : expr_view made.Unreturned ≡ ex.Unreturned
expr_view-Unreturned = ap expr_view (sym made.rolls-Unreturned) ∙ fold-roll-Expr Ex expr_step layer.Unreturned

pub ruleset expr_views = (expr_view-Slot, expr_view-Bound, expr_view-Int, expr_view-Str, expr_view-Con, expr_view-Plus, expr_view-Add, expr_view-Sub, expr_view-Query, expr_view-OpOf, expr_view-OpTerm, expr_view-OriginOf, expr_view-InfoOf, expr_view-InfoTerm, expr_view-ResultOf, expr_view-ResultTerm, expr_view-ResultTerm-with, expr_view-Unreturned)
