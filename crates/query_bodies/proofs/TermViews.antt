-- What each variant of a term is seen as.
use Rattle.std.proofs.Common.{◌≡◌, ℕ, ℤ, List, Some, None, ap, sym, ◌∙◌}
use Rattle.query_bodies.specs.declared.term.Term.{Term}
use Rattle.query_bodies.specs.declared.term.Term.TheVariants as made
use Rattle.query_bodies.specs.declared.term.Term.TheOpen as layer
use Rattle.query_bodies.specs.declared.term.Term.TheFolds.{fold-roll-Term}
use Rattle.query_bodies.specs.Terms as te
use Rattle.query_bodies.specs.Terms.{Te}
use Rattle.query_bodies.specs.Views.{term_step, term_view, terms_view}

pub term_view-Slot : (s : ℕ) → term_view (made.Slot s) ≡ te.Slot s
term_view-Slot s = ap term_view (sym (made.rolls-Slot s)) ∙ fold-roll-Term Te term_step (layer.Slot s)

pub term_view-Param : (p : ℕ) → term_view (made.Param p) ≡ te.Param p
term_view-Param p = ap term_view (sym (made.rolls-Param p)) ∙ fold-roll-Term Te term_step (layer.Param p)

pub term_view-Level : (n : ℕ) → term_view (made.Level n) ≡ te.Level n
term_view-Level n = ap term_view (sym (made.rolls-Level n)) ∙ fold-roll-Term Te term_step (layer.Level n)

pub term_view-Int : (n : ℤ) → term_view (made.Int n) ≡ te.Int n
term_view-Int n = ap term_view (sym (made.rolls-Int n)) ∙ fold-roll-Term Te term_step (layer.Int n)

pub term_view-Str : (bytes : List ℕ) → term_view (made.Str bytes) ≡ te.Str bytes
term_view-Str bytes = ap term_view (sym (made.rolls-Str bytes)) ∙ fold-roll-Term Te term_step (layer.Str bytes)

pub term_view-Con : (con : ℕ) (args : List Term) → term_view (made.Con con args) ≡ te.Con con (terms_view args)
term_view-Con con args = ap term_view (sym (made.rolls-Con con args)) ∙ fold-roll-Term Te term_step (layer.Con con args)

pub term_view-Sum : (a b : Term) → term_view (made.Sum a b) ≡ te.Sum (term_view a) (term_view b)
term_view-Sum a b = ap term_view (sym (made.rolls-Sum a b)) ∙ fold-roll-Term Te term_step (layer.Sum a b)

pub term_view-Difference : (a b : Term) → term_view (made.Difference a b) ≡ te.Difference (term_view a) (term_view b)
term_view-Difference a b = ap term_view (sym (made.rolls-Difference a b)) ∙ fold-roll-Term Te term_step (layer.Difference a b)

pub term_view-Query : (query : ℕ) (args : List Term) → term_view (made.Query query args) ≡ te.Query query (terms_view args)
term_view-Query query args = ap term_view (sym (made.rolls-Query query args))
    ∙ fold-roll-Term Te term_step (layer.Query query args)

pub term_view-OpOf : (call : Term) → term_view (made.OpOf call) ≡ te.OpOf (term_view call)
term_view-OpOf call = ap term_view (sym (made.rolls-OpOf call)) ∙ fold-roll-Term Te term_step (layer.OpOf call)

pub term_view-OpTerm : (op : ℕ) (args : List Term) → term_view (made.OpTerm op args) ≡ te.OpTerm op (terms_view args)
term_view-OpTerm op args = ap term_view (sym (made.rolls-OpTerm op args)) ∙ fold-roll-Term Te term_step (layer.OpTerm op args)

pub term_view-OriginOf : (call : Term) → term_view (made.OriginOf call) ≡ te.OriginOf (term_view call)
term_view-OriginOf call = ap term_view (sym (made.rolls-OriginOf call)) ∙ fold-roll-Term Te term_step (layer.OriginOf call)

pub term_view-InfoOf : (inv : Term) → term_view (made.InfoOf inv) ≡ te.InfoOf (term_view inv)
term_view-InfoOf inv = ap term_view (sym (made.rolls-InfoOf inv)) ∙ fold-roll-Term Te term_step (layer.InfoOf inv)

pub term_view-InfoTerm : (proc : ℕ) (args : List Term) → term_view (made.InfoTerm proc args)
    ≡ te.InfoTerm proc (terms_view args)
term_view-InfoTerm proc args = ap term_view (sym (made.rolls-InfoTerm proc args))
    ∙ fold-roll-Term Te term_step (layer.InfoTerm proc args)

pub term_view-ResultOf : (inv : Term) → term_view (made.ResultOf inv) ≡ te.ResultOf (term_view inv)
term_view-ResultOf inv = ap term_view (sym (made.rolls-ResultOf inv)) ∙ fold-roll-Term Te term_step (layer.ResultOf inv)

pub term_view-ResultTerm : (proc : ℕ) → term_view (made.ResultTerm proc None) ≡ te.ResultTerm proc
term_view-ResultTerm proc = ap term_view (sym (made.rolls-ResultTerm proc None))
    ∙ fold-roll-Term Te term_step (layer.ResultTerm proc None)

pub term_view-ResultTerm-with : (proc : ℕ) (value : Term) → term_view (made.ResultTerm proc (Some value))
    ≡ te.ResultWith proc (term_view value)
term_view-ResultTerm-with proc value = ap term_view (sym (made.rolls-ResultTerm proc (Some value)))
    ∙ fold-roll-Term Te term_step (layer.ResultTerm proc (Some value))

pub term_view-Unreturned : term_view made.Unreturned ≡ te.Unreturned
term_view-Unreturned = ap term_view (sym made.rolls-Unreturned) ∙ fold-roll-Term Te term_step layer.Unreturned

pub term_view-Use : (decl : ℕ) (args : List Term) → term_view (made.Use decl args) ≡ te.Use decl (terms_view args)
term_view-Use decl args = ap term_view (sym (made.rolls-Use decl args)) ∙ fold-roll-Term Te term_step (layer.Use decl args)

pub ruleset term_views = (term_view-Slot, term_view-Param, term_view-Level, term_view-Int, term_view-Str, term_view-Con, term_view-Sum, term_view-Difference, term_view-Query, term_view-OpOf, term_view-OpTerm, term_view-OriginOf, term_view-InfoOf, term_view-InfoTerm, term_view-ResultOf, term_view-ResultTerm, term_view-ResultTerm-with, term_view-Unreturned, term_view-Use)
