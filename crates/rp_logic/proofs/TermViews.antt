-- What each variant of a term or an atom is seen as.
use Rattle.std.proofs.Common.{◌≡◌, ℕ, ℤ, List, ap, sym, ◌∙◌}
use Rattle.rp_logic.specs.declared.term.Term.{Term}
use Rattle.rp_logic.specs.declared.term.Term.TheVariants as made
use Rattle.rp_logic.specs.declared.term.Term.TheOpen as layer
use Rattle.rp_logic.specs.declared.term.Term.TheFolds.{fold-roll-Term}
use Rattle.rp_logic.specs.Terms as tm
use Rattle.rp_logic.specs.Terms.{Tm}
use Rattle.rp_logic.specs.Views.{term_step, term_view, terms_view}

pub term_view-Var : (n : ℕ) → term_view (made.Var n) ≡ tm.Var n
term_view-Var n = ap term_view (sym (made.rolls-Var n)) ∙ fold-roll-Term Tm term_step (layer.Var n)

pub term_view-Const : (c : ℕ) → term_view (made.Const c) ≡ tm.Const c
term_view-Const c = ap term_view (sym (made.rolls-Const c)) ∙ fold-roll-Term Tm term_step (layer.Const c)

pub term_view-Fn : (f : ℕ) (args : List Term) → term_view (made.Fn f args) ≡ tm.Fn f (terms_view args)
term_view-Fn f args = ap term_view (sym (made.rolls-Fn f args)) ∙ fold-roll-Term Tm term_step (layer.Fn f args)

pub term_view-Int : (n : ℤ) → term_view (made.Int n) ≡ tm.Int n
term_view-Int n = ap term_view (sym (made.rolls-Int n)) ∙ fold-roll-Term Tm term_step (layer.Int n)

pub term_view-Str : (bytes : List ℕ) → term_view (made.Str bytes) ≡ tm.Str bytes
term_view-Str bytes = ap term_view (sym (made.rolls-Str bytes)) ∙ fold-roll-Term Tm term_step (layer.Str bytes)

pub term_view-Con : (con : ℕ) (args : List Term) → term_view (made.Con con args) ≡ tm.Con con (terms_view args)
term_view-Con con args = ap term_view (sym (made.rolls-Con con args)) ∙ fold-roll-Term Tm term_step (layer.Con con args)

pub term_view-Sel : (con i : ℕ) (t : Term) → term_view (made.Sel con i t) ≡ tm.Sel con i (term_view t)
term_view-Sel con i t = ap term_view (sym (made.rolls-Sel con i t)) ∙ fold-roll-Term Tm term_step (layer.Sel con i t)

pub term_view-Plus : (t : Term) (n : ℤ) → term_view (made.Plus t n) ≡ tm.Plus (term_view t) n
term_view-Plus t n = ap term_view (sym (made.rolls-Plus t n)) ∙ fold-roll-Term Tm term_step (layer.Plus t n)

pub ruleset term_views = (term_view-Var, term_view-Const, term_view-Fn, term_view-Int, term_view-Str, term_view-Con, term_view-Sel, term_view-Plus)
