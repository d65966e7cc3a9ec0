-- Lists of terms, seen element by element.
use Rattle.std.proofs.Common.{◌≡◌, ◌<◌, ◌≤◌, ℕ, zero, suc, List, [], ◌∷◌, map, length, get_or, refl, ap, arith}
use Rattle.rp_lang.specs.declared.expr.Expr.{Expr}
use Rattle.rp_lang.specs.Programs.{Prog}
use Rattle.rp_lang.specs.Sizes.{ex_nodes, exs_nodes}
use Rattle.rp_lang.specs.Views.{expr_view, exprs_view}
use Rattle.rp_logic.specs.Terms.{also_tm}
use Rattle.rp_logic.specs.Views.{tms_of}
use Rattle.crdt_enc.specs.FormulaFormulas.{Around, term_of, terms_of}
use Rattle.crdt_enc.specs.Places.{At}

pub terms_seen : (p : Prog) (at : At) (a : Around) (es : List Expr) → tms_of (map (λ e. term_of p at a (expr_view e)) es) ≡ terms_of p at a (exprs_view es)
terms_seen p at a [] = refl
terms_seen p at a (e ∷ es) = ap (also_tm (term_of p at a (expr_view e))) (terms_seen p at a es)

pub nodes_at : (es : List Expr) (i : ℕ) (e : Expr) → i < length es → e ≡ get_or es i e → ex_nodes (expr_view e) ≤ exs_nodes (exprs_view es)
nodes_at [] i e l is = absurd (omega (arith, l))
nodes_at (d ∷ es) zero e l is = let same = ap (λ x. ex_nodes (expr_view x)) is in omega (arith, same)
nodes_at (d ∷ es) (suc i) e l is = let below = nodes_at es i e (omega (arith, l)) is in omega (arith, below)
