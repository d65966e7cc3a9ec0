-- A code for terms, by that of the code's terms.
use Rattle.std.proofs.Common.{◌≡◌, List, [], ◌∷◌, refl, ap, ◌∙◌}
use Rattle.std.specs.Coded.{Coded, code_by}
use Rattle.rp_logic.specs.declared.term.Term.{Term}
use Rattle.rp_logic.specs.declared.term.Term.TheVariants as made
use Rattle.rp_logic.specs.contracts.term.Term as term
use Rattle.rp_logic.specs.Terms as tm
use Rattle.rp_logic.specs.Terms.{Tm, Tms, no_tm, also_tm}
use Rattle.rp_logic.specs.Views.{term_view, terms_view}
use Rattle.rp_logic.proofs.TermViews.{term_view-Var, term_view-Const, term_view-Fn, term_view-Int, term_view-Str, term_view-Con, term_view-Sel, term_view-Plus}

abbrev mutual
  term_of : Tm → Term
  term_of (tm.Var n) = made.Var n
  term_of (tm.Const c) = made.Const c
  term_of (tm.Fn f args) = made.Fn f (terms_of args)
  term_of (tm.Int n) = made.Int n
  term_of (tm.Str bytes) = made.Str bytes
  term_of (tm.Con con args) = made.Con con (terms_of args)
  term_of (tm.Sel con i t) = made.Sel con i (term_of t)
  term_of (tm.Plus t n) = made.Plus (term_of t) n

  terms_of : Tms → List Term
  terms_of no_tm = []
  terms_of (also_tm t ts) = term_of t ∷ terms_of ts

mutual
  same : (t : Tm) → term_view (term_of t) ≡ t
  same (tm.Var n) = term_view-Var n
  same (tm.Const c) = term_view-Const c
  same (tm.Fn f args) = term_view-Fn f (terms_of args) ∙ ap (tm.Fn f) (same_all args)
  same (tm.Int n) = term_view-Int n
  same (tm.Str bytes) = term_view-Str bytes
  same (tm.Con con args) = term_view-Con con (terms_of args) ∙ ap (tm.Con con) (same_all args)
  same (tm.Sel con i t) = term_view-Sel con i (term_of t) ∙ ap (tm.Sel con i) (same t)
  same (tm.Plus t n) = term_view-Plus (term_of t) n ∙ ap (λ u. tm.Plus u n) (same t)

  same_all : (ts : Tms) → terms_view (terms_of ts) ≡ ts
  same_all no_tm = refl
  same_all (also_tm t ts) = ap (λ u. also_tm u (terms_view (terms_of ts))) (same t) ∙ ap (also_tm t) (same_all ts)

pub coded_tm : Coded Tm
coded_tm = code_by Term term.the_row.coded term_of term_view same
