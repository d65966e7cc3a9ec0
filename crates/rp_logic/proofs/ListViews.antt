-- Lists of terms and formulas, seen element by element, and what is made of them.
use Rattle.std.proofs.Common.{◌≡◌, ℕ, List, [], ◌∷◌, map, refl, ap, sym, ◌∙◌}
use Rattle.rp_logic.specs.declared.term.Term.{Term}
use Rattle.rp_logic.specs.declared.term.Term.TheVariants as term
use Rattle.rp_logic.specs.declared.atom.Atom.{Atom}
use Rattle.rp_logic.specs.declared.atom.Atom.TheVariants as atom
use Rattle.rp_logic.specs.declared.formula.Fml.{Fml}
use Rattle.rp_logic.specs.declared.formula.Fml.TheVariants as formula
use Rattle.rp_logic.specs.Terms as tm
use Rattle.rp_logic.specs.Terms.{Tm, also_tm}
use Rattle.rp_logic.specs.Formulas as fm
use Rattle.rp_logic.specs.Formulas.{also_fm}
use Rattle.rp_logic.specs.Dual.{dual, duals}
use Rattle.rp_logic.specs.Instance.{put, put_each, put_atom, instance_at, instances_at}
use Rattle.rp_logic.specs.Views.{term_view, terms_view, tms_of, atom_view, formula_view, formulas_view, fms_of}
use Rattle.rp_logic.proofs.TermViews.{term_view-Fn, term_view-Con}
use Rattle.rp_logic.proofs.FormulaViews.{formula_view-And, formula_view-Or}

-- # Terms

puts_seen : (k : ℕ) (t : Tm) (us : List Term) → put_each k t (terms_view us) ≡ tms_of (map (λ u. put k t (term_view u)) us)
puts_seen k t [] = refl
puts_seen k t (u ∷ us) = ap (also_tm (put k t (term_view u))) (puts_seen k t us)

-- terms made of the terms of a slice
made_terms : (k : ℕ) (t : Tm) (us xs vs : List Term) → xs ≡ us → map term_view vs ≡ map (λ u. put k t (term_view u)) xs
    → terms_view vs ≡ put_each k t (terms_view us)
made_terms k t us xs vs e h = ap tms_of (h ∙ ap (λ ys. map (λ u. put k t (term_view u)) ys) e) ∙ sym (puts_seen k t us)

pub made-Fn : (k : ℕ) (t : Tm) (u : Term) (f : ℕ) (us xs vs : List Term) → u ≡ term.Fn f us → xs ≡ us
    → map term_view vs ≡ map (λ u. put k t (term_view u)) xs → term_view (term.Fn f vs) ≡ put k t (term_view u)
made-Fn k t u f us xs vs is e h =
    term_view-Fn f vs ∙ ap (tm.Fn f) (made_terms k t us xs vs e h) ∙ ap (put k t) (sym (term_view-Fn f us)) ∙ ap (λ v. put k t (term_view v)) (sym is)

pub made-Con : (k : ℕ) (t : Tm) (u : Term) (c : ℕ) (us xs vs : List Term) → u ≡ term.Con c us → xs ≡ us
    → map term_view vs ≡ map (λ u. put k t (term_view u)) xs → term_view (term.Con c vs) ≡ put k t (term_view u)
made-Con k t u c us xs vs is e h =
    term_view-Con c vs ∙ ap (tm.Con c) (made_terms k t us xs vs e h) ∙ ap (put k t) (sym (term_view-Con c us)) ∙ ap (λ v. put k t (term_view v)) (sym is)

pub made-Rel : (k : ℕ) (t : Tm) (a : Atom) (r : ℕ) (us xs vs : List Term) → a ≡ atom.Rel r us → xs ≡ us
    → map term_view vs ≡ map (λ u. put k t (term_view u)) xs → atom_view (atom.Rel r vs) ≡ put_atom k t (atom_view a)
made-Rel k t a r us xs vs is e h = ap (tm.Rel r) (made_terms k t us xs vs e h) ∙ ap (λ b. put_atom k t (atom_view b)) (sym is)

-- # Instances

instances_seen : (k : ℕ) (t : Tm) (fs : List Fml) → instances_at k t (formulas_view fs) ≡ fms_of (map (λ f. instance_at k t (formula_view f)) fs)
instances_seen k t [] = refl
instances_seen k t (f ∷ fs) = ap (also_fm (instance_at k t (formula_view f))) (instances_seen k t fs)

made_instances : (k : ℕ) (t : Tm) (fs xs gs : List Fml) → xs ≡ fs → map formula_view gs ≡ map (λ f. instance_at k t (formula_view f)) xs
    → formulas_view gs ≡ instances_at k t (formulas_view fs)
made_instances k t fs xs gs e h = ap fms_of (h ∙ ap (λ ys. map (λ f. instance_at k t (formula_view f)) ys) e) ∙ sym (instances_seen k t fs)

pub instance-And : (k : ℕ) (t : Tm) (f : Fml) (fs xs gs : List Fml) → f ≡ formula.And fs → xs ≡ fs
    → map formula_view gs ≡ map (λ f. instance_at k t (formula_view f)) xs → formula_view (formula.And gs) ≡ instance_at k t (formula_view f)
instance-And k t f fs xs gs is e h =
    formula_view-And gs ∙ ap fm.And (made_instances k t fs xs gs e h) ∙ ap (instance_at k t) (sym (formula_view-And fs)) ∙ ap (λ g. instance_at k t (formula_view g)) (sym is)

pub instance-Or : (k : ℕ) (t : Tm) (f : Fml) (fs xs gs : List Fml) → f ≡ formula.Or fs → xs ≡ fs
    → map formula_view gs ≡ map (λ f. instance_at k t (formula_view f)) xs → formula_view (formula.Or gs) ≡ instance_at k t (formula_view f)
instance-Or k t f fs xs gs is e h =
    formula_view-Or gs ∙ ap fm.Or (made_instances k t fs xs gs e h) ∙ ap (instance_at k t) (sym (formula_view-Or fs)) ∙ ap (λ g. instance_at k t (formula_view g)) (sym is)

-- # Duals

duals_seen : (fs : List Fml) → duals (formulas_view fs) ≡ fms_of (map (λ f. dual (formula_view f)) fs)
duals_seen [] = refl
duals_seen (f ∷ fs) = ap (also_fm (dual (formula_view f))) (duals_seen fs)

made_duals : (fs xs gs : List Fml) → xs ≡ fs → map formula_view gs ≡ map (λ f. dual (formula_view f)) xs → formulas_view gs ≡ duals (formulas_view fs)
made_duals fs xs gs e h = ap fms_of (h ∙ ap (λ ys. map (λ f. dual (formula_view f)) ys) e) ∙ sym (duals_seen fs)

pub dual-And : (f : Fml) (fs xs gs : List Fml) → f ≡ formula.And fs → xs ≡ fs → map formula_view gs ≡ map (λ f. dual (formula_view f)) xs
    → formula_view (formula.Or gs) ≡ dual (formula_view f)
dual-And f fs xs gs is e h = formula_view-Or gs ∙ ap fm.Or (made_duals fs xs gs e h) ∙ ap dual (sym (formula_view-And fs)) ∙ ap (λ g. dual (formula_view g)) (sym is)

pub dual-Or : (f : Fml) (fs xs gs : List Fml) → f ≡ formula.Or fs → xs ≡ fs → map formula_view gs ≡ map (λ f. dual (formula_view f)) xs
    → formula_view (formula.And gs) ≡ dual (formula_view f)
dual-Or f fs xs gs is e h = formula_view-And gs ∙ ap fm.And (made_duals fs xs gs e h) ∙ ap dual (sym (formula_view-Or fs)) ∙ ap (λ g. dual (formula_view g)) (sym is)
