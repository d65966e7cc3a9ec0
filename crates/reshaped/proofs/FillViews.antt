-- Terms and formulas with others in place of variables, as the code makes them.
use Rattle.std.proofs.Common.{◌≡◌, ◌<◌, ◌≤◌, ◌-◌, ◌==◌, ℕ, zero, suc, ◌+◌, List, [], ◌∷◌, map, Some, None, Bool, true, false, ◌||◌, cond, eqb-true, eq-eqb, ltb-true, ltb-false, refl, ap, ap₂, sym, ◌∙◌, arith}
use Rattle.std.specs.Prelude.{nat_lt, if◌then◌else◌}
use Rattle.std.specs.Option.{option_map, option_and_then}
use Rattle.rp_logic.specs.declared.term.Term.{Term}
use Rattle.rp_logic.specs.declared.term.Term.TheVariants as term
use Rattle.rp_logic.specs.declared.atom.Atom.{Atom}
use Rattle.rp_logic.specs.declared.atom.Atom.TheVariants as atom
use Rattle.rp_logic.specs.declared.formula.Fml.{Fml}
use Rattle.rp_logic.specs.declared.formula.Fml.TheVariants as formula
use Rattle.rp_logic.specs.Terms as tm
use Rattle.rp_logic.specs.Terms.{Tm, Tms, Var, Const, Fn, Int, Str, Con, Sel, Plus, no_tm, also_tm}
use Rattle.rp_logic.specs.Formulas as fm
use Rattle.rp_logic.specs.Formulas.{also_fm}
use Rattle.rp_logic.specs.Filling.{filled, filled_each, filled_atom, filled_in, filled_ins, raised, raised_each, instead}
use Rattle.rp_logic.specs.Views.{term_view, terms_view, tms_of, atom_view, formula_view, formulas_view, fms_of}
use Rattle.rp_logic.proofs.TermViews.{term_view-Fn, term_view-Con}
use Rattle.rp_logic.proofs.FormulaViews.{formula_view-And, formula_view-Or, formula_view-All, formula_view-Ex}
use Rattle.reshape.specs.Eliminating.{lowered, lowered_each, told}
use Rattle.reshape.specs.Determining.{found}
use Rattle.reshaped.specs.Fillings.{further, moved, under}
use Rattle.reshaped.specs.Occurring.{stands, stands_among}

-- # Terms of terms

fills_seen : (s : ℕ → Tm) (us : List Term) → filled_each s (terms_view us) ≡ tms_of (map (λ u. filled s (term_view u)) us)
fills_seen s [] = refl
fills_seen s (u ∷ us) = ap (also_tm (filled s (term_view u))) (fills_seen s us)

made_terms : (s : ℕ → Tm) (us xs vs : List Term) → xs ≡ us → map term_view vs ≡ map (λ u. filled s (term_view u)) xs → terms_view vs ≡ filled_each s (terms_view us)
made_terms s us xs vs e h = ap tms_of (h ∙ ap (λ ys. map (λ u. filled s (term_view u)) ys) e) ∙ sym (fills_seen s us)

pub filled-Fn : (s : ℕ → Tm) (u : Term) (f : ℕ) (us xs vs : List Term) → u ≡ term.Fn f us → xs ≡ us → map term_view vs ≡ map (λ u. filled s (term_view u)) xs
    → term_view (term.Fn f vs) ≡ filled s (term_view u)
filled-Fn s u f us xs vs is e h =
    term_view-Fn f vs ∙ ap (tm.Fn f) (made_terms s us xs vs e h) ∙ ap (filled s) (sym (term_view-Fn f us)) ∙ ap (λ v. filled s (term_view v)) (sym is)

pub filled-Con : (s : ℕ → Tm) (u : Term) (c : ℕ) (us xs vs : List Term) → u ≡ term.Con c us → xs ≡ us → map term_view vs ≡ map (λ u. filled s (term_view u)) xs
    → term_view (term.Con c vs) ≡ filled s (term_view u)
filled-Con s u c us xs vs is e h =
    term_view-Con c vs ∙ ap (tm.Con c) (made_terms s us xs vs e h) ∙ ap (filled s) (sym (term_view-Con c us)) ∙ ap (λ v. filled s (term_view v)) (sym is)

pub filled-Rel : (s : ℕ → Tm) (a : Atom) (r : ℕ) (us xs vs : List Term) → a ≡ atom.Rel r us → xs ≡ us → map term_view vs ≡ map (λ u. filled s (term_view u)) xs
    → atom_view (atom.Rel r vs) ≡ filled_atom s (atom_view a)
filled-Rel s a r us xs vs is e h = ap (tm.Rel r) (made_terms s us xs vs e h) ∙ ap (λ b. filled_atom s (atom_view b)) (sym is)

-- # Formulas of formulas

formulas_seen : (s : ℕ → Tm) (fs : List Fml) → filled_ins s (formulas_view fs) ≡ fms_of (map (λ f. filled_in s (formula_view f)) fs)
formulas_seen s [] = refl
formulas_seen s (f ∷ fs) = ap (also_fm (filled_in s (formula_view f))) (formulas_seen s fs)

pub made_formulas : (s : ℕ → Tm) (fs xs gs : List Fml) → xs ≡ fs → map formula_view gs ≡ map (λ f. filled_in s (formula_view f)) xs → formulas_view gs ≡ filled_ins s (formulas_view fs)
made_formulas s fs xs gs e h = ap fms_of (h ∙ ap (λ ys. map (λ f. filled_in s (formula_view f)) ys) e) ∙ sym (formulas_seen s fs)

pub filled-And : (s : ℕ → Tm) (f : Fml) (fs xs gs : List Fml) → f ≡ formula.And fs → xs ≡ fs → map formula_view gs ≡ map (λ f. filled_in s (formula_view f)) xs
    → formula_view (formula.And gs) ≡ filled_in s (formula_view f)
filled-And s f fs xs gs is e h =
    formula_view-And gs ∙ ap fm.And (made_formulas s fs xs gs e h) ∙ ap (filled_in s) (sym (formula_view-And fs)) ∙ ap (λ g. filled_in s (formula_view g)) (sym is)

pub filled-Or : (s : ℕ → Tm) (f : Fml) (fs xs gs : List Fml) → f ≡ formula.Or fs → xs ≡ fs → map formula_view gs ≡ map (λ f. filled_in s (formula_view f)) xs
    → formula_view (formula.Or gs) ≡ filled_in s (formula_view f)
filled-Or s f fs xs gs is e h =
    formula_view-Or gs ∙ ap fm.Or (made_formulas s fs xs gs e h) ∙ ap (filled_in s) (sym (formula_view-Or fs)) ∙ ap (λ g. filled_in s (formula_view g)) (sym is)

-- under a quantifier
pub filled-All : (k inner : ℕ) (s : ℕ → Tm) (f body b made : Fml) (sort : ℕ) → f ≡ formula.All sort body → b ≡ body → inner ≡ suc k → formula_view made ≡ filled_in (under inner s) (formula_view b)
    → formula_view (formula.All sort made) ≡ filled_in (under k s) (formula_view f)
filled-All k inner s f body b made sort is e i h =
    formula_view-All sort made
    ∙ (ap (fm.All sort) (h ∙ (ap (λ j. filled_in (under j s) (formula_view b)) i ∙ ap (λ g. filled_in (under (suc k) s) (formula_view g)) e))
    ∙ ap (filled_in (under k s)) (sym (ap formula_view is ∙ formula_view-All sort body)))

pub filled-Ex : (k inner : ℕ) (s : ℕ → Tm) (f body b made : Fml) (sort : ℕ) → f ≡ formula.Ex sort body → b ≡ body → inner ≡ suc k → formula_view made ≡ filled_in (under inner s) (formula_view b)
    → formula_view (formula.Ex sort made) ≡ filled_in (under k s) (formula_view f)
filled-Ex k inner s f body b made sort is e i h =
    formula_view-Ex sort made
    ∙ (ap (fm.Ex sort) (h ∙ (ap (λ j. filled_in (under j s) (formula_view b)) i ∙ ap (λ g. filled_in (under (suc k) s) (formula_view g)) e))
    ∙ ap (filled_in (under k s)) (sym (ap formula_view is ∙ formula_view-Ex sort body)))

-- # Variables

mutual
  not_raised : (t : Tm) → raised 0 t ≡ t
  not_raised (Var n) = ap Var (let e : n + 0 ≡ n = omega arith in e)
  not_raised (Const c) = refl
  not_raised (Fn f args) = ap (Fn f) (none_raised args)
  not_raised (Int n) = refl
  not_raised (Str bytes) = refl
  not_raised (Con con args) = ap (Con con) (none_raised args)
  not_raised (Sel con i t) = ap (Sel con i) (not_raised t)
  not_raised (Plus t n) = ap (λ u. Plus u n) (not_raised t)

  none_raised : (ts : Tms) → raised_each 0 ts ≡ ts
  none_raised no_tm = refl
  none_raised (also_tm t ts) = ap₂ also_tm (not_raised t) (none_raised ts)

mutual
  raised_again : (k : ℕ) (t : Tm) → raised 1 (raised k t) ≡ raised (suc k) t
  raised_again k (Var n) = ap Var (let e : n + k + 1 ≡ n + suc k = omega arith in e)
  raised_again k (Const c) = refl
  raised_again k (Fn f args) = ap (Fn f) (raised_each_again k args)
  raised_again k (Int n) = refl
  raised_again k (Str bytes) = refl
  raised_again k (Con con args) = ap (Con con) (raised_each_again k args)
  raised_again k (Sel con i t) = ap (Sel con i) (raised_again k t)
  raised_again k (Plus t n) = ap (λ u. Plus u n) (raised_again k t)

  raised_each_again : (k : ℕ) (ts : Tms) → raised_each 1 (raised_each k ts) ≡ raised_each (suc k) ts
  raised_each_again k no_tm = refl
  raised_each_again k (also_tm t ts) = ap₂ also_tm (raised_again k t) (raised_each_again k ts)

-- a variable of the formula's own
pub under_near : (k n : ℕ) (s : ℕ → Tm) → n < k → under k s n ≡ Var n
under_near zero n s h = absurd (omega arith)
under_near (suc k) zero s h = refl
under_near (suc k) (suc n) s h = ap (raised 1) (under_near k n s (omega arith)) ∙ ap Var (let e : n + 1 ≡ suc n = omega arith in e)

under_by : (k m i : ℕ) (s : ℕ → Tm) → m ≡ i + k → under k s m ≡ raised k (s i)
under_by zero m i s e = ap s (let h : m ≡ i = omega arith in h) ∙ sym (not_raised (s i))
under_by (suc k) zero i s e = absurd (omega arith)
under_by (suc k) (suc m) i s e = ap (raised 1) (under_by k m i s (omega arith)) ∙ raised_again k (s i)

-- one from outside
under_far : (k n : ℕ) (s : ℕ → Tm) → k ≤ n → under k s n ≡ raised k (s (n - k))
under_far k n s h = under_by k n (n - k) s (omega arith)

under_test : (b : Bool) (k n : ℕ) (s : ℕ → Tm) → nat_lt n k ≡ b → under k s n ≡ (if b then Var n else raised k (s (n - k)))
under_test true k n s h = under_near k n s (ltb-true n k h)
under_test false k n s h = under_far k n s (ltb-false n k h)

pub under_tested : (k n : ℕ) (s : ℕ → Tm) → under k s n ≡ (if nat_lt n k then Var n else raised k (s (n - k)))
under_tested k n s = under_test (nat_lt n k) k n s refl

moved_there : (n : ℕ) → 0 ≡ moved n n
moved_there zero = refl
moved_there (suc n) = ap further (moved_there n)

pub moved_is : (n k : ℕ) → n ≡ k → 0 ≡ moved n k
moved_is n k e = moved_there n ∙ ap (moved n) e

pub moved_near : (n k : ℕ) → k < n → suc k ≡ moved n k
moved_near zero k h = absurd (omega arith)
moved_near (suc n) zero h = refl
moved_near (suc n) (suc k) h = ap further (moved_near n k (omega arith))

pub moved_far : (n k : ℕ) → n < k → k ≡ moved n k
moved_far zero k h = refl
moved_far (suc n) zero h = absurd (omega arith)
moved_far (suc n) (suc zero) h = absurd (omega arith)
moved_far (suc n) (suc (suc k)) h = ap further (moved_far n (suc k) (omega arith))

no-zero : (n : ℕ) (b : Bool) → (suc n == 0) ≡ b → false ≡ b
no-zero n true h = absurd (omega (arith, eqb-true (suc n) 0 h))
no-zero n false h = refl

pub instead_tested : (w : Tm) (n : ℕ) → instead w n ≡ (if n == 0 then w else Var (n - 1))
instead_tested w zero = ap (λ b. cond b w (Var (0 - 1))) (sym (eq-eqb 0 0 refl))
instead_tested w (suc n) = ap Var (let e : n ≡ suc n - 1 = omega arith in e) ∙ ap (λ b. cond b w (Var (suc n - 1))) (no-zero n (suc n == 0) refl)

-- # Lowered terms

or-false : (a b : Bool) → a || b ≡ false → (a ≡ false) × (b ≡ false)
or-false false b h = (refl, h)
or-false true b h = absurd cc

mutual
  pub lowered_filled : (t : Tm) → stands t ≡ false → lowered t ≡ Some (filled (instead (Var 0)) t)
  lowered_filled (Var zero) h = absurd cc
  lowered_filled (Var (suc n)) h = refl
  lowered_filled (Const c) h = refl
  lowered_filled (Fn f args) h = ap (option_map (λ ts. Fn f ts)) (lowered_fills args h)
  lowered_filled (Int n) h = refl
  lowered_filled (Str bytes) h = refl
  lowered_filled (Con con args) h = ap (option_map (λ ts. Con con ts)) (lowered_fills args h)
  lowered_filled (Sel con i t) h = ap (option_map (λ u. Sel con i u)) (lowered_filled t h)
  lowered_filled (Plus t n) h = ap (option_map (λ u. Plus u n)) (lowered_filled t h)

  lowered_fills : (ts : Tms) → stands_among ts ≡ false → lowered_each ts ≡ Some (filled_each (instead (Var 0)) ts)
  lowered_fills no_tm h = refl
  lowered_fills (also_tm t ts) h =
      let k = or-false (stands t) (stands_among ts) h in
      ap (option_and_then (λ u. option_map (λ us. also_tm u us) (lowered_each ts))) (lowered_filled t k.0)
      ∙ ap (option_map (λ us. also_tm (filled (instead (Var 0)) t) us)) (lowered_fills ts k.1)

first-or-rest : (t : Tm) (ts : Tms) (b : Bool) → stands t ≡ b → b || stands_among ts ≡ true → (stands t ≡ true → lowered t ≡ None) → (stands_among ts ≡ true → lowered_each ts ≡ None)
    → lowered_each (also_tm t ts) ≡ None
first-or-rest t ts true is h first rest = ap (option_and_then (λ u. option_map (λ us. also_tm u us) (lowered_each ts))) (first is)
first-or-rest t ts false is h first rest =
    ap (option_and_then (λ u. option_map (λ us. also_tm u us) (lowered_each ts))) (lowered_filled t is)
    ∙ ap (option_map (λ us. also_tm (filled (instead (Var 0)) t) us)) (rest h)

mutual
  lowered_none : (t : Tm) → stands t ≡ true → lowered t ≡ None
  lowered_none (Var zero) h = refl
  lowered_none (Var (suc n)) h = absurd cc
  lowered_none (Const c) h = absurd cc
  lowered_none (Fn f args) h = ap (option_map (λ ts. Fn f ts)) (lowered_nones args h)
  lowered_none (Int n) h = absurd cc
  lowered_none (Str bytes) h = absurd cc
  lowered_none (Con con args) h = ap (option_map (λ ts. Con con ts)) (lowered_nones args h)
  lowered_none (Sel con i t) h = ap (option_map (λ u. Sel con i u)) (lowered_none t h)
  lowered_none (Plus t n) h = ap (option_map (λ u. Plus u n)) (lowered_none t h)

  lowered_nones : (ts : Tms) → stands_among ts ≡ true → lowered_each ts ≡ None
  lowered_nones no_tm h = absurd cc
  lowered_nones (also_tm t ts) h = first-or-rest t ts (stands t) refl h (λ k. lowered_none t k) (λ k. lowered_nones ts k)

untold-at : (t b : Tm) → lowered t ≡ None → told t b ≡ None
untold-at t b h = ap (option_and_then (λ u. found b u)) h

-- a term in which the variable stands doesn't tell it
pub untold : (t b : Tm) → true ≡ stands t → told t b ≡ None
untold t b h = untold-at t b (lowered_none t (sym h))
