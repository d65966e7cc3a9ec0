-- Terms and atoms are known by what they are seen as, so the code's test of equality is the definitions' test.
use Rattle.std.proofs.Common.{◌≡◌, ◌↔◌, List, [], ◌∷◌, map, Bool, true, false, IsTrue, refl, ap, ap₂, sym, ◌∙◌, subst}
use Rattle.rp_logic.specs.declared.term.Term.{Term}
use Rattle.rp_logic.specs.declared.term.Term.TheVariants as made
use Rattle.rp_logic.specs.declared.term.Term.TheOpen as layer
use Rattle.rp_logic.specs.declared.term.Term.TheViews.{roll-Term}
use Rattle.rp_logic.specs.declared.term.Term.TheFolds.{fold-roll-Term, map-Term, ind-Term}
use Rattle.rp_logic.specs.declared.atom.Atom.{Atom}
use Rattle.rp_logic.specs.declared.atom.Atom.TheVariants as atom
use Rattle.rp_logic.specs.Terms.{Tm, Tms, Var, Const, Fn, Int, Str, Con, Sel, Plus, no_tm, also_tm, At, Equal, Le, Rel}
use Rattle.rp_logic.specs.Views.{term_step, term_view, tms_of, terms_view, atom_view}
use Rattle.refute_defs.specs.Same.{same_tm, same_at}
use Rattle.refute_defs.proofs.SameTerms.{tm_is, is_tm, at_is, is_at}

abbrev mutual
  term_of : Tm → Term
  term_of (Var n) = made.Var n
  term_of (Const c) = made.Const c
  term_of (Fn f ts) = made.Fn f (terms_of ts)
  term_of (Int n) = made.Int n
  term_of (Str bytes) = made.Str bytes
  term_of (Con con ts) = made.Con con (terms_of ts)
  term_of (Sel con i t) = made.Sel con i (term_of t)
  term_of (Plus t n) = made.Plus (term_of t) n

  terms_of : Tms → List Term
  terms_of no_tm = []
  terms_of (also_tm t ts) = term_of t ∷ terms_of ts

abbrev Back : Term → Type 0
Back t = term_of (term_view t) ≡ t

abbrev plain : layer.Term-F ((t : Term) × Back t) → layer.Term-F Term
plain = map-Term ((t : Term) × Back t) Term (λ e. e.0)

seen : (x : layer.Term-F Term)
    → term_of (term_view (roll-Term x)) ≡ term_of (term_step (map-Term Term Tm term_view x))
seen x = ap term_of (fold-roll-Term Tm term_step x)

all_back : (es : List ((t : Term) × Back t))
    → terms_of (tms_of (map term_view (map (λ e. e.0) es))) ≡ map (λ e. e.0) es
all_back [] = refl
all_back (e ∷ es) = ap₂ (λ x xs. x ∷ xs) e.1 (all_back es)

layer_back : (y : layer.Term-F ((t : Term) × Back t)) → Back (roll-Term (plain y))
layer_back (layer.Var n) = seen (layer.Var n) ∙ sym (made.rolls-Var n)
layer_back (layer.Const c) = seen (layer.Const c) ∙ sym (made.rolls-Const c)
layer_back (layer.Fn f es) =
    seen (layer.Fn f (map (λ e. e.0) es)) ∙ ap (made.Fn f) (all_back es) ∙ sym (made.rolls-Fn f (map (λ e. e.0) es))
layer_back (layer.Int n) = seen (layer.Int n) ∙ sym (made.rolls-Int n)
layer_back (layer.Str bytes) = seen (layer.Str bytes) ∙ sym (made.rolls-Str bytes)
layer_back (layer.Con con es) =
    seen (layer.Con con (map (λ e. e.0) es)) ∙ ap (made.Con con) (all_back es) ∙ sym (made.rolls-Con con (map (λ e. e.0) es))
layer_back (layer.Sel con i e) =
    seen (layer.Sel con i e.0) ∙ ap (made.Sel con i) e.1 ∙ sym (made.rolls-Sel con i e.0)
layer_back (layer.Plus e n) =
    seen (layer.Plus e.0 n) ∙ ap (λ t. made.Plus t n) e.1 ∙ sym (made.rolls-Plus e.0 n)

pub term_back : (t : Term) → term_of (term_view t) ≡ t
term_back t = ind-Term Back (λ x y is. subst (λ z. Back (roll-Term z)) is (layer_back y)) t

pub same_term_view : (s t : Term) → term_view s ≡ term_view t → s ≡ t
same_term_view s t e = sym (term_back s) ∙ ap term_of e ∙ term_back t

terms_back : (ts : List Term) → terms_of (terms_view ts) ≡ ts
terms_back [] = refl
terms_back (t ∷ ts) = ap₂ (λ x xs. x ∷ xs) (term_back t) (terms_back ts)

abbrev atom_of : At → Atom
atom_of (Equal a b) = atom.Equal (term_of a) (term_of b)
atom_of (Le a b k) = atom.Le (term_of a) (term_of b) k
atom_of (Rel r ts) = atom.Rel r (terms_of ts)

atom_back : (a : Atom) → atom_of (atom_view a) ≡ a
atom_back (atom.Equal a b) = ap₂ atom.Equal (term_back a) (term_back b)
atom_back (atom.Le a b k) = ap₂ (λ x y. atom.Le x y k) (term_back a) (term_back b)
atom_back (atom.Rel r ts) = ap (atom.Rel r) (terms_back ts)

pub same_atom_view : (a b : Atom) → atom_view a ≡ atom_view b → a ≡ b
same_atom_view a b e = sym (atom_back a) ∙ ap atom_of e ∙ atom_back b

-- # Tests of the code

one_test : {P : Type 0} (r s : Bool) → (r ≡ true) ↔ P → (P → s ≡ true) → (s ≡ true → P) → r ≡ s
one_test true s h p q = sym (p (h.0 refl))
one_test false true h p q = h.1 (q refl)
one_test false false h p q = refl

pub term_test : (r : Bool) (a b : Term) → IsTrue r ↔ (a ≡ b)
    → r ≡ same_tm (term_view a) (term_view b)
term_test r a b h =
    one_test r (same_tm (term_view a) (term_view b)) h
    (λ e. is_tm (term_view a) (term_view b) (ap term_view e))
    (λ t. same_term_view a b (tm_is (term_view a) (term_view b) t))

pub atom_test : (r : Bool) (a b : Atom) → IsTrue r ↔ (a ≡ b)
    → r ≡ same_at (atom_view a) (atom_view b)
atom_test r a b h =
    one_test r (same_at (atom_view a) (atom_view b)) h
    (λ e. is_at (atom_view a) (atom_view b) (ap atom_view e))
    (λ t. same_atom_view a b (at_is (atom_view a) (atom_view b) t))
