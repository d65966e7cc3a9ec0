-- Terms that are added one after another.
use Rattle.std.proofs.Common.{◌≡◌, inl, inr, ℕ, zero, suc, ◌+◌, List, [], ◌∷◌, ◌++◌, slice_get, Some, refl, ap, sym, subst, ◌∙◌, take, arith, append_assoc, append-nil, ℤ}
use Rattle.std.specs.Prelude.{OnOk, OnErr, Result, Ok, Err}
use Rattle.rp_logic.specs.declared.term.Term.{Term}
use Rattle.rp_logic.specs.Terms as tm
use Rattle.rp_logic.specs.Terms.{Tm, Tms, no_tm, also_tm}
use Rattle.rp_logic.specs.Views.{term_view, terms_view}
use Rattle.rp_terms.specs.Numbered.{Keeps, Adds, AddsAll, AddsFirst, parts_of, parts_of_each}

pub all_then : (us vs old mid new : List Tm) → AddsAll old us mid → AddsAll mid vs new → AddsAll old (us ++ vs) new
all_then [] vs old mid new a b = subst (λ (ts : List Tm). AddsAll ts vs new) a b
all_then (u ∷ us) vs old mid new a b = (a.0, a.1, all_then us vs a.0 mid new a.2 b)

pub one_more : (us : List Tm) (t : Tm) (old mid new : List Tm) → AddsAll old us mid → Adds mid t new → AddsAll old (us ++ t ∷ []) new
one_more us t old mid new a b = all_then us (t ∷ []) old mid new a (new, b, refl)

pub first_more : (us vs old new : List Tm) → AddsFirst old us new → AddsFirst old (us ++ vs) new
first_more us vs old new a = (a.0, a.1 ++ vs, ap (λ ts. ts ++ vs) a.2 ∙ append_assoc a.0 a.1 vs, a.3)

pub all_first : (us vs old new : List Tm) → AddsAll old us new → AddsFirst old (us ++ vs) new
all_first us vs old new a = (us, vs, refl, a)

pub all_then_first : (us vs old mid new : List Tm) → AddsAll old us mid → AddsFirst mid vs new → AddsFirst old (us ++ vs) new
all_then_first us vs old mid new a b =
    (us ++ b.0, b.1, ap (λ ts. us ++ ts) b.2 ∙ sym (append_assoc us b.0 b.1), all_then us b.0 old mid new a b.3)

pub adds_keep : (ts old new : List Tm) → AddsAll old ts new → Keeps old new
adds_keep [] old new a = ([], a ∙ sym (append-nil old))
adds_keep (t ∷ ts) old new a = go a.1 (adds_keep ts a.0 new a.2)
  where
    go : Adds old t a.0 → Keeps a.0 new → Keeps old new
    go (inl b) k = (k.0, k.1 ∙ ap (λ us. us ++ k.0) b.2)
    go (inr b) k = (t ∷ k.0, k.1 ∙ ap (λ us. us ++ k.0) b.1 ∙ append_assoc old (t ∷ []) k.0)

pub on_ok : {A E : Type 0} (r : Result A E) (P Q : Type 0) → OnOk r P → (P → Q) → OnOk r Q
on_ok (Ok x) P Q p f = f p
on_ok (Err e) P Q p f = p

pub on_err : {A E : Type 0} (r : Result A E) (P Q : Type 0) → OnErr r P → (P → Q) → OnErr r Q
on_err (Ok x) P Q p f = p
on_err (Err e) P Q p f = f p

pub at_err : {A E : Type 0} (r : Result A E) (P : Type 0) → P → OnErr r P
at_err (Ok x) P p = tt
at_err (Err e) P p = p

pub parts-Fn : (u : Tm) (f : ℕ) (ts : Tms) → u ≡ tm.Fn f ts → parts_of u ≡ parts_of_each ts ++ u ∷ []
parts-Fn u f ts e = subst (λ (v : Tm). parts_of v ≡ parts_of_each ts ++ v ∷ []) (sym e) refl

pub parts-Con : (u : Tm) (c : ℕ) (ts : Tms) → u ≡ tm.Con c ts → parts_of u ≡ parts_of_each ts ++ u ∷ []
parts-Con u c ts e = subst (λ (v : Tm). parts_of v ≡ parts_of_each ts ++ v ∷ []) (sym e) refl

pub parts-Sel : (u : Tm) (c i : ℕ) (t : Tm) → u ≡ tm.Sel c i t → parts_of u ≡ parts_of t ++ u ∷ []
parts-Sel u c i t e = subst (λ (v : Tm). parts_of v ≡ parts_of t ++ v ∷ []) (sym e) refl

pub parts-Plus : (u : Tm) (n : ℤ) (t : Tm) → u ≡ tm.Plus t n → parts_of u ≡ parts_of t ++ u ∷ []
parts-Plus u n t e = subst (λ (v : Tm). parts_of v ≡ parts_of t ++ v ∷ []) (sym e) refl

pub each_more : (ts : List Term) (t : Term) → parts_of_each (terms_view (ts ++ t ∷ [])) ≡ parts_of_each (terms_view ts) ++ parts_of (term_view t)
each_more [] t = append-nil (parts_of (term_view t))
each_more (u ∷ ts) t = ap (λ ps. parts_of (term_view u) ++ ps) (each_more ts t) ∙ sym (append_assoc (parts_of (term_view u)) (parts_of_each (terms_view ts)) (parts_of (term_view t)))

pub take_at : {X : Type 0} (xs : List X) (i : ℕ) (x : X) → slice_get xs i ≡ Some x → take (i + 1) xs ≡ take i xs ++ x ∷ []
take_at [] i x e = absurd cc
take_at (y ∷ xs) zero x e = let same : y ≡ x = cc in ap (λ z. z ∷ []) same
take_at (y ∷ xs) (suc i) x e =
    let next : suc i + 1 ≡ suc (i + 1) = omega arith in
    ap (λ n. take n (y ∷ xs)) next ∙ ap (λ ys. y ∷ ys) (take_at xs i x e)

-- the parts of the terms before a place, of the term there, and others
pub each_split : (ts : List Term) (i : ℕ) (t : Term) → slice_get ts i ≡ Some t
    → (rest : List Tm) × (parts_of_each (terms_view ts) ≡ parts_of_each (terms_view (take i ts)) ++ parts_of (term_view t) ++ rest)
each_split [] i t e = absurd cc
each_split (u ∷ ts) zero t e =
    let same : u ≡ t = cc in
    (parts_of_each (terms_view ts), ap (λ v. parts_of (term_view v) ++ parts_of_each (terms_view ts)) same)
each_split (u ∷ ts) (suc i) t e =
    let more = each_split ts i t e in
    let front = parts_of (term_view u) in
    let ps = parts_of_each (terms_view (take i ts)) in
    let own = parts_of (term_view t) in (
      more.0,
      ap (λ qs. front ++ qs) more.1
          ∙ ap (λ qs. front ++ qs) (append_assoc ps own more.0)
          ∙ sym (append_assoc front ps (own ++ more.0))
          ∙ sym (append_assoc (front ++ ps) own more.0),
    )

module _ (us vs ps old mid new : List Tm) (t : Tm) (parts : ps ≡ us ++ vs) where
  pub split_err : AddsFirst old us new → AddsFirst old ps new
  split_err a = subst (λ (qs : List Tm). AddsFirst old qs new) (sym parts) (first_more us vs old new a)

  pub split_all : AddsAll old us mid → AddsAll mid vs new → AddsAll old ps new
  split_all a b = subst (λ (qs : List Tm). AddsAll old qs new) (sym parts) (all_then us vs old mid new a b)

  pub split_none : AddsAll old us mid → new ≡ mid → AddsFirst old ps new
  split_none a e = subst (λ (qs : List Tm). AddsFirst old qs new) (sym parts) (all_first us vs old new (subst (AddsAll old us) (sym e) a))
