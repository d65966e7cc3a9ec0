-- What a loop over a list has put out, one further.
use Rattle.std.proofs.Common.{◌≡◌, ◌<◌, ◌+◌, ℕ, suc, List, ◌∷◌, ◌++◌, map, length, get_or, drop, sym, ap, subst, ◌∙◌, append_assoc, drop-cons, arith, Result, Ok, Err}
use Rattle.std.specs.Prelude.{OnOk}
use Rattle.rp_value.specs.declared.tables.Ty.{Ty}
use Rattle.rp_logic.specs.Terms.{Tm, Sel}
use Rattle.rp_logic.specs.Formulas.{Fm, Fms}
use Rattle.hist_struct.specs.Axioms.{each_of, in_fields}

next : (i : ℕ) → suc i ≡ i + 1
next i = omega arith

drop_more : {X : Type 0} (xs : List X) (i : ℕ) (x : X) → i < length xs → x ≡ get_or xs i x → drop i xs ≡ x ∷ drop (suc i) xs
drop_more xs i x h e = drop-cons xs i x h ∙ ap (λ y. y ∷ drop (suc i) xs) (sym e)

pub each_next : {A B : Type 0} (f : ℕ → B → List Fm) (view : A → B) (xs : List A) (i n : ℕ) (x : A) (old mid all : List Fm) → n ≡ i
    → i < length xs → x ≡ get_or xs i x → old ++ each_of f i (map view (drop i xs)) ≡ all → mid ≡ old ++ f n (view x)
    → mid ++ each_of f (i + 1) (map view (drop (i + 1) xs)) ≡ all
each_next f view xs i n x old mid all same h e before one =
    let rest = each_of f (suc i) (map view (drop (suc i) xs)) in
    let at : mid ++ rest ≡ all =
    ap (λ fs. fs ++ rest) (one ∙ ap (λ k. old ++ f k (view x)) same)
    ∙ append_assoc old (f i (view x)) rest
    ∙ ap (λ ys. old ++ each_of f i (map view ys)) (sym (drop_more xs i x h e))
    ∙ before in
    subst (λ k. mid ++ each_of f k (map view (drop k xs)) ≡ all) (next i) at

pub each_more : {A : Type 0} (f : ℕ → A → List Fm) (xs : List A) (i n : ℕ) (x : A) (old mid all : List Fm) → n ≡ i
    → i < length xs → x ≡ get_or xs i x → old ++ each_of f i (drop i xs) ≡ all → mid ≡ old ++ f n x
    → mid ++ each_of f (i + 1) (drop (i + 1) xs) ≡ all
each_more f xs i n x old mid all same h e before one =
    let rest = each_of f (suc i) (drop (suc i) xs) in
    let at : mid ++ rest ≡ all =
    ap (λ fs. fs ++ rest) (one ∙ ap (λ k. old ++ f k x) same)
    ∙ append_assoc old (f i x) rest
    ∙ ap (λ ys. old ++ each_of f i ys) (sym (drop_more xs i x h e))
    ∙ before in
    subst (λ k. mid ++ each_of f k (drop k xs) ≡ all) (next i) at

pub fields_next : (rec : Fms → Ty → Tm → List Fm) (given : Fms) (con : ℕ) (t : Tm) (tys : List Ty) (i n : ℕ) (ty : Ty) (old mid all : List Fm) → n ≡ i
    → i < length tys → ty ≡ get_or tys i ty → old ++ in_fields rec given con i (drop i tys) t ≡ all → mid ≡ old ++ rec given ty (Sel con n t)
    → mid ++ in_fields rec given con (i + 1) (drop (i + 1) tys) t ≡ all
fields_next rec given con t tys i n ty old mid all same h e before one =
    let rest = in_fields rec given con (suc i) (drop (suc i) tys) t in
    let at : mid ++ rest ≡ all =
    ap (λ fs. fs ++ rest) (one ∙ ap (λ k. old ++ rec given ty (Sel con k t)) same)
    ∙ append_assoc old (rec given ty (Sel con i t)) rest
    ∙ ap (λ ys. old ++ in_fields rec given con i ys t) (sym (drop_more tys i ty h e))
    ∙ before in
    subst (λ k. mid ++ in_fields rec given con k (drop k tys) t ≡ all) (next i) at

-- what holds behind a call that may fail
pub on_ok : {P Q : Type 0} {T E : Type 0} (r : Result T E) → (P → Q) → OnOk r P → OnOk r Q
on_ok (Ok x) f p = f p
on_ok (Err e) f p = p
