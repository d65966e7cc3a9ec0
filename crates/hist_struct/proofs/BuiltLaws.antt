-- Terms built of selector terms.
use Rattle.std.proofs.Common.{◌≡◌, ℕ, zero, suc, ◌-◌, List, [], ◌∷◌, length, map, true, refl, sym, ap, ap₂, ◌∙◌, arith}
use Rattle.rp_logic.specs.Terms.{Tm, Con}
use Rattle.rp_logic.specs.Elements.{Elem, Elems, Made, no_elem, also_elem, same_elem}
use Rattle.rp_logic.specs.Truth.{Meaning, value}
use Rattle.rp_logic.proofs.ElementLaws.{same-is, same-self}
use Rattle.crdt_enc.proofs.CallLaws.{values-in, selectors-give}
use Rattle.crdt_enc.specs.Elements.{elems}
use Rattle.crdt_enc.specs.Builders.{tms_of, selectors, built}

-- # Elements as lists

abbrev pub listed : Elems → List Elem
listed no_elem = []
listed (also_elem x xs) = x ∷ listed xs

pub elems-listed : (xs : Elems) → elems (listed xs) ≡ xs
elems-listed no_elem = refl
elems-listed (also_elem x xs) = ap (also_elem x) (elems-listed xs)

pub listed-elems : (xs : List Elem) → listed (elems xs) ≡ xs
listed-elems [] = refl
listed-elems (x ∷ xs) = ap (λ ys. x ∷ ys) (listed-elems xs)

pub selectors-count : (M : Meaning) (vars : List Elem) (con i n : ℕ) (t : Tm) → length (map (value M vars) (selectors con i n t)) ≡ n
selectors-count M vars con i zero t = refl
selectors-count M vars con i (suc n) t = ap suc (selectors-count M vars con (suc i) n t)

-- the term equals the constructor over its selector terms
pub built-self : (M : Meaning) (vars : List Elem) (con n : ℕ) (t : Tm) (xs : List Elem) → value M vars t ≡ Made con (elems xs) → n ≡ length xs
    → same_elem (value M vars t) (value M vars (built con n [] t)) ≡ true
built-self M vars con n t xs h e =
    let s = selectors-give M vars con 0 n t xs h (omega (arith, e)) in
    let z : n - 0 ≡ n = omega arith in
    let b : value M vars (built con n [] t) ≡ Made con (elems xs) =
    ap (λ k. value M vars (Con con (tms_of (selectors con 0 k t)))) z ∙ ap (Made con) (values-in (selectors con 0 n t) M vars ∙ ap elems s) in
    ap₂ same_elem h b ∙ same-self (Made con (elems xs))

pub built-is : (M : Meaning) (vars : List Elem) (con n : ℕ) (t : Tm) (d : ℕ) (xs : List Elem) → value M vars t ≡ Made d (elems xs)
    → same_elem (value M vars t) (value M vars (built con n [] t)) ≡ true → (d ≡ con) × (n ≡ length xs)
built-is M vars con n t d xs h s =
    let z : n - 0 ≡ n = omega arith in
    let b : value M vars (built con n [] t) ≡ Made con (elems (map (value M vars) (selectors con 0 n t))) =
    ap (λ k. value M vars (Con con (tms_of (selectors con 0 k t)))) z ∙ ap (Made con) (values-in (selectors con 0 n t) M vars) in
    let e = sym h ∙ (same-is (value M vars t) (value M vars (built con n [] t)) s ∙ b) in
    let cons : d ≡ con = cc in
    let args : elems xs ≡ elems (map (value M vars) (selectors con 0 n t)) = cc in
    let lists = sym (listed-elems xs) ∙ (ap listed args ∙ listed-elems (map (value M vars) (selectors con 0 n t))) in
    (cons, sym (ap length lists ∙ selectors-count M vars con 0 n t))
