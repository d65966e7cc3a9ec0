-- Lists that are cut short.
use Rattle.std.proofs.Common.{◌≡◌, ◌⊎◌, inl, inr, ℕ, zero, suc, ◌-◌, ◌<◌, ◌≤◌, true, false, leb, List, [], ◌∷◌, ◌++◌, length, take, refl, sym, ap, ◌∙◌, arith}
use Rattle.std.proofs.lemmas.Bool.Decides.{leb_tells}
use Rattle.std.proofs.lemmas.List.{length_push, take_all}

pub take_front : {X : Type 0} (xs ys : List X) (n : ℕ) → n ≡ length xs → take n (xs ++ ys) ≡ xs
take_front [] ys zero e = refl
take_front [] ys (suc n) e = absurd (omega (arith, e))
take_front (x ∷ xs) ys zero e = absurd (omega (arith, e))
take_front (x ∷ xs) ys (suc n) e = ap (λ l. x ∷ l) (take_front xs ys n (omega (arith, e)))

-- without the last
pub last_gone : {X : Type 0} (xs ys : List X) (x : X) → xs ≡ ys ++ x ∷ [] → ys ≡ take (length xs - 1) xs
last_gone xs ys x e =
    let long = length_push ys x in
    sym (ap (λ l. take (length l - 1) l) e ∙ take_front ys (x ∷ []) (length (ys ++ x ∷ []) - 1) (omega (arith, long)))

pub none_gone : {X : Type 0} (xs ys : List X) → xs ≡ [] → ys ≡ [] → ys ≡ take (length xs - 1) xs
none_gone {X} xs ys e i = i ∙ sym (ap (λ (l : List X). take (length l - 1) l) e)

pub cut : {X : Type 0} (vs : List X) (gone len : ℕ) → gone ≡ length vs - len → take (length vs - gone) vs ≡ take len vs
cut {X} vs gone len e = by (leb_tells len (length vs))
  where
    by : ((leb len (length vs) ≡ true) × (len ≤ length vs)) ⊎ ((leb len (length vs) ≡ false) × (length vs < len))
        → take (length vs - gone) vs ≡ take len vs
    by (inl h) = let within = h.1 in ap (λ n. take n vs) (omega arith)
    by (inr h) = let past = h.1 in take_all (length vs - gone) vs (omega arith) ∙ sym (take_all len vs (omega arith))
