-- Formulas that are put one behind the other.
use Rattle.std.proofs.Common.{◌≡◌, List, [], ◌∷◌, ◌++◌, map, ap, ◌∙◌, append_assoc}
use Rattle.std.proofs.lemmas.List.{map-append}
use Rattle.rp_logic.specs.declared.formula.Fml.{Fml}
use Rattle.rp_logic.specs.Views.{formula_view}

-- what is put behind what was put
pub behind : {A : Type 0} (old mid new xs ys : List A) → mid ≡ old ++ xs → new ≡ mid ++ ys → new ≡ old ++ (xs ++ ys)
behind old mid new xs ys h k = k ∙ (ap (λ m. m ++ ys) h ∙ append_assoc old xs ys)

pub behind_three : {A : Type 0} (old a b c xs ys zs : List A) → a ≡ old ++ xs → b ≡ a ++ ys → c ≡ b ++ zs → c ≡ old ++ (xs ++ (ys ++ zs))
behind_three old a b c xs ys zs h k l = behind old a c xs (ys ++ zs) h (behind a b c ys zs k l)

pub behind_four : {A : Type 0} (old a b c d xs ys zs us : List A) → a ≡ old ++ xs → b ≡ a ++ ys → c ≡ b ++ zs → d ≡ c ++ us → d ≡ old ++ (xs ++ (ys ++ (zs ++ us)))
behind_four old a b c d xs ys zs us h k l m = behind old a d xs (ys ++ (zs ++ us)) h (behind_three a b c d ys zs us k l m)

pub behind_five : {A : Type 0} (old a b c d e xs ys zs us vs : List A) → a ≡ old ++ xs → b ≡ a ++ ys → c ≡ b ++ zs → d ≡ c ++ us → e ≡ d ++ vs
    → e ≡ old ++ (xs ++ (ys ++ (zs ++ (us ++ vs))))
behind_five old a b c d e xs ys zs us vs h k l m n = behind old a e xs (ys ++ (zs ++ (us ++ vs))) h (behind_four a b c d e ys zs us vs k l m n)

-- one formula more
pub pushed : (old new : List Fml) (f : Fml) → new ≡ old ++ f ∷ [] → map formula_view new ≡ map formula_view old ++ formula_view f ∷ []
pushed old new f h = ap (map formula_view) h ∙ map-append formula_view old (f ∷ [])
