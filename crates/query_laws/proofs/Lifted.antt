-- What is made under a binder more, where no variable of a binder inside stands for itself.
use Rattle.std.proofs.Common.{◌≡◌, ℤ, Option, Some, None, refl, ap, sym, ◌∙◌}
use Rattle.rp_lang.specs.Exprs.{Ex, Slot, Bound, Int, Str, Con, Plus, Add, Sub, Query, OpOf, OpTerm, OriginOf, InfoOf, InfoTerm, ResultOf, ResultTerm, ResultWith, Unreturned}
use Rattle.desugaring.specs.Values.{lifted, literal, sum, sum_behind, sum_in_front, difference, difference_of}

-- # Sums

literal_lifted : (e : Ex) → literal (lifted e) ≡ literal e
literal_lifted (Slot s) = refl
literal_lifted (Bound n) = refl
literal_lifted (Int n) = refl
literal_lifted (Str bytes) = refl
literal_lifted (Con con args) = refl
literal_lifted (Plus e n) = refl
literal_lifted (Add a b) = refl
literal_lifted (Sub a b) = refl
literal_lifted (Query query args) = refl
literal_lifted (OpOf call) = refl
literal_lifted (OpTerm op args) = refl
literal_lifted (OriginOf call) = refl
literal_lifted (InfoOf inv) = refl
literal_lifted (InfoTerm proc args) = refl
literal_lifted (ResultOf inv) = refl
literal_lifted (ResultTerm proc) = refl
literal_lifted (ResultWith proc e) = refl
literal_lifted Unreturned = refl

in_front : (o : Option ℤ) (a b : Ex) → lifted (sum_in_front o a b) ≡ sum_in_front o (lifted a) (lifted b)
in_front (Some n) a b = refl
in_front None a b = refl

is_behind : (o : Option ℤ) (a b : Ex) → lifted (sum_behind o a b) ≡ sum_behind o (lifted a) (lifted b)
is_behind (Some n) a b = refl
is_behind None a b =
    in_front (literal a) a b ∙ ap (λ o. sum_in_front o (lifted a) (lifted b)) (sym (literal_lifted a))

pub sum_lifted : (a b : Ex) → lifted (sum a b) ≡ sum (lifted a) (lifted b)
sum_lifted a b =
    is_behind (literal b) a b ∙ ap (λ o. sum_behind o (lifted a) (lifted b)) (sym (literal_lifted b))

is_taken : (o : Option ℤ) (a b : Ex) → lifted (difference_of o a b) ≡ difference_of o (lifted a) (lifted b)
is_taken (Some n) a b = refl
is_taken None a b = refl

pub difference_lifted : (a b : Ex) → lifted (difference a b) ≡ difference (lifted a) (lifted b)
difference_lifted a b =
    is_taken (literal b) a b ∙ ap (λ o. difference_of o (lifted a) (lifted b)) (sym (literal_lifted b))
