-- Which fault is before which, and the first of two lists of places.
use Rattle.std.proofs.Common.{◌≡◌, Bool, true, false, List, [], ◌∷◌, ◌++◌, Option, Some, None, refl, ap, sym, ◌∙◌, arith}
use Rattle.std.proofs.lemmas.Bool.Decides.{nat_tests}
use Rattle.type_rules.specs.declared.fault.Fault.{Fault}
use Rattle.type_rules.specs.Names.{Names}
use Rattle.type_rules.specs.Sites.{Site}
use Rattle.type_rules.specs.Faults.{sooner, keep, is_before, judged, first}

-- x stays before y also by way of z
pub before_trans : (x y z : Fault) → is_before x y ≡ true → is_before y z ≡ true → is_before x z ≡ true
before_trans x y z h k = grind (arith, nat_tests)

pub not_before_trans : (x y z : Fault) → is_before x y ≡ false → is_before y z ≡ false → is_before x z ≡ false
not_before_trans x y z h k = grind (arith, nat_tests)

pub yes : (x y : Fault) → is_before y x ≡ true → keep x y ≡ y
yes x y h = rw h refl

pub no : (x y : Fault) → is_before y x ≡ false → keep x y ≡ x
no x y h = rw h refl

keep_cases : (x y z : Fault) (p q : Bool) → is_before y x ≡ p → is_before z y ≡ q → keep (keep x y) z ≡ keep x (keep y z)
keep_cases x y z true true a b = ap (λ f. keep f z) (yes x y a) ∙ yes y z b ∙ sym (ap (keep x) (yes y z b) ∙ yes x z (before_trans z y x b a))
keep_cases x y z true false a b = ap (λ f. keep f z) (yes x y a) ∙ no y z b ∙ sym (ap (keep x) (no y z b) ∙ yes x y a)
keep_cases x y z false true a b = ap (λ f. keep f z) (no x y a) ∙ sym (ap (keep x) (yes y z b))
keep_cases x y z false false a b = ap (λ f. keep f z) (no x y a) ∙ no x z (not_before_trans z y x b a) ∙ sym (ap (keep x) (no y z b) ∙ no x y a)

pub assoc : (a b c : Option Fault) → sooner (sooner a b) c ≡ sooner a (sooner b c)
assoc None b c = refl
assoc (Some x) None c = refl
assoc (Some x) (Some y) None = refl
assoc (Some x) (Some y) (Some z) = ap Some (keep_cases x y z _ _ refl refl)

pub sooner_none : (a : Option Fault) → sooner a None ≡ a
sooner_none None = refl
sooner_none (Some x) = refl

pub first_append : (n : Names) (a b : List Site) → first n (a ++ b) ≡ sooner (first n a) (first n b)
first_append n [] b = refl
first_append n (s ∷ a) b = ap (sooner (judged n s)) (first_append n a b) ∙ sym (assoc (judged n s) (first n a) (first n b))
