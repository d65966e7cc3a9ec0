-- Where an optional value is there, so are those that it is made of.
use Rattle.std.proofs.Common.{◌≡◌, Bool, true, false, Option, Some, None, cond, refl, ap, subst, sym}
use Rattle.std.specs.Prelude.{option_map, option_and_then, is_some}

pub and_then : {A B : Type 0} (f : A → Option B) (o : Option A) (y : B)
    → option_and_then f o ≡ Some y → (x : A) × (o ≡ Some x) × (f x ≡ Some y)
and_then f None y e = absurd cc
and_then f (Some x) y e = (x, refl, e)

pub mapped : {A B : Type 0} (f : A → B) (o : Option A) (y : B) → option_map f o ≡ Some y
    → (x : A) × (o ≡ Some x) × (f x ≡ y)
mapped f None y e = absurd cc
mapped f (Some x) y e = (x, refl, cc)

pub tested : {A : Type 0} (b : Bool) (o : Option A) (y : A) → cond b o None ≡ Some y
    → (b ≡ true) × (o ≡ Some y)
tested true o y e = (refl, e)
tested false o y e = absurd cc

pub some_of : {A : Type 0} (o : Option A) → is_some o ≡ true → (x : A) × (o ≡ Some x)
some_of None e = absurd cc
some_of (Some x) e = (x, refl)

-- one of two ways
pub either : {P A : Type 0} (b : Bool) (x y : Option A) (k : A) → cond b x y ≡ Some k
    → (b ≡ true → x ≡ Some k → P) → (y ≡ Some k → P) → P
either true x y k e f g = f refl e
either false x y k e f g = g e

-- # The other way

pub then_is : {A B : Type 0} (f : A → Option B) (o : Option A) (x : A) (y : B) → o ≡ Some x
    → f x ≡ Some y → option_and_then f o ≡ Some y
then_is f o x y e h = subst (λ z. option_and_then f z ≡ Some y) (sym e) h

pub map_is : {A B : Type 0} (f : A → B) (o : Option A) (x : A) → o ≡ Some x
    → option_map f o ≡ Some (f x)
map_is f o x e = ap (option_map f) e

pub test_is : {A : Type 0} (b : Bool) (o : Option A) (y : A) → b ≡ true → o ≡ Some y
    → cond b o None ≡ Some y
test_is b o y e h = subst (λ c. cond c o None ≡ Some y) (sym e) h
