-- Lists of names that differ, and lists of some of them.
use Rattle.std.proofs.Common.{◌≡◌, ℕ, zero, suc, Bool, true, false, List, [], ◌∷◌, ◌++◌, map, Option, Some, None, refl, ap, subst, sym, ◌∙◌}
use Rattle.std.specs.Prelude.{filter_map, option_map, slice_get}
use Rattle.std.specs.List.{AllByRecursion, IsDistinct, cons_option, list_all, list_any}
use Rattle.std.proofs.lemmas.Bool.{and_from}
use Rattle.std.proofs.lemmas.Cmp.{nat_list_eq_equiv}
use Rattle.std.proofs.lemmas.Map.Keys.{IsDistinct-cons, IsDistinct-head, IsDistinct-tail}
use Rattle.std.proofs.lemmas.Option.{slice_get-map}
use Rattle.type_rules.specs.Names.{Name, same_name}
use Rattle.desugaring.specs.Parts.{Pointwise, no_members, more_members}
use Rattle.lawful.proofs.Arms.{flipped}
use Rattle.lawful.proofs.Distinct as distinct
use Rattle.lawful.proofs.Distinct.{unique}
use Rattle.lawful.proofs.Flows.{either_false}
use Rattle.lawful.proofs.Forms.{one}

-- # By places

pub none_any : {X : Type 0} (test : X → Bool) (xs : List X) → ((i : ℕ) (x : X) → slice_get xs i ≡ Some x → test x ≡ false)
    → list_any test xs ≡ false
none_any test [] f = refl
none_any test (x ∷ xs) f = either_false (test x) (list_any test xs) (f 0 x refl) (none_any test xs (λ i y e. f (suc i) y e))

pub all_at : {X : Type 0} (test : X → Bool) (xs : List X) → ((i : ℕ) (x : X) → slice_get xs i ≡ Some x → test x ≡ true)
    → list_all test xs ≡ true
all_at test [] f = refl
all_at test (x ∷ xs) f = and_from (test x) (list_all test xs) (f 0 x refl) (all_at test xs (λ i y e. f (suc i) y e))

-- what a member was made of
pub made_of : {X Y : Type 0} (R : X → Y → Type 0) (xs : List X) (ys : List Y) (i : ℕ) (y : Y) → Pointwise R xs ys
    → slice_get ys i ≡ Some y
    → (x : X) × (slice_get xs i ≡ Some x) × R x y
made_of R xs ys i y no_members at = absurd cc
made_of R xs ys zero y (more_members {x = x} r rs) at = (x, refl, subst (R x) (one at) r)
made_of R xs ys (suc i) y (more_members r rs) at = made_of R _ _ i y rs at

pub filtered_at : {X Y : Type 0} (f : X → Option Y) (xs : List X) (i : ℕ) (y : Y) → slice_get (filter_map f xs) i ≡ Some y
    → (j : ℕ) × (x : X) × (slice_get xs j ≡ Some x) × (f x ≡ Some y)
filtered_at f [] i y at = absurd cc
filtered_at {X} {Y} f (x ∷ xs) i y at = by_value f x xs i y (f x) refl at (λ j e. filtered_at f xs j y e) where
  by_value : {X Y : Type 0} (f : X → Option Y) (x : X) (xs : List X) (i : ℕ) (y : Y) (o : Option Y) → f x ≡ o
      → slice_get (cons_option o (filter_map f xs)) i ≡ Some y
      → ((k : ℕ) → slice_get (filter_map f xs) k ≡ Some y → (j : ℕ) × (z : X) × (slice_get xs j ≡ Some z) × (f z ≡ Some y))
      → (j : ℕ) × (z : X) × (slice_get (x ∷ xs) j ≡ Some z) × (f z ≡ Some y)
  by_value f x xs i y None is at rest = let r = rest i at in (suc r.0, r.1, r.2, r.3)
  by_value f x xs zero y (Some z) is at rest = (0, x, refl, is ∙ at)
  by_value f x xs (suc i) y (Some z) is at rest = let r = rest i at in (suc r.0, r.1, r.2, r.3)

-- # Names

pub turned : (x y : Name) → same_name y x ≡ false → same_name x y ≡ false
turned x y e = nat_list_eq_equiv.symm x y ∙ e

pub turned_true : (x y : Name) → same_name y x ≡ true → same_name x y ≡ true
turned_true x y e = nat_list_eq_equiv.symm x y ∙ e

pub own_name : (x : Name) → same_name x x ≡ true
own_name x = nat_list_eq_equiv.refl x

-- a member of a list whose names differ is told by its name
pub one_named : {E : Type 0} (name : E → Name) (es : List E) (i j : ℕ) (a b : E) → IsDistinct flipped (map name es)
    → slice_get es i ≡ Some a → slice_get es j ≡ Some b
    → same_name (name a) (name b) ≡ true → (i ≡ j) × (a ≡ b)
one_named name es i j a b differ at also same =
    let place = unique flipped (map name es) i j (name a) (name b) differ (slice_get-map name es i ∙ ap (option_map name) at)
    (slice_get-map name es j ∙ ap (option_map name) also) (turned_true (name b) (name a) same) same in
    (place, one (sym at ∙ ap (slice_get es) place ∙ also))

-- # Some of the names, in their order

pub data Sub : List Name → List Name → Type 0 where
  done : Sub [] []
  keep : {x : Name} {xs ys : List Name} → Sub xs ys → Sub (x ∷ xs) (x ∷ ys)
  skip : {y : Name} {xs ys : List Name} → Sub xs ys → Sub xs (y ∷ ys)

pub all_sub : (P : Name → Type 0) (xs ys : List Name) → Sub xs ys → AllByRecursion P ys → AllByRecursion P xs
all_sub P xs ys done all = tt
all_sub P xs ys (keep s) all = (all.0, all_sub P _ _ s all.1)
all_sub P xs ys (skip s) all = all_sub P _ _ s all.1

pub distinct_sub : (xs ys : List Name) → Sub xs ys → IsDistinct flipped ys → IsDistinct flipped xs
distinct_sub xs ys done d = distinct.no_members flipped
distinct_sub xs ys (keep {x} {xs = as_} {ys = bs} s) d =
    IsDistinct-cons flipped x as_ (all_sub (λ y. flipped x y ≡ false) as_ bs s (IsDistinct-head flipped x bs d)) (distinct_sub as_ bs s (IsDistinct-tail flipped x bs d))
distinct_sub xs ys (skip {y} {xs = as_} {ys = bs} s) d = distinct_sub as_ bs s (IsDistinct-tail flipped y bs d)

pub sub_none : (ys : List Name) → Sub [] ys
sub_none [] = done
sub_none (y ∷ ys) = skip (sub_none ys)

pub sub_append : (as_ bs cs ds : List Name) → Sub as_ bs → Sub cs ds → Sub (as_ ++ cs) (bs ++ ds)
sub_append as_ bs cs ds done rest = rest
sub_append as_ bs cs ds (keep s) rest = keep (sub_append _ _ cs ds s rest)
sub_append as_ bs cs ds (skip s) rest = skip (sub_append _ _ cs ds s rest)

-- those that are picked
pub sub_picked : {E X : Type 0} (name : E → Name) (f : E → Option X) (own : X → Name)
    → ((e : E) (x : X) → f e ≡ Some x → own x ≡ name e) → (es : List E)
    → Sub (map own (filter_map f es)) (map name es)
sub_picked name f own told [] = done
sub_picked {E} {X} name f own told (e ∷ es) = by_value name f own told e es (f e) refl (sub_picked name f own told es) where
  by_value : {E X : Type 0} (name : E → Name) (f : E → Option X) (own : X → Name)
      → ((e : E) (x : X) → f e ≡ Some x → own x ≡ name e) → (e : E) (es : List E)
      → (o : Option X) → f e ≡ o → Sub (map own (filter_map f es)) (map name es)
      → Sub (map own (cons_option o (filter_map f es))) (name e ∷ map name es)
  by_value name f own told e es None is rest = skip rest
  by_value name f own told e es (Some x) is rest =
      subst (λ z. Sub (z ∷ map own (filter_map f es)) (name e ∷ map name es)) (sym (told e x is)) (keep rest)
