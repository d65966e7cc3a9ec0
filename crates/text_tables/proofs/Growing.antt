-- Lists that grow by what is made of each.
use Rattle.std.proofs.Common.{◌≡◌, List, [], ◌∷◌, ◌++◌, Option, Some, None, refl, sym, ap, ◌∙◌}
use Rattle.std.specs.Option.{option_map}
use Rattle.std.proofs.lemmas.List.{append-nil, append_assoc}
use Rattle.desugaring.specs.Parts.{both, each}
use Rattle.text_tables.specs.means.Grown.{Grows, grown}

pub each_both : {X Y : Type 0} (f : X → Option Y) (xs ys : List X) → each f (xs ++ ys) ≡ both (λ a b. a ++ b) (each f xs) (each f ys)
each_both {Y = Y} f [] ys = one (each f ys)
  where
    one : (o : Option (List Y)) → o ≡ both (λ a b. a ++ b) (Some []) o
    one None = refl
    one (Some a) = refl
each_both {Y = Y} f (x ∷ xs) ys = ap (both ◌∷◌ (f x)) (each_both f xs ys) ∙ step (f x) (each f xs) (each f ys)
  where
    step : (o : Option Y) (p q : Option (List Y)) → both ◌∷◌ o (both (λ a b. a ++ b) p q) ≡ both (λ a b. a ++ b) (both ◌∷◌ o p) q
    step None p q = refl
    step (Some y) None q = refl
    step (Some y) (Some a) None = refl
    step (Some y) (Some a) (Some b) = refl

behind : {Y : Type 0} (old mid : List Y) (p q : Option (List Y)) → option_map (λ more. old ++ more) p ≡ Some mid
    → option_map (λ more. old ++ more) (both (λ a b. a ++ b) p q) ≡ option_map (λ more. mid ++ more) q
behind old mid None q e = absurd cc
behind old mid (Some a) None e = refl
behind old mid (Some a) (Some b) e =
    ap Some (sym (append_assoc old a b)) ∙ ap (option_map (λ m. m ++ b)) e

-- what is made of the first, and then what comes
pub grown_both : {X Y : Type 0} (f : X → Option Y) (old mid : List Y) (xs ys : List X) → Grows f old xs mid
    → grown f old (xs ++ ys) ≡ grown f mid ys
grown_both f old mid xs ys e =
    ap (option_map (λ more. old ++ more)) (each_both f xs ys) ∙ behind old mid (each f xs) (each f ys) e

pub grows_both : {X Y : Type 0} (f : X → Option Y) (old mid new : List Y) (xs ys : List X) → Grows f old xs mid → Grows f mid ys new
    → Grows f old (xs ++ ys) new
grows_both f old mid new xs ys e h = grown_both f old mid xs ys e ∙ h

pub grows_none : {X Y : Type 0} (f : X → Option Y) (old : List Y) → Grows f old [] old
grows_none f old = ap Some (append-nil old)

pub grows_one : {X Y : Type 0} (f : X → Option Y) (old : List Y) (x : X) (y : Y) → f x ≡ Some y → Grows f old (x ∷ []) (old ++ y ∷ [])
grows_one f old x y e = ap (λ o. option_map (λ more. old ++ more) (both ◌∷◌ o (Some []))) e

-- # Loops: what comes completes the whole

pub grown_step : {X Y : Type 0} (f : X → Option Y) (start old new : List Y) (whole rest one next : List X)
    → grown f old rest ≡ grown f start whole → rest ≡ one ++ next → Grows f old one new → grown f new next ≡ grown f start whole
grown_step f start old new whole rest one next before parts e =
    sym (grown_both f old new one next e) ∙ ap (grown f old) (sym parts) ∙ before

pub grown_end : {X Y : Type 0} (f : X → Option Y) (start now : List Y) (whole rest : List X)
    → grown f now rest ≡ grown f start whole → rest ≡ [] → Grows f start whole now
grown_end f start now whole rest before is = sym before ∙ ap (grown f now) is ∙ grows_none f now

-- from nothing
pub from_nothing : {X Y : Type 0} (f : X → Option Y) (xs : List X) (ys : List Y) → Grows f [] xs ys → each f xs ≡ Some ys
from_nothing {Y = Y} f xs ys e = same (each f xs) ∙ e
  where
    same : (o : Option (List Y)) → o ≡ option_map (λ more. [] ++ more) o
    same None = refl
    same (Some a) = refl
