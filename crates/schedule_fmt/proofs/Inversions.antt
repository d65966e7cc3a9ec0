-- What a step gave, from what the steps together gave.
use Rattle.std.proofs.Common.{◌≡◌, ℕ, ◌+◌, Bool, true, false, List, [], ◌∷◌, ◌++◌, length, drop, Option, Some, None, refl, sym, ap, ◌∙◌, inl, inr, ◌⊎◌, append_assoc}
use Rattle.std.specs.Prelude.{if◌then◌else◌}
use Rattle.std.specs.Option.{option_map}
use Rattle.std.proofs.lemmas.List.{drop-drop, drop_at}
use Rattle.schedule_fmt.specs.means.Reading.{◌>>=◌}

pub some_is : {X : Type 0} (x y : X) → Some x ≡ Some y → x ≡ y
some_is x y h = cc

pub none_some : {X : Type 0} (x : X) → None ≡ Some x → ⊥
none_some x h = cc

pub tested : {X : Type 0} (t : Bool) (o : Option X) (x : X) → (if t then o else None) ≡ Some x → (t ≡ true) × (o ≡ Some x)
tested true o x h = (refl, h)
tested false o x h = absurd (none_some x h)

pub untested : {X : Type 0} (t : Bool) (o : Option X) (x : X) → (if t then None else o) ≡ Some x → (t ≡ false) × (o ≡ Some x)
untested true o x h = absurd (none_some x h)
untested false o x h = (refl, h)

pub either : {X : Type 0} (t : Bool) (o p : Option X) (x : X) → (if t then o else p) ≡ Some x → ((t ≡ true) × (o ≡ Some x)) ⊎ ((t ≡ false) × (p ≡ Some x))
either true o p x h = inl (refl, h)
either false o p x h = inr (refl, h)

pub and_then : {X Y : Type 0} (o : Option X) (f : X → Option Y) (y : Y) → (o >>= f) ≡ Some y → (x : X) × (o ≡ Some x) × (f x ≡ Some y)
and_then None f y h = absurd (none_some y h)
and_then (Some x) f y h = (x, refl, h)

pub mapped : {X Y : Type 0} (f : X → Y) (o : Option X) (y : Y) → option_map f o ≡ Some y → (x : X) × (o ≡ Some x) × (f x ≡ y)
mapped f None y h = absurd (none_some y h)
mapped f (Some x) y h = (x, refl, some_is _ _ h)

-- # Places

-- the bytes from `at` on are the front, and then those from `to` on
pub record Spans (text : List ℕ) (at to : ℕ) (front : List ℕ) : Type 0 where
  pub is : drop at text ≡ front ++ drop to text

pub joined : (text : List ℕ) (at mid to : ℕ) (front back : List ℕ) → Spans text at mid front → Spans text mid to back → Spans text at to (front ++ back)
joined text at mid to front back s t = record { is = s.is ∙ ap (λ x. front ++ x) t.is ∙ sym (append_assoc front back (drop to text)) }

-- what is read at a place is x, and leaves the rest
pub record Reads {X : Type 0} (text : List ℕ) (o : Option (X × ℕ)) (x : X) (rest : List ℕ) : Type 0 where
  pub to : ℕ
  pub found : o ≡ Some (x, to)
  pub left : drop to text ≡ rest

pub drop_front : (text front rest : List ℕ) (at : ℕ) → drop at text ≡ front ++ rest → drop (at + length front) text ≡ rest
drop_front text front rest at h = sym (drop-drop (length front) at text) ∙ ap (drop (length front)) h ∙ drop_at front rest (length front) refl

pub drop_next : (text : List ℕ) (b : ℕ) (rest : List ℕ) (at : ℕ) → drop at text ≡ b ∷ rest → drop (at + 1) text ≡ rest
drop_next text b rest at h = drop_front text (b ∷ []) rest at h
