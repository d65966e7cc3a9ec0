-- Where one optional value is there, so is another: part by part.
use Rattle.std.proofs.Common.{◌≡◌, Bool, true, false, Option, Some, None, if◌then◌else◌, refl, ap, ◌∙◌}
use Rattle.std.specs.Prelude.{option_map, option_and_then}
use Rattle.desugaring.specs.Parts.{both, all_three}
use Rattle.desugaring.specs.Values.{Value, as_term}
use Rattle.desugaring.specs.Expressions.{term_in}
use Rattle.query_laws.specs.Sight.{Follows}

pub itself : {X : Type 0} (o : Option X) → Follows o o
itself o x e = e

pub map_follows : {X Y : Type 0} (f : X → Y) (o p : Option X) → Follows o p → Follows (option_map f o) (option_map f p)
map_follows f None p g y e = absurd cc
map_follows f (Some x) p g y e = ap (option_map f) (g x refl) ∙ e

pub both_follows : {X Y Z : Type 0} (f : X → Y → Z) (a b : Option X) (c d : Option Y) → Follows a b → Follows c d
    → Follows (both f a c) (both f b d)
both_follows f None b c d g h z e = absurd cc
both_follows f (Some x) b None d g h z e = absurd cc
both_follows f (Some x) b (Some y) d g h z e = ap (λ o. both f o d) (g x refl) ∙ ap (both f (Some x)) (h y refl) ∙ e

pub three_follow : {W X Y Z : Type 0} (f : W → X → Y → Z) (o : Option W) (a b : Option X) (c d : Option Y) → Follows a b
    → Follows c d
    → Follows (all_three f o a c) (all_three f o b d)
three_follow f o a b c d g h =
    both_follows (λ make last. make last) (both f o a) (both f o b) c d (both_follows f o o a b (itself o) g) h

pub then_follows : {X Y : Type 0} (f h : X → Option Y) (o p : Option X) → ((x : X) → o ≡ Some x → Follows (f x) (h x))
    → Follows o p
    → Follows (option_and_then f o) (option_and_then h p)
then_follows f h None p more g y e = absurd cc
then_follows f h (Some x) p more g y e = ap (option_and_then h) (g x refl) ∙ more x refl y e

pub term_follows : (o p : Option Value) → Follows o p → Follows (term_in o) (term_in p)
term_follows o p g = then_follows as_term as_term o p (λ x is. itself (as_term x)) g

pub if_follows : {X : Type 0} (t : Bool) (a b c d : Option X) → Follows a b → Follows c d
    → Follows (if t then a else c) (if t then b else d)
if_follows true a b c d g h = g
if_follows false a b c d g h = h
