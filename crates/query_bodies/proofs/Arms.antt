-- What is made at an arm, from what its parts become.
use Rattle.std.proofs.Common.{◌≡◌, Option, Some, Ok, Err, Result, IfOk, option_map, sym, ap, ◌∙◌}
use Rattle.desugaring.specs.Parts.{both}

pub mapped_is : {X Z : Type 0} (node : X → Z) (whole : Option Z) (part : Option X) (x : X) (z : Z)
    → whole ≡ option_map node part → part ≡ Some x → z ≡ node x → whole ≡ Some z
mapped_is node whole part x z is found made = is ∙ ap (option_map node) found ∙ ap Some (sym made)

pub both_is : {X Y Z : Type 0} (node : X → Y → Z) (whole : Option Z) (left : Option X) (right : Option Y) (x : X) (y : Y)
    (z : Z)
    → whole ≡ both node left right → left ≡ Some x → right ≡ Some y → z ≡ node x y → whole ≡ Some z
both_is node whole left right x y z is first second made =
    is ∙ ap (λ o. both node o right) first ∙ ap (both node (Some x)) second ∙ ap Some (sym made)

pub leaf_is : {Z : Type 0} (whole : Option Z) (y z : Z) → whole ≡ Some y → z ≡ y → whole ≡ Some z
leaf_is whole y z is made = is ∙ ap Some (sym made)

pub then_ok : {X E : Type 0} (r : Result X E) (P Q : X → Type 0) → ((x : X) → P x → Q x) → IfOk r P → IfOk r Q
then_ok (Ok x) P Q then_ h = then_ x h
then_ok (Err e) P Q then_ h = h
