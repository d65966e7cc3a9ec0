-- Lists with tables of their names.
use Rattle.std.proofs.Common.{◌≡◌, ℕ, zero, suc, ◌+◌, true, List, [], ◌∷◌, ◌++◌, length, map, take, Option, Some, None, Result, Ok, Err, refl, sym, ap, ◌∙◌, subst, arith, true≢false}
use Rattle.std.specs.Prelude.{is_err, MatchOption, OnErr, OnOk}
use Rattle.std.specs.List.{slice_get}
use Rattle.std.specs.Option.{is_some, unwrap_or}
use Rattle.std.proofs.lemmas.List.{length-append, length-map, length-take-le, map-append, same_from_push}
use Rattle.std.proofs.lemmas.Option.{slice_get_within}
use Rattle.type_rules.specs.Names.{Name}
use Rattle.type_tables.specs.Tables.{Entries, IsIndexOf, number_in, with_first, without}
use Rattle.type_tables.proofs.Places.{indexed_pop, indexed_push}

map_more : {X Y : Type 0} (f : X → Y) (xs : List X) (n m : ℕ) (v : X) → m ≡ n + 1 → slice_get xs n ≡ Some v
    → map f (take m xs) ≡ map f (take n xs) ++ f v ∷ []
map_more f [] n m v e h = absurd (true≢false (sym (ap is_some h)))
map_more f (x ∷ xs) zero zero v e h = absurd (omega arith)
map_more f (x ∷ xs) zero (suc zero) v e h = ap (λ o. f (unwrap_or o x) ∷ []) h
map_more f (x ∷ xs) zero (suc (suc m)) v e h = absurd (omega arith)
map_more f (x ∷ xs) (suc n) zero v e h = absurd (omega arith)
map_more f (x ∷ xs) (suc n) (suc m) v e h = ap (λ ys. f x ∷ ys) (map_more f xs n m v (omega arith) h)

-- the next of the list gets the next number
pub indexed_more : {X : Type 0} (text : X → Name) (xs : List X) (n : ℕ) (v : X) (y : Name) (es after : Entries)
    → IsIndexOf es (map text (take n xs)) → slice_get xs n ≡ Some v → y ≡ text v
    → number_in after ≡ with_first (number_in es) y n → IsIndexOf after (map text (take (n + 1) xs))
indexed_more text xs n v y es after found h e given =
    let within = slice_get_within xs n v h in
    let long : n ≡ length (map text (take n xs)) =
    sym (length-map (take n xs) text ∙ length-take-le n xs (omega arith)) in
    subst (IsIndexOf after) (ap (λ y. map text (take n xs) ++ y ∷ []) e ∙ sym (map_more text xs n (n + 1) v refl h))
    (indexed_push (map text (take n xs)) y es after n found long given)

-- one more at the end of the list
pub indexed_one : {X : Type 0} (text : X → Name) (xs : List X) (v : X) (n : ℕ) (es after : Entries) → IsIndexOf es (map text xs)
    → n ≡ length xs → number_in after ≡ with_first (number_in es) (text v) n → IsIndexOf after (map text (xs ++ v ∷ []))
indexed_one text xs v n es after found e given =
    subst (IsIndexOf after) (sym (map-append text xs (v ∷ [])))
    (indexed_push (map text xs) (text v) es after n found (e ∙ sym (length-map xs text)) given)

pub failed : {X E P : Type 0} (r : Result X E) → true ≡ is_err r → OnErr r P → P
failed (Ok x) h p = absurd (true≢false h)
failed (Err e) h p = p

-- one more at the end, or as it was
pub indexed_or_not : {X U E : Type 0} (text : X → Name) (r : Result U E) (xs xs' : List X) (v : X) (es after : Entries)
    → OnOk r (xs' ≡ xs ++ v ∷ []) → OnOk r (number_in after ≡ with_first (number_in es) (text v) (length xs))
    → OnErr r (xs' ≡ xs) → OnErr r (after ≡ es) → IsIndexOf es (map text xs) → IsIndexOf after (map text xs')
indexed_or_not text (Ok u) xs xs' v es after pushed given left kept found =
    subst (λ ys. IsIndexOf after (map text ys)) (sym pushed) (indexed_one text xs v (length xs) es after found refl given)
indexed_or_not text (Err e) xs xs' v es after pushed given left kept found =
    subst (λ ys. IsIndexOf after (map text ys)) (sym left) (subst (λ es. IsIndexOf es (map text xs)) (sym kept) found)

-- what was pushed is taken back
pub pushed_back : {X : Type 0} (xs pushed popped : List X) (v : X) (r : Option X) → pushed ≡ xs ++ v ∷ []
    → MatchOption r ((pushed ≡ []) × (popped ≡ [])) (λ last. pushed ≡ popped ++ last ∷ []) → popped ≡ xs
pushed_back xs pushed popped v None e none =
    absurd (let long = ap length (sym e ∙ none.0) in omega (arith, length-append xs (v ∷ []), long))
pushed_back xs pushed popped v (Some last) e there = (same_from_push popped xs last v (sym there ∙ e)).0

-- the table as it was before the last came
pub index_back : {X : Type 0} (text : X → Name) (xs : List X) (v : X) (es pushed back : Entries)
    → IsIndexOf es (map text xs) → number_in pushed ≡ with_first (number_in es) (text v) (length xs)
    → number_in back ≡ without (number_in pushed) (text v) (length xs) → IsIndexOf back (map text xs)
index_back text xs v es pushed back found given taken =
    indexed_pop (map text xs) (text v) pushed back (length xs)
    (indexed_push (map text xs) (text v) es pushed (length xs) found (sym (length-map xs text)) given)
    (sym (length-map xs text)) taken
