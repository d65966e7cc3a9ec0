-- Datatypes that come one after the other are each there once.
use Rattle.std.proofs.Common.{◌≡◌, Bool, true, false, not, ◌&&◌, ◌||◌, cond, List, [], ◌∷◌, ◌++◌, refl, sym, ap, subst, ◌∙◌}
use Rattle.std.specs.List.{filter}
use Rattle.std.proofs.lemmas.Bool.{false_from_ne_true, true≢false}
use Rattle.std.proofs.lemmas.List.{append-nil, append_assoc}
use Rattle.type_rules.specs.declared.kind.Kind.{Kind}
use Rattle.desugaring.specs.Appearances.{each_once, same_kind}
use Rattle.text_kinds.specs.Numbered.{has_kind, with_each}
use Rattle.text_kinds.proofs.KindsAdded.{kind_one}

turned : (a b : Kind) → same_kind a b ≡ same_kind b a
turned a b = by (same_kind a b) refl
  where
    by : (t : Bool) → same_kind a b ≡ t → t ≡ same_kind b a
    by true e =
        let same = kind_one a b e in
        sym (subst (λ x. same_kind b x ≡ true) (sym same) (subst (λ x. same_kind x b ≡ true) same e))
    by false e =
        sym (false_from_ne_true (same_kind b a) (λ h.
        let same = kind_one b a h in
        true≢false (sym (subst (λ x. same_kind x b ≡ true) same (subst (λ x. same_kind b x ≡ true) (sym same) h)) ∙ e)))

filter_same : (p q : Kind → Bool) (zs : List Kind) → ((z : Kind) → p z ≡ q z) → filter p zs ≡ filter q zs
filter_same p q [] h = refl
filter_same p q (z ∷ zs) h =
    ap (λ b. cond b (z ∷ filter p zs) (filter p zs)) (h z) ∙ ap (λ rest. cond (q z) (z ∷ rest) rest) (filter_same p q zs h)

filter_both : (p q : Kind → Bool) (zs : List Kind) → filter p (filter q zs) ≡ filter (λ z. q z && p z) zs
filter_both p q [] = refl
filter_both p q (z ∷ zs) = by (q z) (filter_both p q zs)
  where
    by : (b : Bool) → filter p (filter q zs) ≡ filter (λ z. q z && p z) zs
        → filter p (cond b (z ∷ filter q zs) (filter q zs)) ≡ cond (b && p z) (z ∷ filter (λ z. q z && p z) zs)
        (filter (λ z. q z && p z) zs)
    by true later = ap (λ rest. cond (p z) (z ∷ rest) rest) later
    by false later = later

abbrev absent : List Kind → Kind → Bool
absent xs z = not (has_kind xs z)

abbrev another : Kind → Kind → Bool
another y z = not (same_kind y z)

-- one that is there takes nothing more out
there_too : (xs : List Kind) (y z : Kind) → has_kind xs y ≡ true → (another y z && absent xs z) ≡ absent xs z
there_too xs y z there = by (same_kind y z) refl
  where
    by : (b : Bool) → same_kind y z ≡ b → (not b && absent xs z) ≡ absent xs z
    by false e = refl
    by true e = sym (ap not (subst (λ x. has_kind xs x ≡ true) (kind_one y z e) there))

has_more : (xs : List Kind) (y z : Kind) → has_kind (xs ++ y ∷ []) z ≡ (has_kind xs z || same_kind z y)
has_more [] y z = by (same_kind z y)
  where
    by : (b : Bool) → (b || false) ≡ b
    by true = refl
    by false = refl
has_more (x ∷ xs) y z = by (same_kind z x) (has_more xs y z)
  where
    by : (b : Bool) → has_kind (xs ++ y ∷ []) z ≡ (has_kind xs z || same_kind z y)
        → (b || has_kind (xs ++ y ∷ []) z) ≡ ((b || has_kind xs z) || same_kind z y)
    by true later = refl
    by false later = later

absent_more : (xs : List Kind) (y z : Kind) → absent (xs ++ y ∷ []) z ≡ (another y z && absent xs z)
absent_more xs y z =
    ap not (has_more xs y z ∙ ap (λ b. has_kind xs z || b) (turned z y)) ∙ by (has_kind xs z) (same_kind y z)
  where
    by : (a b : Bool) → not (a || b) ≡ (not b && not a)
    by true true = refl
    by true false = refl
    by false true = refl
    by false false = refl

each_is : (ys xs : List Kind) → with_each xs ys ≡ xs ++ filter (absent xs) (each_once ys)
each_is [] xs = sym (append-nil xs)
each_is (y ∷ ys) xs = by (has_kind xs y) (each_is ys) refl
  where
    by : (b : Bool) → ((xs : List Kind) → with_each xs ys ≡ xs ++ filter (absent xs) (each_once ys)) → has_kind xs y ≡ b
        → with_each (cond b xs (xs ++ y ∷ [])) ys
        ≡ xs ++ cond (not b) (y ∷ filter (absent xs) (filter (another y) (each_once ys)))
        (filter (absent xs) (filter (another y) (each_once ys)))
    by true later e =
        later xs
        ∙ ap (λ rest. xs ++ rest)
        (sym (filter_both (absent xs) (another y) (each_once ys)
        ∙ filter_same (λ z. another y z && absent xs z) (absent xs) (each_once ys) (λ z. there_too xs y z e)))
    by false later e =
        later (xs ++ y ∷ [])
        ∙ append_assoc xs (y ∷ []) (filter (absent (xs ++ y ∷ [])) (each_once ys))
        ∙ ap (λ rest. xs ++ y ∷ rest)
        (filter_same (absent (xs ++ y ∷ [])) (λ z. another y z && absent xs z) (each_once ys) (absent_more xs y)
        ∙ sym (filter_both (absent xs) (another y) (each_once ys)))

-- behind a first one
pub each_first : (k : Kind) (ks : List Kind) → with_each (k ∷ []) ks ≡ each_once (k ∷ ks)
each_first k ks =
    each_is ks (k ∷ [])
    ∙ ap (λ rest. k ∷ rest) (filter_same (absent (k ∷ [])) (another k) (each_once ks)
    (λ z. ap not (either (same_kind z k) ∙ turned z k)))
  where
    either : (b : Bool) → (b || false) ≡ b
    either true = refl
    either false = refl
