-- Rows of numbers to which one comes.
use Rattle.std.proofs.Common.{◌≡◌, ℕ, zero, suc, ◌+◌, ◌-◌, ◌<◌, Bool, true, false, cond, List, [], ◌∷◌, ◌++◌, length, Option, Some, None, refl, sym, ap, ◌∙◌, arith, true≢false, ◌⊎◌, inl, inr}
use Rattle.std.specs.Prelude.{flat_map, nat_eq, slice_get, slice_set}
use Rattle.std.specs.Option.{option_and_then, option_map_or}
use Rattle.std.proofs.lemmas.Bool.{and_right, cases_eq, eq-eqb, eqb-true, ne_eqb}
use Rattle.std.proofs.lemmas.Option.{slice_get_within}
use Rattle.type_rules.specs.declared.kind.Kind.{Kind}
use Rattle.type_rules.specs.declared.kind.Base.{Base}
use Rattle.type_rules.specs.declared.kind.Base.TheVariants as base
use Rattle.type_rules.specs.Names.{Names}
use Rattle.type_rules.specs.Kinds.{plain_kind}
use Rattle.desugaring.specs.Appearances.{same_kind}
use Rattle.desugaring.specs.Tables.{cons_of}
use Rattle.text_kinds.specs.Numbered.{has_kind, numbered}
use Rattle.text_kinds.specs.declared.numbers.Numbers.{Numbers}
use Rattle.text_kinds.specs.means.Rows.{AreRows, IsReady, are_there, declared_parts, found_in, is_next, maybe_at, numbers, numbers_in, own_at, place_of, with_row}
use Rattle.text_kinds.proofs.KindsAdded.{kind_one, kind_self, not_last, place_one, there_push}
use Rattle.text_kinds.proofs.NumbersFound.{numbers_new, numbers_other}

-- # Places of lists

set_here : {X : Type 0} (xs : List X) (i : ℕ) (v : X) → i < length xs → slice_get (slice_set xs i v) i ≡ Some v
set_here [] i v h = absurd (omega arith)
set_here (x ∷ xs) zero v h = refl
set_here (x ∷ xs) (suc i) v h = set_here xs i v (omega arith)

set_other : {X : Type 0} (xs : List X) (i j : ℕ) (v : X) → (i ≡ j → ⊥) → slice_get (slice_set xs i v) j ≡ slice_get xs j
set_other [] i j v h = refl
set_other (x ∷ xs) zero zero v h = absurd (h refl)
set_other (x ∷ xs) zero (suc j) v h = refl
set_other (x ∷ xs) (suc i) zero v h = refl
set_other (x ∷ xs) (suc i) (suc j) v h = set_other xs i j v (λ e. h (ap suc e))

last_here : {X : Type 0} (xs : List X) (v : X) (i : ℕ) → length xs ≡ i → slice_get (xs ++ v ∷ []) i ≡ Some v
last_here [] v zero e = refl
last_here [] v (suc i) e = absurd (omega arith)
last_here (x ∷ xs) v zero e = absurd (omega arith)
last_here (x ∷ xs) v (suc i) e = last_here xs v i (omega arith)

last_other : {X : Type 0} (xs : List X) (v : X) (i : ℕ) → (length xs ≡ i → ⊥) → slice_get (xs ++ v ∷ []) i ≡ slice_get xs i
last_other [] v zero h = absurd (h refl)
last_other [] v (suc i) h = refl
last_other (x ∷ xs) v zero h = refl
last_other (x ∷ xs) v (suc i) h = last_other xs v i (λ e. h (ap suc e))

-- # No numbers yet

pub own_none : (own : List (Option Numbers)) → ((place : ℕ) → own_at own place ≡ None) → (place : ℕ)
    → own_at (own ++ None ∷ []) place ≡ None
own_none own none place = by (cases_eq (length own) place)
  where
    by : (length own ≡ place) ⊎ (length own ≡ place → ⊥) → own_at (own ++ None ∷ []) place ≡ None
    by (inl e) = ap (option_and_then (λ o. o)) (last_here own None place e)
    by (inr other) = ap (option_and_then (λ o. o)) (last_other own None place other) ∙ none place

pub maybes_none : (rows : List (List Numbers)) → ((place many : ℕ) → maybe_at rows place many ≡ None)
    → (place many : ℕ) → maybe_at (rows ++ [] ∷ []) place many ≡ None
maybes_none rows none place many = by (cases_eq (length rows) place)
  where
    by : (length rows ≡ place) ⊎ (length rows ≡ place → ⊥) → maybe_at (rows ++ [] ∷ []) place many ≡ None
    by (inl e) = ap (option_and_then (λ (row : List Numbers). slice_get row many)) (last_here rows [] place e)
    by (inr other) = ap (option_and_then (λ (row : List Numbers). slice_get row many)) (last_other rows [] place other)
        ∙ none place many

pub rows_none : (n : Names) (own : List (Option Numbers)) (maybes : List (List Numbers))
    → ((place : ℕ) → own_at own place ≡ None) → ((place many : ℕ) → maybe_at maybes place many ≡ None)
    → AreRows n [] 0 own maybes
rows_none n own maybes no_own no_maybes = record {
  found = λ b many place e. by (nat_eq many 0) place many;
  cons_are = refl;
  whole = λ type e. absurd (true≢false (sym e));
}
  where
    by : (t : Bool) (place many : ℕ) → cond t (own_at own place) (maybe_at maybes place (many - 1)) ≡ None
    by true place many = no_own place
    by false place many = no_maybes place (many - 1)

-- # One more

-- the new one is found, and the others where they were
found_more : (n : Names) (kinds : List Kind) (k : Kind) (x : Numbers) (o : Option Numbers) (b : Base) (many : ℕ)
    → has_kind kinds k ≡ false → x ≡ numbers (length kinds) (length (flat_map (cons_of n) kinds))
    → (same_kind (record { base = b; maybes = many }) k ≡ true → o ≡ Some x)
    → (same_kind (record { base = b; maybes = many }) k ≡ false → o ≡ numbers_in n 0 0 kinds
    (record { base = b; maybes = many }))
    → o ≡ numbers_in n 0 0 (kinds ++ k ∷ []) (record { base = b; maybes = many })
found_more n kinds k x o b many none at here there = by (same_kind j k) refl
  where
    j : Kind
    j = record { base = b; maybes = many }

    by : (t : Bool) → same_kind (record { base = b; maybes = many }) k ≡ t → o ≡ numbers_in n 0 0 (kinds ++ k ∷ [])
        (record { base = b; maybes = many })
    by true e =
        here e ∙ ap Some (at ∙ ap (λ m. numbers m (length (flat_map (cons_of n) kinds))) (omega arith)
        ∙ ap (λ m. numbers (0 + length kinds) m) (omega arith))
        ∙ sym (numbers_new n 0 0 kinds k (record { base = b; maybes = many })
        (ap (has_kind kinds) (kind_one (record { base = b; maybes = many }) k e) ∙ none) e)
    by false e = there e ∙ sym (numbers_other n 0 0 kinds k (record { base = b; maybes = many }) e)

pub rows_own : (n : Names) (kinds : List Kind) (cons more : ℕ) (own : List (Option Numbers)) (maybes : List (List Numbers))
    (b : Base) (place : ℕ) (x : Numbers)
    → AreRows n kinds cons own maybes → place_of b ≡ Some place → place < length own → has_kind kinds (plain_kind b) ≡ false
    → IsReady (numbered n kinds) b → x ≡ numbers (length kinds) (length (flat_map (cons_of n) kinds))
    → more ≡ length (flat_map (cons_of n) (kinds ++ plain_kind b ∷ []))
    → AreRows n (kinds ++ plain_kind b ∷ []) more (slice_set own place (Some x)) maybes
rows_own n kinds cons more own maybes b place x rows at within none ready next sum = record {
  found = λ c many q e. found_more n kinds (plain_kind b) x (found_in (slice_set own place (Some x)) maybes q many) c many none
      next
      (here c many q e) (there c many q e);
  cons_are = sum;
  whole = λ type e. by_type (same_kind (plain_kind (base.Declared type)) (plain_kind b)) type refl e;
}
  where
    here : (c : Base) (many q : ℕ) → place_of c ≡ Some q → same_kind (record { base = c; maybes = many }) (plain_kind b) ≡ true
        → found_in (slice_set own place (Some x)) maybes q many ≡ Some x
    here c many q e same =
        let one = kind_one (record { base = c; maybes = many }) (plain_kind b) same in
        let base_is : c ≡ b = ap (λ (k : Kind). k.base) one in
        let bare : many ≡ 0 = ap (λ (k : Kind). k.maybes) one in
        let place_is : q ≡ place = ap (λ o. option_map_or (λ y. y) o q) (sym e ∙ ap place_of base_is ∙ at) in
        ap (λ t. cond t (own_at (slice_set own place (Some x)) q) (maybe_at maybes q (many - 1))) (eq-eqb many 0 bare)
        ∙ ap (own_at (slice_set own place (Some x))) place_is
        ∙ ap (option_and_then (λ o. o)) (set_here own place (Some x) within)

    apart : (c : Base) (many q : ℕ) → place_of c ≡ Some q → nat_eq many 0 ≡ true
        → same_kind (record { base = c; maybes = many }) (plain_kind b) ≡ false → place ≡ q → ⊥
    apart c many q e bare other same =
        let base_is : c ≡ b = place_one c b place (e ∙ ap Some (sym same)) at in
        let bare_is : many ≡ 0 = eqb-true many 0 bare in
        true≢false (sym (ap (λ d. same_kind (record { base = d; maybes = many }) (plain_kind b)) base_is
        ∙ ap (λ m. same_kind (record { base = b; maybes = m }) (plain_kind b)) bare_is ∙ kind_self b 0 place at) ∙ other)

    there : (c : Base) (many q : ℕ) → place_of c ≡ Some q → same_kind (record { base = c; maybes = many }) (plain_kind b) ≡ false
        → found_in (slice_set own place (Some x)) maybes q many ≡ numbers_in n 0 0 kinds (record { base = c; maybes = many })
    there c many q e other = by (nat_eq many 0) refl ∙ rows.found c many q e
      where
        by : (t : Bool) → nat_eq many 0 ≡ t
            → cond t (own_at (slice_set own place (Some x)) q) (maybe_at maybes q (many - 1)) ≡ cond t (own_at own q)
            (maybe_at maybes q (many - 1))
        by true bare = ap (option_and_then (λ o. o)) (set_other own place q (Some x) (apart c many q e bare other))
        by false held = refl

    by_type : (t : Bool) (type : ℕ) → same_kind (plain_kind (base.Declared type)) (plain_kind b) ≡ t
        → has_kind (kinds ++ plain_kind b ∷ []) (plain_kind (base.Declared type)) ≡ true
        → are_there (kinds ++ plain_kind b ∷ []) (declared_parts n type) ≡ true
    by_type true type same e = ready type (sym (ap (λ (k : Kind). k.base)
        (kind_one (plain_kind (base.Declared type)) (plain_kind b) same)))
    by_type false type other e =
        there_push kinds (plain_kind b) (declared_parts n type)
        (rows.whole type (sym (not_last kinds (plain_kind b) (plain_kind (base.Declared type)) other) ∙ e))

pub rows_maybe : (n : Names) (kinds : List Kind) (cons more : ℕ) (own : List (Option Numbers)) (maybes : List (List Numbers))
    (b : Base) (held place : ℕ) (k : Kind) (x : Numbers)
    → AreRows n kinds cons own maybes → place_of b ≡ Some place → is_next maybes place held ≡ true → k
    ≡ record { base = b; maybes = held + 1 }
    → has_kind kinds k ≡ false → x ≡ numbers (length kinds) (length (flat_map (cons_of n) kinds))
    → more ≡ length (flat_map (cons_of n) (kinds ++ k ∷ []))
    → AreRows n (kinds ++ k ∷ []) more own (with_row maybes place x)
rows_maybe n kinds cons more own maybes b held place k x rows at next is none number sum =
    by_row (slice_get maybes place) refl next
  where
    by_row : (o : Option (List Numbers)) → slice_get maybes place ≡ o → option_map_or (λ row. nat_eq (length row) held) o false
        ≡ true
        → AreRows n (kinds ++ k ∷ []) more own (option_map_or (λ row. slice_set maybes place (row ++ x ∷ [])) o maybes)
    by_row None row long = absurd (true≢false (sym long))
    by_row (Some row) row_is long = record {
      found = λ c many q e. found_more n kinds k x (found_in own (slice_set maybes place (row ++ x ∷ [])) q many) c many none
          number
          (here c many q e) (there c many q e);
      cons_are = sum;
      whole = λ type e.
          there_push kinds k (declared_parts n type)
          (rows.whole type (sym (not_last kinds k (plain_kind (base.Declared type)) (bare type)) ∙ e));
    }
      where
        within : place < length maybes
        within = slice_get_within maybes place row row_is

        length_is : length row ≡ held
        length_is = eqb-true (length row) held long

        bare : (type : ℕ) → same_kind (plain_kind (base.Declared type)) k ≡ false
        bare type = ap (same_kind (plain_kind (base.Declared type))) is ∙ and_right _ _ (ne_eqb 0 (held + 1) (λ z. omega arith))

        here : (c : Base) (many q : ℕ) → place_of c ≡ Some q → same_kind (record { base = c; maybes = many }) k ≡ true
            → found_in own (slice_set maybes place (row ++ x ∷ [])) q many ≡ Some x
        here c many q e same =
            let one = kind_one (record { base = c; maybes = many }) k same ∙ is in
            let base_is : c ≡ b = ap (λ (k : Kind). k.base) one in
            let many_is : many ≡ held + 1 = ap (λ (k : Kind). k.maybes) one in
            let place_is : q ≡ place = ap (λ o. option_map_or (λ y. y) o q) (sym e ∙ ap place_of base_is ∙ at) in
            ap (λ t. cond t (own_at own q) (maybe_at (slice_set maybes place (row ++ x ∷ [])) q (many - 1)))
            (ne_eqb many 0 (λ z. omega arith))
            ∙ ap (λ q. maybe_at (slice_set maybes place (row ++ x ∷ [])) q (many - 1)) place_is
            ∙ ap (option_and_then (λ (row : List Numbers). slice_get row (many - 1)))
            (set_here maybes place (row ++ x ∷ []) within)
            ∙ last_here row x (many - 1) (omega (arith, length_is))

        above : (m : ℕ) → (m ≡ 0 → ⊥) → 0 < m
        above zero h = absurd (h refl)
        above (suc m) h = omega arith

        there : (c : Base) (many q : ℕ) → place_of c ≡ Some q → same_kind (record { base = c; maybes = many }) k ≡ false
            → found_in own (slice_set maybes place (row ++ x ∷ [])) q many ≡ numbers_in n 0 0 kinds
            (record { base = c; maybes = many })
        there c many q e other = by (nat_eq many 0) refl ∙ rows.found c many q e
          where
            apart : place ≡ q → nat_eq many 0 ≡ false → length row ≡ many - 1 → ⊥
            apart near some last =
                let base_is : c ≡ b = place_one c b place (e ∙ ap Some (sym near)) at in
                let more : many ≡ 0 → ⊥ = λ z. true≢false (sym (eq-eqb many 0 z) ∙ some) in
                let many_is : many ≡ held + 1 = omega (arith, above many more, length_is) in
                true≢false (sym (ap (same_kind (record { base = c; maybes = many })) is
                ∙ ap (λ d. same_kind (record { base = d; maybes = many }) (record { base = b; maybes = held + 1 })) base_is
                ∙ ap (λ m. same_kind (record { base = b; maybes = m }) (record { base = b; maybes = held + 1 })) many_is
                ∙ kind_self b (held + 1) place at) ∙ other)

            same_row : (place ≡ q) ⊎ (place ≡ q → ⊥) → nat_eq many 0 ≡ false
                → maybe_at (slice_set maybes place (row ++ x ∷ [])) q (many - 1) ≡ maybe_at maybes q (many - 1)
            same_row (inr far) held_is = ap (option_and_then (λ (row : List Numbers). slice_get row (many - 1)))
                (set_other maybes place q (row ++ x ∷ []) far)
            same_row (inl near) some =
                ap (λ q. maybe_at (slice_set maybes place (row ++ x ∷ [])) q (many - 1)) (sym near)
                ∙ ap (option_and_then (λ (row : List Numbers). slice_get row (many - 1)))
                (set_here maybes place (row ++ x ∷ []) within)
                ∙ last_other row x (many - 1) (apart near some)
                ∙ ap (option_and_then (λ (row : List Numbers). slice_get row (many - 1))) (sym row_is)
                ∙ ap (λ q. maybe_at maybes q (many - 1)) near

            by : (t : Bool) → nat_eq many 0 ≡ t
                → cond t (own_at own q) (maybe_at (slice_set maybes place (row ++ x ∷ [])) q (many - 1)) ≡ cond t (own_at own q)
                (maybe_at maybes q (many - 1))
            by true zero_is = refl
            by false some = same_row (cases_eq place q) some
