-- The calls of transactions as lists, while calls come.
use Rattle.std.proofs.Common.{◌≡◌, ℕ, zero, suc, ◌+◌, ◌<◌, ◌≤◌, Bool, true, false, ◌&&◌, ◌||◌, nat_eq, refl, sym, ap, ◌∙◌, arith, List, [], ◌∷◌, ◌++◌, length, get_or, Option, Some, None, slice_get, inl, inr, ◌⊎◌}
use Rattle.std.specs.Prelude.{All, max, slice_set, if◌then◌else◌}
use Rattle.std.specs.List.{list_any}
use Rattle.std.specs.Option.{option_map_or}
use Rattle.std.proofs.lemmas.Bool.{cases_eq, cases_lt, eq-eqb, ne_eqb, true≢false, or_from, or_left, or_right}
use Rattle.std.proofs.lemmas.List.{length_push}
use Rattle.std.proofs.lemmas.List.Folds.{list_any-append}
use Rattle.std.proofs.lemmas.Option.{slice_get_past, slice_get_within}
use Rattle.crdt_defs.specs.Calls.{Call}
use Rattle.crdt_defs.specs.Histories.{IsHistory, call_is, meets}
use Rattle.event_machine.specs.Machine.{is_in, own_calls}
use Rattle.machine_tests.specs.means.Indexed.{IsIndexed, listed_at, with_number}

-- # Lists by number

at_here : (lists : List (List ℕ)) (place : ℕ) (list : List ℕ) → place < length lists → listed_at (slice_set lists place list) place ≡ list
at_here [] place list lt = absurd (omega arith)
at_here (x ∷ xs) zero list lt = refl
at_here (x ∷ xs) (suc place) list lt = at_here xs place list (omega arith)

at_other : (lists : List (List ℕ)) (place n : ℕ) (list : List ℕ) → (place ≡ n → ⊥) → listed_at (slice_set lists place list) n ≡ listed_at lists n
at_other [] place n list other = refl
at_other (x ∷ xs) zero zero list other = absurd (other refl)
at_other (x ∷ xs) zero (suc n) list other = refl
at_other (x ∷ xs) (suc place) zero list other = refl
at_other (x ∷ xs) (suc place) (suc n) list other = at_other xs place n list (λ e. other (ap suc e))

pub at_set : (lists : List (List ℕ)) (place n : ℕ) (list : List ℕ) → place < length lists → listed_at (slice_set lists place list) n ≡ (if nat_eq place n then list else listed_at lists n)
at_set lists place n list lt = by (cases_eq place n)
  where
    by : (place ≡ n) ⊎ (place ≡ n → ⊥) → listed_at (slice_set lists place list) n ≡ (if nat_eq place n then list else listed_at lists n)
    by (inl e) = ap (listed_at (slice_set lists place list)) (sym e) ∙ at_here lists place list lt ∙ sym (ap (λ b. if b then list else listed_at lists n) (eq-eqb place n e))
    by (inr other) = at_other lists place n list other ∙ sym (ap (λ b. if b then list else listed_at lists n) (ne_eqb place n other))

pub at_grown : (lists : List (List ℕ)) (n : ℕ) → listed_at (lists ++ [] ∷ []) n ≡ listed_at lists n
at_grown [] zero = refl
at_grown [] (suc n) = refl
at_grown (x ∷ xs) zero = refl
at_grown (x ∷ xs) (suc n) = at_grown xs n

pub at_place : (lists : List (List ℕ)) (place : ℕ) → place < length lists → slice_get lists place ≡ Some (listed_at lists place)
at_place [] place lt = absurd (omega arith)
at_place (x ∷ xs) zero lt = refl
at_place (x ∷ xs) (suc place) lt = at_place xs place (omega arith)

-- x comes to the list at the place
pub noted : (lists : List (List ℕ)) (before : ℕ → List ℕ) (place x : ℕ) → place < length lists → ((n : ℕ) → listed_at lists n ≡ before n)
    → (n : ℕ) → listed_at (slice_set lists place (listed_at lists place ++ x ∷ [])) n ≡ with_number before place x n
noted lists before place x lt same n =
    at_set lists place n (listed_at lists place ++ x ∷ []) lt ∙ by (cases_eq place n)
  where
    by : (place ≡ n) ⊎ (place ≡ n → ⊥) → (if nat_eq place n then listed_at lists place ++ x ∷ [] else listed_at lists n) ≡ with_number before place x n
    by (inl e) = ap (λ m. if nat_eq place n then listed_at lists m ++ x ∷ [] else listed_at lists n) e ∙ ap (λ xs. if nat_eq place n then xs ++ x ∷ [] else xs) (same n)
    by (inr other) = ap (λ b. if b then listed_at lists place ++ x ∷ [] else listed_at lists n) (ne_eqb place n other) ∙ same n ∙ sym (ap (λ b. if b then before n ++ x ∷ [] else before n) (ne_eqb place n other))

-- it is taken away again
pub taken_back : (lists : List (List ℕ)) (before : ℕ → List ℕ) (place x : ℕ) → place < length lists → ((n : ℕ) → listed_at lists n ≡ with_number before place x n)
    → (n : ℕ) → listed_at (slice_set lists place (before place)) n ≡ before n
taken_back lists before place x lt old n =
    at_set lists place n (before place) lt ∙ by (cases_eq place n)
  where
    by : (place ≡ n) ⊎ (place ≡ n → ⊥) → (if nat_eq place n then before place else listed_at lists n) ≡ before n
    by (inl e) = ap (λ b. if b then before place else listed_at lists n) (eq-eqb place n e) ∙ ap before e
    by (inr other) = ap (λ b. if b then before place else listed_at lists n) (ne_eqb place n other) ∙ old n ∙ ap (λ b. if b then before n ++ x ∷ [] else before n) (ne_eqb place n other)

pub noted_here : (lists : List (List ℕ)) (before : ℕ → List ℕ) (place x : ℕ) → ((n : ℕ) → listed_at lists n ≡ with_number before place x n) → listed_at lists place ≡ before place ++ x ∷ []
noted_here lists before place x old = old place ∙ ap (λ b. if b then before place ++ x ∷ [] else before place) (eq-eqb place place refl)

pub not_there : (lists : List (List ℕ)) (place : ℕ) (front : List ℕ) (x : ℕ) → length lists ≤ place → listed_at lists place ≡ front ++ x ∷ [] → ⊥
not_there lists place front x past at =
    let none : listed_at lists place ≡ [] = ap (λ o. option_map_or (λ list. list) o []) (slice_get_past lists place past) in
    let same = ap length (sym none ∙ at) in
    let more = length_push front x in
    omega (arith, same, more)

-- # Calls

front : {X : Type 0} (xs : List X) (y : X) (i : ℕ) → i < length xs → slice_get (xs ++ y ∷ []) i ≡ slice_get xs i
front [] y i lt = absurd (omega arith)
front (x ∷ xs) y zero lt = refl
front (x ∷ xs) y (suc i) lt = front xs y i (omega arith)

end : {X : Type 0} (xs : List X) (y : X) → slice_get (xs ++ y ∷ []) (length xs) ≡ Some y
end [] y = refl
end (x ∷ xs) y = end xs y

or_none : (b : Bool) → b ≡ (b || false)
or_none true = refl
or_none false = refl

call_more : (test : Call → Bool) (calls : List Call) (call : Call) (n : ℕ) → call_is (calls ++ call ∷ []) test n ≡ (call_is calls test n || (nat_eq (length calls) n && test call))
call_more test calls call n = by (cases_eq (length calls) n)
  where
    past : (length calls ≡ n → ⊥) → (n < length calls) ⊎ (length calls ≤ n) → call_is (calls ++ call ∷ []) test n ≡ call_is calls test n
    past other (inl lt) = ap (meets test) (front calls call n lt)
    past other (inr le) =
        let more : length (calls ++ call ∷ []) ≡ length calls + 1 = length_push calls call in
        ap (meets test) (slice_get_past (calls ++ call ∷ []) n (omega (arith, more, other)) ∙ sym (slice_get_past calls n le))

    by : (length calls ≡ n) ⊎ (length calls ≡ n → ⊥) → call_is (calls ++ call ∷ []) test n ≡ (call_is calls test n || (nat_eq (length calls) n && test call))
    by (inl e) =
        ap (meets test) (ap (slice_get (calls ++ call ∷ [])) (sym e) ∙ end calls call)
        ∙ sym (ap (λ b. b || (nat_eq (length calls) n && test call)) (ap (meets test) (slice_get_past calls n (omega (arith, e)))) ∙ ap (λ b. b && test call) (eq-eqb (length calls) n e))
    by (inr other) =
        past other (cases_lt n (length calls))
        ∙ or_none (call_is calls test n)
        ∙ sym (ap (λ b. call_is calls test n || (b && test call)) (ne_eqb (length calls) n other))

-- # The index

pub indexed_none : IsIndexed [] [] 0
indexed_none = record { each = λ tx n. refl; stamps = λ stamp lt. refl }

pub indexed_same : (calls : List Call) (old new : List (List ℕ)) (top : ℕ) → ((n : ℕ) → listed_at new n ≡ listed_at old n) → IsIndexed calls old top → IsIndexed calls new top
indexed_same calls old new top same h = record { each = λ tx n. ap (λ xs. is_in xs n) (same tx) ∙ h.each tx n; stamps = h.stamps }

or_last : (a b : Bool) → (a || (b || false)) ≡ (a || (b && true))
or_last true b = refl
or_last false true = refl
or_last false false = refl

or_left_out : (a b : Bool) → a ≡ (a || (b && false))
or_left_out true b = refl
or_left_out false true = refl
or_left_out false false = refl

own_more : (calls : List Call) (call : Call) (c : ℕ) (list : List ℕ) (tx n : ℕ) → c ≡ length calls → is_in list n ≡ own_calls calls (Some tx) n → (call.tx ≡ tx) ⊎ (call.tx ≡ tx → ⊥)
    → is_in (if nat_eq call.tx tx then list ++ c ∷ [] else list) n ≡ own_calls (calls ++ call ∷ []) (Some tx) n
own_more calls call c list tx n count is (inl e) =
    ap (λ b. is_in (if b then list ++ c ∷ [] else list) n) (eq-eqb call.tx tx e)
    ∙ list_any-append (λ m. nat_eq m n) list (c ∷ [])
    ∙ ap (λ b. b || (nat_eq c n || false)) is
    ∙ ap (λ k. own_calls calls (Some tx) n || (nat_eq k n || false)) count
    ∙ or_last (own_calls calls (Some tx) n) (nat_eq (length calls) n)
    ∙ sym (ap (λ b. own_calls calls (Some tx) n || (nat_eq (length calls) n && b)) (eq-eqb call.tx tx e))
    ∙ sym (call_more (λ call. nat_eq call.tx tx) calls call n)
own_more calls call c list tx n count is (inr other) =
    ap (λ b. is_in (if b then list ++ c ∷ [] else list) n) (ne_eqb call.tx tx other)
    ∙ is
    ∙ or_left_out (own_calls calls (Some tx) n) (nat_eq (length calls) n)
    ∙ sym (ap (λ b. own_calls calls (Some tx) n || (nat_eq (length calls) n && b)) (ne_eqb call.tx tx other))
    ∙ sym (call_more (λ call. nat_eq call.tx tx) calls call n)

pub indexed_more : (calls : List Call) (call : Call) (c : ℕ) (old new : List (List ℕ)) (top : ℕ) → c ≡ length calls → ((n : ℕ) → listed_at new n ≡ with_number (listed_at old) call.tx c n) → IsIndexed calls old top → IsIndexed (calls ++ call ∷ []) new (max top call.stamp)
indexed_more calls call c old new top count more h = record {
  each = λ tx n. ap (λ xs. is_in xs n) (more tx) ∙ own_more calls call c (listed_at old tx) tx n count (h.each tx n) (cases_eq call.tx tx);
  stamps = λ stamp lt.
      list_any-append (λ call. nat_eq call.stamp stamp) calls (call ∷ [])
      ∙ or_from (list_any (λ call. nat_eq call.stamp stamp) calls) (nat_eq call.stamp stamp || false) (h.stamps stamp (omega arith))
      (or_from (nat_eq call.stamp stamp) false (ne_eqb call.stamp stamp (λ e. absurd (omega (arith, e)))) refl);
}

-- # Numbers that are listed

in_at : (xs : List ℕ) (k d : ℕ) → k < length xs → is_in xs (get_or xs k d) ≡ true
in_at [] k d lt = absurd (omega arith)
in_at (x ∷ xs) zero d lt = or_left (nat_eq x x) (is_in xs x) (eq-eqb x x refl)
in_at (x ∷ xs) (suc k) d lt = or_right (nat_eq x (get_or xs k d)) (is_in xs (get_or xs k d)) (in_at xs k d (omega arith))

own_within : (calls : List Call) (tx n : ℕ) → own_calls calls (Some tx) n ≡ true → n < length calls
own_within calls tx n own = by (slice_get calls n) refl
  where
    by : (o : Option Call) → slice_get calls n ≡ o → n < length calls
    by None e = absurd (true≢false (sym own ∙ ap (meets (λ call. nat_eq call.tx tx)) e))
    by (Some call) e = slice_get_within calls n call e

pub indexed_below : (calls : List Call) (lists : List (List ℕ)) (tx top : ℕ) → IsHistory calls → IsIndexed calls lists top → All (λ n. n < 16384) (listed_at lists tx)
indexed_below calls lists tx top history h = λ k d lt.
    let own : own_calls calls (Some tx) (get_or (listed_at lists tx) k d) ≡ true = sym (h.each tx (get_or (listed_at lists tx) k d)) ∙ in_at (listed_at lists tx) k d lt in
    let within : get_or (listed_at lists tx) k d < length calls = own_within calls tx (get_or (listed_at lists tx) k d) own in
    let few : length calls ≤ 16384 = history.few in
    omega arith
