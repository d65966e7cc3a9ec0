-- Tables find the first of each name.
use Rattle.std.proofs.Common.{◌≡◌, ℕ, zero, suc, ◌+◌, ◌<◌, Bool, true, false, List, [], ◌∷◌, ◌++◌, length, map, take, Option, Some, None, refl, sym, ap, ap₂, ◌∙◌, subst, arith}
use Rattle.std.specs.Prelude.{◌==◌, ◌&&◌, cond, if◌then◌else◌}
use Rattle.std.specs.List.{position_from, slice_get, slice_set}
use Rattle.std.specs.Option.{option_or, is_some}
use Rattle.std.proofs.lemmas.Bool.{eqb-true, eqb-false}
use Rattle.std.proofs.lemmas.List.{length-map, length-take-le, map-append}
use Rattle.std.proofs.lemmas.List.{get_or-set_other}
use Rattle.std.proofs.lemmas.Grind.{get_or-set_at}
use Rattle.std.proofs.lemmas.Option.{slice_get_within}
use Rattle.rp_value.specs.declared.tables.ConDecl.{ConDecl}
use Rattle.type_rules.specs.Names.{Name, same_name}
use Rattle.type_tables.specs.Tables.{Entries, Table, number_in, with_first}
use Rattle.type_tables.proofs.Places.{first_at, same}
use Rattle.program_names.specs.Called.{con_is_called, con_makes}
use Rattle.program_names.specs.means.Found.{Finds, FindsMade, table_of}

-- # Options

some_is : {X : Type 0} (x y : X) → Some x ≡ Some y → x ≡ y
some_is x y h = cc

none_some : {X : Type 0} (x : X) → None ≡ Some x → ⊥
none_some x h = cc

-- # One more at the end

or_none : (o : Option ℕ) → option_or o None ≡ o
or_none None = refl
or_none (Some k) = refl

or_some : (o : Option ℕ) (n : ℕ) → (if is_some o then o else Some n) ≡ option_or o (Some n)
or_some None n = refl
or_some (Some k) n = refl

same_either : (b : Bool) (o : Option ℕ) → (if b then o else o) ≡ o
same_either true o = refl
same_either false o = refl

-- the first of a name keeps its number
first_more : (t : Table) (y : Name) (n : ℕ) (x : Name) → with_first t y n x ≡ option_or (t x) (if same_name y x then Some n else None)
first_more t y n x = first_at t y n x ∙ by (same_name y x) refl
  where
    by : (b : Bool) → same_name y x ≡ b
        → (if is_some (t y) then t x else (if same_name y x then Some n else t x)) ≡ option_or (t x) (if same_name y x then Some n else None)
    by true h =
        ap (λ b. if is_some (t y) then t x else (if b then Some n else t x)) h
        ∙ ap (λ z. if is_some (t z) then t x else Some n) (same y x h)
        ∙ or_some (t x) n
        ∙ sym (ap (λ b. option_or (t x) (if b then Some n else None)) h)
    by false h =
        ap (λ b. if is_some (t y) then t x else (if b then Some n else t x)) h
        ∙ same_either (is_some (t y)) (t x)
        ∙ sym (or_none (t x))
        ∙ sym (ap (λ b. option_or (t x) (if b then Some n else None)) h)

position_push : {X : Type 0} (t : X → Bool) (k : ℕ) (xs : List X) (v : X)
    → position_from t k (xs ++ v ∷ []) ≡ option_or (position_from t k xs) (if t v then Some (k + length xs) else None)
position_push t k [] v = ap (λ n. if t v then Some n else None) (omega arith)
position_push t k (x ∷ xs) v = by (t x) (position_push t (k + 1) xs v ∙ ap (λ n. option_or (position_from t (k + 1) xs) (if t v then Some n else None)) (omega arith))
  where
    by : (b : Bool) → position_from t (k + 1) (xs ++ v ∷ []) ≡ option_or (position_from t (k + 1) xs) (if t v then Some (k + length (x ∷ xs)) else None)
        → cond b (Some k) (position_from t (k + 1) (xs ++ v ∷ [])) ≡ option_or (cond b (Some k) (position_from t (k + 1) xs)) (if t v then Some (k + length (x ∷ xs)) else None)
    by true later = refl
    by false later = later

pub found_push : {X : Type 0} (called : Name → X → Bool) (xs : List X) (v : X) (y : Name) (n : ℕ) (es after : Entries) → Finds called xs es → n ≡ length xs
    → ((x : Name) → called x v ≡ same_name y x) → number_in after ≡ with_first (number_in es) y n → Finds called (xs ++ v ∷ []) after
found_push called xs v y n es after found e is given x =
    ap (λ (t : Table). t x) given
    ∙ first_more (number_in es) y n x
    ∙ ap₂ (λ o b. option_or o (if b then Some n else None)) (found x) (sym (is x))
    ∙ ap (λ m. option_or (position_from (called x) 0 xs) (if called x v then Some m else None)) (e ∙ omega arith)
    ∙ sym (position_push (called x) 0 xs v)

-- one that isn't called so changes nothing
kept_push : {X : Type 0} (called : Name → X → Bool) (xs : List X) (v : X) (es after : Entries) → Finds called xs es
    → ((x : Name) → called x v ≡ false) → number_in after ≡ number_in es → Finds called (xs ++ v ∷ []) after
kept_push called xs v es after found isnt given x =
    ap (λ (t : Table). t x) given
    ∙ found x
    ∙ sym (or_none (position_from (called x) 0 xs))
    ∙ sym (ap (λ b. option_or (position_from (called x) 0 xs) (if b then Some (0 + length xs) else None)) (isnt x))
    ∙ sym (position_push (called x) 0 xs v)

-- # Along a list

take_one : {X : Type 0} (xs : List X) (n m : ℕ) (v : X) → m ≡ n + 1 → slice_get xs n ≡ Some v → take m xs ≡ take n xs ++ v ∷ []
take_one [] n m v e h = absurd (none_some v h)
take_one (x ∷ xs) zero zero v e h = absurd (omega arith)
take_one (x ∷ xs) zero (suc zero) v e h = ap (λ y. y ∷ []) (some_is x v h)
take_one (x ∷ xs) zero (suc (suc m)) v e h = absurd (omega arith)
take_one (x ∷ xs) (suc n) zero v e h = absurd (omega arith)
take_one (x ∷ xs) (suc n) (suc m) v e h = ap (λ ys. x ∷ ys) (take_one xs n m v (omega arith) h)

-- the next of the list gets the next number
pub found_next : {X : Type 0} (called : Name → X → Bool) (xs : List X) (n : ℕ) (v : X) (y : Name) (es after : Entries) → Finds called (take n xs) es
    → slice_get xs n ≡ Some v → ((x : Name) → called x v ≡ same_name y x) → number_in after ≡ with_first (number_in es) y n
    → Finds called (take (n + 1) xs) after
found_next called xs n v y es after found h is given =
    let within = slice_get_within xs n v h in
    let long : n ≡ length (take n xs) = sym (length-take-le n xs (omega arith)) in
    subst (λ ys. Finds called ys after) (sym (take_one xs n (n + 1) v refl h)) (found_push called (take n xs) v y n es after found long is given)

-- the same of what is seen of the list
pub found_next_seen : {X Y : Type 0} (called : Name → Y → Bool) (view : X → Y) (xs : List X) (n : ℕ) (v : X) (y : Name) (es after : Entries)
    → Finds called (map view (take n xs)) es → slice_get xs n ≡ Some v → ((x : Name) → called x (view v) ≡ same_name y x)
    → number_in after ≡ with_first (number_in es) y n → Finds called (map view (take (n + 1) xs)) after
found_next_seen called view xs n v y es after found h is given =
    let within = slice_get_within xs n v h in
    let long : n ≡ length (map view (take n xs)) = sym (length-map (take n xs) view ∙ length-take-le n xs (omega arith)) in
    let seen : map view (take (n + 1) xs) ≡ map view (take n xs) ++ view v ∷ [] = ap (map view) (take_one xs n (n + 1) v refl h) ∙ map-append view (take n xs) (v ∷ []) in
    subst (λ ys. Finds called ys after) (sym seen) (found_push called (map view (take n xs)) (view v) y n es after found long is given)

-- # Constructors by their datatypes

-- an empty table more
pub empty_more : (tables : List Entries) (d : ℕ) → table_of (tables ++ [] ∷ []) d ≡ table_of tables d
empty_more [] zero = refl
empty_more [] (suc d) = refl
empty_more (t ∷ tables) zero = refl
empty_more (t ∷ tables) (suc d) = empty_more tables d

-- a constructor is put into the table of its datatype alone
pub con_put : (con : ConDecl) (n : ℕ) (before tables after : List Entries) (table : Entries) → ((d : ℕ) → table_of tables d ≡ table_of before d)
    → con.of < length tables → after ≡ slice_set tables con.of table → number_in table ≡ with_first (number_in (table_of tables con.of)) con.name n → (d : ℕ)
    → number_in (table_of after d) ≡ (if con.of == d then with_first (number_in (table_of before d)) con.name n else number_in (table_of before d))
con_put con n before tables after table alike within put given d = ap (λ ts. number_in (table_of ts d)) put ∙ by (con.of == d) refl
  where
    by : (b : Bool) → (con.of == d) ≡ b
        → number_in (table_of (slice_set tables con.of table) d) ≡ (if con.of == d then with_first (number_in (table_of before d)) con.name n else number_in (table_of before d))
    by true h =
        let own : con.of ≡ d = eqb-true con.of d h in
        ap number_in (get_or-set_at tables con.of d table [] (sym own) within)
        ∙ given
        ∙ ap (λ k. with_first (number_in (table_of tables k)) con.name n) own
        ∙ ap (λ es. with_first (number_in es) con.name n) (alike d)
        ∙ sym (ap (λ b. if b then with_first (number_in (table_of before d)) con.name n else number_in (table_of before d)) h)
    by false h =
        ap number_in (get_or-set_other tables con.of d table [] (λ e. eqb-false con.of d h (sym e)))
        ∙ ap number_in (alike d)
        ∙ sym (ap (λ b. if b then with_first (number_in (table_of before d)) con.name n else number_in (table_of before d)) h)

made_push : (cons : List ConDecl) (con : ConDecl) (n : ℕ) (tables after : List Entries) → FindsMade cons tables → n ≡ length cons
    → ((d : ℕ) → number_in (table_of after d) ≡ (if con.of == d then with_first (number_in (table_of tables d)) con.name n else number_in (table_of tables d)))
    → FindsMade (cons ++ con ∷ []) after
made_push cons con n tables after found e given d = by (con.of == d) refl
  where
    by : (b : Bool) → (con.of == d) ≡ b → Finds (con_makes d) (cons ++ con ∷ []) (table_of after d)
    by true h =
        found_push (con_makes d) cons con con.name n (table_of tables d) (table_of after d) (found d) e
        (λ x. ap (λ b. b && con_is_called x con) h)
        (given d ∙ ap (λ b. if b then with_first (number_in (table_of tables d)) con.name n else number_in (table_of tables d)) h)
    by false h =
        kept_push (con_makes d) cons con (table_of tables d) (table_of after d) (found d)
        (λ x. ap (λ b. b && con_is_called x con) h)
        (given d ∙ ap (λ b. if b then with_first (number_in (table_of tables d)) con.name n else number_in (table_of tables d)) h)

pub made_next : (cons : List ConDecl) (n : ℕ) (con : ConDecl) (tables after : List Entries) → FindsMade (take n cons) tables → slice_get cons n ≡ Some con
    → ((d : ℕ) → number_in (table_of after d) ≡ (if con.of == d then with_first (number_in (table_of tables d)) con.name n else number_in (table_of tables d)))
    → FindsMade (take (n + 1) cons) after
made_next cons n con tables after found h given =
    let within = slice_get_within cons n con h in
    let long : n ≡ length (take n cons) = sym (length-take-le n cons (omega arith)) in
    subst (λ ys. FindsMade ys after) (sym (take_one cons n (n + 1) con refl h)) (made_push (take n cons) con n tables after found long given)

-- without constructors no table has a name
pub none_made : FindsMade [] []
none_made zero x = refl
none_made (suc d) x = refl
