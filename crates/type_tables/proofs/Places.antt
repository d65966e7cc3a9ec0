-- Names that are found by their places.
use Rattle.std.proofs.Common.{◌≡◌, ℕ, ◌+◌, ◌<◌, Bool, true, false, nat_eq, List, [], ◌∷◌, ◌++◌, length, map, Option, Some, None, refl, sym, ap, ap₂, ◌∙◌, get_or, drop, drop-cons, add-one, arith, eq-eqb, true≢false}
use Rattle.std.specs.Prelude.{if◌then◌else◌}
use Rattle.std.specs.Option.{is_some, option_and_then, option_map, unwrap_or}
use Rattle.std.specs.Map.{update}
use Rattle.std.proofs.lemmas.Bool.Decides.{nat_tests}
use Rattle.std.proofs.lemmas.Cmp.{nat_list_eq_equiv}
use Rattle.std.specs.List.{slice_get}
use Rattle.std.proofs.lemmas.List.{length-append}
use Rattle.std.proofs.lemmas.Slice.Eq.{bytes_eq-Decides}
use Rattle.type_rules.specs.Names.{Name, same_name}
use Rattle.type_tables.specs.Tables.{Entries, IsIndexOf, Table, has_number, number_in, place_from, with_first, without}
use Rattle.type_tables.specs.declared.vars.Known.{Known}
use Rattle.type_tables.specs.Variables.{known_names}

pub same : (x y : Name) → same_name x y ≡ true → x ≡ y
same x y h = (bytes_eq-Decides x y).0 h

itself : (x : Name) → same_name x x ≡ true
itself x = (bytes_eq-Decides x x).1 refl

-- # One more at the end

choose : {X : Type 0} (a c d : X) (p q s b : Bool) → (p ≡ true → s ≡ q) → (q ≡ true → s ≡ p)
    → (if q then a else (if b then d else (if s then c else d)))
    ≡ (if (if p then true else b) then (if q then a else d) else (if s then c else (if q then a else d)))
choose a c d true true s b h g = refl
choose a c d true false true b h g = absurd (true≢false (h refl))
choose a c d true false false true h g = refl
choose a c d true false false false h g = refl
choose a c d false true true b h g = absurd (true≢false (g refl))
choose a c d false true false true h g = refl
choose a c d false true false false h g = refl
choose a c d false false s b h g = refl

is_some_if : {X : Type 0} (p : Bool) (x : X) (o : Option X) → is_some (if p then Some x else o) ≡ (if p then true else is_some o)
is_some_if true x o = refl
is_some_if false x o = refl

pub first_at : (t : Table) (y : Name) (n : ℕ) (x : Name)
    → with_first t y n x ≡ (if is_some (t y) then t x else (if same_name y x then Some n else t x))
first_at t y n x = by (is_some (t y))
  where
    by : (b : Bool)
        → (if b then t else update same_name t y (Some n)) x ≡ (if b then t x else (if same_name y x then Some n else t x))
    by true = refl
    by false = refl

-- the first of its name keeps its place
place_push : (k : ℕ) (names : List Name) (y x : Name)
    → place_from k (names ++ y ∷ []) x ≡ with_first (place_from k names) y (k + length names) x
place_push k [] y x = ap (λ n. if same_name y x then Some n else None) (omega arith)
place_push k (w ∷ names) y x =
    let t : Table = place_from (k + 1) names in
    let n : ℕ = k + 1 + length names in
    let later = place_push (k + 1) names y x ∙ first_at t y n x in
    let alike : same_name w y ≡ true → same_name y x ≡ same_name w x = λ h. ap (λ z. same_name z x) (sym (same w y h)) in
    let found : same_name w x ≡ true → same_name y x ≡ same_name w y =
    λ h. ap (same_name y) (sym (same w x h)) ∙ nat_list_eq_equiv.symm y w in
    ap (λ o. if same_name w x then Some k else o) later
    ∙ choose (Some k) (Some n) (t x) (same_name w y) (same_name w x) (same_name y x) (is_some (t y)) alike found
    ∙ ap (λ b. if b then place_from k (w ∷ names) x else (if same_name y x then Some n else place_from k (w ∷ names) x))
    (sym (is_some_if (same_name w y) k (t y)))
    ∙ sym (first_at (place_from k (w ∷ names)) y n x)
    ∙ ap (λ m. with_first (place_from k (w ∷ names)) y m x) (omega arith)

-- # What stands at a place

seam : {X : Type 0} (before : List X) (x : X) (behind : List X) → slice_get (before ++ x ∷ behind) (length before) ≡ Some x
seam [] x behind = refl
seam (y ∷ before) x behind = seam before x behind

joined : {X : Type 0} (before : List X) (x : X) (behind : List X) → (before ++ x ∷ []) ++ behind ≡ before ++ x ∷ behind
joined [] x behind = refl
joined (y ∷ before) x behind = ap (λ l. y ∷ l) (joined before x behind)

-- what is seen at the place of a name is the first that has it
seen_from : {X Y : Type 0} (text : X → Name) (view : X → Y) (first : List Y → Name → Option Y)
    → ((x : Name) → first [] x ≡ None)
    → ((v : X) (ys : List Y) (x : Name) → first (view v ∷ ys) x ≡ (if same_name (text v) x then Some (view v) else first ys x))
    → (before vs : List X) (x : Name)
    → option_map view (option_and_then (slice_get (before ++ vs)) (place_from (length before) (map text vs) x))
    ≡ first (map view vs) x
seen_from text view first none next before [] x = sym (none x)
seen_from text view first none next before (v ∷ vs) x =
    by (same_name (text v) x) (seen_from text view first none next (before ++ v ∷ []) vs x) ∙ sym (next v (map view vs) x)
  where
    by : (b : Bool)
        → option_map view
        (option_and_then (slice_get ((before ++ v ∷ []) ++ vs)) (place_from (length (before ++ v ∷ [])) (map text vs) x))
        ≡ first (map view vs) x
        → option_map view
        (option_and_then (slice_get (before ++ v ∷ vs))
        (if b then Some (length before) else place_from (length before + 1) (map text vs) x))
        ≡ (if b then Some (view v) else first (map view vs) x)
    by true later = ap (option_map view) (seam before v vs)
    by false later =
        ap (λ l. option_map view (option_and_then (slice_get l) (place_from (length before + 1) (map text vs) x)))
        (sym (joined before v vs))
        ∙ ap (λ k. option_map view (option_and_then (slice_get ((before ++ v ∷ []) ++ vs)) (place_from k (map text vs) x)))
        (sym (length-append before (v ∷ [])))
        ∙ later

pub first_seen : {X Y : Type 0} (text : X → Name) (view : X → Y) (first : List Y → Name → Option Y)
    → ((x : Name) → first [] x ≡ None)
    → ((v : X) (ys : List Y) (x : Name) → first (view v ∷ ys) x ≡ (if same_name (text v) x then Some (view v) else first ys x))
    → (vs : List X) (x : Name)
    → option_map view (option_and_then (slice_get vs) (place_from 0 (map text vs) x)) ≡ first (map view vs) x
first_seen text view first none next vs x = seen_from text view first none next [] vs x

-- a place stands before the end
pub place_below : (k : ℕ) (names : List Name) (x : Name) (p : ℕ) → place_from k names x ≡ Some p → p < k + length names
place_below k [] x p h = absurd (true≢false (sym (ap is_some h)))
place_below k (y ∷ names) x p h = by (same_name y x) (place_below (k + 1) names x p) h
  where
    by : (b : Bool) → (place_from (k + 1) names x ≡ Some p → p < k + 1 + length names)
        → (if b then Some k else place_from (k + 1) names x) ≡ Some p → p < k + length (y ∷ names)
    by true later e = let here : k ≡ p = ap (λ o. unwrap_or o k) e in omega arith
    by false later e = let behind = later e in omega arith

-- # The last is taken out

-- a name that had no number has none again
undone : (t : Table) (y : Name) (n : ℕ) → ((p : ℕ) → t y ≡ Some p → p < n) → (x : Name) → without (with_first t y n) y n x ≡ t x
undone t y n below x = by (t y) refl
  where
    out : (s : Table) (o : Option ℕ) → s y ≡ o → (b : Bool) → has_number o n ≡ b
        → without s y n x ≡ (if b then (if same_name y x then None else s x) else s x)
    out s o e true h = ap (λ q. (if q then update same_name s y None else s) x) (ap (λ o. has_number o n) e ∙ h)
    out s o e false h = ap (λ q. (if q then update same_name s y None else s) x) (ap (λ o. has_number o n) e ∙ h)

    none : t y ≡ None → (b : Bool) → same_name y x ≡ b → (if b then None else with_first t y n x) ≡ t x
    none e true h = sym e ∙ ap t (same y x h)
    none e false h =
        first_at t y n x ∙ ap (λ o. if is_some o then t x else (if same_name y x then Some n else t x)) e
        ∙ ap (λ b. if b then Some n else t x) h

    by : (o : Option ℕ) → t y ≡ o → without (with_first t y n) y n x ≡ t x
    by None e =
        out (with_first t y n) (Some n)
        (first_at t y n y ∙ ap (λ o. if is_some o then t y else (if same_name y y then Some n else t y)) e
        ∙ ap (λ b. if b then Some n else t y) (itself y))
        true
        (eq-eqb n n refl)
        ∙ none e (same_name y x) refl
    by (Some p) e =
        let far : nat_eq p n ≡ false = let lt = below p e in grind (arith, nat_tests) in
        out (with_first t y n) (Some p)
        (first_at t y n y ∙ ap (λ o. if is_some o then t y else (if same_name y y then Some n else t y)) e ∙ e)
        false
        far
        ∙ first_at t y n x ∙ ap (λ o. if is_some o then t x else (if same_name y x then Some n else t x)) e

place_pop : (names : List Name) (y : Name) (s : Table) → ((x : Name) → s x ≡ place_from 0 (names ++ y ∷ []) x)
    → (x : Name) → without s y (length names) x ≡ place_from 0 names x
place_pop names y s h x =
    let t : Table = with_first (place_from 0 names) y (length names) in
    let all : (z : Name) → s z ≡ t z =
    λ z. h z ∙ place_push 0 names y z ∙ ap (λ n. with_first (place_from 0 names) y n z) (omega arith) in
    alike s t all ∙ undone (place_from 0 names) y (length names) (λ p e. let below = place_below 0 names y p e in omega arith) x
  where
    alike : (s t : Table) → ((z : Name) → s z ≡ t z) → without s y (length names) x ≡ without t y (length names) x
    alike s t all = ap (λ f. without f y (length names) x) (λ i z. all z i)

-- # Tables of names

pub indexed_push : (names : List Name) (y : Name) (es after : Entries) (n : ℕ) → IsIndexOf es names → n ≡ length names
    → number_in after ≡ with_first (number_in es) y n → IsIndexOf after (names ++ y ∷ [])
indexed_push names y es after n found e given x =
    ap (λ (t : Table). t x) given
    ∙ ap₂ (λ (t : Table) n. with_first t y n x) (λ i z. found z i) (e ∙ omega arith)
    ∙ sym (place_push 0 names y x)

pub indexed_pop : (names : List Name) (y : Name) (es after : Entries) (n : ℕ) → IsIndexOf es (names ++ y ∷ []) → n ≡ length names
    → number_in after ≡ without (number_in es) y n → IsIndexOf after names
indexed_pop names y es after n found e taken x =
    ap (λ (t : Table). t x) taken ∙ ap (λ n. without (number_in es) y n x) e ∙ place_pop names y (number_in es) found x

-- the place of a name from one of the variables on is that one's, or else is looked for behind it
pub from_place : (items : List Known) (i place : ℕ) (none : Known) (name : Name) → i < length items
    → place_from place (known_names (drop i items)) name
    ≡ (if same_name (get_or items i none).name.now name then Some place
    else place_from (place + 1) (known_names (drop (i + 1) items)) name)
from_place items i place none name lt =
    let split : drop i items ≡ get_or items i none ∷ drop (i + 1) items = rw add-one (drop-cons items i none lt) in
    ap (λ (xs : List Known). place_from place (known_names xs) name) split
