-- The list of a block's points has at each what comes next there, and tells where the parts of statements end.
use Rattle.std.proofs.Common.{◌≡◌, ℕ, zero, suc, ◌+◌, ◌-◌, ◌<◌, ◌≤◌, nat_lt, nat_le, Bool, true, false, if◌then◌else◌, refl, sym, ◌∙◌, ap, subst, arith, Option, Some, None, inl, inr, List, [], ◌∷◌, ◌++◌, length, slice_get}
use Rattle.std.proofs.lemmas.Bool.{cases_lt, lt-ltb, le-ltb, le-leb, lt-leb}
use Rattle.rp_lang.specs.Stmts as st
use Rattle.rp_lang.specs.Stmts.{St, Sts, no_st, also_st, StArms, no_st_arm, also_st_arm}
use Rattle.code_points.specs.Points.{inner, size, arms_size, Spot, Closing, or_else, spot_inside, spot_in, spot_in_arms}
use Rattle.code_points.specs.Places.{Place, first_spot, places_inside, block_places, arms_places, spot_of, look, rest_of, rest_at, TellsArms, TellsParts, Tells}

-- # Lengths

length_both : {X : Type 0} (xs ys : List X) → length (xs ++ ys) ≡ length xs + length ys
length_both [] ys = omega arith
length_both (x ∷ xs) ys = let e : length (xs ++ ys) ≡ length xs + length ys = length_both xs ys in omega arith

mutual
  inside_length : (s : St) (base : ℕ) (next : Option Spot) → length (places_inside s base next) ≡ inner s
  inside_length (st.Put at slot e) base next = refl
  inside_length (st.Decide at slot f) base next = refl
  inside_length (st.New at slot ty) base next = refl
  inside_length (st.Operate at op args) base next = refl
  inside_length (st.If at f a b) base next =
      let one : length (block_places a base next) ≡ size a + 1 = block_length a base next in
      let two : length (block_places b (base + (size a + 1)) next) ≡ size b + 1 = block_length b (base + (size a + 1)) next in
      let both = length_both (block_places a base next) (block_places b (base + (size a + 1)) next) in
      both ∙ (let e : length (block_places a base next) + length (block_places b (base + (size a + 1)) next) ≡ size a + 1 + (size b + 1) = omega arith in e)
  inside_length (st.Match at on arms) base next = arms_length arms base next
  inside_length (st.Atomic at body) base next = block_length body base (Some (Closing (base + size body) at))
  inside_length (st.Assert at f) base next = refl
  inside_length (st.Return at) base next = refl
  inside_length (st.ReturnWith at e) base next = refl

  pub block_length : (stmts : Sts) (base : ℕ) (behind : Option Spot) → length (block_places stmts base behind) ≡ size stmts + 1
  block_length no_st base behind = refl
  block_length (also_st s rest) base behind =
      let next = first_spot rest (base + (inner s + 1)) behind in
      let one : length (places_inside s (base + 1) next) ≡ inner s = inside_length s (base + 1) next in
      let two : length (block_places rest (base + (inner s + 1)) behind) ≡ size rest + 1 = block_length rest (base + (inner s + 1)) behind in
      let both : length (places_inside s (base + 1) next ++ block_places rest (base + (inner s + 1)) behind) ≡ length (places_inside s (base + 1) next) + length (block_places rest (base + (inner s + 1)) behind)
      = length_both (places_inside s (base + 1) next) (block_places rest (base + (inner s + 1)) behind) in
      omega arith

  arms_length : (arms : StArms) (base : ℕ) (next : Option Spot) → length (arms_places arms base next) ≡ arms_size arms
  arms_length no_st_arm base next = refl
  arms_length (also_st_arm con slots body rest) base next =
      let one : length (block_places body base next) ≡ size body + 1 = block_length body base next in
      let two : length (arms_places rest (base + (size body + 1)) next) ≡ arms_size rest = arms_length rest (base + (size body + 1)) next in
      let both : length (block_places body base next ++ arms_places rest (base + (size body + 1)) next) ≡ length (block_places body base next) + length (arms_places rest (base + (size body + 1)) next)
      = length_both (block_places body base next) (arms_places rest (base + (size body + 1)) next) in
      omega arith

-- # A part of a list

-- from place m on the list is xs
abbrev pub Holds : List Place → ℕ → List Place → Type 0
Holds places m xs = (k : ℕ) → k < length xs → slice_get places (m + k) ≡ slice_get xs k

get_left : (xs ys : List Place) (k : ℕ) → k < length xs → slice_get (xs ++ ys) k ≡ slice_get xs k
get_left [] ys k lt = absurd (omega arith)
get_left (x ∷ xs) ys zero lt = refl
get_left (x ∷ xs) ys (suc k) lt = get_left xs ys k (omega arith)

get_right : (xs ys : List Place) (k : ℕ) → slice_get (xs ++ ys) (length xs + k) ≡ slice_get ys k
get_right [] ys k = let e : 0 + k ≡ k = omega arith in ap (slice_get ys) e
get_right (x ∷ xs) ys k = (let e : length (x ∷ xs) + k ≡ suc (length xs + k) = omega arith in ap (slice_get (x ∷ xs ++ ys)) e) ∙ get_right xs ys k

left : (places : List Place) (m : ℕ) (xs ys : List Place) → Holds places m (xs ++ ys) → Holds places m xs
left places m xs ys h k lt =
    let both : length (xs ++ ys) ≡ length xs + length ys = length_both xs ys in
    h k (omega arith) ∙ get_left xs ys k lt

right : (places : List Place) (m n : ℕ) (xs ys : List Place) → length xs ≡ n → Holds places m (xs ++ ys) → Holds places (m + n) ys
right places m n xs ys e h k lt =
    let both : length (xs ++ ys) ≡ length xs + length ys = length_both xs ys in
    (let e : m + n + k ≡ m + (length xs + k) = omega arith in ap (slice_get places) e)
    ∙ h (length xs + k) (omega arith) ∙ get_right xs ys k

behind_first : (places : List Place) (m : ℕ) (x : Place) (xs : List Place) → Holds places m (x ∷ xs) → Holds places (m + 1) xs
behind_first places m x xs h k lt = (let e : m + 1 + k ≡ m + suc k = omega arith in ap (slice_get places) e) ∙ h (suc k) (omega arith)

holds_from : (places : List Place) (m n : ℕ) (xs : List Place) → m ≡ n → Holds places m xs → Holds places n xs
holds_from places m n xs e h = subst (λ k. Holds places k xs) e h

-- # What comes next

or_three : (a b c : Option Spot) → or_else (or_else a b) c ≡ or_else a (or_else b c)
or_three None b c = refl
or_three (Some a) b c = refl

first_is : (stmts : Sts) (base : ℕ) (behind : Option Spot) → or_else (spot_in stmts base 0) behind ≡ first_spot stmts base behind
first_is no_st base behind = refl
first_is (also_st s rest) base behind = refl

which : (b c : Bool) (x y : Option Spot) → b ≡ c → (if b then x else y) ≡ (if c then x else y)
which b c x y e = ap (λ b. if b then x else y) e

-- the list has this at the point, and tells where its parts end
abbrev Right : List Place → ℕ → Option Spot → Type 0
Right places m spot = (look places m ≡ spot) × Tells places spot

is_right : (places : List Place) (m n : ℕ) (x y : Option Spot) → m ≡ n → x ≡ y → Right places m x → Right places n y
is_right places m n x y e f h = subst (λ k. Right places k y) e (subst (λ spot. Right places m spot) f h)

-- the first point of a block tells how many it has
first_rest : (places : List Place) (stmts : Sts) (base : ℕ) (behind : Option Spot) → Holds places base (block_places stmts base behind) → rest_at places base ≡ size stmts
first_rest places no_st base behind h = (let e : base ≡ base + 0 = omega arith in ap (rest_at places) e) ∙ ap rest_of (h 0 (omega arith))
first_rest places (also_st s rest) base behind h = (let e : base ≡ base + 0 = omega arith in ap (rest_at places) e) ∙ ap rest_of (h 0 (omega arith))

tells_arms : (places : List Place) (arms : StArms) (base : ℕ) (next : Option Spot) → Holds places base (arms_places arms base next) → TellsArms places arms base
tells_arms places no_st_arm base next h = tt
tells_arms places (also_st_arm con slots body rest) base next h = (
  first_rest places body base next (left places base (block_places body base next) (arms_places rest (base + (size body + 1)) next) h),
  tells_arms places rest (base + (size body + 1)) next (right places base (size body + 1) (block_places body base next) (arms_places rest (base + (size body + 1)) next) (block_length body base next) h),
)

tells_parts : (places : List Place) (s : St) (at : ℕ) (next : Option Spot) → Holds places (at + 1) (places_inside s (at + 1) next) → TellsParts places at s
tells_parts places (st.Put place slot e) at next h = tt
tells_parts places (st.Decide place slot f) at next h = tt
tells_parts places (st.New place slot ty) at next h = tt
tells_parts places (st.Operate place op args) at next h = tt
tells_parts places (st.If place f a b) at next h =
    first_rest places a (at + 1) next (left places (at + 1) (block_places a (at + 1) next) (block_places b (at + 1 + (size a + 1)) next) h)
tells_parts places (st.Match place on arms) at next h = tells_arms places arms (at + 1) next h
tells_parts places (st.Atomic place body) at next h = tt
tells_parts places (st.Assert place f) at next h = tt
tells_parts places (st.Return place) at next h = tt
tells_parts places (st.ReturnWith place e) at next h = tt

mutual
  inside : (places : List Place) (s : St) (base : ℕ) (next : Option Spot) → Holds places base (places_inside s base next) → Tells places next
      → (n : ℕ) → n < inner s → Right places (base + n) (or_else (spot_inside s base n) next)
  inside places (st.Put at slot e) base next h tells n lt = absurd (omega arith)
  inside places (st.Decide at slot f) base next h tells n lt = absurd (omega arith)
  inside places (st.New at slot ty) base next h tells n lt = absurd (omega arith)
  inside places (st.Operate at op args) base next h tells n lt = absurd (omega arith)
  inside places (st.If at f a b) base next h tells n lt =
      let h_a = left places base (block_places a base next) (block_places b (base + (size a + 1)) next) h in
      let h_b = right places base (size a + 1) (block_places a base next) (block_places b (base + (size a + 1)) next) (block_length a base next) h in
      elim (cases_lt (size a) n) [
        | inl more ↦ is_right places (base + (size a + 1) + (n - (size a + 1))) (base + n) _ _ (omega arith)
            (ap (λ x. or_else x next) (sym (which (nat_le n (size a)) false (spot_in a base n) (spot_in b (base + (size a + 1)) (n - (size a + 1))) (lt-leb n (size a) more))))
            (block places b (base + (size a + 1)) next h_b tells (n - (size a + 1)) (omega arith))
        | inr less ↦ is_right places (base + n) (base + n) _ _ refl
            (ap (λ x. or_else x next) (sym (which (nat_le n (size a)) true (spot_in a base n) (spot_in b (base + (size a + 1)) (n - (size a + 1))) (le-leb n (size a) less))))
            (block places a base next h_a tells n less)
      ]
  inside places (st.Match at on arms) base next h tells n lt = in_arms places arms base next h tells n lt
  inside places (st.Atomic at body) base next h tells n lt =
      let end : Option Spot = Some (Closing (base + size body) at) in
      is_right places (base + n) (base + n) _ _ refl (sym (or_three (spot_in body base n) end next)) (block places body base end h tt n (omega arith))
  inside places (st.Assert at f) base next h tells n lt = absurd (omega arith)
  inside places (st.Return at) base next h tells n lt = absurd (omega arith)
  inside places (st.ReturnWith at e) base next h tells n lt = absurd (omega arith)

  block : (places : List Place) (stmts : Sts) (base : ℕ) (behind : Option Spot) → Holds places base (block_places stmts base behind) → Tells places behind
      → (n : ℕ) → n ≤ size stmts → Right places (base + n) (or_else (spot_in stmts base n) behind)
  block places no_st base behind h tells n le = is_right places (base + 0) (base + n) behind behind (omega arith) refl (ap spot_of (h 0 (omega arith)), tells)
  block places (also_st s rest) base behind h tells zero le =
      let b = base + (inner s + 1) in
      let next = first_spot rest b behind in
      let h_in = left places (base + 1) (places_inside s (base + 1) next) (block_places rest b behind) (behind_first places base _ (places_inside s (base + 1) next ++ block_places rest b behind) h) in
      (ap spot_of (h 0 (omega arith)), tells_parts places s base next h_in)
  block places (also_st s rest) base behind h tells (suc n) le =
      let b = base + (inner s + 1) in
      let next = first_spot rest b behind in
      let h_more = behind_first places base _ (places_inside s (base + 1) next ++ block_places rest b behind) h in
      let h_in = left places (base + 1) (places_inside s (base + 1) next) (block_places rest b behind) h_more in
      let h_rest = holds_from places (base + 1 + inner s) b (block_places rest b behind) (omega arith)
      (right places (base + 1) (inner s) (places_inside s (base + 1) next) (block_places rest b behind) (inside_length s (base + 1) next) h_more) in
      let first = block places rest b behind h_rest tells 0 (omega arith) in
      elim (cases_lt n (inner s)) [
        | inl less ↦ is_right places (base + 1 + n) (base + suc n) _ _ (omega arith)
            (ap (λ x. or_else (spot_inside s (base + 1) n) x) (sym (first_is rest b behind))
            ∙ sym (or_three (spot_inside s (base + 1) n) (spot_in rest b 0) behind)
            ∙ ap (λ x. or_else x behind) (sym (which (nat_lt n (inner s)) true (or_else (spot_inside s (base + 1) n) (spot_in rest b 0)) (spot_in rest b (n - inner s)) (lt-ltb n (inner s) less))))
            (inside places s (base + 1) next h_in (subst (Tells places) (first_is rest b behind) first.1) n less)
        | inr more ↦ is_right places (b + (n - inner s)) (base + suc n) _ _ (omega arith)
            (ap (λ x. or_else x behind) (sym (which (nat_lt n (inner s)) false (or_else (spot_inside s (base + 1) n) (spot_in rest b 0)) (spot_in rest b (n - inner s)) (le-ltb n (inner s) more))))
            (block places rest b behind h_rest tells (n - inner s) (omega arith))
      ]

  in_arms : (places : List Place) (arms : StArms) (base : ℕ) (next : Option Spot) → Holds places base (arms_places arms base next) → Tells places next
      → (n : ℕ) → n < arms_size arms → Right places (base + n) (or_else (spot_in_arms arms base n) next)
  in_arms places no_st_arm base next h tells n lt = absurd (omega arith)
  in_arms places (also_st_arm con slots body rest) base next h tells n lt =
      let h_body = left places base (block_places body base next) (arms_places rest (base + (size body + 1)) next) h in
      let h_rest = right places base (size body + 1) (block_places body base next) (arms_places rest (base + (size body + 1)) next) (block_length body base next) h in
      elim (cases_lt (size body) n) [
        | inl more ↦ is_right places (base + (size body + 1) + (n - (size body + 1))) (base + n) _ _ (omega arith)
            (ap (λ x. or_else x next) (sym (which (nat_le n (size body)) false (spot_in body base n) (spot_in_arms rest (base + (size body + 1)) (n - (size body + 1))) (lt-leb n (size body) more))))
            (in_arms places rest (base + (size body + 1)) next h_rest tells (n - (size body + 1)) (omega arith))
        | inr less ↦ is_right places (base + n) (base + n) _ _ refl
            (ap (λ x. or_else x next) (sym (which (nat_le n (size body)) true (spot_in body base n) (spot_in_arms rest (base + (size body + 1)) (n - (size body + 1))) (le-leb n (size body) less))))
            (block places body base next h_body tells n less)
      ]

-- # A whole body

or_none : (spot : Option Spot) → or_else spot None ≡ spot
or_none None = refl
or_none (Some spot) = refl

past : (stmts : Sts) (base n : ℕ) → size stmts < n → spot_in stmts base n ≡ None
past no_st base n lt = refl
past (also_st s rest) base zero lt = absurd (omega arith)
past (also_st s rest) base (suc n) lt =
    which (nat_lt n (inner s)) false _ (spot_in rest (base + (inner s + 1)) (n - inner s)) (le-ltb n (inner s) (omega arith))
    ∙ past rest (base + (inner s + 1)) (n - inner s) (omega arith)

nothing_past : (places : List Place) (n : ℕ) → length places ≤ n → look places n ≡ None
nothing_past [] n le = refl
nothing_past (x ∷ places) zero le = absurd (omega arith)
nothing_past (x ∷ places) (suc n) le = nothing_past places n (omega arith)

itself : (places : List Place) → Holds places 0 places
itself places k lt = let e : 0 + k ≡ k = omega arith in ap (slice_get places) e

-- the list of a body's points has what comes next at each, and tells where the parts of that end
pub body_is : (body : Sts) (n : ℕ) → (look (block_places body 0 None) n ≡ spot_in body 0 n) × Tells (block_places body 0 None) (spot_in body 0 n)
body_is body n =
    let places = block_places body 0 None in
    elim (cases_lt (size body) n) [
      | inl more ↦
          let all : length places ≡ size body + 1 = block_length body 0 None in
          (nothing_past places n (omega arith) ∙ sym (past body 0 n more), subst (Tells places) (sym (past body 0 n more)) tt)
      | inr less ↦ is_right places (0 + n) n _ _ (omega arith) (or_none (spot_in body 0 n)) (block places body 0 None (itself places) tt n less)
    ]
