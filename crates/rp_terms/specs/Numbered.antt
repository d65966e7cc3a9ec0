-- Terms, numbered from 0 in their order.
use Rattle.std.specs.Prelude.{◌≡◌, ◌≢◌, ◌⊎◌, ℕ, List, [], ◌∷◌, ◌++◌, map, slice_get, Some}
use Rattle.rp_logic.specs.Terms as tm
use Rattle.rp_logic.specs.Terms.{Tm, Tms, no_tm, also_tm}

-- no term has two numbers
abbrev pub AreDifferent : List Tm → Type 0
AreDifferent terms = (i j : ℕ) (t : Tm) → slice_get terms i ≡ Some t → slice_get terms j ≡ Some t → i ≡ j

-- the term has no number
abbrev pub HasNoNumber : List Tm → Tm → Type 0
HasNoNumber terms t = (id : ℕ) → slice_get terms id ≢ Some t

-- these are the numbers of these terms, in order
abbrev pub AreNumbersOf : List Tm → List ℕ → List Tm → Type 0
AreNumbersOf terms ids ts = map (slice_get terms) ids ≡ map Some ts

-- a term and all that stands in it, arguments before what they are arguments of
abbrev mutual
  pub parts_of : Tm → List Tm
  parts_of (tm.Var n) = tm.Var n ∷ []
  parts_of (tm.Const c) = tm.Const c ∷ []
  parts_of (tm.Fn f args) = parts_of_each args ++ tm.Fn f args ∷ []
  parts_of (tm.Int n) = tm.Int n ∷ []
  parts_of (tm.Str bytes) = tm.Str bytes ∷ []
  parts_of (tm.Con con args) = parts_of_each args ++ tm.Con con args ∷ []
  parts_of (tm.Sel con i t) = parts_of t ++ tm.Sel con i t ∷ []
  parts_of (tm.Plus t n) = parts_of t ++ tm.Plus t n ∷ []

  pub parts_of_each : Tms → List Tm
  parts_of_each no_tm = []
  parts_of_each (also_tm t ts) = parts_of t ++ parts_of_each ts

-- behind the old terms stand others
abbrev pub Keeps : List Tm → List Tm → Type 0
Keeps old new = (more : List Tm) × (new ≡ old ++ more)

-- a term without a number gets the next
abbrev pub Adds : List Tm → Tm → List Tm → Type 0
Adds old t new = ((id : ℕ) × (slice_get old id ≡ Some t) × (new ≡ old)) ⊎ (HasNoNumber old t × (new ≡ old ++ t ∷ []))

-- one term after another
abbrev pub AddsAll : List Tm → List Tm → List Tm → Type 0
AddsAll old [] new = new ≡ old
AddsAll old (t ∷ ts) new = (mid : List Tm) × Adds old t mid × AddsAll mid ts new

-- the first of the terms
abbrev pub AddsFirst : List Tm → List Tm → List Tm → Type 0
AddsFirst old ts new = (front : List Tm) × (rest : List Tm) × (ts ≡ front ++ rest) × AddsAll old front new
