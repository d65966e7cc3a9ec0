-- The points of a block in a list, each with what comes next there.
use Rattle.std.specs.Prelude.{ℕ, ◌+◌, ◌≡◌, ⊤, List, [], ◌∷◌, ◌++◌, Option, Some, None, slice_get}
use Rattle.rp_lang.specs.Stmts as st
use Rattle.rp_lang.specs.Stmts.{St, Sts, no_st, also_st, StArms, no_st_arm, also_st_arm}
use Rattle.code_points.specs.Points.{Spot, Before, Closing, inner, size}

pub record Place : Type 0 where
  -- what comes next at a point; nothing where the procedure ends
  pub spot : Option Spot
  -- how many points its block has from there to its end
  pub rest : ℕ

-- what comes next at the first point of the block, with `behind` behind it
abbrev pub first_spot : Sts → ℕ → Option Spot → Option Spot
first_spot no_st base behind = behind
first_spot (also_st s rest) base behind = Some (Before base s)

abbrev mutual
  -- the points inside a statement, the first of which is number `base`
  pub places_inside : St → (base : ℕ) → (next : Option Spot) → List Place
  places_inside (st.Put at slot e) base next = []
  places_inside (st.Decide at slot f) base next = []
  places_inside (st.New at slot ty) base next = []
  places_inside (st.Operate at op args) base next = []
  places_inside (st.If at f then_ else_) base next = block_places then_ base next ++ block_places else_ (base + (size then_ + 1)) next
  places_inside (st.Match at on arms) base next = arms_places arms base next
  places_inside (st.Atomic at body) base next = block_places body base (Some (Closing (base + size body) at))
  places_inside (st.Assert at f) base next = []
  places_inside (st.Return at) base next = []
  places_inside (st.ReturnWith at e) base next = []

  -- the points of a block and its end
  pub block_places : Sts → (base : ℕ) → (behind : Option Spot) → List Place
  block_places no_st base behind = record { spot = behind; rest = 0 } ∷ []
  block_places (also_st s rest) base behind =
      record { spot = Some (Before base s); rest = size (also_st s rest) }
      ∷ places_inside s (base + 1) (first_spot rest (base + (inner s + 1)) behind) ++ block_places rest (base + (inner s + 1)) behind

  pub arms_places : StArms → (base : ℕ) → (next : Option Spot) → List Place
  arms_places no_st_arm base next = []
  arms_places (also_st_arm con slots body rest) base next = block_places body base next ++ arms_places rest (base + (size body + 1)) next

-- what comes next at a point of the list, nothing behind its end
abbrev pub spot_of : Option Place → Option Spot
spot_of None = None
spot_of (Some place) = place.spot

abbrev pub look : List Place → ℕ → Option Spot
look places n = spot_of (slice_get places n)

-- how many points the block of a point of the list has from there on
abbrev pub rest_of : Option Place → ℕ
rest_of None = 0
rest_of (Some place) = place.rest

abbrev pub rest_at : List Place → ℕ → ℕ
rest_at places n = rest_of (slice_get places n)

-- the list tells where each arm ends, the first of which begins at the point
abbrev pub TellsArms : List Place → StArms → ℕ → Type 0
TellsArms places no_st_arm n = ⊤
TellsArms places (also_st_arm con slots body rest) n = (rest_at places n ≡ size body) × TellsArms places rest (n + (size body + 1))

-- the list tells where the parts of a statement end, of which this is the point
abbrev pub TellsParts : List Place → ℕ → St → Type 0
TellsParts places at (st.If place f then_ else_) = rest_at places (at + 1) ≡ size then_
TellsParts places at (st.Match place on arms) = TellsArms places arms (at + 1)
TellsParts places at (st.Put place slot e) = ⊤
TellsParts places at (st.Decide place slot f) = ⊤
TellsParts places at (st.New place slot ty) = ⊤
TellsParts places at (st.Operate place op args) = ⊤
TellsParts places at (st.Atomic place body) = ⊤
TellsParts places at (st.Assert place f) = ⊤
TellsParts places at (st.Return place) = ⊤
TellsParts places at (st.ReturnWith place e) = ⊤

-- the same of what comes next
abbrev pub Tells : List Place → Option Spot → Type 0
Tells places None = ⊤
Tells places (Some (Before at s)) = TellsParts places at s
Tells places (Some (Closing at block)) = ⊤
