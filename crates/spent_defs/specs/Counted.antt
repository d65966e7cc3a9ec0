-- Counted trees: what a search leaves that has used its budget.
use Rattle.std.specs.Prelude.{◌≡◌, ℕ, suc, List, [], ◌∷◌, length, if◌then◌else◌, Option, Some, None, ◌==◌}
use Rattle.rp_logic.specs.Formulas.{Fm}
use Rattle.rp_logic.specs.Signatures.{Signature}
use Rattle.refute_defs.specs.Uses.{Nd}
use Rattle.refute_defs.specs.Verdicts.{Verdict, Accepted, Bad}
use Rattle.spent_defs.specs.Tours.{Tour, Whole, Broken, Visit, SkipUnvisited, AtCurrent, tour}
use Rattle.spent_defs.specs.Conditions.{is_counted, keeps}

-- the first node that doesn't meet its rule, a missing node or one too many, with its rule
abbrev pub broken : Tour → Option (ℕ × ℕ)
broken Whole = None
broken (Broken node rule) = Some (node, rule)
broken (Visit node b u adds rest) = broken rest
broken (SkipUnvisited rest) = broken rest
broken (AtCurrent node rest) = broken rest

-- the first node that breaks a condition, with its rule
abbrev pub lapse : Signature → ℕ → Tour → Option (ℕ × ℕ)
lapse S depth Whole = None
lapse S depth (Broken node rule) = None
lapse S depth (Visit node b u adds rest) =
    if keeps S depth b u adds then lapse S depth rest else Some (node, u.rule)
lapse S depth (SkipUnvisited rest) = lapse S depth rest
lapse S depth (AtCurrent node rest) = lapse S depth rest

-- the leaves at which a search stands
abbrev pub currents : Tour → List ℕ
currents Whole = []
currents (Broken node rule) = []
currents (Visit node b u adds rest) = currents rest
currents (SkipUnvisited rest) = currents rest
currents (AtCurrent node rest) = node ∷ currents rest

-- how many nodes are counted
abbrev pub count : Tour → ℕ
count Whole = 0
count (Broken node rule) = 0
count (Visit node b u adds rest) = if is_counted u adds then suc (count rest) else count rest
count (SkipUnvisited rest) = count rest
count (AtCurrent node rest) = count rest

-- Every node meets its rule and keeps the conditions, a search stands at exactly one leaf, and
-- exactly `budget` nodes are counted.
pub record IsCounted (S : Signature) (budget depth : ℕ) (t : Tour) : Type 0 where
  pub met : broken t ≡ None
  pub kept : lapse S depth t ≡ None
  pub leaf : (node : ℕ) × (currents t ≡ node ∷ [])
  pub number : count t ≡ budget

abbrev pub IsCountedTree : Signature → List Fm → List Nd → ℕ → ℕ → Type 0
IsCountedTree S given nodes budget depth = IsCounted S budget depth (tour S given nodes)

-- # What is said of a tree of so many nodes

-- of the leaves, and then of how many nodes are counted
abbrev pub leaf_verdict : ℕ → ℕ → List ℕ → ℕ → Verdict
leaf_verdict nodes budget [] n = Bad nodes 0
leaf_verdict nodes budget (leaf ∷ []) n = if n == budget then Accepted else Bad leaf 0
leaf_verdict nodes budget (leaf ∷ second ∷ more) n = Bad second 0

-- the node that is named, or else what is said of the rest
abbrev pub bad_or : Option (ℕ × ℕ) → Verdict → Verdict
bad_or None v = v
bad_or (Some x) v = Bad x.0 x.1

-- In this order: rules, conditions, leaves, how many are counted.
abbrev pub counted_verdict_of : Signature → ℕ → ℕ → ℕ → Tour → Verdict
counted_verdict_of S nodes budget depth t =
    bad_or (broken t) (bad_or (lapse S depth t) (leaf_verdict nodes budget (currents t) (count t)))

abbrev pub counted_verdict : Signature → List Fm → List Nd → ℕ → ℕ → Verdict
counted_verdict S given nodes budget depth =
    counted_verdict_of S (length nodes) budget depth (tour S given nodes)
