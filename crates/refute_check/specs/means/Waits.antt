-- The open branches of a walk: the one that it stands on, and those that wait.
use Rattle.std.specs.Prelude.{ℕ, ◌≤◌, Bool, if◌then◌else◌, List, [], ◌∷◌, map, take, reverse, length, Option, None}
use Rattle.rp_logic.specs.Signatures.{Signature}
use Rattle.refute_defs.specs.Uses.{Nd, Rule, Unvisited, Current}
use Rattle.refute_defs.specs.Branches as spec
use Rattle.refute_defs.specs.Branches.{Branch, extend}
use Rattle.refute_defs.specs.Children.{children}
use Rattle.refute_rules.specs.declared.additions.Addition.{Addition}
use Rattle.refute_branch.specs.declared.branch.OpenBranch.{OpenBranch}
use Rattle.refute_check.specs.declared.walk.Waiting.{Waiting}
use Rattle.refute_rules.specs.Added.{addition_view}

-- the first formulas and constants of the branch, and what is added to them
abbrev pub waiting_branch : Branch → Waiting → Branch
waiting_branch b w =
    extend (record {
      formulas = take w.formulas b.formulas;
      added =
          take w.added b.added;
    }) (addition_view w.addition)

-- the branches that wait, the next one first, which is the last of the list
abbrev pub waiting_branches : Branch → List Waiting → List Branch
waiting_branches b waiting = map (waiting_branch b) (reverse waiting)

-- all open branches
abbrev pub open_branches : Bool → Branch → List Waiting → List Branch
open_branches is_open b waiting = if is_open then b ∷ waiting_branches b waiting else []

-- Of branches that wait, the next one first, each begins with no more formulas and constants than
-- the ones before it.
abbrev pub AreNested : ℕ → ℕ → List Waiting → Type 0
AreNested n m [] = Unit {0}
AreNested n m (w ∷ ws) = (w.formulas ≤ n) × (w.added ≤ m) × AreNested w.formulas w.added ws

abbrev pub AreWithin : OpenBranch → List Waiting → Type 0
AreWithin b waiting = AreNested (length b.formulas) (length b.added) (reverse waiting)

-- an addition to a branch with so many formulas and constants
abbrev pub wait : ℕ → ℕ → Addition → Waiting
wait n m addition = record { formulas = n; added = m; addition = addition }

-- # Nodes

abbrev pub node_children : Signature → Branch → Nd → Option (List spec.Addition)
node_children S b (Rule u) = children S b u
node_children S b Unvisited = None
node_children S b Current = None

-- 0 for a leaf that isn't a rule
abbrev pub node_rule : Nd → ℕ
node_rule (Rule u) = u.rule
node_rule Unvisited = 0
node_rule Current = 0
