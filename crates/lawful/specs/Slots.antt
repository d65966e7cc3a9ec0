-- Which variables have a value, by the type rules and by the slots that are set.
use Rattle.std.specs.Prelude.{◌≡◌, ℕ, Bool, true, false, ◌||◌, List, [], ◌∷◌}
use Rattle.rp_lang.specs.Exprs.{Slot}
use Rattle.rp_lang.specs.Flow.{all_set}
use Rattle.rp_lang.specs.Programs.{Proc}
use Rattle.rp_lang.specs.WellFormed.{at_start}
use Rattle.type_rules.specs.declared.kind.Kind.{Kind}
use Rattle.type_rules.specs.Names.{Name, Names}
use Rattle.type_rules.specs.Accesses.{Var, proc_params}
use Rattle.type_rules.specs.Flow.{Sight, after_block}
use Rattle.type_rules.specs.DeclSites.{sight_for}
use Rattle.desugaring.specs.Callees.{Vars, stand}
use Rattle.desugaring.specs.Programs.{ProcDecl, proc_body, param_stands}

-- each variable in sight stands for a slot; where it has a value on all paths the slot is set, and where it may be assigned
-- the slot is free to take a value
pub data InSlots (set fixed : ℕ → Bool) : List Var → Vars → Type 0 where
  nothing : InSlots set fixed [] []
  another : {name : Name} {kind : Kind} {has no_more : Bool} {slot : ℕ} {vs : List Var} {ss : Vars}
      → (has ≡ true → set slot ≡ true) → (no_more ≡ false → fixed slot ≡ false) → InSlots set fixed vs ss
      → InSlots set fixed (record { name = name; kind = kind; set = has; fixed = no_more } ∷ vs) (stand name kind (Slot slot) ∷ ss)

-- at a statement: and where no path comes every slot is set
pub record Flows (set fixed : ℕ → Bool) (g : Sight) (ss : Vars) : Type 0 where
  pub slots : InSlots set fixed g.vars ss
  pub dead : g.live ≡ false → (s : ℕ) → set s ≡ true

-- at the end of a procedure's body
abbrev pub FlowsThrough : Names → ProcDecl → Proc → Type 0
FlowsThrough n d q = Flows (λ s. (at_start q).set s || all_set s q.body) (at_start q).fixed (after_block n (sight_for n (proc_params d.tree)) (proc_body d.tree)) (param_stands n d)
