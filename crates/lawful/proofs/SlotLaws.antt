-- The steps of the flow of values, on both sides.
use Rattle.std.proofs.Common.{◌≡◌, ℕ, Bool, true, false, List, [], ◌∷◌, ◌++◌, map, length, take, Option, Some, None, subst, sym, cond}
use Rattle.std.proofs.lemmas.Bool.{and_parts}
use Rattle.rp_lang.specs.Exprs.{Slot, Ex}
use Rattle.type_rules.specs.Names.{Name, same_name}
use Rattle.type_rules.specs.Accesses.{Var}
use Rattle.type_rules.specs.Flow.{give, with_value, both}
use Rattle.desugaring.specs.Callees.{Vars, Stand, stand, stand_named}
use Rattle.desugaring.specs.Statements.{slot_in}
use Rattle.lawful.specs.Slots.{InSlots, nothing, another}
use Rattle.lawful.proofs.Forms.{one}

abbrev pub Grows : (ℕ → Bool) → (ℕ → Bool) → Type 0
Grows set more_ = (s : ℕ) → set s ≡ true → more_ s ≡ true

pub slots_more : (set more_ fixed : ℕ → Bool) (vs : List Var) (ss : Vars) → Grows set more_ → InSlots set fixed vs ss → InSlots more_ fixed vs ss
slots_more set more_ fixed vs ss grows nothing = nothing
slots_more set more_ fixed vs ss grows (another {slot = slot} has no_more rest) =
    another (λ h. grows slot (has h)) no_more (slots_more set more_ fixed _ _ grows rest)

-- an assignment: the variable's slot is set
abbrev pub IsSlotOf : Option (Stand Ex) → ℕ → Type 0
IsSlotOf None s = ⊥
IsSlotOf (Some st) s = slot_in st.known ≡ Some s

pub slots_give : (set more_ fixed : ℕ → Bool) (x : Name) (s : ℕ) (vs : List Var) (ss : Vars) → Grows set more_ → more_ s ≡ true
    → IsSlotOf (stand_named ss x) s → InSlots set fixed vs ss → InSlots more_ fixed (give x vs) ss
slots_give set more_ fixed x s vs ss grows now is nothing = nothing
slots_give set more_ fixed x s vs ss grows now is (another {name} {kind} {has} {no_more = closed} {slot} {vs = others} {ss = stands} told no_more rest) =
    by_name (same_name name x) is (λ h. slots_give set more_ fixed x s others stands grows now h rest) where
      by_name : (same : Bool) → IsSlotOf (cond same (Some (stand name kind (Slot slot))) (stand_named stands x)) s
          → (IsSlotOf (stand_named stands x) s → InSlots more_ fixed (give x others) stands)
          → InSlots more_ fixed (cond same (with_value (record { name = name; kind = kind; set = has; fixed = closed }) ∷ others)
          (record { name = name; kind = kind; set = has; fixed = closed } ∷ give x others)) (stand name kind (Slot slot) ∷ stands)
      by_name true is next = another (λ h. subst (λ j. more_ j ≡ true) (sym (one is)) now) no_more (slots_more set more_ fixed _ _ grows rest)
      by_name false is next = another (λ h. grows slot (told h)) no_more (next is)

-- two ways that meet
pub slots_both : (left right met fixed : ℕ → Bool) (vs ws : List Var) (ss : Vars) → ((s : ℕ) → left s ≡ true → right s ≡ true → met s ≡ true)
    → InSlots left fixed vs ss → InSlots right fixed ws ss → InSlots met fixed (both vs ws) ss
slots_both left right met fixed vs ws ss meet nothing nothing = nothing
slots_both left right met fixed vs ws ss meet (another {slot = slot} has no_more rest) (another others no_more_ more_) =
    another (λ h. let parts = and_parts _ _ h in meet slot (has parts.0) (others parts.1)) no_more (slots_both left right met fixed _ _ _ meet rest more_)

-- where no path goes on
pub slots_dead : (set all fixed : ℕ → Bool) (vs : List Var) (ss : Vars) → ((s : ℕ) → all s ≡ true) → InSlots set fixed vs ss → InSlots all fixed (map with_value vs) ss
slots_dead set all fixed vs ss every nothing = nothing
slots_dead set all fixed vs ss every (another {slot = slot} has no_more rest) = another (λ h. every slot) no_more (slots_dead set all fixed _ _ every rest)

-- behind a block, whose own variables stand last
pub slots_leave : (set fixed : ℕ → Bool) (hs : List Var) (ss own : Vars) → InSlots set fixed hs (ss ++ own) → InSlots set fixed (take (length ss) hs) ss
slots_leave set fixed hs [] own slots = nothing
slots_leave set fixed hs (x ∷ ss) own (another has no_more rest) = another has no_more (slots_leave set fixed _ ss own rest)
