-- Typed states: what operations, slots and results hold fits their types, and a slot is set before it is read.
use Rattle.std.specs.Prelude.{◌≡◌, ℕ, Bool, true, false, ◌&&◌, ◌||◌, ◌==◌, List, [], ◌∷◌, length, Option, Some, None, slice_get, is_some, is_none}
use Rattle.rp_value.specs.declared.tables.Ty.{Ty}
use Rattle.rp_value.specs.declared.tables.Ty.TheVariants.{Atom, Datatype}
use Rattle.rp_value.specs.Values.{Val}
use Rattle.rp_lang.specs.declared.op.OpDecl.{OpDecl}
use Rattle.rp_lang.specs.Types.{agree, bool_ty, fields_of}
use Rattle.rp_lang.specs.Typing.{Frame, type_of, have_types, is_typed}
use Rattle.rp_lang.specs.Blocks.{is_slot}
use Rattle.rp_lang.specs.Programs.{Proc, Prog}
use Rattle.crdt_defs.specs.Calls.{Call}
use Rattle.event_machine.specs.Code as left
use Rattle.event_machine.specs.Code.{Code, CodeArms, no_code, also_code}
use Rattle.event_machine.specs.Fitting.{fits, all_fit}
use Rattle.event_machine.specs.Machine.{Running, Returned, Invocation, State}
use Rattle.event_machine.specs.WellFormed.{At}

-- # Typed code

-- where code of the procedure stands: inside an atomic block or outside, with these slots set
abbrev pub frame_in : Proc → Bool → (ℕ → Bool) → Frame
frame_in q within set = record { slots = q.slots; set = set; fixed = λ s. false; reads = within; speaks = false; result = q.result }

abbrev pub and_slot : (ℕ → Bool) → ℕ → ℕ → Bool
and_slot set slot s = set s || (slot == s)

abbrev pub and_slots : List ℕ → (ℕ → Bool) → ℕ → Bool
and_slots slots set s = is_slot s slots || set s

-- the slots are as many as the types, and of these in order
abbrev pub slots_take : Proc → List ℕ → List Ty → Bool
slots_take q [] [] = true
slots_take q (slot ∷ slots) (ty ∷ tys) = agree (Some ty) (slice_get q.slots slot) && slots_take q slots tys
slots_take q _ _ = false

-- each expression and formula is typed where it stands, and reads slots that are set
abbrev mutual
  pub CodeTyped : Prog → Proc → Bool → (ℕ → Bool) → Code → Type 0
  CodeTyped p q within set (left.Put slot e next) =
      (agree (type_of p (frame_in q within set) [] e) (slice_get q.slots slot) ≡ true) × CodeTyped p q within (and_slot set slot) next
  CodeTyped p q within set (left.Decide slot f next) =
      (is_typed p (frame_in q within set) [] f ≡ true) × (agree (Some bool_ty) (slice_get q.slots slot) ≡ true) × CodeTyped p q within (and_slot set slot) next
  CodeTyped p q within set (left.New slot of next) = (agree (Some (Atom of)) (slice_get q.slots slot) ≡ true) × CodeTyped p q within (and_slot set slot) next
  CodeTyped p q within set (left.Operate op args next) =
      (decl : OpDecl) × At p.ops op decl × (have_types p (frame_in q within set) [] decl.args args ≡ true) × CodeTyped p q within set next
  CodeTyped p q within set (left.Assert at f next) = (is_typed p (frame_in q within set) [] f ≡ true) × CodeTyped p q within set next
  CodeTyped p q within set (left.Choose f then_ else_) =
      (is_typed p (frame_in q within set) [] f ≡ true) × CodeTyped p q within set then_ × CodeTyped p q within set else_
  CodeTyped p q within set (left.Match on arms) =
      (d : ℕ) × (type_of p (frame_in q within set) [] on ≡ Some (Datatype d)) × ArmsTyped p q within set arms
  CodeTyped p q within set (left.Begin next) = CodeTyped p q true set next
  CodeTyped p q within set (left.End at next) = CodeTyped p q false set next
  CodeTyped p q within set (left.Return at None) = is_none q.result ≡ true
  CodeTyped p q within set (left.Return at (Some e)) = agree (type_of p (frame_in q within set) [] e) q.result ≡ true

  pub ArmsTyped : Prog → Proc → Bool → (ℕ → Bool) → CodeArms → Type 0
  ArmsTyped p q within set no_code = Unit {0}
  ArmsTyped p q within set (also_code con slots body others) =
      (slots_take q slots (fields_of p.cons con) ≡ true) × CodeTyped p q within (and_slots slots set) body × ArmsTyped p q within set others

-- # Typed states

abbrev pub SlotsFit : Prog → Proc → List (Option Val) → Type 0
SlotsFit p q slots = (n : ℕ) (v : Val) (ty : Ty) → At slots n (Some v) → At q.slots n ty → fits p ty v ≡ true

abbrev pub AreSet : (ℕ → Bool) → List (Option Val) → Type 0
AreSet set slots = (n : ℕ) → set n ≡ true → (v : Val) × At slots n (Some v)

-- there is a result exactly where there is a result type, and it fits
abbrev pub result_fits : Prog → Option Ty → Option Val → Bool
result_fits p None None = true
result_fits p (Some ty) (Some v) = fits p ty v
result_fits p _ _ = false

-- what is left is typed, with slots that are set
pub record IsReady (p : Prog) (q : Proc) (inv : Invocation) : Type 0 where
  pub set : ℕ → Bool
  pub are_set : AreSet set inv.slots
  pub typed : CodeTyped p q (is_some inv.tx) set inv.left

pub record IsTypedInvocation (p : Prog) (inv : Invocation) : Type 0 where
  pub proc : Proc
  pub is : At p.procs inv.proc proc
  pub counted : length inv.slots ≡ length proc.slots
  pub slots : SlotsFit p proc inv.slots
  pub result : (found : Option Val) → inv.standing ≡ Returned found → result_fits p proc.result found ≡ true
  pub ready : inv.standing ≡ Running → IsReady p proc inv

pub record IsTyped (p : Prog) (s : State) : Type 0 where
  pub calls : (c : ℕ) (call : Call) → At s.calls c call → (op : OpDecl) × At p.ops call.op op × (all_fit p op.args call.args ≡ true)
  pub invocations : (i : ℕ) (inv : Invocation) → At s.invocations i inv → IsTypedInvocation p inv
