-- Well typed statements.
use Rattle.std.specs.Prelude.{ℕ, Bool, true, false, ◌&&◌, ◌||◌, not, nat_eq, nat_lt, List, [], ◌∷◌, length, Option, Some, slice_get, is_none}
use Rattle.std.specs.List.{list_any}
use Rattle.rp_value.specs.declared.tables.Ty.{Ty}
use Rattle.rp_value.specs.declared.tables.Ty.TheVariants.{Atom}
use Rattle.rp_lang.specs.Exprs.{Ex, Exs}
use Rattle.rp_lang.specs.Formulas.{Fo}
use Rattle.rp_lang.specs.Stmts.{St, Put, Decide, New, Operate, If, Match, Atomic, Assert, Return, ReturnWith, Sts, no_st, also_st, StArms, no_st_arm, also_st_arm}
use Rattle.rp_lang.specs.Programs.{Prog}
use Rattle.rp_lang.specs.Types.{agree, bool_ty, is_id_type, fields_of}
use Rattle.rp_lang.specs.Typing.{Frame, given, type_of, have_types, is_typed, are_cases, op_args}
use Rattle.rp_lang.specs.Bounds.{is_small_ex, are_small_exs, is_small_fo}
use Rattle.rp_lang.specs.Flow.{sets}

-- # What an expression is to be

-- the type of a plain expression within the limits, under no binder
abbrev pub plain_type : Prog → Frame → Ex → Option Ty
plain_type p frame e = given (is_small_ex e) (type_of p frame [] e)

-- a formula within the limits
abbrev pub is_condition : Prog → Frame → Fo → Bool
is_condition p frame f = is_small_fo p.cons f && is_typed p frame [] f

-- # Slots

-- the slot may be assigned a value of the type
abbrev pub takes : Frame → ℕ → Option Ty → Bool
takes frame slot found = not (frame.fixed slot) && agree found (slice_get frame.slots slot)

abbrev pub is_slot : ℕ → List ℕ → Bool
is_slot s slots = list_any (nat_eq s) slots

-- an arm's slots are as many as the fields and of their types, each once, and none stands for something else here
abbrev pub take_fields : Frame → List ℕ → List Ty → Bool
take_fields frame [] [] = true
take_fields frame (slot ∷ slots) (field ∷ fields) =
    not (is_slot slot slots) && takes frame slot (Some field) && take_fields frame slots fields
take_fields frame _ _ = false

-- # Frames of statements

-- behind a statement
abbrev pub behind : St → Frame → Frame
behind st frame = record frame { set = λ s. frame.set s || sets s st }

-- in an arm with these slots
abbrev pub in_arm : List ℕ → Frame → Frame
in_arm slots frame = record frame { set = λ s. is_slot s slots || frame.set s; fixed = λ s. is_slot s slots || frame.fixed s }

abbrev pub in_atomic : Frame → Frame
in_atomic frame = record frame { reads = true }

-- # Statements

abbrev pub is_return : St → Bool
is_return (Return at) = true
is_return (ReturnWith at e) = true
is_return _ = false

abbrev pub is_end : Sts → Bool
is_end no_st = true
is_end (also_st st rest) = false

abbrev pub st_arm_cons : StArms → List ℕ
st_arm_cons no_st_arm = []
st_arm_cons (also_st_arm con slots body rest) = con ∷ st_arm_cons rest

-- an operation other than `tx`, inside an atomic block, with arguments that fit it
abbrev pub can_operate : Prog → Frame → ℕ → Exs → Bool
can_operate p frame op args =
    frame.reads && nat_lt 0 op && nat_lt op (length p.ops)
    && are_small_exs args && have_types p frame [] (op_args (slice_get p.ops op)) args

-- a `return` and another atomic block stand outside atomic blocks
abbrev mutual
  pub is_stmt : Prog → Frame → St → Bool
  is_stmt p frame (Put at slot e) = takes frame slot (plain_type p frame e)
  is_stmt p frame (Decide at slot f) = takes frame slot (Some bool_ty) && is_condition p frame f
  is_stmt p frame (New at slot n) = takes frame slot (Some (Atom n)) && is_id_type (slice_get p.types.atoms n)
  is_stmt p frame (Operate at op args) = can_operate p frame op args
  is_stmt p frame (If at f then_ else_) = is_condition p frame f && are_stmts p frame then_ && are_stmts p frame else_
  is_stmt p frame (Match at on arms) = are_cases p (plain_type p frame on) (st_arm_cons arms) && are_stmt_arms p frame arms
  is_stmt p frame (Atomic at body) = not frame.reads && are_stmts p (in_atomic frame) body
  is_stmt p frame (Assert at f) = is_condition p frame f
  is_stmt p frame (Return at) = not frame.reads && is_none frame.result
  is_stmt p frame (ReturnWith at e) = not frame.reads && agree (plain_type p frame e) frame.result

  -- a `return` stands last
  pub are_stmts : Prog → Frame → Sts → Bool
  are_stmts p frame no_st = true
  are_stmts p frame (also_st st rest) =
      (is_end rest || not (is_return st)) && is_stmt p frame st && are_stmts p (behind st frame) rest

  pub are_stmt_arms : Prog → Frame → StArms → Bool
  are_stmt_arms p frame no_st_arm = true
  are_stmt_arms p frame (also_st_arm con slots body rest) =
      take_fields frame slots (fields_of p.cons con) && are_stmts p (in_arm slots frame) body && are_stmt_arms p frame rest
