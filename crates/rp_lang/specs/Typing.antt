-- Types of expressions, and well typed formulas.
use Rattle.std.specs.Prelude.{ℕ, ℤ, pos, negsuc, int_le, Bool, true, false, ◌&&◌, ◌||◌, not, ◌==◌, nat_eq, nat_lt, if◌then◌else◌, List, [], ◌∷◌, length, Option, Some, None, slice_get, is_none}
use Rattle.std.specs.List.{list_all, list_any}
use Rattle.rp_value.specs.declared.tables.Ty.{Ty}
use Rattle.rp_value.specs.declared.tables.Ty.TheVariants.{Atom, Datatype, Call, Inv, Operation, Info, Outcome}
use Rattle.rp_value.specs.declared.tables.Ty.TheVariants as ty
use Rattle.rp_lang.specs.declared.op.OpDecl.{OpDecl}
use Rattle.rp_lang.specs.declared.query.QueryDecl.{QueryDecl}
use Rattle.rp_lang.specs.declared.query.QueryKind.{QueryKind}
use Rattle.rp_lang.specs.declared.query.QueryKind.TheVariants.{GetReg, GetSum}
use Rattle.rp_lang.specs.Exprs.{Ex, Slot, Bound, Int, Str, Con, Plus, Add, Sub, Query, OpOf, OpTerm, OriginOf, InfoOf, InfoTerm, ResultOf, ResultTerm, ResultWith, Unreturned, Exs, no_ex, also_ex}
use Rattle.rp_lang.specs.Formulas as fo
use Rattle.rp_lang.specs.Formulas.{Fo, Fos, no_fo, also_fo, Arms, no_arm, also_arm}
use Rattle.rp_lang.specs.Programs.{Proc, Prog}
use Rattle.rp_lang.specs.Types.{is_ty, agree, bool_ty, fields_of, datatype_of, cons_of}

-- Where an expression stands.
pub record Frame : Type 0 where
  -- the types of the slots
  pub slots : List Ty
  -- the slots that have a value on every path to here
  pub set : ℕ → Bool
  -- parameters and variables of patterns, which aren't assigned
  pub fixed : ℕ → Bool
  -- the store may be read: inside an atomic block, and in an invariant
  pub reads : Bool
  -- calls and invocations may be spoken of: in an invariant
  pub speaks : Bool
  -- the type of what a `return` gives
  pub result : Option Ty

-- an invariant: there are no slots, and all words may be used
abbrev pub in_invariant : Frame
in_invariant = record { slots = []; set = λ s. false; fixed = λ s. false; reads = true; speaks = true; result = None }

-- # Parts of the program

abbrev pub op_args : Option OpDecl → List Ty
op_args None = []
op_args (Some op) = op.args

abbrev pub query_args : Option QueryDecl → List Ty
query_args None = []
query_args (Some query) = query.args

abbrev pub is_get : QueryKind → Bool
is_get GetReg = true
is_get GetSum = true
is_get _ = false

-- the type of a query that gives a value
abbrev pub value_asked : Option QueryDecl → Option Ty
value_asked None = None
value_asked (Some query) = if is_get query.kind then Some query.result else None

-- the query is one that holds or not
abbrev pub is_asked : Option QueryDecl → Bool
is_asked None = false
is_asked (Some query) = not (is_get query.kind)

abbrev pub proc_params : Option Proc → List Ty
proc_params None = []
proc_params (Some proc) = proc.params

abbrev pub proc_result : Option Proc → Option Ty
proc_result None = None
proc_result (Some proc) = proc.result

abbrev pub is_proc : Option Proc → Bool
is_proc None = false
is_proc (Some proc) = true

abbrev pub is_proc_without_result : Option Proc → Bool
is_proc_without_result None = false
is_proc_without_result (Some proc) = is_none proc.result

-- # Expressions

-- a slot is read only where it has a value
abbrev pub slot_ty : Frame → ℕ → Option Ty
slot_ty frame s = if frame.set s then slice_get frame.slots s else None

-- an integer of 64 bits
abbrev pub is_word : ℤ → Bool
is_word n = int_le (negsuc 9223372036854775806) n && int_le n (pos 9223372036854775807)

abbrev pub given : Bool → Option Ty → Option Ty
given holds found = if holds then found else None

-- The type of a plain expression under these binders, the innermost first.
abbrev mutual
  pub type_of : Prog → Frame → List Ty → Ex → Option Ty
  type_of p frame binders (Slot s) = slot_ty frame s
  type_of p frame binders (Bound n) = slice_get binders n
  type_of p frame binders (Int n) = given (is_word n) (Some ty.Int)
  type_of p frame binders (Str bytes) = Some ty.Str
  type_of p frame binders (Con con args) = given (have_types p frame binders (fields_of p.cons con) args) (datatype_of p.cons con)
  type_of p frame binders (Plus e n) = given (is_word n && is_ty (type_of p frame binders e) ty.Int) (Some ty.Int)
  type_of p frame binders (Add a b) = given (is_ty (type_of p frame binders a) ty.Int && is_ty (type_of p frame binders b) ty.Int) (Some ty.Int)
  type_of p frame binders (Sub a b) = given (is_ty (type_of p frame binders a) ty.Int && is_ty (type_of p frame binders b) ty.Int) (Some ty.Int)
  type_of p frame binders (Query query args) =
      given (frame.reads && have_types p frame binders (query_args (slice_get p.queries query)) args) (value_asked (slice_get p.queries query))
  type_of p frame binders (OpOf call) = given (is_ty (type_of p frame binders call) Call) (Some Operation)
  type_of p frame binders (OpTerm op args) =
      given (nat_lt op (length p.ops) && have_types p frame binders (op_args (slice_get p.ops op)) args) (Some Operation)
  type_of p frame binders (OriginOf call) = given (is_ty (type_of p frame binders call) Call) (Some Inv)
  type_of p frame binders (InfoOf inv) = given (is_ty (type_of p frame binders inv) Inv) (Some Info)
  type_of p frame binders (InfoTerm proc args) =
      given (is_proc (slice_get p.procs proc) && have_types p frame binders (proc_params (slice_get p.procs proc)) args) (Some Info)
  type_of p frame binders (ResultOf inv) = given (is_ty (type_of p frame binders inv) Inv) (Some Outcome)
  type_of p frame binders (ResultTerm proc) = given (is_proc_without_result (slice_get p.procs proc)) (Some Outcome)
  type_of p frame binders (ResultWith proc value) =
      given (agree (type_of p frame binders value) (proc_result (slice_get p.procs proc))) (Some Outcome)
  type_of p frame binders Unreturned = Some Outcome

  -- the expressions are as many as the types, and of these in order
  pub have_types : Prog → Frame → List Ty → List Ty → Exs → Bool
  have_types p frame binders [] no_ex = true
  have_types p frame binders [] (also_ex e es) = false
  have_types p frame binders (t ∷ ts) no_ex = false
  have_types p frame binders (t ∷ ts) (also_ex e es) = is_ty (type_of p frame binders e) t && have_types p frame binders ts es

-- # Formulas

-- a term of an operation, a procedure or an outcome, which is only compared with that of a call or an invocation
abbrev pub is_record_term : Ex → Bool
is_record_term (OpTerm op args) = true
is_record_term (InfoTerm proc args) = true
is_record_term (ResultTerm proc) = true
is_record_term (ResultWith proc value) = true
is_record_term Unreturned = true
is_record_term _ = false

-- a query that holds or not, with arguments that fit it
abbrev pub is_question : Prog → Frame → List Ty → Ex → Bool
is_question p frame binders (Query query args) =
    is_asked (slice_get p.queries query) && frame.reads && have_types p frame binders (query_args (slice_get p.queries query)) args
is_question p frame binders _ = false

-- what is true or not: such a query, or an expression of type `Bool`
abbrev pub is_truth : Prog → Frame → List Ty → Ex → Bool
is_truth p frame binders e = is_question p frame binders e || is_ty (type_of p frame binders e) bool_ty

abbrev pub are_comparable : Prog → Frame → List Ty → Ex → Ex → Bool
are_comparable p frame binders a b =
    agree (type_of p frame binders a) (type_of p frame binders b) && not (is_record_term a && is_record_term b)

abbrev pub are_both : Prog → Frame → List Ty → Ty → Ex → Ex → Bool
are_both p frame binders t a b = is_ty (type_of p frame binders a) t && is_ty (type_of p frame binders b) t

-- a quantifier is over an id type or an opaque type, or in an invariant over calls or invocations
abbrev pub is_range : Prog → Frame → Ty → Bool
is_range p frame (Atom n) = nat_lt n (length p.types.atoms)
is_range p frame Call = frame.speaks
is_range p frame Inv = frame.speaks
is_range p frame _ = false

-- the binders under an arm's fields, the last field innermost
abbrev pub under : List Ty → List Ty → List Ty
under [] binders = binders
under (field ∷ fields) binders = under fields (field ∷ binders)

abbrev pub is_among : ℕ → List ℕ → Bool
is_among con cons = list_any (nat_eq con) cons

-- these are the constructors, each once, in any order
abbrev pub cover : List ℕ → List ℕ → Bool
cover found cons = length found == length cons && list_all (λ con. is_among con found) cons

-- arms of these constructors are those of the matched datatype
abbrev pub are_cases : Prog → Option Ty → List ℕ → Bool
are_cases p (Some (Datatype n)) found = cover found (cons_of p.types n)
are_cases p _ found = false

abbrev pub arm_cons : Arms → List ℕ
arm_cons no_arm = []
arm_cons (also_arm con body rest) = con ∷ arm_cons rest

abbrev mutual
  pub is_typed : Prog → Frame → List Ty → Fo → Bool
  is_typed p frame binders (fo.And parts) = are_typed p frame binders parts
  is_typed p frame binders (fo.Or parts) = are_typed p frame binders parts
  is_typed p frame binders (fo.Not f) = is_typed p frame binders f
  is_typed p frame binders (fo.Implies a b) = is_typed p frame binders a && is_typed p frame binders b
  is_typed p frame binders (fo.All t body) = is_range p frame t && is_typed p frame (t ∷ binders) body
  is_typed p frame binders (fo.Any t body) = is_range p frame t && is_typed p frame (t ∷ binders) body
  is_typed p frame binders (fo.Holds e) = is_truth p frame binders e
  is_typed p frame binders (fo.Equal a b) = are_comparable p frame binders a b
  is_typed p frame binders (fo.Less a b) = are_both p frame binders ty.Int a b
  is_typed p frame binders (fo.AtMost a b) = are_both p frame binders ty.Int a b
  is_typed p frame binders (fo.Visible call) = is_ty (type_of p frame binders call) Call
  is_typed p frame binders (fo.Before a b) = are_both p frame binders Call a b || are_both p frame binders Inv a b
  is_typed p frame binders (fo.Same a b) = are_both p frame binders Call a b
  is_typed p frame binders (fo.Match on arms) =
      are_cases p (type_of p frame binders on) (arm_cons arms) && are_typed_arms p frame binders arms

  pub are_typed : Prog → Frame → List Ty → Fos → Bool
  are_typed p frame binders no_fo = true
  are_typed p frame binders (also_fo f fs) = is_typed p frame binders f && are_typed p frame binders fs

  pub are_typed_arms : Prog → Frame → List Ty → Arms → Bool
  are_typed_arms p frame binders no_arm = true
  are_typed_arms p frame binders (also_arm con body rest) =
      is_typed p frame (under (fields_of p.cons con) binders) body && are_typed_arms p frame binders rest
