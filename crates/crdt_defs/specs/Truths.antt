-- Truth at a snapshot: what expressions and formulas mean at the parts of a state and a set of visible calls.
-- Numbers are whole numbers without a range. What has no meaning, as a number where a call is asked, is `false`; a
-- well typed program meets none of that.
use Rattle.std.specs.Prelude.{ℕ, zero, suc, Bool, true, false, ◌&&◌, ◌||◌, not, nat_eq, ℤ, pos, ◌+ℤ◌, ◌-ℤ◌, int_lt, int_le, if◌then◌else◌, List, [], ◌∷◌, Option, Some, None, slice_get, slice_index_or}
use Rattle.rp_value.specs.declared.tables.Ty.{Ty}
use Rattle.rp_value.specs.declared.tables.Ty.TheVariants.{Datatype}
use Rattle.rp_value.specs.declared.tables.DataDecl.{DataDecl}
use Rattle.rp_value.specs.Values as val
use Rattle.rp_value.specs.Values.{Val, Vals, no_val, also_val, true_val, false_val}
use Rattle.rp_value.specs.ValueView.{vals_of}
use Rattle.rp_lang.specs.declared.query.QueryDecl.{QueryDecl}
use Rattle.rp_lang.specs.Exprs.{Ex, Slot, Bound, Int, Str, Con, Plus, Add, Sub, Query, OpOf, OpTerm, OriginOf, InfoOf, InfoTerm, ResultOf, ResultTerm, ResultWith, Unreturned, Exs, no_ex, also_ex}
use Rattle.rp_lang.specs.Formulas as fo
use Rattle.rp_lang.specs.Formulas.{Fo, Fos, no_fo, also_fo, Arms, no_arm, also_arm}
use Rattle.rp_lang.specs.Programs.{Prog}
use Rattle.crdt_defs.specs.declared.asked.Answer.{Answer}
use Rattle.crdt_defs.specs.declared.asked.Answer.TheVariants.{Truth, Value}
use Rattle.crdt_defs.specs.declared.asked.Found.{Found}
use Rattle.crdt_defs.specs.declared.asked.Found.TheVariants.{Sum, At, Nothing}
use Rattle.crdt_defs.specs.Calls.{Call}
use Rattle.crdt_defs.specs.Doing.{own_argument}
use Rattle.crdt_defs.specs.Histories.{before, same_tx}
use Rattle.crdt_defs.specs.Parts as parts
use Rattle.crdt_defs.specs.Parts.{Parts, Info, Result, each_member, some_member, inv_before}
use Rattle.crdt_defs.specs.Queries.{answer_in}
use Rattle.crdt_defs.specs.SameValues.{same_val, same_vals}

-- what an expression or a formula reads
pub record Reading : Type 0 where
  pub program : Prog
  pub parts : Parts
  -- the visible calls
  pub visible : ℕ → Bool
  -- a slot without a value isn't set
  pub slots : List (Option Val)

-- # Values

abbrev pub truth_val : Bool → Val
truth_val b = if b then true_val else false_val

-- constructor 1 of `Bool`, without fields
abbrev pub is_true : Val → Bool
is_true (val.Con (suc zero) no_val) = true
is_true _ = false

-- the value in a slot; no program reads a slot that isn't set
abbrev pub slot_value : Option (Option Val) → Val
slot_value (Some (Some v)) = v
slot_value (Some None) = false_val
slot_value None = false_val

abbrev pub or_false : Option Val → Val
or_false None = false_val
or_false (Some v) = v

abbrev pub number : Val → ℤ
number (val.Int n) = n
number _ = pos 0

abbrev pub list_of : Vals → List Val
list_of no_val = []
list_of (also_val v vs) = v ∷ list_of vs

-- # Answers of queries as values

abbrev pub con_of : Option DataDecl → ℕ → ℕ
con_of None n = 0
con_of (Some decl) n = slice_index_or decl.cons n 0

-- the n-th constructor of a datatype: of a `Maybe` type 0 is `none`, 1 is `some`
abbrev pub nth_con : Prog → Ty → ℕ → ℕ
nth_con p (Datatype d) n = con_of (slice_get p.types.datatypes d) n
nth_con p _ n = 0

-- a register gives `some` of what its deciding call assigned, or `none`
abbrev pub found_val : Prog → List Call → Ty → Found → Val
found_val p h maybe (Sum n) = val.Int n
found_val p h maybe (At c) = val.Con (nth_con p maybe 1) (also_val (or_false (own_argument p.ops (slice_get h c))) no_val)
found_val p h maybe Nothing = val.Con (nth_con p maybe 0) no_val

abbrev pub answer_val : Prog → List Call → Option QueryDecl → Answer → Val
answer_val p h query (Truth b) = truth_val b
answer_val p h None (Value found) = false_val
answer_val p h (Some query) (Value found) = found_val p h query.result found

-- the answer of a store query at the visible calls
abbrev pub asked : Reading → ℕ → List Val → Val
asked r query args =
    answer_val r.program r.parts.calls (slice_get r.program.queries query) (answer_in r.program query r.parts.calls r.visible args)

-- # Calls and invocations

abbrev pub call_at : Parts → Val → Option Call
call_at parts (val.Call c) = slice_get parts.calls c
call_at parts _ = None

abbrev pub info_at : Parts → Val → Option Info
info_at parts (val.Inv i) = slice_get parts.infos i
info_at parts _ = None

abbrev pub origin_of : Option Call → Val
origin_of None = false_val
origin_of (Some call) = val.Inv call.inv

abbrev pub is_visible : Reading → Val → Bool
is_visible r (val.Call c) = r.visible c
is_visible r _ = false

-- two calls, or two invocations
abbrev pub is_before : Parts → Val → Val → Bool
is_before parts (val.Call c) (val.Call d) = before parts.calls c d
is_before parts (val.Inv i) (val.Inv j) = inv_before parts i j
is_before parts _ _ = false

-- two calls of one transaction
abbrev pub is_same : Parts → Val → Val → Bool
is_same parts (val.Call c) (val.Call d) = same_tx parts.calls c d
is_same parts _ _ = false

-- # Expressions

abbrev mutual
  -- the value at the binders around, the innermost first
  pub value : Reading → List Val → Ex → Val
  value r binders (Slot s) = slot_value (slice_get r.slots s)
  value r binders (Bound n) = or_false (slice_get binders n)
  value r binders (Int n) = val.Int n
  value r binders (Str bytes) = val.Str bytes
  value r binders (Con con args) = val.Con con (values r binders args)
  value r binders (Plus e n) = val.Int (number (value r binders e) +ℤ n)
  value r binders (Add a b) = val.Int (number (value r binders a) +ℤ number (value r binders b))
  value r binders (Sub a b) = val.Int (number (value r binders a) -ℤ number (value r binders b))
  value r binders (Query query args) = asked r query (list_of (values r binders args))
  value r binders (OriginOf call) = origin_of (call_at r.parts (value r binders call))
  value r binders _ = false_val

  pub values : Reading → List Val → Exs → Vals
  values r binders no_ex = no_val
  values r binders (also_ex e es) = also_val (value r binders e) (values r binders es)

-- what an expression stands for: a value, or what else an invariant may compare
pub data Meant : Type 0 where
  Plain : (v : Val) → Meant
  Operation : (op : ℕ) (args : Vals) → Meant
  Invoked : (proc : ℕ) (args : Vals) → Meant
  Running : Meant
  Ended : (proc : ℕ) → Meant
  EndedWith : (proc : ℕ) (v : Val) → Meant

abbrev pub operation_of : Option Call → Meant
operation_of None = Plain false_val
operation_of (Some call) = Operation call.op (vals_of call.args)

abbrev pub info_of : Option Info → Meant
info_of None = Plain false_val
info_of (Some info) = Invoked info.proc (vals_of info.args)

abbrev pub ended : ℕ → Result → Meant
ended proc parts.Unreturned = Running
ended proc parts.Returned = Ended proc
ended proc (parts.ReturnedWith v) = EndedWith proc v

abbrev pub result_of : Option Info → Meant
result_of None = Plain false_val
result_of (Some info) = ended info.proc info.result

abbrev pub meant : Reading → List Val → Ex → Meant
meant r binders (OpOf call) = operation_of (call_at r.parts (value r binders call))
meant r binders (OpTerm op args) = Operation op (values r binders args)
meant r binders (InfoOf inv) = info_of (info_at r.parts (value r binders inv))
meant r binders (InfoTerm proc args) = Invoked proc (values r binders args)
meant r binders (ResultOf inv) = result_of (info_at r.parts (value r binders inv))
meant r binders (ResultTerm proc) = Ended proc
meant r binders (ResultWith proc e) = EndedWith proc (value r binders e)
meant r binders Unreturned = Running
meant r binders e = Plain (value r binders e)

abbrev pub same_meant : Meant → Meant → Bool
same_meant (Plain v) (Plain w) = same_val v w
same_meant (Operation op args) (Operation other others) = nat_eq op other && same_vals args others
same_meant (Invoked proc args) (Invoked other others) = nat_eq proc other && same_vals args others
same_meant Running Running = true
same_meant (Ended proc) (Ended other) = nat_eq proc other
same_meant (EndedWith proc v) (EndedWith other w) = nat_eq proc other && same_val v w
same_meant _ _ = false

-- # Formulas

-- the value is built with this constructor
abbrev pub is_built : ℕ → Val → Bool
is_built con (val.Con c args) = nat_eq c con
is_built con _ = false

-- the binders with these values inside, the last one innermost
abbrev pub bind : Vals → List Val → List Val
bind no_val binders = binders
bind (also_val v vs) binders = bind vs (v ∷ binders)

abbrev pub bind_fields : Val → List Val → List Val
bind_fields (val.Con con args) binders = bind args binders
bind_fields _ binders = binders

abbrev mutual
  pub truth : Reading → List Val → Fo → Bool
  truth r binders (fo.And parts) = all_true r binders parts
  truth r binders (fo.Or parts) = any_true r binders parts
  truth r binders (fo.Not f) = not (truth r binders f)
  truth r binders (fo.Implies f g) = not (truth r binders f) || truth r binders g
  truth r binders (fo.All over body) = each_member r.parts over (λ v. truth r (v ∷ binders) body)
  truth r binders (fo.Any over body) = some_member r.parts over (λ v. truth r (v ∷ binders) body)
  truth r binders (fo.Holds e) = is_true (value r binders e)
  truth r binders (fo.Equal a b) = same_meant (meant r binders a) (meant r binders b)
  truth r binders (fo.Less a b) = int_lt (number (value r binders a)) (number (value r binders b))
  truth r binders (fo.AtMost a b) = int_le (number (value r binders a)) (number (value r binders b))
  truth r binders (fo.Visible call) = is_visible r (value r binders call)
  truth r binders (fo.Before a b) = is_before r.parts (value r binders a) (value r binders b)
  truth r binders (fo.Same a b) = is_same r.parts (value r binders a) (value r binders b)
  truth r binders (fo.Match on arms) = arm_true r binders (value r binders on) arms

  pub all_true : Reading → List Val → Fos → Bool
  all_true r binders no_fo = true
  all_true r binders (also_fo f fs) = truth r binders f && all_true r binders fs

  pub any_true : Reading → List Val → Fos → Bool
  any_true r binders no_fo = false
  any_true r binders (also_fo f fs) = truth r binders f || any_true r binders fs

  -- the arm of the constructor that the value is built with
  pub arm_true : Reading → List Val → Val → Arms → Bool
  arm_true r binders v no_arm = false
  arm_true r binders v (also_arm con body rest) =
      if is_built con v then truth r (bind_fields v binders) body else arm_true r binders v rest
