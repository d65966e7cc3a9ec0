-- The parts of a state that truth may read, and what quantifiers range over.
use Rattle.std.specs.Prelude.{ℕ, Bool, true, ◌&&◌, ◌||◌, not, nat_eq, List, length}
use Rattle.rp_value.specs.declared.tables.Ty.{Ty}
use Rattle.rp_value.specs.declared.tables.Ty.TheVariants as ty
use Rattle.rp_value.specs.Values.{Val, Atom, Call, Inv, false_val}
use Rattle.crdt_defs.specs.Calls as calls
use Rattle.crdt_defs.specs.Counting.{any_below, all_below}
use Rattle.crdt_defs.specs.Histories.{call_is, before, some_call}
use Rattle.crdt_defs.specs.Snapshots.{bit}

-- whether an invocation has returned, and with which value
pub data Result : Type 0 where
  Unreturned : Result
  Returned : Result
  ReturnedWith : (v : Val) → Result

-- an invocation
pub record Info : Type 0 where
  pub proc : ℕ
  pub args : List Val
  pub result : Result

pub record Parts : Type 0 where
  pub universe : ℕ
  pub calls : List calls.Call
  -- of each transaction whether it is committed
  pub committed : List Bool
  pub infos : List Info

-- c is a call of a committed transaction
abbrev pub is_committed : Parts → ℕ → Bool
is_committed parts c = call_is parts.calls (λ call. bit parts.committed call.tx) c

-- # Ranges of quantifiers

-- all that a quantifier over the type ranges over have numbers below this one
abbrev pub bound : Parts → Ty → ℕ
bound parts (ty.Atom atoms) = parts.universe
bound parts ty.Call = length parts.calls
bound parts ty.Inv = length parts.infos
bound parts _ = 0

-- of calls it ranges over the committed ones; invocations count whether they have returned or not
abbrev pub is_in_range : Parts → Ty → ℕ → Bool
is_in_range parts ty.Call c = is_committed parts c
is_in_range parts _ n = true

-- the one with this number
abbrev pub member : Ty → ℕ → Val
member (ty.Atom atoms) n = Atom atoms n
member ty.Call c = Call c
member ty.Inv i = Inv i
member _ n = false_val

abbrev pub each_member : Parts → Ty → (Val → Bool) → Bool
each_member parts over test = all_below (λ n. not (is_in_range parts over n) || test (member over n)) (bound parts over)

abbrev pub some_member : Parts → Ty → (Val → Bool) → Bool
some_member parts over test = any_below (λ n. is_in_range parts over n && test (member over n)) (bound parts over)

-- # Before

-- c is a committed call of the invocation
abbrev pub is_done_by : Parts → ℕ → ℕ → Bool
is_done_by parts i c = is_committed parts c && call_is parts.calls (λ call. nat_eq call.inv i) c

-- c is before each committed call of the invocation
abbrev pub is_before_all_of : Parts → ℕ → ℕ → Bool
is_before_all_of parts j c = all_below (λ d. not (is_done_by parts j d) || before parts.calls c d) (length parts.calls)

-- both invocations have a committed call, and each one of i is before each one of j
abbrev pub inv_before : Parts → ℕ → ℕ → Bool
inv_before parts i j =
    some_call parts.calls (is_done_by parts i)
    && some_call parts.calls (is_done_by parts j)
    && all_below (λ c. not (is_done_by parts i c) || is_before_all_of parts j c) (length parts.calls)
