-- What a query means at a set of calls: which calls count for a path, and what is asked of those.
use Rattle.std.specs.Prelude.{ℕ, Bool, ◌&&◌, not, nat_lt, ℤ, pos, if◌then◌else◌, List, length, Option, Some, None, slice_get}
use Rattle.rp_value.specs.Values.{Val}
use Rattle.rp_lang.specs.declared.op.OpDecl.{OpDecl}
use Rattle.rp_lang.specs.declared.op.OpKind.TheVariants.{Add, Remove, Assign}
use Rattle.crdt_defs.specs.declared.asked.Winner.{Winner}
use Rattle.crdt_defs.specs.declared.asked.Winner.TheVariants.{Update, Delete}
use Rattle.crdt_defs.specs.Calls.{Call}
use Rattle.crdt_defs.specs.Counting.{sum_below, first_below}
use Rattle.crdt_defs.specs.Histories.{call_is, before, some_call}
use Rattle.crdt_defs.specs.Doing.{is_of, does, goes_to_field, goes_to_key, deletes, amount}

-- those of a set that are calls which meet a test
abbrev pub among : List Call → (ℕ → Bool) → (Call → Bool) → ℕ → Bool
among h set test c = set c && call_is h test c

-- c is before some call of the set
abbrev pub is_before_one : List Call → (ℕ → Bool) → ℕ → Bool
is_before_one h set c = some_call h (λ d. set d && before h c d)

-- some call of these is before no call of those
abbrev pub one_stays : List Call → (ℕ → Bool) → (ℕ → Bool) → Bool
one_stays h these those = some_call h (λ c. these c && not (is_before_one h those c))

-- # The calls that count for a path

-- those that count for the field n of what stands after `depth` steps
abbrev pub in_field : List OpDecl → List Call → ℕ → ℕ → (ℕ → Bool) → ℕ → Bool
in_field ops h depth n counted = among h counted (goes_to_field ops depth n)

-- a call under a key that d deletes doesn't count: where updates win it is before d, where deletes win d isn't before it
abbrev pub loses : List Call → Winner → ℕ → ℕ → Bool
loses h Update c d = before h c d
loses h Delete c d = not (before h d c)

-- those that count for the key k of the map that stands after `depth` steps
abbrev pub at_key : List OpDecl → List Call → Winner → ℕ → Val → (ℕ → Bool) → ℕ → Bool
at_key ops h winner depth k counted c =
    among h counted (goes_to_key ops depth k) c
    && not (some_call h (λ d. among h counted (deletes ops depth k) d && loses h winner c d))

-- # What is asked of the calls that count

-- a set where adds win: some add of x is before no remove of x
abbrev pub contains_add_wins : List OpDecl → List Call → (ℕ → Bool) → Val → Bool
contains_add_wins ops h counted x = one_stays h (among h counted (does ops Add x)) (among h counted (does ops Remove x))

-- a set where removes win: there is an add of x, and each remove of x is before some add of x
abbrev pub contains_remove_wins : List OpDecl → List Call → (ℕ → Bool) → Val → Bool
contains_remove_wins ops h counted x =
    some_call h (among h counted (does ops Add x))
    && not (one_stays h (among h counted (does ops Remove x)) (among h counted (does ops Add x)))

-- a register of many values: some assign of x is before no assign
abbrev pub contains_value : List OpDecl → List Call → (ℕ → Bool) → Val → Bool
contains_value ops h counted x = one_stays h (among h counted (does ops Assign x)) (among h counted (is_of ops Assign))

abbrev pub stamp_of : Option Call → ℕ
stamp_of None = 0
stamp_of (Some call) = call.stamp

-- c has a lesser stamp than some call of the set
abbrev pub is_older : List Call → (ℕ → Bool) → ℕ → Bool
is_older h set c = some_call h (λ d. set d && nat_lt (stamp_of (slice_get h c)) (stamp_of (slice_get h d)))

-- a register of one value: the assign of the greatest stamp, of several such the first
abbrev pub latest : List OpDecl → List Call → (ℕ → Bool) → Option ℕ
latest ops h counted =
    let assigns = among h counted (is_of ops Assign) in
    first_below (λ c. assigns c && not (is_older h assigns c)) (length h)

-- a counter: the sum of the amounts
abbrev pub counter_sum : List OpDecl → List Call → (ℕ → Bool) → ℤ
counter_sum ops h counted = sum_below (λ c. if counted c then amount ops (slice_get h c) else pos 0) (length h)
