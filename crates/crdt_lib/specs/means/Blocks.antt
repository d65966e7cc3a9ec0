-- Transactions that are visible in part, looked for in blocks of 16,384 numbers. No public clause cites this.
use Rattle.std.specs.Prelude.{ℕ, ◌+◌, ◌-◌, ◌*◌, ◌/◌, Bool, ◌&&◌, not, nat_eq, nat_lt, nat_le, List}
use Rattle.crdt_defs.specs.Calls.{Call}
use Rattle.crdt_defs.specs.Counting.{any_below}
use Rattle.crdt_defs.specs.Histories.{call_is, some_call}
use Rattle.crdt_defs.specs.Snapshots.{bit}

-- as many blocks as hold the numbers up to the bound
abbrev pub blocks : ℕ → ℕ
blocks bound = bound / 16384 + 1

-- some call of the transaction is visible
abbrev pub is_seen : List Call → (ℕ → Bool) → ℕ → Bool
is_seen h visible tx = some_call h (λ c. call_is h (λ call. nat_eq call.tx tx) c && visible c)

-- the number is of the block that begins at `base`
abbrev pub in_block : ℕ → ℕ → Bool
in_block base tx = nat_le base tx && nat_lt (tx - base) 16384

-- the number stands in the row of the block that begins at `base`
abbrev pub is_marked : ℕ → List Bool → ℕ → Bool
is_marked base seen tx = nat_le base tx && bit seen (tx - base)

-- some transaction of the block has a visible call and one that isn't
abbrev pub splits : List Call → (ℕ → Bool) → ℕ → Bool
splits h visible block =
    some_call h (λ d. call_is h (λ call. in_block (block * 16384) call.tx && is_seen h visible call.tx) d && not (visible d))

-- some transaction up to the bound has a visible call and one that isn't
abbrev pub splits_one : List Call → (ℕ → Bool) → ℕ → Bool
splits_one h visible bound = any_below (splits h visible) (blocks bound)
