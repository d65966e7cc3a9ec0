-- Marked calls, while they are marked from the last call down, and transactions with a call of a set.
use Rattle.std.specs.Prelude.{◌≡◌, ◌≤◌, ℕ, Bool, true, ◌&&◌, List, Some}
use Rattle.crdt_defs.specs.Calls.{Call}
use Rattle.crdt_defs.specs.Counting.{any_below}
use Rattle.crdt_defs.specs.Histories.{before}
use Rattle.crdt_defs.specs.Meaning.{is_before_one}
use Rattle.event_machine.specs.Machine.{own_calls}

-- what is before a seen call from number k on is marked, and nothing else
pub record AreCausesFrom (h : List Call) (seen : ℕ → Bool) (k : ℕ) (marked : ℕ → Bool) : Type 0 where
  pub only : (b : ℕ) → marked b ≡ true → is_before_one h seen b ≡ true
  pub all : (b d : ℕ) → k ≤ d → seen d ≡ true → before h b d ≡ true → marked b ≡ true

-- one of the first n calls is of the transaction and of the set
abbrev pub is_needed : List Call → (ℕ → Bool) → (tx n : ℕ) → Bool
is_needed h wanted tx n = any_below (λ c. own_calls h (Some tx) c && wanted c) n
