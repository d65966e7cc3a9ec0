-- A history to which calls were added.
use Rattle.std.specs.Prelude.{◌≡◌, ℕ, ◌<◌, ◌≤◌, Bool, true, List, length, slice_get}
use Rattle.crdt_defs.specs.Calls.{Call}

-- a longer history, in which the calls keep their numbers
pub record IsLonger (h longer_h : List Call) : Type 0 where
  pub longer : length h ≤ length longer_h
  pub kept : (c : ℕ) → c < length h → slice_get longer_h c ≡ slice_get h c

-- the set has calls of the history alone
abbrev pub Bounded : List Call → (ℕ → Bool) → Type 0
Bounded h set = (c : ℕ) → set c ≡ true → c < length h
