-- Counts of faults and of bytes, which stand still at their last value.
use Rattle.std.specs.Prelude.{ℕ, ◌+◌, ◌-◌, ◌^◌, ◌≤◌, min, max}

-- 18446744073709551615
abbrev pub last_count : ℕ
last_count = 2 ^ 64 - 1

-- a count after n more, which goes no further than the last value and never falls
abbrev pub raised : ℕ → ℕ → ℕ
raised count n = max count (min (count + n) last_count)

-- a count rose, or stands at its last value
abbrev pub Rose : ℕ → ℕ → Type 0
Rose before now = raised before 1 ≤ now
