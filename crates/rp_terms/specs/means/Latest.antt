-- Which number below a bound is the last that has a hash.
use Rattle.std.specs.Prelude.{◌≡◌, ◌≢◌, ◌<◌, ℕ, List, Option, None, Some, slice_get}

abbrev pub IsLatest : ℕ → List ℕ → ℕ → Option ℕ → Type 0
IsLatest hash hashes bound None = (i : ℕ) → i < bound → slice_get hashes i ≢ Some hash
IsLatest hash hashes bound (Some at) =
    (slice_get hashes at ≡ Some hash) × (at < bound) × ((i : ℕ) → at < i → i < bound → slice_get hashes i ≢ Some hash)
