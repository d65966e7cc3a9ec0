-- Truths in a row, kept as bits.
use Rattle.std.specs.Prelude.{ℕ, ◌*◌, ◌/◌, ◌%◌, ◌≤◌, zero, suc, Bool, true, false, ◌&&◌, ◌||◌, nat_eq, ◌==◌, List, [], ◌∷◌, length, slice_get, slice_index_or, if◌then◌else◌}
use Rattle.std.specs.Int.{bit_at}
use Rattle.std.specs.Option.{unwrap_or}

abbrev pub one_at : ℕ → ℕ → Bool
one_at word place = nat_eq (bit_at word place) 1

-- the truth at a place of these words
abbrev pub truth_at : List ℕ → ℕ → Bool
truth_at words place = one_at (slice_index_or words (place / 64) 0) (place % 64)

-- so many from a place on
abbrev pub flags_from : List ℕ → ℕ → ℕ → List Bool
flags_from words place zero = []
flags_from words place (suc n) = truth_at words place ∷ flags_from words (suc place) n

abbrev pub flags_of : List ℕ → ℕ → List Bool
flags_of words n = flags_from words 0 n

abbrev pub HaveRoom : List ℕ → ℕ → Type 0
HaveRoom words len = len ≤ 64 * length words

-- past the end there is none
abbrev pub flag_at : List Bool → ℕ → Bool
flag_at flags place = unwrap_or (slice_get flags place) false

abbrev pub with_flag : (ℕ → Bool) → ℕ → ℕ → Bool
with_flag flags place k = flags k || k == place

-- the other truth, or both, where there is another
abbrev pub mixed : Bool → Bool → Bool → Bool → Bool
mixed both there a b = if there then (if both then a && b else b) else a

-- as far as the second row goes
abbrev pub merged : Bool → List Bool → List Bool → List Bool
merged both [] bs = []
merged both (a ∷ rest) [] = a ∷ rest
merged both (a ∷ rest) (b ∷ bs) = mixed both true a b ∷ merged both rest bs
