-- The lines and columns of a text's places.
use Rattle.std.specs.Prelude.{ℕ, ◌+◌, Bool, ◌==◌, List, length, take, count_by}
use Rattle.std.specs.List.{after_last}
use Rattle.rp_span.specs.declared.Pos.{Pos}

abbrev pub is_newline : ℕ → Bool
is_newline byte = byte == 10

abbrev pub newlines : List ℕ → ℕ
newlines bytes = count_by is_newline bytes

-- all of the bytes where there is no newline
abbrev pub bytes_since_newline : List ℕ → ℕ
bytes_since_newline bytes = length (after_last is_newline bytes)

-- a newline stands on the line that it ends
abbrev pub place_of : List ℕ → ℕ → Pos
place_of text at = record {
  line = 1 + newlines (take at text);
  col = 1 + bytes_since_newline (take at text);
  byte = at;
}
