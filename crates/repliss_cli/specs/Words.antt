-- The words of the command line.
use Rattle.std.specs.Prelude.{ℕ, Bool, false, ◌&&◌, ◌==◌, not, List, [], ◌∷◌, Option, Some, None, if◌then◌else◌, bytes_eq, codes, string_bytes}
use Rattle.std.specs.declared.string.String.{String}
use Rattle.std.specs.declared.alloc.Global.{Global}

abbrev pub Words : Type 0
Words = List (String Global)

-- the word is an option
abbrev pub is_option : List ℕ → Bool
is_option [] = false
is_option (b ∷ bs) = b == 45

-- What may be asked: to verify a program, or to replay a schedule on one. Files are named.
pub data Command : Type 0 where
  Verify : (file : List ℕ) → Command
  Replay : (file schedule : List ℕ) → Command

-- after the program's name come the verb of a command and its files, none of which is an option
abbrev pub asked : Words → Option Command
asked (program ∷ verb ∷ file ∷ []) =
    if bytes_eq (string_bytes verb) (codes "verify") && not (is_option (string_bytes file)) then Some (Verify (string_bytes file)) else None
asked (program ∷ verb ∷ file ∷ schedule ∷ []) =
    if bytes_eq (string_bytes verb) (codes "replay") && (not (is_option (string_bytes file)) && not (is_option (string_bytes schedule)))
    then Some (Replay (string_bytes file) (string_bytes schedule)) else None
asked _ = None

abbrev pub program_file : Command → List ℕ
program_file (Verify file) = file
program_file (Replay file schedule) = file

-- the files that are named
abbrev pub files_of : Command → List (List ℕ)
files_of (Verify file) = file ∷ []
files_of (Replay file schedule) = file ∷ schedule ∷ []

abbrev pub named_by : Option Command → List (List ℕ)
named_by None = []
named_by (Some command) = files_of command

abbrev pub named : Words → List (List ℕ)
named words = named_by (asked words)
