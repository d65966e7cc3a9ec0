-- Of two calls the one with the greater number, the first where they have one number.
use Rattle.std.specs.Prelude.{ℕ, nat_lt, if◌then◌else◌, Option, Some, None}

abbrev pub better : (ℕ → ℕ) → Option ℕ → ℕ → Option ℕ
better number None c = Some c
better number (Some b) c = if nat_lt (number b) (number c) then Some c else Some b
