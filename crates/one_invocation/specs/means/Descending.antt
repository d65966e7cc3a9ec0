-- Lists that descend.
use Rattle.std.specs.Prelude.{◌≡◌, ℕ, ◌<◌, true, List, [], ◌∷◌}
use Rattle.event_machine.specs.Machine.{is_in}

-- each number is above all that follow it
abbrev pub Descend : List ℕ → Type 0
Descend [] = Unit {0}
Descend (m ∷ ms) = ((n : ℕ) → is_in ms n ≡ true → n < m) × Descend ms
