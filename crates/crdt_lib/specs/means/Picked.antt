-- A list of numbers as a set. No public clause cites this.
use Rattle.std.specs.Prelude.{ℕ, Bool, nat_eq, List}
use Rattle.std.specs.List.{list_any}

abbrev pub listed : List ℕ → ℕ → Bool
listed ds c = list_any (λ d. nat_eq d c) ds
