-- Where a formula of a program is meant: the symbols of a snapshot and of the parts around it.
use Rattle.std.specs.Prelude.{ℕ}

-- the relations of the snapshot, of committed calls and of the invocations that exist, and the function of outcomes
pub record At : Type 0 where
  pub view : ℕ
  pub calls : ℕ
  pub invs : ℕ
  pub results : ℕ
