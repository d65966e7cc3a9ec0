-- How much stands inside a value: what falls where its parts are taken.
use Rattle.std.specs.Prelude.{ℕ, ◌+◌}
use Rattle.rp_value.specs.Values.{Val, Con, Vals, no_val, also_val}

-- the constructors in a value

abbrev mutual
  pub weight : Val → ℕ
  weight (Con con args) = 1 + weights args
  weight _ = 0

  pub weights : Vals → ℕ
  weights no_val = 0
  weights (also_val v vs) = weight v + weights vs
