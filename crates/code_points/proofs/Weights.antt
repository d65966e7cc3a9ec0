-- A number that falls at each step of a walk through statements.
use Rattle.std.specs.Prelude.{ℕ, ◌+◌}
use Rattle.rp_lang.specs.Stmts.{St, If, Match, Atomic, Sts, no_st, also_st, StArms, no_st_arm, also_st_arm}

abbrev mutual
  pub weight : St → ℕ
  weight (If at f then_ else_) = weights then_ + weights else_ + 1
  weight (Match at on arms) = arms_weight arms + 1
  weight (Atomic at body) = weights body + 1
  weight _ = 0

  pub weights : Sts → ℕ
  weights no_st = 0
  weights (also_st s rest) = weight s + weights rest + 1

  pub arms_weight : StArms → ℕ
  arms_weight no_st_arm = 0
  arms_weight (also_st_arm con slots body rest) = weights body + arms_weight rest + 2
