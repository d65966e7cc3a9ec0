-- A number that falls at each step of a walk through statements.
use Rattle.std.specs.Prelude.{ℕ, ◌+◌}
use Rattle.rp_lang.specs.Stmts.{St, Sts, If, no_st, also_st}
use Rattle.rp_lang.specs.Views.{stmts_view}
use Rattle.rp_verify.specs.declared.left.Left.{Left}
use Rattle.rp_verify.specs.declared.left.Left.TheOpen.{Left-F, Nothing, Then}
use Rattle.rp_verify.specs.declared.left.Left.TheFolds.{fold-Left}

abbrev mutual
  pub weight : St → ℕ
  weight (If at f then_ else_) = weights then_ + weights else_ + 3
  weight _ = 1

  pub weights : Sts → ℕ
  weights no_st = 0
  weights (also_st s rest) = weight s + weights rest

abbrev pub left_weight_step : Left-F ℕ → ℕ
left_weight_step Nothing = 0
left_weight_step (Then stmts behind) = weights (stmts_view stmts.now) + behind.now + 1

abbrev pub left_weight : Left → ℕ
left_weight = fold-Left ℕ left_weight_step
