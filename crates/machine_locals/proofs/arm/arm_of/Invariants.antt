use Rattle.std.proofs.Common.{◌≡◌, ◌+◌, drop}
use Rattle.rp_lang.specs.Views.{stmt_arms_view}
use Rattle.code_points.specs.Points.{arms_size}
use Rattle.machine_locals.specs.Lefts.{HasArms, arm_in}
use Rattle.machine_locals.proofs.arm.arm_of.Given as goal

abbrev pub invariant-loop-arm : goal.invariant-loop-arm
invariant-loop-arm l = record {
  rest : arm_in (stmt_arms_view (drop l.arm-index l.arms)) l.con l.at ≡ arm_in (stmt_arms_view l.arms) l.con l.first;
  told : HasArms l.s l.i (stmt_arms_view (drop l.arm-index l.arms)) l.at;
  room : l.at + arms_size (stmt_arms_view (drop l.arm-index l.arms)) ≡ l.first + arms_size (stmt_arms_view l.arms);
}
