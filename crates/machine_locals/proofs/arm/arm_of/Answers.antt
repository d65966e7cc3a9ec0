use Rattle.std.proofs.Common.{◌≡◌, ◌+◌, ◌<◌, ap, drop, arith}
use Rattle.rp_lang.specs.Views.{stmts_view, stmt_arms_view}
use Rattle.rp_lang.specs.declared.stmt.StmtKind.TheViews.{out-StmtArm}
use Rattle.code_points.specs.Points.{arms_size, size}
use Rattle.machine_locals.proofs.ArmLemmas.{arm_behind, room_split}
use Rattle.machine_locals.proofs.PartLemmas.{arm_told, not_same}
use Rattle.machine_locals.proofs.arm.arm_of.Goals as goal

pub overflow_add-at : goal.overflow_add-at
overflow_add-at c =
    let it = arm_told c.args.p.now c.args.s.now c.args.i c.args.arms.now c.loop-arm.arm-index c.loop-arm.at c.arm-item.result c.rest_at.result c.requires.fits c.requires.within c.loop-arm-test.true c.arm-item.is c.loop-arm.invariant.told c.rest_at.ensures in
    let so : c.rest_at.result ≡ size (stmts_view (out-StmtArm c.arm-item.result).body) = it.size_so in
    let split : arms_size (stmt_arms_view (drop c.loop-arm.arm-index c.args.arms.now)) ≡ size (stmts_view (out-StmtArm c.arm-item.result).body) + 1 + arms_size (stmt_arms_view (drop (c.loop-arm.arm-index + 1) c.args.arms.now))
    = room_split c.args.arms.now c.loop-arm.arm-index c.arm-item.result c.loop-arm-test.true c.arm-item.is in
    let room : c.loop-arm.at + arms_size (stmt_arms_view (drop c.loop-arm.arm-index c.args.arms.now)) ≡ c.args.first + arms_size (stmt_arms_view c.args.arms.now) = c.loop-arm.invariant.room in
    let low : c.args.first + arms_size (stmt_arms_view c.args.arms.now) < 18446744073709551615 = c.requires.room in
    omega arith

pub overflow_add-at-in-loop-arm : goal.overflow_add-at-in-loop-arm
overflow_add-at-in-loop-arm c =
    let it = arm_told c.args.p.now c.args.s.now c.args.i c.args.arms.now c.loop-arm.arm-index c.loop-arm.at c.arm-item.result c.rest_at.result c.requires.fits c.requires.within c.loop-arm-test.true c.arm-item.is c.loop-arm.invariant.told c.rest_at.ensures in
    let so : c.rest_at.result ≡ size (stmts_view (out-StmtArm c.arm-item.result).body) = it.size_so in
    let split : arms_size (stmt_arms_view (drop c.loop-arm.arm-index c.args.arms.now)) ≡ size (stmts_view (out-StmtArm c.arm-item.result).body) + 1 + arms_size (stmt_arms_view (drop (c.loop-arm.arm-index + 1) c.args.arms.now))
    = room_split c.args.arms.now c.loop-arm.arm-index c.arm-item.result c.loop-arm-test.true c.arm-item.is in
    let room : c.loop-arm.at + arms_size (stmt_arms_view (drop c.loop-arm.arm-index c.args.arms.now)) ≡ c.args.first + arms_size (stmt_arms_view c.args.arms.now) = c.loop-arm.invariant.room in
    let low : c.args.first + arms_size (stmt_arms_view c.args.arms.now) < 18446744073709551615 = c.requires.room in
    omega arith

pub loop-arm-preserved : goal.loop-arm-preserved
loop-arm-preserved c =
    let it = arm_told c.args.p.now c.args.s.now c.args.i c.args.arms.now c.loop-arm.arm-index c.loop-arm.at c.arm-item.result c.rest_at.result c.requires.fits c.requires.within c.loop-arm-test.true c.arm-item.is c.loop-arm.invariant.told c.rest_at.ensures in
    let so : c.rest_at.result ≡ size (stmts_view (out-StmtArm c.arm-item.result).body) = it.size_so in
    let split : arms_size (stmt_arms_view (drop c.loop-arm.arm-index c.args.arms.now)) ≡ size (stmts_view (out-StmtArm c.arm-item.result).body) + 1 + arms_size (stmt_arms_view (drop (c.loop-arm.arm-index + 1) c.args.arms.now))
    = room_split c.args.arms.now c.loop-arm.arm-index c.arm-item.result c.loop-arm-test.true c.arm-item.is in
    let room : c.loop-arm.at + arms_size (stmt_arms_view (drop c.loop-arm.arm-index c.args.arms.now)) ≡ c.args.first + arms_size (stmt_arms_view c.args.arms.now) = c.loop-arm.invariant.room in
    record {
      rest = arm_behind c.args.arms.now c.loop-arm.arm-index c.args.con c.loop-arm.at (c.loop-arm.at + (c.rest_at.result + 1)) c.arm-item.result _ c.loop-arm-test.true c.arm-item.is
          (not_same c.args.con (out-StmtArm c.arm-item.result).con c.if-con-arm.false)
          (ap (λ n. c.loop-arm.at + (n + 1)) so) c.loop-arm.invariant.rest;
      told = it.others;
      room = omega arith;
    }
