use Rattle.std.proofs.Common.{arith}
use Rattle.rp_logic.specs.Views.{formulas_view}
use Rattle.crdt_enc.specs.QueryFormulas.{passes}
use Rattle.query_enc.specs.means.Such as such
use Rattle.query_enc.proofs.Joins.{for_next, for_done}
use Rattle.query_enc.proofs.counting.push_ones.Goals as goal

pub loop-decl-preserved : goal.loop-decl-preserved
loop-decl-preserved c =
    let s = such.such_view c.args.s.now in (
      omega (arith, c.in_ok-op.ensures, c.loop-decl.invariant.0),
      for_next (passes s.way s.test) (such.one c.args.sign s (formulas_view c.args.kept.now) (formulas_view c.args.rest.now)) c.args.s.now.program.now.ops c.as_slice-decl-items.result.now c.loop-decl.decl-index c.loop-decl.op c.decl-item.result _ _ _ c.as_slice-decl-items.ensures.items c.loop-decl-test.true c.decl-item.is c.loop-decl.invariant.0 c.loop-decl.invariant.1 c.in_ok-push_one.ensures,
    )

pub returns : goal.returns
returns c =
    let s = such.such_view c.args.s.now in
    for_done (passes s.way s.test) (such.one c.args.sign s (formulas_view c.args.kept.now) (formulas_view c.args.rest.now)) c.args.s.now.program.now.ops c.as_slice-decl-items.result.now c.loop-decl.decl-index _ _ c.as_slice-decl-items.ensures.items c.loop-decl-test.false c.loop-decl.invariant.1
