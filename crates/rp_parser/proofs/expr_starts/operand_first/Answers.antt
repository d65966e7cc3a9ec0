use Rattle.std.proofs.Common.{arith}
use Rattle.rp_tokens.specs.MachineStates.{want_operand}
use Rattle.rp_parser.specs.means.ExprStarts.{operand_next}
use Rattle.rp_parser.proofs.Steps.{takes, too_deep}
use Rattle.rp_parser.proofs.Moves.{as_comparison}
use Rattle.rp_parser.proofs.expr_starts.operand_first.Goals as goal

pub returns-in_default-operand_start-clause-reads : goal.returns-in_default-operand_start-clause-reads
returns-in_default-operand_start-clause-reads c = λ d h k. as_comparison d k c.args.marks.now c.in-Some.rest.now c.in-Some.first.now c.in-Some.ensures.cases.0 (c.in_default-operand_start.ensures d k c.in-Some.first.now.span)

pub returns-then-depth-gt-MAX_DEPTH-clause-reads : goal.returns-then-depth-gt-MAX_DEPTH-clause-reads
returns-then-depth-gt-MAX_DEPTH-clause-reads c = λ d h k.
    let start = c.in-Some-operand_start.start in
    too_deep (want_operand d k) (operand_next d k start) d c.args.marks.now c.in-Some.rest.now c.in-Some.first.now c.in-Some.ensures.cases.0 (c.in-Some-operand_start.ensures d k) (omega (arith, h, c.if-depth-gt-MAX_DEPTH.true))

pub returns-clause-reads : goal.returns-clause-reads
returns-clause-reads c = λ d h k.
    let start = c.in-Some-operand_start.start in
    takes (want_operand d k) (operand_next d k start) d c.args.marks.now c.in-Some.rest.now c.in-Some.first.now c.in-Some.ensures.cases.0 (c.in-Some-operand_start.ensures d k) (omega (arith, h, c.if-depth-gt-MAX_DEPTH.false))
