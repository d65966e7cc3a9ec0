use Rattle.std.proofs.Common.{arith}
use Rattle.rp_parser.proofs.Readable.{digit_fits}
use Rattle.rp_parser.proofs.reading.number_value.Goals as goal

pub overflow_mul-total : goal.overflow_mul-total
overflow_mul-total c = omega (arith, digit_fits c.digits.total c.in-Some.digit.now c.digits.rest.now c.in-Some.after.now c.args.digits.now c.in-Some.ensures.cases.0 c.digits.invariant c.requires)

pub overflow_add-total : goal.overflow_add-total
overflow_add-total c = omega (arith, digit_fits c.digits.total c.in-Some.digit.now c.digits.rest.now c.in-Some.after.now c.args.digits.now c.in-Some.ensures.cases.0 c.digits.invariant c.requires, c.saturating_sub.ensures)
