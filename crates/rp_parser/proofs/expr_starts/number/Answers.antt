use Rattle.rp_tokens.specs.MachineStates.{want_int}
use Rattle.rp_parser.proofs.Steps.{refuses}
use Rattle.rp_parser.proofs.Moves.{no_int}
use Rattle.rp_parser.proofs.expr_starts.number.Goals as goal

pub returns-in_default-kind-clause-reads : goal.returns-in_default-kind-clause-reads
returns-in_default-kind-clause-reads c = λ d h k. refuses (want_int d k) c.args.marks.now c.in-Some.rest.now c.in-Some.first.now c.in-Some.ensures.cases.0 (no_int c.in-Some.first.now.kind d k c.in-Some.first.now.span c.in_default-kind.not-Int)
