use Rattle.std.proofs.Common.{arith}
use Rattle.rp_tokens.specs.MachineStates.{want_pattern}
use Rattle.rp_grammar.specs.Trees.{ident}
use Rattle.rp_tokens.specs.MachineExprs.{in_pattern}
use Rattle.rp_parser.proofs.Steps.{refuses, too_deep}
use Rattle.rp_parser.proofs.patterns.pattern_first.Goals as goal

pub returns-in_default-constructor-clause-reads : goal.returns-in_default-constructor-clause-reads
returns-in_default-constructor-clause-reads c = λ d h k. refuses (want_pattern d k) c.args.marks.now c.in-Some.rest.now c.in-Some.first.now c.in-Some.ensures.cases.0 (c.in_default-constructor.ensures d k c.in-Some.first.now.span)

pub returns-then-depth-gt-MAX_DEPTH-clause-reads : goal.returns-then-depth-gt-MAX_DEPTH-clause-reads
returns-then-depth-gt-MAX_DEPTH-clause-reads c = λ d h k.
    let first = c.in-Some.first.now in
    too_deep (want_pattern d k) (in_pattern d (ident c.in-Some-constructor.bytes.now first.span) k) d c.args.marks.now c.in-Some.rest.now first c.in-Some.ensures.cases.0 (c.in-Some-constructor.ensures d k first.span) (omega (arith, h, c.if-depth-gt-MAX_DEPTH.true))
