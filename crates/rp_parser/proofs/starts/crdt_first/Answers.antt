use Rattle.std.proofs.Common.{arith}
use Rattle.rp_tokens.specs.MachineStates.{want_crdt}
use Rattle.rp_parser.specs.means.Starts.{crdt_next}
use Rattle.rp_parser.proofs.Steps.{takes, refuses, too_deep}
use Rattle.rp_parser.proofs.starts.crdt_first.Goals as goal

pub returns-in_default-crdt_start-clause-reads : goal.returns-in_default-crdt_start-clause-reads
returns-in_default-crdt_start-clause-reads c = λ d h k. refuses (want_crdt d k) c.args.marks.now c.in-Some.rest.now c.in-Some.first.now c.in-Some.ensures.cases.0 (c.in_default-crdt_start.ensures d k c.in-Some.first.now.span)

pub returns-then-depth-gt-MAX_DEPTH-clause-reads : goal.returns-then-depth-gt-MAX_DEPTH-clause-reads
returns-then-depth-gt-MAX_DEPTH-clause-reads c = λ d h k.
    let first = c.in-Some.first.now in
    let start = c.in-Some-crdt_start.start in
    too_deep (want_crdt d k) (crdt_next d k first.span start) d c.args.marks.now c.in-Some.rest.now first c.in-Some.ensures.cases.0 (c.in-Some-crdt_start.ensures d k first.span) (omega (arith, h, c.if-depth-gt-MAX_DEPTH.true))

pub returns-clause-reads : goal.returns-clause-reads
returns-clause-reads c = λ d h k.
    let first = c.in-Some.first.now in
    let start = c.in-Some-crdt_start.start in
    takes (want_crdt d k) (crdt_next d k first.span start) d c.args.marks.now c.in-Some.rest.now first c.in-Some.ensures.cases.0 (c.in-Some-crdt_start.ensures d k first.span) (omega (arith, h, c.if-depth-gt-MAX_DEPTH.false))
