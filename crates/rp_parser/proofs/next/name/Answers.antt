use Rattle.std.proofs.Common.{ap, arith}
use Rattle.rp_grammar.specs.Trees.{ident}
use Rattle.rp_tokens.specs.MachineStates.{want_name, name_step}
use Rattle.rp_parser.specs.means.Marks.{terminal_of}
use Rattle.rp_parser.proofs.Steps.{refuses, too_deep}
use Rattle.rp_parser.proofs.Moves.{no_name}
use Rattle.rp_parser.proofs.next.name.Goals as goal

pub returns-in_default-kind-clause-reads : goal.returns-in_default-kind-clause-reads
returns-in_default-kind-clause-reads c = λ d h k. refuses (want_name d k) c.args.marks.now c.in-Some.rest.now c.in-Some.first.now c.in-Some.ensures.cases.0 (no_name c.in-Some.first.now.kind d k c.in-Some.first.now.span c.in_default-kind.not-Name)

pub returns-then-depth-gt-MAX_DEPTH-clause-reads : goal.returns-then-depth-gt-MAX_DEPTH-clause-reads
returns-then-depth-gt-MAX_DEPTH-clause-reads c = λ d h k.
    let first = c.in-Some.first.now in
    too_deep (want_name d k) (k (ident c.in-Name.bytes.now first.span)) d c.args.marks.now c.in-Some.rest.now first c.in-Some.ensures.cases.0 (ap (λ kd. name_step d k (terminal_of kd) first.span) c.in-Name.is) (omega (arith, h, c.if-depth-gt-MAX_DEPTH.true))
