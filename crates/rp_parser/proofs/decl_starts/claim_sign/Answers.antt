use Rattle.std.proofs.Common.{Some, None}
use Rattle.rp_grammar.specs.Trees.{ident}
use Rattle.rp_tokens.specs.MachineDecls.{want_claim, in_invariant}
use Rattle.rp_parser.proofs.Rests.{passes}
use Rattle.rp_parser.proofs.decl_starts.claim_sign.Goals as goal

pub returns-clause-reads : goal.returns-clause-reads
returns-clause-reads c = λ o s k is.
    passes c.claim_marks.result c.args.rest c.in-Left.marks (in_invariant s k) (want_claim s None k) (λ x. want_claim s (Some (ident x.0.now x.1)) k) (λ x. x.2.now) o c.in-Left.is (c.claim_marks.ensures.reads s k) is
