use Rattle.std.proofs.Common.{Some}
use Rattle.rp_grammar.specs.Trees.{ident}
use Rattle.rp_ast.specs.View.{ident_view}
use Rattle.rp_tokens.specs.MachineDecls.{want_claim}
use Rattle.rp_parser.proofs.Rests.{ok_at}
use Rattle.rp_parser.proofs.decls.read_invariant.Goals as goal

pub returns-in-Some-clause-reads : goal.returns-in-Some-clause-reads
returns-in-Some-clause-reads c = λ o k is.
    let s = c.args.start in
    let n = ident c.in-Some.bytes.now c.in-Some.span in
    c.read_claim.ensures.reads o k
    (c.made-name.ensures.reads o (λ n. want_claim s (Some (ident_view n)) k) (want_claim s (Some n) k) (ok_at _ ident_view n (λ n. want_claim s (Some n) k) c.ident-name.ensures.view) (c.in-Some.ensures.reads o s k is))

pub returns-in-None-clause-reads : goal.returns-in-None-clause-reads
returns-in-None-clause-reads c = λ o k is.
    c.read_claim-in-None.ensures.reads o k (c.in-None.ensures.reads o c.args.start k is)
