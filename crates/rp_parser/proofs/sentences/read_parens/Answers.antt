use Rattle.std.proofs.Common.{refl}
use Rattle.rp_tokens.specs.MachineExprs.{want_closed}
use Rattle.rp_parser.proofs.sentences.read_parens.Goals as goal

pub returns-clause-reads : goal.returns-clause-reads
returns-clause-reads c = λ o d h k is.
    c.read_closed.ensures.reads o d h k (c.symbol.ensures.reads o d h refl (λ _. want_closed d k) is)
