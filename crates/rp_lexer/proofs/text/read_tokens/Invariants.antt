use Rattle.std.proofs.Common.{length, ◌-◌}
use Rattle.rp_grammar.proofs.Reading.{Reads}
use Rattle.rp_lexer.proofs.text.read_tokens.Given as goal

abbrev pub invariant-pieces : goal.invariant-pieces
invariant-pieces l = Reads l.bytes l.at l.tokens

abbrev pub decreases-pieces : goal.decreases-pieces
decreases-pieces l = length l.bytes - l.at
