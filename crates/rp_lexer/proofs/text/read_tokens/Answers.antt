use Rattle.std.proofs.Common.{◌+◌, sym, subst}
use Rattle.rp_grammar.specs.Lexed.{Lexed}
use Rattle.rp_grammar.proofs.Reading.{Reads, read_end, read_gap, read_token, read_fault}
use Rattle.rp_lexer.proofs.text.read_tokens.Goals as goal

pub returns-in-Ended : goal.returns-in-Ended
returns-in-Ended c = subst (Lexed 0 c.args.bytes.now) (sym c.in_ok-push_token-in-Ended.ensures.pushed) (read_end c.pieces.invariant c.in-Ended.ensures.begins)

pub pieces-preserved-in-Gap : goal.pieces-preserved-in-Gap
pieces-preserved-in-Gap c = read_gap c.pieces.invariant c.in-Gap.ensures.begins

pub pieces-preserved : goal.pieces-preserved
pieces-preserved c = subst (Reads c.args.bytes.now (c.pieces.at + c.in-Token.n)) (sym c.in_ok-push_token-in-Token.ensures.pushed) (read_token c.pieces.invariant c.in-Token.ensures.begins)

pub returns-in-Fault : goal.returns-in-Fault
returns-in-Fault c = read_fault c.pieces.invariant c.in-Fault.ensures.begins
