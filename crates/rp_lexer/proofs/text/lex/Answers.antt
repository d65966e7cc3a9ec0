use Rattle.rp_lexer.proofs.Exact.{is_read, is_refused, spelled, ends}
use Rattle.rp_lexer.proofs.text.lex.Goals as goal

pub returns-clause-every_list : goal.returns-clause-every_list
returns-clause-every_list c = is_read c.args.bytes.now c.read_tokens.result c.read_tokens.ensures

pub returns-clause-every_fault : goal.returns-clause-every_fault
returns-clause-every_fault c = is_refused c.args.bytes.now c.read_tokens.result c.read_tokens.ensures

pub returns-clause-spelled : goal.returns-clause-spelled
returns-clause-spelled c = spelled c.args.bytes.now c.read_tokens.result c.read_tokens.ensures

pub returns-clause-ends : goal.returns-clause-ends
returns-clause-ends c = ends c.args.bytes.now c.read_tokens.result c.read_tokens.ensures
