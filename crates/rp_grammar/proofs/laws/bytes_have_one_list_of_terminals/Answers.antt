use Rattle.rp_grammar.proofs.Toks.{one_text_toks, some_text_toks, text_ends_in_end}
use Rattle.rp_grammar.proofs.laws.bytes_have_one_list_of_terminals.Goals as goal

pub returns : goal.returns
returns c = record { one = one_text_toks; some = some_text_toks; ends = text_ends_in_end }
