use Rattle.rp_tokens.proofs.Places.{found_tree, only_tree, refused_left, deep_left}
use Rattle.rp_tokens.proofs.OneAnswer.{only_bad, only_too_deep}
use Rattle.rp_tokens.proofs.laws.machine_reads_the_grammar.Goals as goal

pub returns : goal.returns
returns c = record { found = found_tree; bad = refused_left; too_deep = deep_left; only = only_tree; only_bad = only_bad; only_too_deep = only_too_deep }
