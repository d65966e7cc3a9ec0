use Rattle.std.proofs.Common.{sym, ◌∙◌}
use Rattle.rp_lexer.proofs.Spelled.{word_kind, no_word_kind}
use Rattle.rp_lexer.proofs.names.word_or_name.Goals as goal

pub returns-then-is_some : goal.returns-then-is_some
returns-then-is_some c = word_kind c.args.text.now c.word_of.result c.word_of.ensures.some (sym c.is_some.ensures ∙ c.if-is_some.true)

pub returns-else-is_some : goal.returns-else-is_some
returns-else-is_some c = no_word_kind c.args.text.now c.word_of.result c.word_of.ensures.some (sym c.is_some.ensures ∙ c.if-is_some.false)
