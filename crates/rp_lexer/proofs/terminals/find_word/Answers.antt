use Rattle.rp_grammar.specs.Spelling.{spelling}
use Rattle.rp_grammar.specs.declared.terminal.Word.TheVariants as word
use Rattle.rp_lexer.proofs.Named.{here_named, others_named}
use Rattle.rp_lexer.proofs.terminals.find_word.Goals as goal

pub returns-then-eq : goal.returns-then-eq
returns-then-eq c =
    here_named spelling c.args.items.now c.args.text.now c.loop-item.item-index word.IdType c.word_text.result.now c.eq.result c.loop-item-test.true c.word_text.ensures
    c.eq.ensures c.if-eq.true c.loop-item.invariant

pub loop-item-preserved : goal.loop-item-preserved
loop-item-preserved c =
    others_named spelling c.args.items.now c.args.text.now c.loop-item.item-index word.IdType c.word_text.result.now c.eq.result c.loop-item-test.true c.word_text.ensures
    c.eq.ensures c.if-eq.false c.loop-item.invariant
