use Rattle.std.proofs.Common.{◌≡◌, drop}
use Rattle.rp_grammar.specs.Spelling.{mark}
use Rattle.rp_lexer.specs.means.Named.{named}
use Rattle.rp_lexer.proofs.terminals.find_symbol.Given as goal

-- what is found is what is found among the others
abbrev pub invariant-loop-item : goal.invariant-loop-item
invariant-loop-item l = named mark (drop l.item-index l.items) l.text ≡ named mark l.items l.text
