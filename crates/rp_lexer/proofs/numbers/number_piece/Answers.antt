use Rattle.std.proofs.Common.{sym, ◌∙◌, ◌≡◌, arith, get_or, true, rules}
use Rattle.rp_grammar.specs.Bytes.{is_digit}
use Rattle.rp_grammar.proofs.Numbers.{number_beyond_at}
use Rattle.rp_lexer.proofs.numbers.number_piece.Goals as goal

pub returns-then-value : goal.returns-then-value
returns-then-value c =
    let d : is_digit (get_or c.args.rest.now c.loop-n.n 0) ≡ true = search rules in
    sym (number_beyond_at c.args.rest.now c.loop-n.n c.loop-n.value (omega arith) d (omega arith)) ∙ c.loop-n.invariant.so_far

pub returns-then-value-gt-GREATEST : goal.returns-then-value-gt-GREATEST
returns-then-value-gt-GREATEST c =
    let d : is_digit (get_or c.args.rest.now c.loop-n.n 0) ≡ true = search rules in
    sym (number_beyond_at c.args.rest.now c.loop-n.n c.loop-n.value (omega arith) d (omega arith)) ∙ c.loop-n.invariant.so_far
