use Rattle.std.proofs.Common.{length, ◌-◌, ◌≡◌, ◌+◌, ◌≤◌, drop}
use Rattle.std.specs.List.{prefix_len}
use Rattle.rp_grammar.specs.Bytes.{is_inline}
use Rattle.rp_lexer.proofs.marks.comment_len.Given as goal

abbrev pub invariant-loop-n : goal.invariant-loop-n
invariant-loop-n l = record {
  within : l.n ≤ length l.rest;
  so_far : l.n + prefix_len is_inline (drop l.n l.rest) ≡ 2 + prefix_len is_inline (drop 2 l.rest);
}

abbrev pub decreases-loop-n : goal.decreases-loop-n
decreases-loop-n l = length l.rest - l.n
