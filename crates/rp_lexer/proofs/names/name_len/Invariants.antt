use Rattle.std.proofs.Common.{length, ◌-◌, ◌≡◌, ◌+◌, ◌≤◌, drop}
use Rattle.std.specs.List.{prefix_len}
use Rattle.rp_grammar.specs.Bytes.{is_name_byte}
use Rattle.rp_lexer.proofs.names.name_len.Given as goal

abbrev pub invariant-loop-n : goal.invariant-loop-n
invariant-loop-n l = record {
  within : l.n ≤ length l.rest;
  so_far : l.n + prefix_len is_name_byte (drop l.n l.rest) ≡ 1 + prefix_len is_name_byte (drop 1 l.rest);
}

abbrev pub decreases-loop-n : goal.decreases-loop-n
decreases-loop-n l = length l.rest - l.n
