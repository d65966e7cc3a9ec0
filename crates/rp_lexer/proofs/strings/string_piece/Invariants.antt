use Rattle.std.proofs.Common.{length, ◌-◌, ◌≡◌, ◌≤◌, false, drop}
use Rattle.rp_grammar.specs.Scan.{string_from}
use Rattle.rp_lexer.proofs.strings.string_piece.Given as goal

abbrev pub invariant-loop-n : goal.invariant-loop-n
invariant-loop-n l = record {
  within : l.n ≤ length l.rest;
  so_far : string_from (drop l.n l.rest) false l.n ≡ string_from (drop 1 l.rest) false 1;
}

abbrev pub decreases-loop-n : goal.decreases-loop-n
decreases-loop-n l = length l.rest - l.n
