use Rattle.std.proofs.Common.{length, ◌-◌, ◌≡◌, ◌≤◌, drop}
use Rattle.rp_grammar.specs.Bytes.{greatest}
use Rattle.rp_grammar.specs.Scan.{number_from}
use Rattle.rp_lexer.proofs.numbers.number_piece.Given as goal

abbrev pub invariant-loop-n : goal.invariant-loop-n
invariant-loop-n l = record {
  within : l.n ≤ length l.rest;
  in_range : l.value ≤ greatest;
  so_far : number_from (drop l.n l.rest) l.value l.n ≡ number_from l.rest 0 0;
}

abbrev pub decreases-loop-n : goal.decreases-loop-n
decreases-loop-n l = length l.rest - l.n
