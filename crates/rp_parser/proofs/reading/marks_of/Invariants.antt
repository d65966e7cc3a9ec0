use Rattle.std.proofs.Common.{List, ◌++◌, length}
use Rattle.std.specs.List.{AllByRecursion}
use Rattle.rp_grammar.specs.Terminals.{Tok}
use Rattle.rp_grammar.specs.Toks.{ToksOf}
use Rattle.rp_parser.specs.means.Marks.{toks, IsReadable}
use Rattle.rp_parser.proofs.reading.marks_of.Given as goal

abbrev pub invariant-tokens : goal.invariant-tokens
invariant-tokens l = record {
  readable : AllByRecursion (IsReadable l.text) l.rest;
  reads : (us : List Tok) → ToksOf l.text l.rest us → ToksOf l.text l.fn.tokens (toks l.marks.items ++ us);
}

abbrev pub decreases-tokens : goal.decreases-tokens
decreases-tokens l = length l.rest
