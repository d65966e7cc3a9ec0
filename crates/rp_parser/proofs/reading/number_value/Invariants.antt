use Rattle.std.proofs.Common.{◌≡◌, length}
use Rattle.rp_grammar.specs.Bytes.{value, value_from}
use Rattle.rp_parser.proofs.reading.number_value.Given as goal

abbrev pub invariant-digits : goal.invariant-digits
invariant-digits l = value_from l.total l.rest ≡ value l.fn.digits

abbrev pub decreases-digits : goal.decreases-digits
decreases-digits l = length l.rest
