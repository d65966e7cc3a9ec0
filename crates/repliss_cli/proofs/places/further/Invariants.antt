use Rattle.std.proofs.Common.{◌≡◌, ◌+◌, take}
use Rattle.rp_span.specs.Places.{newlines, bytes_since_newline}
use Rattle.repliss_cli.proofs.places.further.Given as goal

abbrev pub invariant-loop-at : goal.invariant-loop-at
invariant-loop-at l = record {
  line : l.line ≡ 1 + newlines (take l.at l.text);
  col : l.col ≡ 1 + bytes_since_newline (take l.at l.text);
}
