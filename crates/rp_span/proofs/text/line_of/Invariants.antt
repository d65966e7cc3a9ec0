use Rattle.std.proofs.Common.{◌≡◌, ◌+◌, take}
use Rattle.rp_span.specs.Places.{newlines, bytes_since_newline}
use Rattle.rp_span.proofs.text.line_of.Given as goal

abbrev pub invariant-loop-byte : goal.invariant-loop-byte
invariant-loop-byte l = record {
  line : l.line ≡ 1 + newlines (take l.byte-index l.before);
  col : l.col ≡ 1 + bytes_since_newline (take l.byte-index l.before);
}
