use Rattle.std.proofs.Common.{◌≡◌, drop}
use Rattle.std.specs.List.{list_all}
use Rattle.rp_grammar.specs.Bytes.{is_name_byte}
use Rattle.schedule_fmt.proofs.bytes.are_name_bytes.Given as goal

-- those that are left are name bytes exactly where all are
abbrev pub invariant-loop-b : goal.invariant-loop-b
invariant-loop-b l = list_all is_name_byte (drop l.b-index l.bytes) ≡ list_all is_name_byte l.bytes
