use Rattle.std.proofs.Common.{◌≡◌, take, length}
use Rattle.rp_io.specs.Sinks.{Puts, TakesRoom, bytes_of}
use Rattle.rp_io.proofs.lines.put_lines.Given as goal

-- the lines so far were put, with no fault
abbrev pub invariant-loop-line : goal.invariant-loop-line
invariant-loop-line g l = record {
  put : Puts (g.K.Sink.told l.fn.out) (g.K.Sink.told l.out) (bytes_of (take l.line-index l.lines));
  room : TakesRoom (g.K.Sink.room l.fn.out) (g.K.Sink.room l.out) (length (bytes_of (take l.line-index l.lines)));
  no_fault : g.K.Sink.faults l.out ≡ g.K.Sink.faults l.fn.out;
}
