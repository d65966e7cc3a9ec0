use Rattle.std.proofs.Common.{◌≡◌, ◌++◌, drop}
use Rattle.schedule_fmt.specs.Texts.{escape}
use Rattle.schedule_fmt.proofs.printer.put_escaped.Given as goal

-- what is still to come completes the whole
abbrev pub invariant-loop-b : goal.invariant-loop-b
invariant-loop-b l = l.out.items ++ escape (drop l.b-index l.bytes) ≡ l.initial.out.items ++ escape l.bytes
