use Rattle.std.proofs.Common.{◌≡◌, ◌++◌, drop}
use Rattle.rp_print.specs.Printed.{escape}
use Rattle.rp_print.proofs.token.put_escaped.Given as goal

-- what is still to come completes the whole
abbrev pub invariant-loop-b : goal.invariant-loop-b
invariant-loop-b l = l.out.items ++ escape (drop l.b-index l.meant) ≡ l.initial.out.items ++ escape l.meant
