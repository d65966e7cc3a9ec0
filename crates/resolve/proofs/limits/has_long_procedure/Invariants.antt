use Rattle.std.proofs.Common.{◌≡◌, drop}
use Rattle.resolve.proofs.Counted.{some_long}
use Rattle.resolve.proofs.limits.has_long_procedure.Given as goal

abbrev pub invariant-loop-proc : goal.invariant-loop-proc
invariant-loop-proc l = some_long l.procs ≡ some_long (drop l.proc-index l.procs)
