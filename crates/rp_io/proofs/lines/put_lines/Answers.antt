use Rattle.std.proofs.Common.{ℕ, List, ◌<◌, arith, length, subst, IfSome}
use Rattle.std.proofs.lemmas.Result.{err_from_is_err_and}
use Rattle.rp_io.specs.Sinks.{PutsPrefix}
use Rattle.rp_io.proofs.Prefixes.{PutsPrefix-line, no_room-line}
use Rattle.rp_io.proofs.lines.put_lines.Goals as goal

pub returns-in_err-put-clause-prefix : goal.returns-in_err-put-clause-prefix
returns-in_err-put-clause-prefix g c =
    let p = err_from_is_err_and c.from_residual.result c.from_residual.ensures.1 in
    rw p.1 (PutsPrefix-line c.args.lines.now c.loop-line.line-index c.line-item.result _ _ _ (omega arith) c.line-item.is c.loop-line.invariant.put (subst (PutsPrefix _ _) c.deref.ensures.value c.in_err-put.ensures.prefix))

pub returns-in_err-put-clause-no_room : goal.returns-in_err-put-clause-no_room
returns-in_err-put-clause-no_room g c =
    let p = err_from_is_err_and c.from_residual.result c.from_residual.ensures.1 in
    rw p.1 (no_room-line c.args.lines.now c.loop-line.line-index c.line-item.result _ _ (omega arith) c.line-item.is c.loop-line.invariant.room (subst (λ (bytes : List ℕ). IfSome (g.K.Sink.room c.loop-line.out) (λ n. n < length bytes)) c.deref.ensures.value c.in_err-put.ensures.no_room))
