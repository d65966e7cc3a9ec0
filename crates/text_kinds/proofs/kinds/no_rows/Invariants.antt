use Rattle.std.proofs.Common.{◌≡◌, ℕ, None}
use Rattle.text_kinds.specs.means.Rows.{maybe_at}
use Rattle.text_kinds.proofs.kinds.no_rows.Given as goal

abbrev pub invariant-loop-place : goal.invariant-loop-place
invariant-loop-place l = (place many : ℕ) → maybe_at l.maybes.items place many ≡ None
