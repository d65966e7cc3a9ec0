use Rattle.std.proofs.Common.{◌≡◌, ℕ, None}
use Rattle.text_kinds.specs.means.Rows.{own_at}
use Rattle.text_kinds.proofs.kinds.no_numbers.Given as goal

abbrev pub invariant-loop-place : goal.invariant-loop-place
invariant-loop-place l = (place : ℕ) → own_at l.own.items place ≡ None
