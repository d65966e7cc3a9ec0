-- The paths and the goals of checks, counted up to one past their limits.
use Rattle.std.specs.Prelude.{◌≡◌, ℕ, ◌+◌, min}
use Rattle.rp_lang.specs.Programs.{Proc}
use Rattle.event_machine.specs.Checks.{Checks, Done, Assert, Choose, stmts_checks, paths}
use Rattle.rp_verify.specs.declared.counts.Counts.{Counts}

-- the goals of checks
abbrev pub assertions : Checks → ℕ
assertions Done = 0
assertions (Assert at f next) = assertions next + 1
assertions (Choose f then_ else_) = assertions then_ + assertions else_

-- the goals of a procedure
abbrev pub proc_assertions : Proc → ℕ
proc_assertions q = assertions (stmts_checks q.body Done)

-- these are the counts of the checks
pub record AreCounts (checks : Checks) (counts : Counts) : Type 0 where
  pub of_paths : counts.paths ≡ min (paths checks) 1025
  pub of_goals : counts.goals ≡ min (assertions checks) 2049
