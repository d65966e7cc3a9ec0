-- How many goals are left, of so many invariants.
use Rattle.std.specs.Prelude.{ℕ, ◌+◌, List, [], ◌∷◌}
use Rattle.rp_lang.specs.Programs.{Proc}
use Rattle.event_machine.specs.Code as left
use Rattle.event_machine.specs.Code.{Code, CodeArms, no_code, also_code, proc_code}

abbrev mutual
  pub goal_count : ℕ → Code → ℕ
  goal_count invs (left.Put slot e next) = goal_count invs next
  goal_count invs (left.Decide slot f next) = goal_count invs next
  goal_count invs (left.New slot ty next) = goal_count invs next
  goal_count invs (left.Operate op args next) = goal_count invs next
  goal_count invs (left.Assert at f next) = goal_count invs next + 1
  goal_count invs (left.Choose f then_ else_) = goal_count invs then_ + goal_count invs else_
  goal_count invs (left.Match on arms) = arm_goal_count invs arms
  goal_count invs (left.Begin next) = goal_count invs next
  goal_count invs (left.End at next) = goal_count invs next + invs
  goal_count invs (left.Return at result) = invs

  pub arm_goal_count : ℕ → CodeArms → ℕ
  arm_goal_count invs no_code = 0
  arm_goal_count invs (also_code con slots body others) = goal_count invs body + arm_goal_count invs others

-- those of a procedure, of its invocation too
abbrev pub proc_goal_count : ℕ → Proc → ℕ
proc_goal_count invs q = invs + goal_count invs (proc_code q)

abbrev pub procs_goal_count : ℕ → List Proc → ℕ
procs_goal_count invs [] = 0
procs_goal_count invs (q ∷ others) = proc_goal_count invs q + procs_goal_count invs others
