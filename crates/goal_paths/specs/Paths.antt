-- How many paths lead through a procedure.
use Rattle.std.specs.Prelude.{ℕ, ◌+◌}
use Rattle.rp_lang.specs.Programs.{Proc}
use Rattle.event_machine.specs.Code as left
use Rattle.event_machine.specs.Code.{Code, CodeArms, no_code, also_code, proc_code}

-- the ways through what is left to a return: those of each branch and each arm
abbrev mutual
  pub paths : Code → ℕ
  paths (left.Put slot e next) = paths next
  paths (left.Decide slot f next) = paths next
  paths (left.New slot ty next) = paths next
  paths (left.Operate op args next) = paths next
  paths (left.Assert at f next) = paths next
  paths (left.Choose f then_ else_) = paths then_ + paths else_
  paths (left.Match on arms) = arm_paths arms
  paths (left.Begin next) = paths next
  paths (left.End at next) = paths next
  paths (left.Return at result) = 1

  pub arm_paths : CodeArms → ℕ
  arm_paths no_code = 0
  arm_paths (also_code con slots body others) = paths body + arm_paths others

abbrev pub proc_paths : Proc → ℕ
proc_paths q = paths (proc_code q)
