-- The limits on the paths of a procedure and on the goals of a program.
use Rattle.std.specs.Prelude.{◌≡◌, ℕ, ◌≤◌, ◌<◌, List, length, take, All, Some, slice_get}
use Rattle.rp_lang.specs.Programs.{Proc, Prog}
use Rattle.one_invocation.specs.Goals.{goals}
use Rattle.goal_paths.specs.Paths.{proc_paths}

abbrev pub HasFewPaths : Proc → Type 0
HasFewPaths q = proc_paths q ≤ 1024

-- no procedure has too many paths, and the goals aren't too many
pub record IsWithinLimits (p : Prog) : Type 0 where
  pub few_paths : All HasFewPaths p.procs
  pub few_goals : length (goals p) ≤ 2048

-- the procedure of that number is the first with too many paths
pub record IsFirstPast (procs : List Proc) (n : ℕ) : Type 0 where
  pub before : All HasFewPaths (take n procs)
  pub past : (q : Proc) × (slice_get procs n ≡ Some q) × (1024 < proc_paths q)

-- no procedure has too many paths, and the goals are too many
pub record HasManyGoals (p : Prog) : Type 0 where
  pub few_paths : All HasFewPaths p.procs
  pub many_goals : 2048 < length (goals p)
