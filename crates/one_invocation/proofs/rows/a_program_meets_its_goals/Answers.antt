use Rattle.std.proofs.Common.{refl}
use Rattle.one_invocation.specs.rows.Programs.{only_adds}
use Rattle.one_invocation.proofs.Example.{only_adds-met}
use Rattle.one_invocation.proofs.GoalsSafe.{starts-safe, goals-safe}
use Rattle.one_invocation.proofs.rows.a_program_meets_its_goals.Goals as goal

pub returns-clause-met : goal.returns-clause-met
returns-clause-met c = only_adds-met

pub returns-clause-starts : goal.returns-clause-starts
returns-clause-starts c = starts-safe only_adds only_adds-met

pub returns-clause-safe : goal.returns-clause-safe
returns-clause-safe c = goals-safe only_adds refl only_adds-met
