use Rattle.std.proofs.Common.{refl, arith, [], ◌∷◌, ◌++◌}
use Rattle.rp_lang.specs.rows.Samples.{removes_users}
use Rattle.event_machine.specs.States.{Check, Invariant}
use Rattle.event_machine.specs.rows.Worked.{both_done}
use Rattle.event_machine.proofs.OutcomeLemmas.{never_violated}
use Rattle.one_invocation.proofs.GoalsSafe.{goals-safe}
use Rattle.one_invocation.proofs.rows.an_unsafe_program_has_an_unmet_goal.Goals as goal

pub returns : goal.returns
returns c = λ met.
    never_violated removes_users (goals-safe removes_users refl met) 1 (both_done ++ Check (0 ∷ 1 ∷ []) ∷ Check (0 ∷ 1 ∷ 2 ∷ []) ∷ []) 17 (Invariant 0)
    (omega arith) refl
