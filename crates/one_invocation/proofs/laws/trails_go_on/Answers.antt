use Rattle.std.proofs.Common.{sym, subst, length, inl, inr, []}
use Rattle.event_machine.specs.Machine.{State, Invoke, started}
use Rattle.event_machine.proofs.MoveLemmas.{step-moves}
use Rattle.one_invocation.specs.Places.{at_start}
use Rattle.one_invocation.specs.CameAlong.{GoesOn}
use Rattle.one_invocation.proofs.GoalsSafe.{came-started}
use Rattle.one_invocation.proofs.TrailSteps.{label-next}
use Rattle.one_invocation.proofs.laws.trails_go_on.Goals as goal

pub returns-clause-starts : goal.returns-clause-starts
returns-clause-starts c = λ p s proc args new valid l. elim (step-moves p s (Invoke proc args) new valid.formed.history l) [
  | inl same ↦ inl same
  | inr m ↦ inr (
    m.0,
    m.1,
    subst (λ (n : State). GoesOn p n (length s.invocations) m.0 []) (sym m.4) (started m.0 proc args, [], came-started p s proc m.0 args valid m.1, at_start),
  )
]

pub returns-clause-extends : goal.returns-clause-extends
returns-clause-extends c = λ p s i q inv trail label new valid came behind names l.
    label-next p s i q trail valid new inv (record { came = came; behind = behind }) label names l
