-- Refusals and violations that definitions speak of, of those of the code.
use Rattle.rp_value.specs.ValueView.{value_view}
use Rattle.rp_lang.specs.declared.refusal.Refusal.{Refusal}
use Rattle.rp_lang.specs.declared.refusal.Refusal.TheVariants as why
use Rattle.rp_lang.specs.declared.event.What.{What}
use Rattle.rp_lang.specs.declared.event.What.TheVariants as what
use Rattle.code_points.specs.ActionView.{action_view}
use Rattle.event_machine.specs.States as seen

abbrev pub why_view : Refusal → seen.Why
why_view (why.NoInvocation i) = seen.NoInvocation i
why_view (why.NotRunning i) = seen.NotRunning i
why_view (why.WrongPoint next) = seen.WrongPoint (action_view next)
why_view why.BadArgs = seen.BadArgs
why_view (why.UnknownId id) = seen.UnknownId (value_view id)
why_view (why.NotCommitted tx) = seen.NotCommitted tx
why_view (why.NotClosed missing) = seen.NotClosed missing
why_view (why.StampUsed stamp) = seen.StampUsed stamp
why_view (why.StampLow stamp) = seen.StampLow stamp
why_view (why.NotFresh id) = seen.NotFresh (value_view id)
why_view (why.OutOfUniverse v) = seen.OutOfUniverse (value_view v)

abbrev pub what_view : What → seen.What
what_view (what.Assertion at) = seen.Assertion at
what_view (what.Invariant n) = seen.Invariant n
