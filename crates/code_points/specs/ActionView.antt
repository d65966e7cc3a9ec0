-- The action that definitions speak of, of one of the code.
use Rattle.rp_lang.specs.declared.step.Action.{Action}
use Rattle.rp_lang.specs.declared.step.Action.TheVariants as made
use Rattle.event_machine.specs.States as seen

abbrev pub action_view : Action → seen.Action
action_view made.Begin = seen.ToBegin
action_view made.Op = seen.ToOp
action_view made.Local = seen.ToLocal
action_view made.New = seen.ToNew
action_view made.Commit = seen.ToCommit
action_view made.Return = seen.ToReturn
