-- The label that definitions speak of, of a step of the code.
use Rattle.std.specs.Prelude.{map}
use Rattle.rp_value.specs.ValueView.{value_view}
use Rattle.rp_lang.specs.declared.step.Step.{Step}
use Rattle.rp_lang.specs.declared.step.Step.TheVariants as step
use Rattle.event_machine.specs.States as seen

abbrev pub label_view : Step → seen.Label
label_view (step.Invoke proc args) = seen.Invoke proc (map value_view args)
label_view (step.Begin inv stamp sees) = seen.Begin inv stamp sees
label_view (step.Op inv stamp) = seen.Op inv stamp
label_view (step.Local inv) = seen.Local inv
label_view (step.New inv id) = seen.New inv (value_view id)
label_view (step.Commit inv) = seen.Commit inv
label_view (step.Return inv) = seen.Return inv
label_view (step.Fail inv) = seen.Fail inv
label_view (step.Check sees) = seen.Check sees
