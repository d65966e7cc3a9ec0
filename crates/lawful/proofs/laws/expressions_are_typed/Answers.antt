use Rattle.lawful.proofs.Main.{typed}
use Rattle.lawful.proofs.laws.expressions_are_typed.Goals as goal

pub returns : goal.returns
returns c = λ t p words tied f reads bs b vs asked e v m sc w is st kept.
    typed t (record { p = p; words = words; tied = tied; f = f; reads = reads }) bs b vs asked e v m sc w is st kept
