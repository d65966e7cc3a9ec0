-- Why there is no program, and what follows.
use Rattle.std.specs.Prelude.{ℕ, List}
use Rattle.repliss_cli.specs.declared.texts.TextErr.{TextErr}
use Rattle.repliss_cli.specs.declared.texts.TextErr.TheVariants.{Refused, Memory}
use Rattle.repliss_cli.specs.Refusals.{IsRefusalOf}

-- what refuses the text has its cause
abbrev pub IsTextErr : List ℕ → TextErr → Type 0
IsTextErr content (Refused report) = IsRefusalOf content report
IsTextErr content Memory = Unit {0}
