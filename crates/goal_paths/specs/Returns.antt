-- The goals of returns.
use Rattle.std.specs.Prelude.{Bool, true, false}
use Rattle.one_invocation.specs.Goals.{Goal, ToReturn}

abbrev pub is_return : Goal → Bool
is_return (ToReturn proc path at result k claim) = true
is_return _ = false
