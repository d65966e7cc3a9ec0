-- What the checker's answers say.
use Rattle.std.specs.Prelude.{◌≡◌, ℕ, Result, Ok, Err}
use Rattle.refute_defs.specs.Verdicts.{Verdict, Accepted, Bad}
use Rattle.refute_check.specs.declared.error.CheckErr.{CheckErr}
use Rattle.refute_check.specs.declared.error.CheckErr.TheVariants as err

-- the answer is this verdict, unless memory was wanting
abbrev pub IsVerdict : Result (Unit {0}) CheckErr → Verdict → Type 0
IsVerdict (Ok u) v = v ≡ Accepted
IsVerdict (Err (err.Bad node rule)) v = v ≡ Bad node rule
IsVerdict (Err err.Memory) v = Unit {0}

-- where the answer is `Bad`, its node and rule are so
abbrev pub IfBad : {A : Type 0} → Result A CheckErr → (ℕ → ℕ → Type 0) → Type 0
IfBad (Ok x) P = Unit {0}
IfBad (Err (err.Bad node rule)) P = P node rule
IfBad (Err err.Memory) P = Unit {0}
