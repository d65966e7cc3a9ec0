-- Which bytes are a text of the first form, and which program they are.
use Rattle.std.specs.Prelude.{ℕ, List}
use Rattle.rp_lang.specs.FirstForm.{IsFirstForm}
use Rattle.rp_lang.specs.Programs.{Prog}
use Rattle.rp_verify.specs.Verdicts.{IsWithinLimits}
use Rattle.repliss_cli.specs.ProgramText.{IsProgramText}

-- The bytes are a text of the first form, and p is its program.
pub record IsFirstText (bytes : List ℕ) (p : Prog) : Type 0 where
  pub text : IsProgramText bytes p
  -- procedures over truth values, and nothing else
  pub form : IsFirstForm p
  -- at most 1,024 paths a procedure, and 2,048 goals
  pub within : IsWithinLimits p
