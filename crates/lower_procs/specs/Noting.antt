-- What expressions pass, and what is noted of them.
use Rattle.std.specs.Prelude.{◌≡◌, Bool, true, false, ◌||◌, not}
use Rattle.rp_lang.specs.Bounds.{fo_binders, is_small_ex, is_small_fo}
use Rattle.rp_lang.specs.declared.limit.LimitName.TheVariants.{Depth, Quantifiers}
use Rattle.rp_value.specs.declared.tables.ConTable.{ConTable}
use Rattle.desugaring.specs.Limits.{Test, is_deep, is_past}
use Rattle.desugaring.specs.Values.{Value, term, formula}
use Rattle.lower_exprs.specs.declared.values.Passed.{Passed}
use Rattle.lower_exprs.specs.declared.values.Work.{Work}
use Rattle.lower_exprs.specs.declared.values.Maker.{Maker}

-- # Tests, by a program's constructors

-- binds more variables than the limit allows
abbrev pub binds_many : ConTable → Test
binds_many cons = record { of_term = λ e. false; of_formula = λ f. is_past Quantifiers (fo_binders cons f) }

-- is past a limit on one expression
abbrev pub is_large_in : ConTable → Test
is_large_in cons = record { of_term = λ e. not (is_small_ex e); of_formula = λ f. not (is_small_fo cons f) }

-- # What is noted

-- Whether some expression passes a test.
abbrev pub Passing : Type 0
Passing = Test → Bool

abbrev pub none_passing : Passing
none_passing test = false

abbrev pub value_passing : Value → Passing
value_passing (term e) test = test.of_term e
value_passing (formula f) test = test.of_formula f

-- What was seen is past a limit just where it was before, or where some expression is.
pub record IsPassedBy (w : Work) (old : Passed) (passing : Passing) (new : Passed) : Type 0 where
  pub depth : is_past Depth new.depth ≡ (is_past Depth old.depth || passing is_deep)
  pub binders : is_past Quantifiers new.binders ≡ (is_past Quantifiers old.binders || passing (binds_many w.cons.now))

-- What these expressions pass is noted, and where all is built none of them is past a limit on one expression.
pub record IsNoted (old : Maker) (passing : Passing) (new : Maker) : Type 0 where
  pub work : new.work ≡ old.work
  pub passed : IsPassedBy old.work old.passed passing new.passed
  pub small : old.work.building ≡ true → passing (is_large_in old.work.cons.now) ≡ false
