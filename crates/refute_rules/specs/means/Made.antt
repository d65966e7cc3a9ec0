-- What is lent of a term of a constructor, as definitions speak of it.
use Rattle.std.specs.Prelude.{ℕ}
use Rattle.rp_logic.specs.Terms.{Tms}
use Rattle.rp_logic.specs.Views.{terms_view}
use Rattle.refute_rules.specs.declared.datatypes.Made.{Made}

-- a constructor and its arguments
abbrev pub made_view : Made → ℕ × Tms
made_view m = (m.con, terms_view m.args.now)
