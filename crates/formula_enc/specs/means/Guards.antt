-- What a quantifier's variable has to be, by its set.
use Rattle.std.specs.Prelude.{ℕ, Bool, Option, Some, None}
use Rattle.rp_logic.specs.Formulas.{Fms, no_fm}
use Rattle.rp_logic.specs.Terms.{Var}
use Rattle.crdt_enc.specs.Builders.{one_fm, over_one}

-- the innermost variable is in the set, where there is one, or isn't
abbrev pub by_set : Bool → Option ℕ → Fms
by_set sign None = no_fm
by_set sign (Some set) = one_fm (over_one sign set (Var 0))
