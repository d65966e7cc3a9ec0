-- A formula or its dual, as the code makes them: with the sign handed down.
use Rattle.std.specs.Prelude.{Bool, true, false}
use Rattle.rp_value.specs.declared.tables.Ty.{Ty}
use Rattle.rp_logic.specs.Dual.{dual, duals}
use Rattle.rp_logic.specs.Formulas.{Fm, And, Or, All, Ex, Fms}
use Rattle.crdt_enc.specs.FormulaFormulas.{sort_of, guard, each_under, some_under}
use Rattle.crdt_enc.specs.Places.{At}

-- the formula, or its dual
abbrev pub signed : Bool → Fm → Fm
signed true f = f
signed false f = dual f

abbrev pub signed_all : Bool → Fms → Fms
signed_all true fs = fs
signed_all false fs = duals fs

-- all of the formulas, or any
abbrev pub joint : Bool → Fms → Fm
joint true fs = And fs
joint false fs = Or fs

-- for all of the type, or for some
abbrev pub quantified : Bool → At → Ty → Fm → Fm
quantified true at over f = All (sort_of over) (each_under (guard false at over) f)
quantified false at over f = Ex (sort_of over) (some_under (guard true at over) f)
