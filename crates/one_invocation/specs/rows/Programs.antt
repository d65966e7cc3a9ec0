-- Small programs beside those that the crates below have.
use Rattle.std.specs.Prelude.{[], ◌∷◌, codes}
use Rattle.rp_lang.specs.Exprs.{Con, no_ex}
use Rattle.rp_lang.specs.Formulas.{Holds}
use Rattle.rp_lang.specs.Programs.{Prog}
use Rattle.rp_lang.specs.rows.Samples.{over_sets, norem, add}
use Rattle.event_machine.specs.rows.Worked.{nowhere, pickers}

-- One set, to which each invocation adds an identifier of its own: no user is removed.
abbrev pub only_adds : Prog
only_adds = over_sets (norem ∷ []) (add 196 ∷ [])

-- two transactions in a row, a match and a result, with the invariant `true`
abbrev pub claiming_pickers : Prog
claiming_pickers = record pickers { invs = record { name = codes "fine"; at = nowhere; body = Holds (Con 1 no_ex) } ∷ [] }
