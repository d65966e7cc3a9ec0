-- Invariants that a goal assumes, and the one that it denies, as formulas.
use Rattle.std.specs.Prelude.{List, [], ◌∷◌}
use Rattle.rp_lang.specs.Programs.{Inv, Prog}
use Rattle.rp_logic.specs.Formulas.{Fm}
use Rattle.rp_logic.specs.Dual.{dual}
use Rattle.rp_symbols.specs.Numbers.{snapshot_rel}
use Rattle.crdt_enc.specs.Places.{At}
use Rattle.crdt_enc.specs.FormulaFormulas.{formula_of, nothing_around}
use Rattle.hist_struct.specs.Snapshots.{after_at}

-- each of these invariants, at one place
abbrev pub all_at : Prog → At → List Inv → List Fm
all_at p at [] = []
all_at p at (inv ∷ invs) = formula_of p at nothing_around inv.body ∷ all_at p at invs

-- the program's invariants there
abbrev pub invariants_at : Prog → At → List Fm
invariants_at p at = all_at p at p.invs

-- the invariant is false at the snapshot after the step
abbrev pub denied : Prog → Inv → Fm
denied p claim = dual (formula_of p (after_at snapshot_rel) nothing_around claim.body)
