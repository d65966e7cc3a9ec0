-- A worked row: the axiom of registers for a register without keys, at the calls that are committed before the step.
use Rattle.std.specs.Prelude.{◌≡◌, true, false, [], ◌∷◌}
use Rattle.rp_logic.specs.Terms.{Var, Fn, Con, Sel, no_tm, also_tm}
use Rattle.rp_logic.specs.Formulas.{Fm, All, Ex}
use Rattle.rp_symbols.specs.rows.OneRegister.{program}
use Rattle.rp_symbols.specs.Numbers.{old_rel}
use Rattle.crdt_enc.specs.rows.Shapes.{all, any, is_in, does}
use Rattle.hist_struct.specs.Axioms.{equal, rel}
use Rattle.hist_struct.specs.Registers.{same_truth, registers_tell}

-- The assign is constructor 5. Some committed call c assigns x, and each committed call that assigns anything is c or has a
-- lesser stamp.
abbrev pub last : Fm
last =
    Ex 0 (all (is_in true 0 0 ∷ does true 0 5 (Var 1 ∷ [])
    ∷ All 0 (any (is_in false 0 0 ∷ does false 0 5 (Sel 5 0 (Fn 0 (also_tm (Var 0) no_tm)) ∷ [])
    ∷ any (equal (Var 0) (Var 1) ∷ rel 5 0 1 ∷ []) ∷ [])) ∷ []))

-- no committed call assigns anything
abbrev pub nothing : Fm
nothing = All 0 (any (is_in false 0 0 ∷ does false 0 5 (Sel 5 0 (Fn 0 (also_tm (Var 0) no_tm)) ∷ []) ∷ []))

-- The value is function 7: it is `some` of x exactly where x was assigned last, and `none` exactly where nothing was.
abbrev pub Tells : Type 0
Tells =
    registers_tell program old_rel
    ≡ all (All 2 (same_truth (equal (Fn 7 no_tm) (Con 3 (also_tm (Var 0) no_tm))) last)
    ∷ same_truth (equal (Fn 7 no_tm) (Con 2 no_tm)) nothing ∷ []) ∷ []
