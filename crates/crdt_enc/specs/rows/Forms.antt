-- Worked rows: formulas of a program with one datatype, whose constructors 2 and 3 are `none` and `some`.
use Rattle.std.specs.Prelude.{◌≡◌, true, false, [], ◌∷◌}
use Rattle.rp_value.specs.declared.tables.Ty.TheVariants as ty
use Rattle.rp_lang.specs.Exprs as ex
use Rattle.rp_lang.specs.Formulas as fo
use Rattle.rp_lang.specs.Programs.{Prog}
use Rattle.rp_logic.specs.Terms.{Tm, Const, Var, Con, Sel, no_tm, Equal}
use Rattle.rp_logic.specs.Formulas.{Fm, All, Ex, Lit}
use Rattle.crdt_enc.specs.Builders.{tms_of}
use Rattle.crdt_enc.specs.Places.{At}
use Rattle.crdt_enc.specs.FormulaFormulas.{Around, formula_of}
use Rattle.crdt_enc.specs.rows.Shapes.{all, any, is_in, comes, gives}

-- false, true; none, some(Int)
abbrev pub program : Prog
program = record {
  types = record { atoms = []; datatypes = record { name = []; cons = 0 ∷ 1 ∷ [] } ∷ record { name = []; cons = 2 ∷ 3 ∷ [] } ∷ [] };
  cons = record {
    cons =
        record { name = []; of = 0; fields = [] } ∷ record { name = []; of = 0; fields = [] }
        ∷ record { name = []; of = 1; fields = [] } ∷ record { name = []; of = 1; fields = ty.Int ∷ [] } ∷ [];
  };
  roots = [];
  ops = [];
  queries = [];
  invs = [];
  procs = [];
}

-- the snapshot is relation 7, and the state is that before the step
abbrev pub at : At
at = record { view = 7; calls = 0; invs = 2; results = 3 }

-- two slots, whose terms are constants
abbrev pub around : Around
around = record { slots = Const 1 ∷ Const 2 ∷ []; bounds = [] }

-- what the formula is in logic
abbrev pub in_logic : fo.Fo → Fm
in_logic f = formula_of program at around f

-- the two terms are equal, or aren't
abbrev pub same : Tm → Tm → Fm
same t u = Lit true (Equal t u)

-- Over truth values the formula keeps its shape: `a ==> !true`.
abbrev pub Plain : Type 0
Plain =
    in_logic (fo.Implies (fo.Holds (ex.Slot 0)) (fo.Not (fo.Holds (ex.Con 1 ex.no_ex))))
    ≡ any (Lit false (Equal (Const 1) (Con 1 no_tm)) ∷ Lit false (Equal (Con 1 no_tm) (Con 1 no_tm)) ∷ [])

-- Each committed call is visible: a quantifier over calls asks of committed ones alone.
abbrev pub EachCall : Type 0
EachCall = in_logic (fo.All ty.Call (fo.Visible (ex.Bound 0))) ≡ All 0 (any (is_in false 0 0 ∷ is_in true 7 0 ∷ []))

-- Some invocation is before another: both have a committed call, and each call of the one is before each of the other.
abbrev pub InvocationsBefore : Type 0
InvocationsBefore =
    in_logic (fo.Any ty.Inv (fo.Any ty.Inv (fo.Before (ex.Bound 1) (ex.Bound 0))))
    ≡ Ex 1 (all (is_in true 2 0 ∷ Ex 1 (all (is_in true 2 0 ∷ all (
    Ex 0 (all (is_in true 0 0 ∷ gives true 1 0 (Var 2) ∷ []))
    ∷ Ex 0 (all (is_in true 0 0 ∷ gives true 1 0 (Var 1) ∷ []))
    ∷ All 0 (All 0 (any (
    is_in false 0 1 ∷ gives false 1 1 (Var 3) ∷ is_in false 0 0 ∷ gives false 1 0 (Var 2) ∷ comes true 1 0 ∷ []))) ∷ []) ∷ [])) ∷ []))

-- An arm holds where the value is built with its constructor, and its variables are the selected fields.
abbrev pub Matched : Type 0
Matched =
    in_logic (fo.Match (ex.Slot 0) (fo.also_arm 2 (fo.Holds (ex.Con 1 ex.no_ex)) (fo.also_arm 3 (fo.Equal (ex.Bound 0) (ex.Slot 1)) fo.no_arm)))
    ≡ any (
    all (same (Const 1) (Con 2 no_tm) ∷ same (Con 1 no_tm) (Con 1 no_tm) ∷ [])
    ∷ all (same (Const 1) (Con 3 (tms_of (Sel 3 0 (Const 1) ∷ []))) ∷ same (Sel 3 0 (Const 1)) (Const 2) ∷ []) ∷ [])
