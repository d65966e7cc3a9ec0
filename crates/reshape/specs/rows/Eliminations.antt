-- Worked rows of the elimination, with operation constructor 7 over one identifier, function 0 the operation of a call
-- and relation 1 the committed calls.
use Rattle.std.specs.Prelude.{◌≡◌, Bool, false, Some, None}
use Rattle.rp_logic.specs.Terms.{Tm, Var, Fn, Con, Sel, no_tm, also_tm, Equal, Rel}
use Rattle.rp_logic.specs.Formulas.{Fm, Or, Lit, no_fm, also_fm}
use Rattle.reshape.specs.Eliminating.{eliminated}

abbrev pub op_at : Tm → Tm
op_at c = Fn 0 (also_tm c no_tm)

abbrev pub has : Bool → Tm → Fm
has sign c = Lit sign (Rel 1 (also_tm c no_tm))

abbrev pub is_op : Bool → Tm → Tm → Fm
is_op sign c x = Lit sign (Equal (op_at c) (Con 7 (also_tm x no_tm)))

-- under `all c`, of `all u` the body "c isn't committed, or isn't operation 7 of u": u goes, and c is nearer
abbrev pub UserGoes : Type 0
UserGoes =
    eliminated (also_fm (has false (Var 1)) (also_fm (is_op false (Var 1) (Var 0)) no_fm))
    ≡ Some (Or (also_fm (has false (Var 0)) (also_fm (is_op false (Var 0) (Sel 7 0 (op_at (Var 0)))) no_fm)))

-- the call itself isn't determined by its operation
abbrev pub CallStays : Type 0
CallStays = eliminated (also_fm (has false (Var 0)) (also_fm (is_op false (Var 0) (Var 1)) no_fm)) ≡ None
