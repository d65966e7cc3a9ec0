-- Worked rows of the pass, with operation constructor 7 over one identifier, function 0 the operation of a call, relation 1
-- the committed calls and relation 2 the calls before one another; sort 0 is that of calls, sort 2 that of identifiers.
use Rattle.std.specs.Prelude.{◌≡◌, Bool, true, false}
use Rattle.rp_logic.specs.Terms.{Tm, Var, Sel, no_tm, also_tm, Rel}
use Rattle.rp_logic.specs.Formulas.{Fm, Fms, And, Or, All, Ex, Lit, no_fm, also_fm}
use Rattle.reshape.specs.rows.Eliminations.{op_at, has, is_op}
use Rattle.reshaped.specs.Shapes.{reshaped}

abbrev pub two : Fm → Fm → Fms
two f g = also_fm f (also_fm g no_fm)

abbrev pub three : Fm → Fm → Fm → Fms
three f g h = also_fm f (two g h)

abbrev pub is_before : Bool → Tm → Tm → Fm
is_before sign c d = Lit sign (Rel 2 (also_tm c (also_tm d no_tm)))

-- what was operation 7 of, by the call
abbrev pub user_of : Tm → Tm
user_of c = Sel 7 0 (op_at c)

-- Of all u, of all calls c: "c isn't committed, or isn't operation 7 of u, or isn't before itself". u is told through the
-- `all` that stands between.
abbrev pub ToldThroughAll : Type 0
ToldThroughAll =
    reshaped (All 2 (All 0 (Or (three (has false (Var 0)) (is_op false (Var 0) (Var 1)) (is_before false (Var 0) (Var 0))))))
    ≡ All 0 (Or (three (has false (Var 0)) (is_op false (Var 0) (user_of (Var 0))) (is_before false (Var 0) (Var 0))))

-- Of all u: "no committed call is operation 7 of u, or no committed call is before itself". Both calls come to the front, and
-- u is told by the first.
abbrev pub PulledThenTold : Type 0
PulledThenTold =
    reshaped (All 2 (Or (two
    (All 0 (Or (two (has false (Var 0)) (is_op false (Var 0) (Var 1)))))
    (All 0 (Or (two (has false (Var 0)) (is_before false (Var 0) (Var 0))))))))
    ≡ All 0 (All 0 (Or (also_fm (has false (Var 1)) (also_fm (is_op false (Var 1) (user_of (Var 1))) (two (has false (Var 0)) (is_before false (Var 0) (Var 0)))))))

-- Of some u: "some committed call is operation 7 of u" becomes "some call is committed and is operation 7 of what it is of".
abbrev pub SomeTold : Type 0
SomeTold =
    reshaped (Ex 2 (Ex 0 (And (two (has true (Var 0)) (is_op true (Var 0) (Var 1))))))
    ≡ Ex 0 (And (two (has true (Var 0)) (is_op true (Var 0) (user_of (Var 0)))))

-- An `all` stays inside an `and`: over an empty sort it would take the rest with it.
abbrev pub AllStaysInAnd : Type 0
AllStaysInAnd =
    reshaped (And (two (All 0 (has false (Var 0))) (has true (Var 3)))) ≡ And (two (All 0 (has false (Var 0))) (has true (Var 3)))

-- so does an `all` whose variable stands nowhere
abbrev pub UnusedStays : Type 0
UnusedStays = reshaped (All 0 (has true (Var 3))) ≡ All 0 (has true (Var 3))

-- without quantifiers nothing changes, nestings included
abbrev pub PlainStays : Type 0
PlainStays =
    reshaped (Or (two (Or (two (has true (Var 0)) (has false (Var 1)))) (has true (Var 2))))
    ≡ Or (two (Or (two (has true (Var 0)) (has false (Var 1)))) (has true (Var 2)))
