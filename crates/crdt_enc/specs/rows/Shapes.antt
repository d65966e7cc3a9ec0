-- Short ways to write the formulas of the worked rows. The snapshot is relation 7, committed calls are relation 0, and
-- invocations that exist relation 2.
use Rattle.std.specs.Prelude.{ℕ, Bool, List, [], ◌∷◌}
use Rattle.rp_logic.specs.Terms.{Tm, Var, Fn, Con, Rel, Equal}
use Rattle.rp_logic.specs.Formulas.{Fm, And, Or, Lit, Fms, no_fm, also_fm}
use Rattle.crdt_enc.specs.Builders.{tms_of}

-- these parts
abbrev pub parts : List Fm → Fms
parts [] = no_fm
parts (f ∷ fs) = also_fm f (parts fs)

abbrev pub all : List Fm → Fm
all fs = And (parts fs)

abbrev pub any : List Fm → Fm
any fs = Or (parts fs)

-- the variable is in the set, or isn't
abbrev pub is_in : Bool → ℕ → ℕ → Fm
is_in sign set n = Lit sign (Rel set (tms_of (Var n ∷ [])))

-- the first call is before the second, or isn't
abbrev pub comes : Bool → ℕ → ℕ → Fm
comes sign m n = Lit sign (Rel 4 (tms_of (Var m ∷ Var n ∷ [])))

-- what the function of this number gives for the variable is the term, or isn't
abbrev pub gives : Bool → ℕ → ℕ → Tm → Fm
gives sign f n t = Lit sign (Equal (Fn f (tms_of (Var n ∷ []))) t)

-- the call is this operation of these variables, or isn't
abbrev pub does : Bool → ℕ → ℕ → List Tm → Fm
does sign n con ts = gives sign 0 n (Con con (tms_of ts))
