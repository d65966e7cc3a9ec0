-- Formulas put together.
use Rattle.std.specs.Prelude.{ℕ, zero, suc, ◌-◌, Bool, true, List, [], ◌∷◌, ◌++◌, length, if◌then◌else◌}
use Rattle.rp_logic.specs.Terms.{Tm, Fn, Con, Sel, Tms, no_tm, also_tm, Equal, Rel}
use Rattle.rp_logic.specs.Formulas.{Fm, And, Or, Lit, Fms, no_fm, also_fm}
use Rattle.rp_lang.specs.declared.op.OpDecl.{OpDecl}
use Rattle.rp_lang.specs.Programs.{Prog}
use Rattle.rp_symbols.specs.Numbers.{op_con, op_fn, before_rel}

-- the formula alone
abbrev pub one_fm : Fm → Fms
one_fm f = also_fm f no_fm

-- all of the formulas; one formula stands for itself
abbrev pub all_of : Fms → Fm
all_of (also_fm f no_fm) = f
all_of fs = And fs

-- any of the formulas; one formula stands for itself
abbrev pub any_of : Fms → Fm
any_of (also_fm f no_fm) = f
any_of fs = Or fs

-- terms one behind the other
abbrev pub tms_of : List Tm → Tms
tms_of [] = no_tm
tms_of (t ∷ ts) = also_tm t (tms_of ts)

-- the relation holds of the term, or doesn't
abbrev pub over_one : Bool → ℕ → Tm → Fm
over_one sign r t = Lit sign (Rel r (also_tm t no_tm))

-- the relation holds of the two terms, or doesn't
abbrev pub over_two : Bool → ℕ → Tm → Tm → Fm
over_two sign r t u = Lit sign (Rel r (also_tm t (also_tm u no_tm)))

-- the first call is before the second, or isn't
abbrev pub is_before : Bool → Tm → Tm → Fm
is_before sign t u = over_two sign before_rel t u

-- the function at one term
abbrev pub applied : ℕ → Tm → Tm
applied f t = Fn f (also_tm t no_tm)

-- so many selector terms of a built term, from this place on
abbrev pub selectors : ℕ → ℕ → ℕ → Tm → List Tm
selectors con i zero t = []
selectors con i (suc n) t = Sel con i t ∷ selectors con (suc i) n t

-- the constructor over these terms, and for its other arguments what it has in t itself
abbrev pub built : ℕ → ℕ → List Tm → Tm → Tm
built con places given t = Con con (tms_of (given ++ selectors con (length given) (places - length given) t))

-- the call is this operation, with these as its first arguments
abbrev pub is_call_of : Prog → ℕ → OpDecl → List Tm → Tm → Fm
is_call_of p op decl given call =
    Lit true (Equal (applied op_fn call) (built (op_con p op) (length decl.args) given (applied op_fn call)))

-- one formula for each operation that passes the test; the list's first is operation `op`
abbrev pub for_each : (OpDecl → Bool) → (ℕ → OpDecl → Fm) → ℕ → List OpDecl → Fms
for_each test make op [] = no_fm
for_each test make op (decl ∷ decls) =
    if test decl then also_fm (make op decl) (for_each test make (suc op) decls) else for_each test make (suc op) decls
