-- Arguments of terms and atoms, and the same with other arguments.
use Rattle.std.specs.Prelude.{ℕ, ℤ, zero, suc, Bool, true, false, length, slice_get, Option, Some, None}
use Rattle.rp_logic.specs.Terms.{Tm, Fn, Con, Sel, Plus, Tms, no_tm, also_tm, At, Equal, Le, Rel}
use Rattle.rp_logic.specs.Formulas.{Fm, Lit, Fms, no_fm, also_fm}
use Rattle.rp_logic.specs.Signatures.{Signature, fields_of}

abbrev pub nth_tm : Tms → ℕ → Option Tm
nth_tm no_tm i = None
nth_tm (also_tm t ts) zero = Some t
nth_tm (also_tm t ts) (suc i) = nth_tm ts i

abbrev pub nth_fm : Fms → ℕ → Option Fm
nth_fm no_fm i = None
nth_fm (also_fm f fs) zero = Some f
nth_fm (also_fm f fs) (suc i) = nth_fm fs i

-- the first of the terms, or t
abbrev pub first_tm : Tm → Tms → Tm
first_tm t no_tm = t
first_tm t (also_tm u us) = u

-- the second of the terms, or t
abbrev pub second_tm : Tm → Tms → Tm
second_tm t no_tm = t
second_tm t (also_tm u us) = first_tm t us

abbrev pub are_some : Tms → Bool
are_some no_tm = false
are_some (also_tm t ts) = true

-- # Terms: of a function, a constructor, a selector or `Plus`

abbrev pub args : Tm → Tms
args (Fn f ts) = ts
args (Con con ts) = ts
args (Sel con i t) = also_tm t no_tm
args (Plus t n) = also_tm t no_tm
args _ = no_tm

abbrev pub with_args : Tm → Tms → Tm
with_args (Fn f ts) us = Fn f us
with_args (Con con ts) us = Con con us
with_args (Sel con i t) us = Sel con i (first_tm t us)
with_args (Plus t n) us = Plus (first_tm t us) n
with_args t us = t

-- # Atoms

abbrev pub atom_args : At → Tms
atom_args (Equal a b) = also_tm a (also_tm b no_tm)
atom_args (Le a b k) = also_tm a (also_tm b no_tm)
atom_args (Rel r ts) = ts

abbrev pub atom_with : At → Tms → At
atom_with (Equal a b) us = Equal (first_tm a us) (second_tm b us)
atom_with (Le a b k) us = Le (first_tm a us) (second_tm b us) k
atom_with (Rel r ts) us = Rel r us

-- # Formulas that rules add

-- a = b
abbrev pub equal : Tm → Tm → Fm
equal a b = Lit true (Equal a b)

-- a <= b + k
abbrev pub at_most : Tm → Tm → ℤ → Fm
at_most a b k = Lit true (Le a b k)

-- Sel(con, i, t), Sel(con, i + 1, t) and so on, n of them
abbrev pub selections : ℕ → ℕ → ℕ → Tm → Tms
selections con i zero t = no_tm
selections con i (suc n) t = also_tm (Sel con i t) (selections con (suc i) n t)

-- t was built with this constructor: t = con(Sel(con, 0, t), ..)
abbrev pub built_with : Signature → Tm → ℕ → Fm
built_with S t con =
    equal t (Con con (selections con 0 (length (fields_of (slice_get S.cons con))) t))
