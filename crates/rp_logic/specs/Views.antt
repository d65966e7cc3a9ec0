-- What definitions speak of, of the terms and formulas of the code.
use Rattle.std.specs.Prelude.{List, [], ◌∷◌, map}
use Rattle.rp_logic.specs.declared.term.Term.{Term}
use Rattle.rp_logic.specs.declared.term.Term.TheOpen as term
use Rattle.rp_logic.specs.declared.term.Term.TheFolds.{fold-Term}
use Rattle.rp_logic.specs.declared.atom.Atom.{Atom}
use Rattle.rp_logic.specs.declared.atom.Atom.TheVariants as atom
use Rattle.rp_logic.specs.declared.formula.Fml.{Fml}
use Rattle.rp_logic.specs.declared.formula.Fml.TheOpen as formula
use Rattle.rp_logic.specs.declared.formula.Fml.TheFolds.{fold-Fml}
use Rattle.rp_logic.specs.Terms as tm
use Rattle.rp_logic.specs.Terms.{Tm, Tms, no_tm, also_tm, At}
use Rattle.rp_logic.specs.Formulas as fm
use Rattle.rp_logic.specs.Formulas.{Fm, Fms, no_fm, also_fm}

-- # Terms

abbrev pub tms_of : List Tm → Tms
tms_of [] = no_tm
tms_of (t ∷ ts) = also_tm t (tms_of ts)

abbrev pub term_step : term.Term-F Tm → Tm
term_step (term.Var n) = tm.Var n
term_step (term.Const c) = tm.Const c
term_step (term.Fn f args) = tm.Fn f (tms_of args)
term_step (term.Int n) = tm.Int n
term_step (term.Str bytes) = tm.Str bytes
term_step (term.Con con args) = tm.Con con (tms_of args)
term_step (term.Sel con i t) = tm.Sel con i t
term_step (term.Plus t n) = tm.Plus t n

abbrev pub term_view : Term → Tm
term_view = fold-Term Tm term_step

abbrev pub terms_view : List Term → Tms
terms_view terms = tms_of (map term_view terms)

abbrev pub atom_view : Atom → At
atom_view (atom.Equal a b) = tm.Equal (term_view a) (term_view b)
atom_view (atom.Le a b k) = tm.Le (term_view a) (term_view b) k
atom_view (atom.Rel r args) = tm.Rel r (terms_view args)

-- # Formulas

abbrev pub fms_of : List Fm → Fms
fms_of [] = no_fm
fms_of (f ∷ fs) = also_fm f (fms_of fs)

abbrev pub formula_step : formula.Fml-F Fm → Fm
formula_step (formula.And parts) = fm.And (fms_of parts)
formula_step (formula.Or parts) = fm.Or (fms_of parts)
formula_step (formula.All sort body) = fm.All sort body
formula_step (formula.Ex sort body) = fm.Ex sort body
formula_step (formula.Lit sign atom) = fm.Lit sign (atom_view atom)

abbrev pub formula_view : Fml → Fm
formula_view = fold-Fml Fm formula_step

abbrev pub formulas_view : List Fml → Fms
formulas_view formulas = fms_of (map formula_view formulas)
