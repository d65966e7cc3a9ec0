-- Worked rows: trees that a search leaves, and what is said of them.
use Rattle.std.specs.Prelude.{ℕ, ℤ, true, false, List, [], ◌∷◌}
use Rattle.rp_logic.specs.declared.sort.Sort.TheVariants as sort
use Rattle.rp_logic.specs.declared.sort.FnDecl.{FnDecl}
use Rattle.rp_logic.specs.Terms.{Tm, Var, Const, Fn, no_tm, also_tm, At, Equal, Le, Rel}
use Rattle.rp_logic.specs.Formulas.{Fm, And, Or, All, Ex, Lit, Fms, no_fm, also_fm}
use Rattle.rp_logic.specs.Signatures.{Signature}
use Rattle.refute_defs.specs.Uses.{Nd, Rule, Unvisited, Current}
use Rattle.refute_defs.specs.Verdicts.{Verdict}
use Rattle.spent_defs.specs.Counted.{counted_verdict}

-- # Nodes

abbrev pub on : ℕ → List ℕ → List Tm → List At → Nd
on rule places terms atoms =
    Rule (record { rule = rule; places = places; terms = terms; atoms = atoms; pick = 0 })

-- the instance of the universal at the place
abbrev pub instance_by : ℕ → Tm → Nd
instance_by p t = on 3 (p ∷ []) (t ∷ []) []

-- a constant for the existential at the place
abbrev pub naming : ℕ → ℕ → Nd
naming p c = on 4 (p ∷ []) (Const c ∷ []) []

abbrev pub split_at : ℕ → Nd
split_at p = on 2 (p ∷ []) [] []

abbrev pub cut_by : At → Nd
cut_by a = on 5 [] [] (a ∷ [])

abbrev pub cases_of : Tm → Nd
cases_of t = on 14 [] (t ∷ []) []

-- # A plain sort with constants, relations R and Q over it, and functions from it to itself

abbrev pub plain : List ℕ → List FnDecl → Signature
plain consts fns = record {
  sorts = sort.Plain ∷ [];
  consts = consts;
  fns = fns;
  rels = (0 ∷ []) ∷ (0 ∷ []) ∷ [];
  cons = [];
}

abbrev pub a_function : List FnDecl
a_function = record { args = 0 ∷ []; result = 0 } ∷ []

abbrev pub c : Tm
c = Const 0

abbrev pub d : Tm
d = Const 1

abbrev pub f : Tm → Tm
f t = Fn 0 (also_tm t no_tm)

abbrev pub r_of : Tm → At
r_of t = Rel 0 (also_tm t no_tm)

abbrev pub q_of : Tm → At
q_of t = Rel 1 (also_tm t no_tm)

abbrev pub yes : At → Fm
yes a = Lit true a

abbrev pub nay : At → Fm
nay a = Lit false a

abbrev pub two : Fm → Fm → Fms
two f g = also_fm f (also_fm g no_fm)

-- everything is in R
abbrev pub every : Fm
every = All 0 (yes (r_of (Var 0)))

-- something is in R
abbrev pub some : Fm
some = Ex 0 (yes (r_of (Var 0)))

abbrev pub of_constant : List Fm → List Nd → ℕ → ℕ → Verdict
of_constant = counted_verdict (plain (0 ∷ []) [])

abbrev pub of_constants : List Fm → List Nd → ℕ → ℕ → Verdict
of_constants = counted_verdict (plain (0 ∷ 0 ∷ []) [])

abbrev pub of_function : List Fm → List Nd → ℕ → ℕ → Verdict
of_function = counted_verdict (plain (0 ∷ []) a_function)

-- the instance by c, and then the search stands
abbrev pub one_instance : List Nd
one_instance = instance_by 0 c ∷ Current ∷ []

-- R(c) and not R(c), put off
abbrev pub clash_put_off : Fm
clash_put_off = And (two (yes (r_of c)) (nay (r_of c)))

-- everything is in R, c isn't, and d is in Q
abbrev pub c_matches : List Fm
c_matches = every ∷ nay (r_of c) ∷ yes (q_of d) ∷ []

-- the term f(c), which stands nowhere, is brought by rule 7
abbrev pub brought_by_equality : List Nd
brought_by_equality = on 7 [] (f c ∷ []) [] ∷ instance_by 0 (f c) ∷ Current ∷ []

-- f(x) is in R for each x, and neither c nor f(f(c)) is: f(c) matches, c doesn't
abbrev pub f_matches : List Fm
f_matches = All 0 (yes (r_of (f (Var 0)))) ∷ nay (r_of c) ∷ nay (r_of (f (f c))) ∷ []

abbrev pub either : Fm
either = Or (two (yes (r_of c)) (nay (r_of c)))

-- a split of one part
abbrev pub of_one_part : ℕ → Verdict
of_one_part budget = of_constant (Or (also_fm (yes (r_of c)) no_fm) ∷ []) (split_at 0 ∷ Current ∷ []) budget 0

-- # Numbers

abbrev pub of_cut_number : ℤ → Verdict
of_cut_number k =
    counted_verdict (record {
      sorts = sort.Int ∷ [];
      consts = 0 ∷ 0 ∷ [];
      fns = [];
      rels = [];
      cons = [];
    }) (yes (Le c d k) ∷ []) (cut_by (Le d c k) ∷ Current ∷ Unvisited ∷ []) 1 0

-- # A plain sort with constant 0 and a relation, and a datatype of two constructors with constant 1

abbrev pub data_sig : Signature
data_sig = record {
  sorts = sort.Plain ∷ sort.Datatype (0 ∷ 1 ∷ []) ∷ [];
  consts = 0 ∷ 1 ∷ [];
  fns = [];
  rels = (0 ∷ []) ∷ [];
  cons = record { sort = 1; args = [] } ∷ record { sort = 1; args = [] } ∷ [];
}

-- everything is in R, c stands, and this is said of d: its cases are told apart at depth 1
abbrev pub of_cases : Fm → Verdict
of_cases said =
    counted_verdict data_sig (every ∷ nay (Equal c c) ∷ said ∷ []) (cases_of d ∷ Current ∷ Unvisited ∷ []) 1 1
