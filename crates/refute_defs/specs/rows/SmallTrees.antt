-- Worked rows: small trees and what is said of them.
use Rattle.std.specs.Prelude.{ℕ, ℤ, pos, Bool, true, false, not, List, [], ◌∷◌}
use Rattle.rp_logic.specs.declared.sort.Sort.TheVariants as sort
use Rattle.rp_logic.specs.Terms.{Tm, Var, Const, Fn, Int, Con, Sel, no_tm, also_tm, At, Rel}
use Rattle.rp_logic.specs.Formulas.{Fm, And, Or, All, Ex, Lit, no_fm, also_fm}
use Rattle.rp_logic.specs.Signatures.{Signature}
use Rattle.rp_logic.specs.rows.EmptySorts.{one_sort, both_ways}
use Rattle.refute_defs.specs.Uses.{Use, Nd, Rule}
use Rattle.refute_defs.specs.Parts.{at_most, equal}
use Rattle.refute_defs.specs.Additions.{Addition, formula_alone}
use Rattle.refute_defs.specs.Branches.{root}
use Rattle.refute_defs.specs.Children.{Children, children}
use Rattle.refute_defs.specs.Verdicts.{Verdict, verdict}

-- # Nodes

abbrev pub use_of : ℕ → List ℕ → List Tm → List At → ℕ → Use
use_of rule places terms atoms pick =
    record { rule = rule; places = places; terms = terms; atoms = atoms; pick = pick }

abbrev pub on_terms : ℕ → List ℕ → List Tm → Nd
on_terms rule places terms = Rule (use_of rule places terms [] 0)

abbrev pub on : ℕ → List ℕ → Nd
on rule places = on_terms rule places []

abbrev pub on_term : ℕ → List ℕ → Tm → Nd
on_term rule places t = on_terms rule places (t ∷ [])

-- # Numbers: two constants

abbrev pub two_numbers : Signature
two_numbers = record { sorts = sort.Int ∷ []; consts = 0 ∷ 0 ∷ []; fns = []; rels = []; cons = [] }

-- a <= b + 0 and b <= a + k
abbrev pub around : ℤ → List Fm
around k = at_most (Const 0) (Const 1) (pos 0) ∷ at_most (Const 1) (Const 0) k ∷ []

abbrev pub of_cycle : ℤ → Verdict
of_cycle k = verdict two_numbers (around k) (on 17 (0 ∷ 1 ∷ []) ∷ [])

-- m <= n + (m - n), of two numbers
abbrev pub of_difference : ℤ → ℤ → Verdict
of_difference m n = verdict two_numbers [] (on_terms 22 [] (Int m ∷ Int n ∷ []) ∷ [])

-- # One plain sort, one relation over it, and the constant 0

abbrev pub has_it : Bool → Tm → Fm
has_it sign t = Lit sign (Rel 0 (also_tm t no_tm))

-- some element has it, and the constant hasn't
abbrev pub some_has_it : List Fm
some_has_it = Ex 0 (has_it true (Var 0)) ∷ has_it false (Const 0) ∷ []

abbrev pub of_some : List Nd → Verdict
of_some nodes = verdict (one_sort (0 ∷ [])) some_has_it nodes

-- some element is named c, and then it clashes with the constant
abbrev pub of_naming : ℕ → Verdict
of_naming c = of_some (on_term 4 (0 ∷ []) (Const c) ∷ on 6 (2 ∷ 1 ∷ []) ∷ [])

-- it is named 1 twice
abbrev pub of_naming_twice : Verdict
of_naming_twice = of_some (on_term 4 (0 ∷ []) (Const 1) ∷ on_term 4 (0 ∷ []) (Const 1) ∷ [])

-- everything has it and nothing has it, each used on the constant c, over a signature with these
-- constants
abbrev pub of_instances : List ℕ → ℕ → Verdict
of_instances consts c =
    verdict (one_sort consts) both_ways
    (on_term 3 (0 ∷ []) (Const c) ∷ on_term 3 (1 ∷ []) (Const c) ∷ on 6 (2 ∷ 3 ∷ []) ∷ [])

-- R(0) with one sign and R(c) with another, over two constants
abbrev pub of_clash : Bool → ℕ → Verdict
of_clash sign c =
    let given = has_it sign (Const 0) ∷ has_it (not sign) (Const c) ∷ [] in
    verdict (one_sort (0 ∷ 0 ∷ [])) given (on 6 (0 ∷ 1 ∷ []) ∷ [])

-- # A sort with two constants and a function, numbers, and a datatype of two constructors

abbrev pub several : Signature
several = record {
  sorts = sort.Plain ∷ sort.Int ∷ sort.Datatype (0 ∷ 1 ∷ []) ∷ [];
  consts = 0 ∷ 0 ∷ 2 ∷ [];
  fns = record { args = 0 ∷ 0 ∷ []; result = 0 } ∷ [];
  rels = (0 ∷ []) ∷ [];
  cons = record { sort = 2; args = 0 ∷ [] } ∷ record { sort = 2; args = 0 ∷ [] } ∷ [];
}

-- one node: where it meets its rule and has a child the verdict is that node 1 is missing
abbrev pub of_one : List Fm → Nd → Verdict
of_one given node = verdict several given (node ∷ [])

abbrev pub apply : Tm → Tm → Tm
apply s t = Fn 0 (also_tm s (also_tm t no_tm))

abbrev pub build : ℕ → Tm → Tm
build con t = Con con (also_tm t no_tm)

-- the constants 0 and 1 are equal, and the equality is used for the arguments of f
abbrev pub of_arguments : List ℕ → Tm → Verdict
of_arguments places t = of_one (equal (Const 0) (Const 1) ∷ []) (on_term 10 places t)

-- everything has it, also this term
abbrev pub of_instance : Tm → Verdict
of_instance t = of_one (All 0 (has_it true (Var 0)) ∷ []) (on_term 3 (0 ∷ []) t)

-- the argument of constructor con, of a term that is built with constructor d
abbrev pub of_selector : ℕ → ℕ → Verdict
of_selector con d = of_one [] (on_term 15 [] (Sel con 0 (build d (Const 0))))

-- this constructor gives the same as constructor 0
abbrev pub of_constructors : ℕ → Verdict
of_constructors con = of_one (equal (build 0 (Const 0)) (build con (Const 0)) ∷ []) (on 12 (0 ∷ []))

-- the number is 1
abbrev pub of_number : ℤ → Verdict
of_number n = of_one (equal (Int (pos 1)) (Int n) ∷ []) (on 16 (0 ∷ []))

-- # What a node adds

abbrev pub added : List Fm → Use → Children
added given u = children several (root given) u

-- the constants 0 and 1 are equal, and 1 and 0
abbrev pub equal_both_ways : List Fm
equal_both_ways = equal (Const 0) (Const 1) ∷ equal (Const 1) (Const 0) ∷ []

-- 1 <= 2 + 0, and 2 <= 1 + 0
abbrev pub ordered_both_ways : List Fm
ordered_both_ways = at_most (Int (pos 1)) (Int (pos 2)) (pos 0) ∷ at_most (Int (pos 2)) (Int (pos 1)) (pos 0) ∷ []

abbrev pub two_conjuncts : List Fm
two_conjuncts = And (also_fm (has_it true (Const 0)) (also_fm (has_it false (Const 1)) no_fm)) ∷ []

abbrev pub the_atom : At
the_atom = Rel 0 (also_tm (Const 0) no_tm)

-- constant 2 was built with this constructor
abbrev pub was_built : ℕ → Addition
was_built con = formula_alone (equal (Const 2) (build con (Sel con 0 (Const 2))))

-- # Too few nodes, and too many

abbrev pub no_disjunct : List Fm
no_disjunct = Or no_fm ∷ []

abbrev pub of_no_disjunct : List Nd → Verdict
of_no_disjunct nodes = verdict (one_sort []) no_disjunct nodes

abbrev pub two_disjuncts : List Fm
two_disjuncts = Or (also_fm (Or no_fm) (also_fm (Or no_fm) no_fm)) ∷ []

abbrev pub of_two_disjuncts : List Nd → Verdict
of_two_disjuncts nodes = verdict (one_sort []) two_disjuncts nodes
