-- What each rule adds for its children, as a function: `None` where the rule isn't met. Rules.antt
-- says the same as a relation.
use Rattle.std.specs.Prelude.{ℕ, zero, suc, ℤ, pos, neg_ℤ, ◌+ℤ◌, ◌-ℤ◌, int_lt, Bool, true, false, not, ◌&&◌, ◌==◌, if◌then◌else◌, List, [], ◌∷◌, Option, Some, None, option_map, option_and_then}
use Rattle.std.specs.Ordering.{int_eq}
use Rattle.std.specs.Str.{bytes_eq}
use Rattle.rp_logic.specs.Terms.{Tm, Const, Int, Str, Con, Sel, Plus, Tms, no_tm, also_tm, At, Equal, Le}
use Rattle.rp_logic.specs.Formulas.{Fm, And, Or, All, Ex, Lit, Fms}
use Rattle.rp_logic.specs.Signatures.{Signature}
use Rattle.rp_logic.specs.Sorted.{has_sort}
use Rattle.rp_logic.specs.Instance.{instance}
use Rattle.refute_defs.specs.Uses.{Use}
use Rattle.refute_defs.specs.Shapes.{place_and_pick, the_place, the_places, two_places, place_and_term, term_with_places, term_and_pick, the_term, two_terms, the_atom}
use Rattle.refute_defs.specs.Parts.{nth_tm, nth_fm, are_some, args, with_args, atom_args, atom_with, equal}
pub use Rattle.refute_defs.specs.Parts.{at_most}
use Rattle.refute_defs.specs.Additions.{Addition, formula_alone}
pub use Rattle.refute_defs.specs.Additions.{one_child, child_for_each, child_for_each_con, bringing}
use Rattle.refute_defs.specs.Branches.{Branch, formula_at}
use Rattle.refute_defs.specs.Constants.{is_new}
use Rattle.refute_defs.specs.Same.{same_tm, same_at}
use Rattle.refute_defs.specs.Numbers.{within}
use Rattle.refute_defs.specs.NewTerms.{is_term, is_number, is_atom, declared_sort, datatype}

-- # Children

abbrev pub Children : Type 0
Children = Option (List Addition)

-- no child: the branch is closed
abbrev pub closed_if : Bool → Children
closed_if met = if met then Some [] else None

abbrev pub one_more : Option Fm → Children
one_more f = option_map one_child f

-- # Formulas of a branch, by their form

abbrev pub conjuncts : Fm → Option Fms
conjuncts (And parts) = Some parts
conjuncts _ = None

abbrev pub disjuncts : Fm → Option Fms
disjuncts (Or parts) = Some parts
disjuncts _ = None

-- the sort and the body
abbrev pub universal : Fm → Option (ℕ × Fm)
universal (All sort body) = Some (sort, body)
universal _ = None

abbrev pub existential : Fm → Option (ℕ × Fm)
existential (Ex sort body) = Some (sort, body)
existential _ = None

abbrev pub literal : Fm → Option (Bool × At)
literal (Lit sign atom) = Some (sign, atom)
literal _ = None

-- the sides of an equality
abbrev pub equality : Fm → Option (Tm × Tm)
equality (Lit true (Equal a b)) = Some (a, b)
equality _ = None

-- a, b and k of the literal a <= b + k, or of its negation
abbrev pub order : Bool → Fm → Option (Tm × Tm × ℤ)
order true (Lit true (Le a b k)) = Some (a, b, k)
order false (Lit false (Le a b k)) = Some (a, b, k)
order _ _ = None

abbrev pub conjuncts_at : Branch → ℕ → Option Fms
conjuncts_at b p = option_and_then conjuncts (formula_at b p)

abbrev pub disjuncts_at : Branch → ℕ → Option Fms
disjuncts_at b p = option_and_then disjuncts (formula_at b p)

abbrev pub universal_at : Branch → ℕ → Option (ℕ × Fm)
universal_at b p = option_and_then universal (formula_at b p)

abbrev pub existential_at : Branch → ℕ → Option (ℕ × Fm)
existential_at b p = option_and_then existential (formula_at b p)

abbrev pub literal_at : Branch → ℕ → Option (Bool × At)
literal_at b p = option_and_then literal (formula_at b p)

abbrev pub equality_at : Branch → ℕ → Option (Tm × Tm)
equality_at b p = option_and_then equality (formula_at b p)

abbrev pub order_at : Bool → Branch → ℕ → Option (Tm × Tm × ℤ)
order_at sign b p = option_and_then (order sign) (formula_at b p)

-- # Propositions and quantifiers

-- 1: of an `And` the conjunct of the number that is named
abbrev pub conjunct_at : Branch → ℕ → ℕ → Option Fm
conjunct_at b i p = option_and_then (λ parts. nth_fm parts i) (conjuncts_at b p)

abbrev pub part : Branch → Use → Children
part b u = one_more (option_and_then (conjunct_at b u.pick) (place_and_pick u))

-- 2: of an `Or` a child for each disjunct
abbrev pub split : Branch → Use → Children
split b u = option_map child_for_each (option_and_then (disjuncts_at b) (the_place u))

-- 3: of an `All` and a term of its sort the instance
abbrev pub instance_of_sort : Signature → Branch → Tm → ℕ × Fm → Option Fm
instance_of_sort S b t f = if has_sort S b.added [] f.0 t then Some (instance t f.1) else None

abbrev pub instance_by : Signature → Branch → ℕ × Tm → Option Fm
instance_by S b x = option_and_then (instance_of_sort S b x.1) (universal_at b x.0)

abbrev pub instantiate : Signature → Branch → Use → Children
instantiate S b u = one_more (option_and_then (instance_by S b) (place_and_term u))

-- 4: of an `Ex` and a new constant the instance, and the constant is brought
abbrev pub constant : Tm → Option ℕ
constant (Const c) = Some c
constant _ = None

abbrev pub instance_by_new : Signature → Branch → ℕ → ℕ × Fm → Children
instance_by_new S b c f =
    if is_new S b c then Some (bringing c f.0 (instance (Const c) f.1)) else None

abbrev pub new_constant_at : Signature → Branch → ℕ → ℕ → Children
new_constant_at S b p c = option_and_then (instance_by_new S b c) (existential_at b p)

abbrev pub new_constant_by : Signature → Branch → ℕ × Tm → Children
new_constant_by S b x = option_and_then (new_constant_at S b x.0) (constant x.1)

abbrev pub new_constant : Signature → Branch → Use → Children
new_constant S b u = option_and_then (new_constant_by S b) (place_and_term u)

-- 5: of an atom two children, with it and with its negation
abbrev pub cut_by : Signature → Branch → At → Children
cut_by S b atom =
    if is_atom S b atom
    then Some (formula_alone (Lit true atom) ∷ formula_alone (Lit false atom) ∷ [])
    else None

abbrev pub cut : Signature → Branch → Use → Children
cut S b u = option_and_then (cut_by S b) (the_atom u)

-- 6: a literal and its negation, in either order
abbrev pub are_opposite : Fm → Fm → Bool
are_opposite (Lit true a) (Lit false c) = same_at a c
are_opposite (Lit false a) (Lit true c) = same_at a c
are_opposite _ _ = false

abbrev pub clash_with : Branch → ℕ → Fm → Children
clash_with b q f = option_and_then (λ g. closed_if (are_opposite f g)) (formula_at b q)

abbrev pub clash_at : Branch → ℕ × ℕ → Children
clash_at b ps = option_and_then (clash_with b ps.1) (formula_at b ps.0)

abbrev pub clash : Branch → Use → Children
clash b u = option_and_then (clash_at b) (two_places u)

-- # Equality

-- 7: of a term t = t
abbrev pub itself : Signature → Branch → Tm → Option Fm
itself S b t = if is_term S b t then Some (equal t t) else None

abbrev pub reflexive : Signature → Branch → Use → Children
reflexive S b u = one_more (option_and_then (itself S b) (the_term u))

-- 8: of a = b the equality b = a
abbrev pub sides_swapped : Tm × Tm → Fm
sides_swapped e = equal e.1 e.0

abbrev pub symmetric : Branch → Use → Children
symmetric b u = one_more (option_map sides_swapped (option_and_then (equality_at b) (the_place u)))

-- 9: of a = b and b = c the equality a = c
abbrev pub joined : Tm × Tm → Tm × Tm → Option Fm
joined e d = if same_tm e.1 d.0 then Some (equal e.0 d.1) else None

abbrev pub joined_at : Branch → ℕ × ℕ → Option Fm
joined_at b ps =
    option_and_then (λ e. option_and_then (joined e) (equality_at b ps.1)) (equality_at b ps.0)

abbrev pub transitive : Branch → Use → Children
transitive b u = one_more (option_and_then (joined_at b) (two_places u))

-- the other side of the equality at the place, where t is the first
abbrev pub other_side : Tm → Tm × Tm → Option Tm
other_side t e = if same_tm t e.0 then Some e.1 else None

abbrev pub other_side_at : Branch → Tm → ℕ → Option Tm
other_side_at b t p = option_and_then (other_side t) (equality_at b p)

-- the other sides of the equalities at the places, where these terms are the first, one by one
abbrev pub other_sides : Branch → List ℕ → Tms → Option Tms
other_sides b [] no_tm = Some no_tm
other_sides b [] (also_tm t ts) = None
other_sides b (p ∷ ps) no_tm = None
other_sides b (p ∷ ps) (also_tm t ts) =
    option_and_then (λ u. option_map (also_tm u) (other_sides b ps ts)) (other_side_at b t p)

-- 10: of a term with arguments and equalities of them the equality with the other sides in their
-- place
abbrev pub term_replaced : Signature → Branch → List ℕ → Tm → Option Fm
term_replaced S b ps t =
    if is_term S b t && are_some (args t)
    then option_map (λ us. equal t (with_args t us)) (other_sides b ps (args t))
    else None

abbrev pub congruent_term : Signature → Branch → Use → Children
congruent_term S b u = one_more (option_and_then (term_replaced S b u.places) (term_with_places u))

-- 11: of a literal and equalities of its terms the literal with the other sides in their place
abbrev pub literal_replaced : Branch → List ℕ → Bool × At → Option Fm
literal_replaced b ps l =
    option_map (λ us. Lit l.0 (atom_with l.1 us)) (other_sides b ps (atom_args l.1))

abbrev pub literal_at_first : Branch → List ℕ → Option Fm
literal_at_first b [] = None
literal_at_first b (p ∷ ps) = option_and_then (literal_replaced b ps) (literal_at b p)

abbrev pub congruent_literal : Branch → Use → Children
congruent_literal b u = one_more (option_and_then (literal_at_first b) (the_places u))

-- # Constructors and literals of sorts

-- the constructor and its arguments
abbrev pub built : Tm → Option (ℕ × Tms)
built (Con con ts) = Some (con, ts)
built _ = None

-- both sides of an equality are built with constructors
abbrev pub built_sides : Tm × Tm → Option ((ℕ × Tms) × (ℕ × Tms))
built_sides e = option_and_then (λ x. option_map (λ y. (x, y)) (built e.1)) (built e.0)

abbrev pub built_sides_at : Branch → ℕ → Option ((ℕ × Tms) × (ℕ × Tms))
built_sides_at b p = option_and_then built_sides (equality_at b p)

-- 12: an equality of different constructors
abbrev pub constructor_clash_at : Branch → ℕ → Children
constructor_clash_at b p =
    option_and_then (λ e. closed_if (not (e.0.0 == e.1.0))) (built_sides_at b p)

abbrev pub constructor_clash : Branch → Use → Children
constructor_clash b u = option_and_then (constructor_clash_at b) (the_place u)

-- 13: of an equality of one constructor the equality of the arguments of the number that is named
abbrev pub arguments_equal : ℕ → (ℕ × Tms) × (ℕ × Tms) → Option Fm
arguments_equal i e =
    if e.0.0 == e.1.0
    then option_and_then (λ x. option_map (equal x) (nth_tm e.1.1 i)) (nth_tm e.0.1 i)
    else None

abbrev pub arguments_equal_at : Branch → ℕ → ℕ → Option Fm
arguments_equal_at b i p = option_and_then (arguments_equal i) (built_sides_at b p)

abbrev pub injective : Branch → Use → Children
injective b u = one_more (option_and_then (arguments_equal_at b u.pick) (place_and_pick u))

-- 14: of a term of a datatype a child for each constructor, with which it was built
abbrev pub cases_of : Signature → Branch → Tm → Children
cases_of S b t = option_map (child_for_each_con S t) (datatype (declared_sort S b t))

abbrev pub cases : Signature → Branch → Use → Children
cases S b u = option_and_then (cases_of S b) (the_term u)

-- 15: a selector of its own constructor gives the argument
abbrev pub selected_from : ℕ → ℕ → ℕ × Tms → Option Tm
selected_from con i x = if con == x.0 then nth_tm x.1 i else None

abbrev pub selected : Tm → Option Tm
selected (Sel con i t) = option_and_then (selected_from con i) (built t)
selected _ = None

abbrev pub selection : Signature → Branch → Tm → Option Fm
selection S b t = if is_term S b t then option_map (equal t) (selected t) else None

abbrev pub selector : Signature → Branch → Use → Children
selector S b u = one_more (option_and_then (selection S b) (the_term u))

-- 16: an equality of two different numbers, or of two different texts
abbrev pub are_different : Tm → Tm → Bool
are_different (Int m) (Int n) = not (int_eq m n)
are_different (Str a) (Str c) = not (bytes_eq a c)
are_different _ _ = false

abbrev pub literal_clash_at : Branch → ℕ → Children
literal_clash_at b p = option_and_then (λ e. closed_if (are_different e.0 e.1)) (equality_at b p)

abbrev pub literal_clash : Branch → Use → Children
literal_clash b u = option_and_then (literal_clash_at b) (the_place u)

-- # Order

-- a step of a chain: from a, where the order begins with it, to its other term, and the sum with
-- its number
abbrev pub step_from : Tm → ℤ → Tm × Tm × ℤ → Option (Tm × ℤ)
step_from a sum o = if same_tm a o.0 then option_map (λ k. (o.1, k)) (within (sum +ℤ o.2)) else None

abbrev pub step_at : Branch → Tm → ℤ → ℕ → Option (Tm × ℤ)
step_at b a sum p = option_and_then (step_from a sum) (order_at true b p)

-- The orders at the places lead from a to c. Their numbers are added to the sum one after another.
abbrev pub chain : Branch → List ℕ → Tm → Tm → ℤ → Option ℤ
chain b [] a c sum = if same_tm a c then Some sum else None
chain b (p ∷ ps) a c sum =
    option_and_then (λ x. chain b ps x.0 c x.1) (step_at b a sum p)

-- the sum of orders that lead from a term to itself
abbrev pub sum_around : Branch → List ℕ → Option ℤ
sum_around b [] = None
sum_around b (p ∷ ps) =
    option_and_then (λ o. chain b (p ∷ ps) o.0 o.0 (pos 0)) (order_at true b p)

-- 17: orders that lead from a term to itself, with a negative sum
abbrev pub cycle_of : Branch → List ℕ → Children
cycle_of b ps = option_and_then (λ sum. closed_if (int_lt sum (pos 0))) (sum_around b ps)

abbrev pub cycle : Branch → Use → Children
cycle b u = option_and_then (cycle_of b) (the_places u)

-- the literal a <= b + k, with a number that has to be within 128 bits
abbrev pub at_most_within : Tm → Tm → ℤ → Option Fm
at_most_within a c k = option_map (at_most a c) (within k)

-- 18: of the negation of a <= b + k the order b <= a + (-k - 1)
abbrev pub turned : Tm × Tm × ℤ → Option Fm
turned o = at_most_within o.1 o.0 (neg_ℤ o.2 -ℤ pos 1)

abbrev pub turned_at : Branch → ℕ → Option Fm
turned_at b p = option_and_then turned (order_at false b p)

abbrev pub turned_order : Branch → Use → Children
turned_order b u = one_more (option_and_then (turned_at b) (the_place u))

-- 19: of an equality a = b of numbers the order a <= b + 0
abbrev pub order_of : Signature → Branch → Tm × Tm → Option Fm
order_of S b e = if is_number S b e.0 then Some (at_most e.0 e.1 (pos 0)) else None

abbrev pub order_of_at : Signature → Branch → ℕ → Option Fm
order_of_at S b p = option_and_then (order_of S b) (equality_at b p)

abbrev pub order_of_equals : Signature → Branch → Use → Children
order_of_equals S b u = one_more (option_and_then (order_of_at S b) (the_place u))

-- 20: of a <= b + 0 and b <= a + 0 the equality a = b
abbrev pub both_orders : Tm × Tm × ℤ → Tm × Tm × ℤ → Option Fm
both_orders o r =
    if int_eq o.2 (pos 0) && int_eq r.2 (pos 0) && same_tm o.0 r.1 && same_tm o.1 r.0
    then Some (equal o.0 o.1)
    else None

abbrev pub both_orders_at : Branch → ℕ × ℕ → Option Fm
both_orders_at b ps =
    option_and_then (λ o. option_and_then (both_orders o) (order_at true b ps.1))
    (order_at true b ps.0)

abbrev pub equals_by_order : Branch → Use → Children
equals_by_order b u = one_more (option_and_then (both_orders_at b) (two_places u))

-- 21: of t + k, with the number 0 the order t + k <= t + k, with 1 the order t <= (t + k) + (-k)
abbrev pub order_of_sum : ℕ → Tm → Option Fm
order_of_sum zero (Plus t k) = Some (at_most (Plus t k) t k)
order_of_sum (suc zero) (Plus t k) = at_most_within t (Plus t k) (neg_ℤ k)
order_of_sum _ _ = None

abbrev pub sum_bounds : Signature → Branch → ℕ → Tm → Option Fm
sum_bounds S b i t = if is_term S b t then order_of_sum i t else None

abbrev pub plus : Signature → Branch → Use → Children
plus S b u = one_more (option_and_then (sum_bounds S b u.pick) (term_and_pick u))

-- 22: of two numbers m and n the order m <= n + (m - n)
abbrev pub difference : Tm → Tm → Option Fm
difference (Int m) (Int n) = at_most_within (Int m) (Int n) (m -ℤ n)
difference _ _ = None

abbrev pub order_of_numbers : Signature → Branch → Tm × Tm → Option Fm
order_of_numbers S b ts =
    if is_term S b ts.0 && is_term S b ts.1 then difference ts.0 ts.1 else None

abbrev pub numbers : Signature → Branch → Use → Children
numbers S b u = one_more (option_and_then (order_of_numbers S b) (two_terms u))

-- # All rules

abbrev pub children_by : ℕ → Signature → Branch → Use → Children
children_by rule S b u =
    if rule == 1 then part b u
    else if rule == 2 then split b u
    else if rule == 3 then instantiate S b u
    else if rule == 4 then new_constant S b u
    else if rule == 5 then cut S b u
    else if rule == 6 then clash b u
    else if rule == 7 then reflexive S b u
    else if rule == 8 then symmetric b u
    else if rule == 9 then transitive b u
    else if rule == 10 then congruent_term S b u
    else if rule == 11 then congruent_literal b u
    else if rule == 12 then constructor_clash b u
    else if rule == 13 then injective b u
    else if rule == 14 then cases S b u
    else if rule == 15 then selector S b u
    else if rule == 16 then literal_clash b u
    else if rule == 17 then cycle b u
    else if rule == 18 then turned_order b u
    else if rule == 19 then order_of_equals S b u
    else if rule == 20 then equals_by_order b u
    else if rule == 21 then plus S b u
    else if rule == 22 then numbers S b u
    else None

-- what a node adds for its children, if it meets its rule
abbrev pub children : Signature → Branch → Use → Children
children S b u = children_by u.rule S b u
