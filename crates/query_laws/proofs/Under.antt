-- Variables in sight stand for the same under binders, whether they are lifted there or at their use.
use Rattle.std.proofs.Common.{◌≡◌, ◌<◌, ℕ, suc, ◌+◌, List, [], ◌∷◌, ◌++◌, map, length, Option, Some, None, refl, ap, ap₂, ◌∙◌, subst, arith, add-one}
use Rattle.std.proofs.lemmas.List.{map_push}
use Rattle.std.specs.Prelude.{option_map, unwrap_or}
use Rattle.rp_grammar.specs.Trees.{Ident, ParamTree, PatternTree}
use Rattle.rp_lang.specs.Exprs as ex
use Rattle.rp_lang.specs.Exprs.{Ex, Exs, no_ex, also_ex}
use Rattle.type_rules.specs.declared.kind.Kind.{Kind}
use Rattle.type_rules.specs.Kinds.{kind_of}
use Rattle.type_rules.specs.Names.{Name, Names, text_of, param_name, param_type}
use Rattle.type_rules.specs.Accesses.{Var}
use Rattle.type_rules.specs.Matches.{pattern_kinds, pattern_name, pattern_vars, first_kind, other_kinds}
use Rattle.desugaring.specs.Tables.{Tables}
use Rattle.desugaring.specs.Values.{lifted}
use Rattle.desugaring.specs.Callees.{Stand, stand, Vars, var_of, vars_of}
use Rattle.desugaring.specs.Expressions as spec
use Rattle.desugaring.specs.Expressions.{raised, with_args}
use Rattle.query_bodies.specs.Expanded.{Uses, Given, given_at, given_of, lifted_by}
use Rattle.query_laws.specs.Sight.{Known, in_slot, of_param, at_level, known_ex, Seen, seen, Sight, stands_for, vars_in, IsUnder, AreUnder, AreGiven, Stands, under, with_levels, under_pattern, params_from, in_body}

-- # One binder more

param_raised : (bound : ℕ) (o : Option Ex)
    → unwrap_or (option_map (lifted_by (bound + 1)) o) ex.Unreturned ≡ lifted (unwrap_or (option_map (lifted_by bound) o)
    ex.Unreturned)
param_raised bound None = refl
param_raised bound (Some e) = ap (λ n. lifted_by n e) (add-one bound)

known_raised : (given : Given) (bound : ℕ) (k : Known) → IsUnder bound k
    → known_ex given (bound + 1) k ≡ lifted (known_ex given bound k)
known_raised given bound (in_slot s) is = refl
known_raised given bound (of_param p) is = param_raised bound (given_at given p)
known_raised given bound (at_level n) is = ap ex.Bound (omega (arith, is))

stand_raised : (given : Given) (bound : ℕ) (s : Stand Known) → IsUnder bound s.known
    → stands_for given (bound + 1) s ≡ raised (stands_for given bound s)
stand_raised given bound s is = ap (stand s.name s.kind) (known_raised given bound s.known is)

all_raised : (given : Given) (bound : ℕ) (vars : Seen) → AreUnder bound vars
    → map (stands_for given (bound + 1)) vars ≡ map raised (map (stands_for given bound) vars)
all_raised given bound [] are = refl
all_raised given bound (s ∷ vars) are = ap₂ ◌∷◌ (stand_raised given bound s are.0) (all_raised given bound vars are.1)

innermost : (given : Given) (bound : ℕ) (x : Name) (k : Kind)
    → stands_for given (bound + 1) (stand x k (at_level bound)) ≡ stand x k (ex.Bound 0)
innermost given bound x k = ap (λ n. stand x k (ex.Bound n)) (omega arith)

pub one_under : (given : Given) (bound : ℕ) (vars : Seen) (x : Name) (k : Kind) → AreUnder bound vars
    → map (stands_for given (bound + 1)) (vars ++ stand x k (at_level bound) ∷ [])
    ≡ spec.under (map (stands_for given bound) vars) x k
one_under given bound vars x k are =
    map_push (stands_for given (bound + 1)) vars (stand x k (at_level bound))
    ∙ ap₂ (λ (vs : Vars) (s : Stand Ex). vs ++ s ∷ []) (all_raised given bound vars are) (innermost given bound x k)

pub vars_under : (s : Sight) (given : Given) (x : Name) (k : Kind) → AreUnder s.binders s.vars
    → vars_in (under s x k) given ≡ spec.under (vars_in s given) x k
vars_under s given x k are = one_under given s.binders s.vars x k are

-- # What holds under a binder more

known_under : (bound : ℕ) (k : Known) → IsUnder bound k → IsUnder (bound + 1) k
known_under bound (in_slot s) is = tt
known_under bound (of_param p) is = tt
known_under bound (at_level n) is = omega (arith, is)

pub still_under : (bound : ℕ) (vars : Seen) (x : Name) (k : Kind) → AreUnder bound vars
    → AreUnder (bound + 1) (vars ++ stand x k (at_level bound) ∷ [])
still_under bound [] x k are = let last : bound < bound + 1 = omega arith in (last, tt)
still_under bound (s ∷ vars) x k are = (known_under bound s.known are.0, still_under bound vars x k are.1)

pub still_given : (given : Given) (vars : Seen) (x : Name) (k : Kind) (n : ℕ) → AreGiven given vars
    → AreGiven given (vars ++ stand x k (at_level n) ∷ [])
still_given given [] x k n are = (tt, tt)
still_given given (s ∷ vars) x k n are = (are.0, still_given given vars x k n are.1)

pub stands_under : (s : Sight) (given : Given) (x : Name) (k : Kind) → Stands s given → Stands (under s x k) given
stands_under s given x k st = record {
  levels = still_under s.binders s.vars x k st.levels;
  args = still_given given s.vars x k s.binders st.args;
}

-- # The variables of a pattern

levels_stand : (given : Given) (bound m : ℕ) (vars : Seen) (xs : List Ident) (ks : List Kind) → bound + length xs ≡ m
    → AreUnder bound vars
    → map (stands_for given m) (with_levels vars bound xs ks) ≡ spec.under_all (map (stands_for given bound) vars) xs ks
levels_stand given bound m vars [] ks e are =
    let same : m ≡ bound = omega (arith, e) in ap (λ n. map (stands_for given n) vars) same
levels_stand given bound m vars (x ∷ xs) ks e are =
    let more : bound + 1 + length xs ≡ m = omega (arith, e) in
    levels_stand given (bound + 1) m (vars ++ stand (text_of x) (first_kind ks) (at_level bound) ∷ []) xs (other_kinds ks) more
    (still_under bound vars (text_of x) (first_kind ks) are)
    ∙ ap (λ (vs : Vars). spec.under_all vs xs (other_kinds ks)) (one_under given bound vars (text_of x) (first_kind ks) are)

levels_under : (bound m : ℕ) (vars : Seen) (xs : List Ident) (ks : List Kind) → bound + length xs ≡ m → AreUnder bound vars
    → AreUnder m (with_levels vars bound xs ks)
levels_under bound m vars [] ks e are = let same : bound ≡ m = omega (arith, e) in subst (λ n. AreUnder n vars) same are
levels_under bound m vars (x ∷ xs) ks e are =
    let more : bound + 1 + length xs ≡ m = omega (arith, e) in
    levels_under (bound + 1) m (vars ++ stand (text_of x) (first_kind ks) (at_level bound) ∷ []) xs (other_kinds ks) more
    (still_under bound vars (text_of x) (first_kind ks) are)

levels_given : (given : Given) (bound : ℕ) (vars : Seen) (xs : List Ident) (ks : List Kind) → AreGiven given vars
    → AreGiven given (with_levels vars bound xs ks)
levels_given given bound vars [] ks are = are
levels_given given bound vars (x ∷ xs) ks are =
    levels_given given (bound + 1) (vars ++ stand (text_of x) (first_kind ks) (at_level bound) ∷ []) xs (other_kinds ks)
    (still_given given vars (text_of x) (first_kind ks) bound are)

pub pattern_under : (s : Sight) (given : Given) (k : Kind) (p : PatternTree) → AreUnder s.binders s.vars
    → vars_in (under_pattern s k p) given ≡ spec.under_pattern s.tables.names (vars_in s given) k p
pattern_under s given k p are =
    levels_stand given s.binders (s.binders + length (pattern_vars p)) s.vars (pattern_vars p)
    (pattern_kinds s.tables.names k (pattern_name p)) refl are

pub stands_in_pattern : (s : Sight) (given : Given) (k : Kind) (p : PatternTree) → Stands s given
    → Stands (under_pattern s k p) given
stands_in_pattern s given k p st = record {
  levels = levels_under s.binders (s.binders + length (pattern_vars p)) s.vars (pattern_vars p)
      (pattern_kinds s.tables.names k (pattern_name p)) refl st.levels;
  args = levels_given given s.binders s.vars (pattern_vars p) (pattern_kinds s.tables.names k (pattern_name p)) st.args;
}

-- # The variables as the type rules see them

pub vars_same : (s : Sight) (given : Given) → vars_of (vars_in s given) ≡ vars_of s.vars
vars_same s given = all_same given s.binders s.vars where
  all_same : (given : Given) (bound : ℕ) (vars : Seen) → vars_of (map (stands_for given bound) vars) ≡ vars_of vars
  all_same given bound [] = refl
  all_same given bound (v ∷ vars) = ap (λ xs. var_of v ∷ xs) (all_same given bound vars)

-- # The parameters of a query

-- from number p on the same as these from their first on
abbrev IsRest : Given → ℕ → Given → Type 0
IsRest all p rest = (i : ℕ) → given_at all (p + i) ≡ given_at rest i

rest_after : (all : Given) (p : ℕ) (o : Option Ex) (rest : Given) → IsRest all p (o ∷ rest) → IsRest all (p + 1) rest
rest_after all p o rest is i =
    let next : p + 1 + i ≡ p + suc i = omega arith in ap (given_at all) next ∙ is (suc i)

rest_first : (all : Given) (p : ℕ) (e : Ex) (rest : Given) → IsRest all p (Some e ∷ rest) → given_at all p ≡ Some e
rest_first all p e rest is = let here : p ≡ p + 0 = omega arith in ap (given_at all) here ∙ is 0

params_stand : (n : Names) (all : Given) (p : ℕ) (params : List ParamTree) (es : Exs) → length (given_of es) ≡ length params
    → IsRest all p (given_of es)
    → map (stands_for all 0) (params_from n p params) ≡ with_args n params es
params_stand n all p [] es many is = refl
params_stand n all p (x ∷ params) no_ex many is = absurd cc
params_stand n all p (x ∷ params) (also_ex e es) many is =
    let first : known_ex all 0 (of_param p) ≡ e =
    ap (λ (o : Option Ex). unwrap_or (option_map (lifted_by 0) o) ex.Unreturned) (rest_first all p e (given_of es) is) in
    let fewer : length (given_of es) ≡ length params = omega (arith, many) in
    ap₂ ◌∷◌ (ap (stand (text_of (param_name x)) (kind_of n (param_type x))) first)
    (params_stand n all (p + 1) params es fewer (rest_after all p (Some e) (given_of es) is))

params_given : (n : Names) (all : Given) (p : ℕ) (params : List ParamTree) (es : Exs) → length (given_of es) ≡ length params
    → IsRest all p (given_of es)
    → AreGiven all (params_from n p params)
params_given n all p [] es many is = tt
params_given n all p (x ∷ params) no_ex many is = absurd cc
params_given n all p (x ∷ params) (also_ex e es) many is =
    let fewer : length (given_of es) ≡ length params = omega (arith, many) in (
      (e, rest_first all p e (given_of es) is),
      params_given n all (p + 1) params es fewer (rest_after all p (Some e) (given_of
          es) is),
    )

params_under : (n : Names) (bound p : ℕ) (params : List ParamTree) → AreUnder bound (params_from n p params)
params_under n bound p [] = tt
params_under n bound p (x ∷ params) = (tt, params_under n bound (p + 1) params)

from_first : (all : Given) → IsRest all 0 all
from_first all i = let same : 0 + i ≡ i = omega arith in ap (given_at all) same

pub body_vars : (t : Tables) (u : Uses) (params : List ParamTree) (es : Exs) → length (given_of es) ≡ length params
    → vars_in (in_body t u params) (given_of es) ≡ with_args t.names params es
body_vars t u params es many = params_stand t.names (given_of es) 0 params es many (from_first (given_of es))

pub body_stands : (t : Tables) (u : Uses) (params : List ParamTree) (es : Exs) → length (given_of es) ≡ length params
    → Stands (in_body t u params) (given_of es)
body_stands t u params es many = record {
  levels = params_under t.names 0 0 params;
  args = params_given t.names (given_of es) 0 params es many (from_first (given_of es));
}

-- # Variables beside what they stand for

pub seen_more : (vs : List Var) (ks : List Known) (v : Var) (k : Known) → length vs ≡ length ks
    → seen (vs ++ v ∷ []) (ks ++ k ∷ []) ≡ seen vs ks ++ stand v.name v.kind k ∷ []
seen_more [] [] v k many = refl
seen_more [] (l ∷ ks) v k many = absurd cc
seen_more (w ∷ vs) [] v k many = absurd cc
seen_more (w ∷ vs) (l ∷ ks) v k many =
    let fewer : length vs ≡ length ks = omega (arith, many) in
    ap (λ xs. stand w.name w.kind l ∷ xs) (seen_more vs ks v k fewer)
