-- The parameters in sight are among so many, so what is said of them is the same without further arguments.
use Rattle.std.proofs.Common.{◌≡◌, ◌<◌, ◌+◌, ℕ, Bool, true, false, cond, List, [], ◌∷◌, ◌++◌, length, Some, subst, arith}
use Rattle.rp_grammar.specs.Trees.{Ident, ParamTree, PatternTree}
use Rattle.type_rules.specs.declared.kind.Kind.{Kind}
use Rattle.type_rules.specs.Names.{Name, Names, same_name, text_of}
use Rattle.type_rules.specs.Matches.{pattern_kinds, pattern_name, pattern_vars, first_kind, other_kinds}
use Rattle.desugaring.specs.Tables.{Tables}
use Rattle.desugaring.specs.Callees.{Stand, stand, stand_named}
use Rattle.query_bodies.specs.Expanded.{Uses}
use Rattle.query_laws.specs.Sight.{Known, in_slot, of_param, at_level, said_of, Seen, Sight, IsFew, AreFew, under, with_levels, under_pattern, params_from, in_body}
use Rattle.query_laws.specs.Told.{TermOver}
use Rattle.query_laws.proofs.Enough.{slot_over, param_over, level_over}

few_more : (n : ℕ) (vars : Seen) (x : Name) (k : Kind) (m : ℕ) → AreFew n vars → AreFew n (vars ++ stand x k (at_level m) ∷ [])
few_more n [] x k m are = (tt, tt)
few_more n (s ∷ vars) x k m are = (are.0, few_more n vars x k m are.1)

pub few_under : (n : ℕ) (s : Sight) (x : Name) (k : Kind) → AreFew n s.vars → AreFew n (under s x k).vars
few_under n s x k are = few_more n s.vars x k s.binders are

few_levels : (n m : ℕ) (vars : Seen) (xs : List Ident) (ks : List Kind) → AreFew n vars → AreFew n (with_levels vars m xs ks)
few_levels n m vars [] ks are = are
few_levels n m vars (x ∷ xs) ks are =
    few_levels n (m + 1) (vars ++ stand (text_of x) (first_kind ks) (at_level m) ∷ []) xs (other_kinds ks)
    (few_more n vars (text_of x) (first_kind ks) m are)

pub few_in_pattern : (n : ℕ) (s : Sight) (k : Kind) (p : PatternTree) → AreFew n s.vars → AreFew n (under_pattern s k p).vars
few_in_pattern n s k p are =
    few_levels n s.binders s.vars (pattern_vars p) (pattern_kinds s.tables.names k (pattern_name p)) are

few_from : (names : Names) (n p : ℕ) (params : List ParamTree) → p + length params ≡ n → AreFew n (params_from names p params)
few_from names n p [] e = tt
few_from names n p (x ∷ params) e =
    let first : p < n = omega (arith, e) in
    let rest : p + 1 + length params ≡ n = omega (arith, e) in
    (first, few_from names n (p + 1) params rest)

pub few_params : (t : Tables) (uses : Uses) (params : List ParamTree) → AreFew (length params) (in_body t uses params).vars
few_params t uses params = let all : 0 + length params ≡ length params = omega arith in few_from t.names (length params) 0
    params all

known_over : (uses : Uses) (n : ℕ) (k : Known) → IsFew n k → TermOver uses n (said_of k)
known_over uses n (in_slot s) is = slot_over uses n s
known_over uses n (of_param p) is = param_over uses n p is
known_over uses n (at_level m) is = level_over uses n m

pub variable_over : (uses : Uses) (n : ℕ) (vars : Seen) (x : Name) (s : Stand Known) → AreFew n vars → stand_named vars x ≡ Some s
    → TermOver uses n (said_of s.known)
variable_over uses n [] x s are e = absurd cc
variable_over uses n (v ∷ vars) x s are e = by_name (same_name v.name x) e (variable_over uses n vars x s are.1) where
  by_name : (same : Bool) → cond same (Some v) (stand_named vars x) ≡ Some s
      → (stand_named vars x ≡ Some s → TermOver uses n (said_of s.known))
      → TermOver uses n (said_of s.known)
  by_name true here rest =
      subst (λ (z : Stand Known). TermOver uses n (said_of z.known)) {x = v} {y = s} (cc) (known_over uses n v.known are.0)
  by_name false here rest = rest here
