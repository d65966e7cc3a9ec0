-- What an expression becomes is what is computed of it.
use Rattle.std.proofs.Common.{◌≡◌, ◌<◌, ℕ, zero, suc, Bool, true, false, List, [], ◌∷◌, Option, Some, refl, ap, subst, sym, ◌∙◌, cond, ◌==◌, arith}
use Rattle.std.proofs.lemmas.Bool.{eqb-true, eqb-false}
use Rattle.rp_grammar.specs.Trees.{ExprTree, ExprTrees, ExprArmTrees, StepTrees, ArgTrees, QueryTree}
use Rattle.rp_lang.specs.Exprs.{Ex, Con, Exs, no_ex, also_ex}
use Rattle.rp_lang.specs.Formulas.{Fos, Arms}
use Rattle.type_rules.specs.declared.kind.Kind.{Kind}
use Rattle.desugaring.specs.Tables.{Tables}
use Rattle.desugaring.specs.Values.{Value, term, formula, append, word_of, compared, sum, difference}
use Rattle.desugaring.specs.Callees.{Vars, Callee, variable, constructor, use_of, procedure, outcome, operation, question, value, given}
use Rattle.desugaring.specs.Expressions.{Uses, formulas, terms, arg_terms, key_terms, arm_formulas, body_value, uses_before, called_with, for_all, for_some, one_of, each_of, matched, constructed, implied, negated, with_formula, with_arm, term_in}
use Rattle.desugaring.specs.Expressions as expressions
use Rattle.desugaring.specs.Meanings.{Means, AllMean, TermsMean, ArgsMean, KeysMean, ArmsMean}
use Rattle.desugaring.proofs.Options.{then_is, map_is, both_is, three_is, term_is}

-- # Uses of queries

abbrev pub UseIs : Tables → ℕ → ℕ → QueryTree → Exs → Type 0
UseIs t b k q es = uses_before t b k q es ≡ body_value t (uses_before t k) q es

-- that of declaration n, or an earlier one
less : (n k : ℕ) → k < suc n → (k == n) ≡ false → k < n
less n k lt other = omega (arith, lt, eqb-false k n other)

use_step : (t : Tables) (n k : ℕ) (q : QueryTree) (es : Exs) → k < suc n → (same : Bool) → (k == n) ≡ same
    → (k < n → UseIs t n k q es)
    → cond same (body_value t (uses_before t n) q es) (uses_before t n k q es) ≡ body_value t (uses_before t k) q es
use_step t n k q es lt true same earlier = ap (λ j. body_value t (uses_before t j) q es) (sym (eqb-true k n same))
use_step t n k q es lt false same earlier = earlier (less n k lt same)

pub use_is : (t : Tables) (b k : ℕ) (q : QueryTree) (es : Exs) → k < b → UseIs t b k q es
use_is t zero k q es lt = absurd (omega (arith, lt))
use_is t (suc n) k q es lt = use_step t n k q es lt (k == n) refl (use_is t n k q es)

-- # Calls

call_is : (uses : Uses) (w : Callee Ex) (keys es : Exs) (v : Value) → given w (append keys es) ≡ Some v
    → called_with uses w keys es ≡ Some v
call_is uses (use_of k q) keys es v e = absurd cc
call_is uses (variable y) keys es v e = e
call_is uses (constructor n) keys es v e = e
call_is uses (procedure n) keys es v e = e
call_is uses (outcome n) keys es v e = e
call_is uses (operation n) keys es v e = e
call_is uses (question n) keys es v e = e
call_is uses (value n) keys es v e = e

-- # Expressions

mutual
  pub found : (t : Tables) (b : ℕ) (vs : Vars) (asked : Option Kind) (e : ExprTree) (v : Value)
      → Means t b vs asked e v → expressions.value t (uses_before t b) vs asked e ≡ Some v
  found t b vs asked e v (Means.implies x y) = both_is implied _ _ _ _ (found t b vs _ _ _ x) (found t b vs _ _ _ y)
  found t b vs asked e v (Means.or xs) = map_is one_of _ _ (all_found t b vs _ _ xs)
  found t b vs asked e v (Means.and xs) = map_is each_of _ _ (all_found t b vs _ _ xs)
  found t b vs asked e v (Means.not x) = map_is negated _ _ (found t b vs _ _ _ x)
  found t b vs asked e v (Means.forall ty x) = both_is for_all _ _ _ _ ty (found t b _ _ _ _ x)
  found t b vs asked e v (Means.exists ty x) = both_is for_some _ _ _ _ ty (found t b _ _ _ _ x)
  found t b vs asked e v (Means.compare {c = c} x y) =
      both_is (λ u w. formula (compared c u w)) _ _ _ _ (term_is _ _ (found t b vs _ _ _ x))
      (term_is _ _ (found t b vs _ _ _ y))
  found t b vs asked e v (Means.plus x y) =
      both_is (λ u w. term (sum u w)) _ _ _ _ (term_is _ _ (found t b vs _ _ _ x)) (term_is _ _ (found t b vs _ _ _ y))
  found t b vs asked e v (Means.minus x y) =
      both_is (λ u w. term (difference u w)) _ _ _ _ (term_is _ _ (found t b vs _ _ _ x)) (term_is _ _ (found t b vs _ _ _ y))
  found t b vs asked e v Means.int = refl
  found t b vs asked e v Means.str = refl
  found t b vs asked e v Means.truth_word = refl
  found t b vs asked e v (Means.none con) = map_is (λ con. term (Con con no_ex)) _ _ con
  found t b vs asked e v (Means.some con x) = both_is constructed _ _ _ _ con (term_is _ _ (found t b vs _ _ _ x))
  found t b vs asked e v Means.unreturned = refl
  found t b vs asked e v Means.tx = refl
  found t b vs asked e v (Means.word {w = w} xs is) = then_is (word_of w) _ _ _ (terms_found t b vs _ _ _ xs) is
  found t b vs asked e v (Means.match x arms) =
      both_is matched _ _ _ _ (term_is _ _ (found t b vs _ _ _ x)) (arms_found t b vs _ _ _ arms)
  found t b vs asked e v (Means.access {c = c} called keys args is) =
      then_is _ _ c v called (then_is _ _ _ v (keys_found t b vs c.keys _ _ keys)
      (then_is _ _ _ v (args_found t b vs c.args _ _ args)
      (call_is (uses_before t b) c.what _ _ v is)))
  found t b vs asked e v (Means.expands {c = c} {keys = keys} {es = es} called what k a lt body) =
      then_is _ _ c v called (then_is _ _ keys v (keys_found t b vs c.keys _ _ k)
      (then_is _ _ es v (args_found t b vs c.args _ _ a)
      (subst (λ w. called_with (uses_before t b) w keys es ≡ Some v) (sym what)
      (use_is t b _ _ es lt ∙ found t _ _ _ _ v body))))

  all_found : (t : Tables) (b : ℕ) (vs : Vars) (es : ExprTrees) (fs : Fos)
      → AllMean t b vs es fs → formulas t (uses_before t b) vs es ≡ Some fs
  all_found t b vs es fs AllMean.no_operand = refl
  all_found t b vs es fs (AllMean.more_operands x xs) =
      both_is with_formula _ _ _ _ (found t b vs _ _ _ x) (all_found t b vs _ _ xs)

  terms_found : (t : Tables) (b : ℕ) (vs : Vars) (ks : List Kind) (es : ExprTrees) (xs : Exs)
      → TermsMean t b vs ks es xs → terms t (uses_before t b) vs ks es ≡ Some xs
  terms_found t b vs ks es xs TermsMean.no_term = refl
  terms_found t b vs ks es xs (TermsMean.more_terms x rest) =
      both_is also_ex _ _ _ _ (term_is _ _ (found t b vs _ _ _ x)) (terms_found t b vs _ _ _ rest)

  args_found : (t : Tables) (b : ℕ) (vs : Vars) (ks : List Kind) (args : ArgTrees) (xs : Exs)
      → ArgsMean t b vs ks args xs → arg_terms t (uses_before t b) vs ks args ≡ Some xs
  args_found t b vs ks args xs ArgsMean.absent = refl
  args_found t b vs ks args xs (ArgsMean.given_args es) = terms_found t b vs ks _ xs es

  keys_found : (t : Tables) (b : ℕ) (vs : Vars) (ks : List Kind) (steps : StepTrees) (xs : Exs)
      → KeysMean t b vs ks steps xs → key_terms t (uses_before t b) vs ks steps ≡ Some xs
  keys_found t b vs ks steps xs KeysMean.no_key = refl
  keys_found t b vs ks steps xs (KeysMean.key x rest) =
      both_is also_ex _ _ _ _ (term_is _ _ (found t b vs _ _ _ x)) (keys_found t b vs _ _ _ rest)
  keys_found t b vs [] steps xs (KeysMean.past_dot rest) = keys_found t b vs [] _ xs rest
  keys_found t b vs (k ∷ ks) steps xs (KeysMean.past_dot rest) = keys_found t b vs (k ∷ ks) _ xs rest
  keys_found t b vs [] steps xs (KeysMean.past_returned rest) = keys_found t b vs [] _ xs rest
  keys_found t b vs (k ∷ ks) steps xs (KeysMean.past_returned rest) = keys_found t b vs (k ∷ ks) _ xs rest

  arms_found : (t : Tables) (b : ℕ) (vs : Vars) (k : Kind) (arms : ExprArmTrees) (made : Arms)
      → ArmsMean t b vs k arms made → arm_formulas t (uses_before t b) vs k arms ≡ Some made
  arms_found t b vs k arms made ArmsMean.no_arms = refl
  arms_found t b vs k arms made (ArmsMean.more_arms con x rest) =
      three_is with_arm _ _ _ _ _ _ con (found t b _ _ _ _ x) (arms_found t b vs k _ _ rest)
