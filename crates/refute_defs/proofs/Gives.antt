-- What the relation allows, the function of children gives.
use Rattle.std.proofs.Common.{◌≡◌, ◌≢◌, ◌≤◌, ℕ, ℤ, pos, neg_ℤ, ◌+ℤ◌, ◌-ℤ◌, ◌<ℤ◌, List, [], ◌∷◌, Bool, true, false, not, eqb, nat_le, length, Some, refl, ap, sym, ◌∙◌, eqb-true, eq-eqb, arith}
use Rattle.std.specs.Prelude.{int_lt}
use Rattle.std.specs.Ordering.{int_eq}
use Rattle.std.specs.Str.{bytes_eq}
use Rattle.std.proofs.lemmas.Int.{ints}
use Rattle.std.proofs.lemmas.Bool.{and_from}
use Rattle.rp_logic.specs.declared.sort.Sort.TheVariants as sort
use Rattle.rp_logic.specs.Terms.{Tm, Tms, Int, Str, Con, Sel, Plus, no_tm, also_tm, At, Le}
use Rattle.rp_logic.specs.Formulas.{And, Or, All, Ex, Lit}
use Rattle.rp_logic.specs.Signatures.{Signature}
use Rattle.rp_logic.proofs.SortLaws.{HasOneIntAndStr, atom_exact}
use Rattle.refute_defs.specs.Uses.{Use}
use Rattle.refute_defs.specs.Parts.{args, atom_args, equal, at_most}
use Rattle.refute_defs.specs.Additions.{Addition, one_child}
use Rattle.refute_defs.specs.Branches.{Branch, formula_at}
use Rattle.refute_defs.specs.Children.{children, built_sides, built_sides_at, at_most_within, equality, equality_at, order, order_at, chain, other_side, other_sides, sum_around, are_opposite}
use Rattle.refute_defs.specs.Numbers.{fits, within}
use Rattle.refute_defs.specs.NewTerms.{datatype}
use Rattle.refute_defs.specs.Rules.{Names, Stands, Equalities, Chain, Step}
use Rattle.refute_defs.specs.Rules as rule
use Rattle.rp_logic.proofs.Options.{then_is, map_is, test_is}
use Rattle.refute_defs.proofs.SameTerms.{is_tm, tm_itself, at_itself, same_int, same_text}
use Rattle.refute_defs.proofs.Named.{named}
use Rattle.refute_defs.proofs.Forms as form

-- # Formulas at places

equality_found : (b : Branch) (p : ℕ) (x y : Tm) → Stands b p (equal x y)
    → equality_at b p ≡ Some (x, y)
equality_found b p x y at = then_is equality (formula_at b p) (equal x y) (x, y) at refl

order_found : (b : Branch) (p : ℕ) (x y : Tm) (k : ℤ) → Stands b p (at_most x y k)
    → order_at true b p ≡ Some (x, y, k)
order_found b p x y k at = then_is (order true) (formula_at b p) (at_most x y k) (x, y, k) at refl

within_fits : (k : ℤ) → fits k ≡ true → within k ≡ Some k
within_fits k h = test_is (fits k) (Some k) k h refl

bounded : (x y : Tm) (k : ℤ) → fits k ≡ true → at_most_within x y k ≡ Some (at_most x y k)
bounded x y k h = map_is (at_most x y) (within k) k (within_fits k h)

sides_found : (b : Branch) (ps : List ℕ) (ts us : Tms) → Equalities b ps ts us
    → other_sides b ps ts ≡ Some us
sides_found b [] no_tm no_tm h = refl
sides_found b [] no_tm (also_tm u us) h = absurd h
sides_found b [] (also_tm t ts) us h = absurd h
sides_found b (p ∷ ps) no_tm us h = absurd h
sides_found b (p ∷ ps) (also_tm t ts) no_tm h = absurd h
sides_found b (p ∷ ps) (also_tm t ts) (also_tm u us) h =
    let found = then_is (other_side t) (equality_at b p) (t, u) u (equality_found b p t u h.0) (test_is _ _ _ (tm_itself t) refl) in
    then_is _ _ u _ found (map_is _ _ us (sides_found b ps ts us h.1))

chain_found : (b : Branch) (ps : List ℕ) (a c : Tm) (sum total : ℤ) → Chain b ps a c sum total
    → chain b ps a c sum ≡ Some total
chain_found b [] a c sum total h = test_is _ _ _ (is_tm a c h.0) (ap Some (sym h.1))
chain_found b (p ∷ ps) a c sum total h =
    let found = then_is _ _ _ (h.0, sum +ℤ h.1) (order_found b p a h.0 h.1 h.2) (test_is _ _ _ (tm_itself a) (map_is _ _ _ (within_fits (sum +ℤ h.1) h.3))) in
    then_is _ _ _ _ found (chain_found b ps h.0 c (sum +ℤ h.1) total h.4)

below_zero : (k : ℤ) → k <ℤ pos 0 → int_lt k (pos 0) ≡ true
below_zero k h = grind (arith, ints)

not_below : (k : ℤ) → k ≡ pos 0 → k <ℤ pos 0 → ⊥
not_below k e h = omega (arith, ints)

around_found : (b : Branch) (ps : List ℕ) (a : Tm) (total : ℤ) → Chain b ps a a (pos 0) total
    → total <ℤ pos 0 → sum_around b ps ≡ Some total
around_found b [] a total h neg = absurd (not_below total h.1 neg)
around_found b (p ∷ ps) a total h neg =
    then_is (λ x. chain b (p ∷ ps) x.0 x.0 (pos 0)) (order_at true b p) (a, h.0, h.1) total (order_found b p a h.0 h.1 h.2) (chain_found b (p ∷ ps) a a (pos 0) total h)

are_apart : (sign : Bool) (a : At) → are_opposite (Lit sign a) (Lit (not sign) a) ≡ true
are_apart true a = at_itself a
are_apart false a = at_itself a

differ : (c d : ℕ) → c ≢ d → not (eqb c d) ≡ true
differ c d h = by (eqb c d) refl
  where
    by : (b : Bool) → eqb c d ≡ b → not b ≡ true
    by true e = absurd (h (eqb-true c d e))
    by false e = refl

differ_int : (m n : ℤ) → m ≢ n → not (int_eq m n) ≡ true
differ_int m n h = by (int_eq m n) refl
  where
    by : (b : Bool) → int_eq m n ≡ b → not b ≡ true
    by true e = absurd (h (same_int m n e))
    by false e = refl

differ_text : (a c : List ℕ) → a ≢ c → not (bytes_eq a c) ≡ true
differ_text a c h = by (bytes_eq a c) refl
  where
    by : (b : Bool) → bytes_eq a c ≡ b → not b ≡ true
    by true e = absurd (h (same_text a c e))
    by false e = refl

built_found : (b : Branch) (p c d : ℕ) (ts us : Tms) → Stands b p (equal (Con c ts) (Con d us))
    → built_sides_at b p ≡ Some ((c, ts), (d, us))
built_found b p c d ts us at =
    then_is built_sides (equality_at b p) (Con c ts, Con d us) ((c, ts), (d, us)) (equality_found b p (Con c ts) (Con d us) at) refl

at_most_is : (m n : ℕ) → m ≤ n → nat_le m n ≡ true
at_most_is m n h = grind arith

-- # Rules

module _ (S : Signature) (one : HasOneIntAndStr S) (b : Branch) (u : Use) (adds : List Addition) where
  given : (v : Use) (made : List Addition) → u ≡ v → adds ≡ made → children S b v ≡ Some made
      → children S b u ≡ Some adds
  given v made e a h = ap (children S b) e ∙ h ∙ ap Some (sym a)

  pub gives : Step S b u adds → children S b u ≡ Some adds
  gives (rule.part p fs f n at i e) =
      given _ _ (named _ _ _ _ _ _ n) e (map_is one_child _ f (then_is _ _ fs f (then_is _ _ (And fs) fs at refl) i))
  gives (rule.split p fs n at e) =
      given _ _ (named _ _ _ _ _ _ n) e (map_is _ _ fs (then_is _ _ (Or fs) fs at refl))
  gives (rule.instantiate p s t f n at h e) =
      given _ _ (named _ _ _ _ _ _ n) e (map_is one_child _ _ (then_is _ _ (s, f) _ (then_is _ _ (All s f) (s, f) at refl) (test_is _ _ _ h refl)))
  gives (rule.new_constant p s c f n at l lack e) =
      given _ _ (named _ _ _ _ _ _ n) e
      (then_is _ _ (s, f) _ (then_is _ _ (Ex s f) (s, f) at refl) (test_is _ _ _ (and_from _ _ (at_most_is (length S.consts) c l) lack) refl))
  gives (rule.cut a n h e) =
      given _ _ (named _ _ _ _ _ _ n) e (test_is _ _ _ ((atom_exact a S one b.added []).1 h) refl)
  gives (rule.clash p q sign a n at bt e) =
      given _ _ (named _ _ _ _ _ _ n) e
      (then_is _ _ (Lit sign a) _ at (then_is _ _ (Lit (not sign) a) _ bt (test_is _ _ _ (are_apart sign a) refl)))
  gives (rule.reflexive t n h e) =
      given _ _ (named _ _ _ _ _ _ n) e (map_is one_child _ _ (test_is _ _ _ (form.is_a_term S one b t h) refl))
  gives (rule.symmetric p x y n at e) =
      given _ _ (named _ _ _ _ _ _ n) e (map_is one_child _ _ (map_is _ _ (x, y) (equality_found b p x y at)))
  gives (rule.transitive p q x y z n at bt e) =
      given _ _ (named _ _ _ _ _ _ n) e
      (map_is one_child _ _ (then_is _ _ (x, y) _ (equality_found b p x y at)
      (then_is _ _ (y, z) _ (equality_found b q y z bt) (test_is _ _ _ (tm_itself y) refl))))
  gives (rule.congruent_term t us n h some q e) =
      given _ _ (named _ _ _ _ _ _ n) e
      (map_is one_child _ _ (test_is _ _ _ (and_from _ _ (form.is_a_term S one b t h) some) (map_is _ _ us (sides_found b u.places (args t) us q))))
  gives (rule.congruent_literal p ps sign a us n at q e) =
      given _ _ (named _ _ _ _ _ _ n) e
      (map_is one_child _ _ (then_is _ _ (sign, a) _ (then_is _ _ (Lit sign a) _ at refl) (map_is _ _ us (sides_found b ps (atom_args a) us q))))
  gives (rule.constructor_clash p c d ts us n at q e) =
      given _ _ (named _ _ _ _ _ _ n) e
      (then_is _ _ ((c, ts), (d, us)) _ (built_found b p c d ts us at) (test_is _ _ _ (differ c d q) refl))
  gives (rule.injective p c ts us x y n at i j e) =
      given _ _ (named _ _ _ _ _ _ n) e
      (map_is one_child _ _ (then_is _ _ ((c, ts), (c, us)) _ (built_found b p c c ts us at)
      (test_is _ _ _ (eq-eqb c c refl) (then_is _ _ x _ i (map_is _ _ y j)))))
  gives (rule.cases t s cons n d h e) =
      given _ _ (named _ _ _ _ _ _ n) e (map_is _ _ cons (ap datatype (form.is_declared S one b t s (sort.Datatype cons) h d)))
  gives (rule.selector c i ts x n h j e) =
      given _ _ (named _ _ _ _ _ _ n) e
      (map_is one_child _ _ (test_is _ _ _ (form.is_a_term S one b (Sel c i (Con c ts)) h) (map_is _ _ x (test_is _ _ _ (eq-eqb c c refl) j))))
  gives (rule.number_clash p k l n at d e) =
      given _ _ (named _ _ _ _ _ _ n) e
      (then_is _ _ (Int k, Int l) _ (equality_found b p (Int k) (Int l) at) (test_is _ _ _ (differ_int k l d) refl))
  gives (rule.text_clash p k l n at d e) =
      given _ _ (named _ _ _ _ _ _ n) e
      (then_is _ _ (Str k, Str l) _ (equality_found b p (Str k) (Str l) at) (test_is _ _ _ (differ_text k l d) refl))
  gives (rule.cycle a total n c neg e) =
      given _ _ (named _ _ _ _ _ _ n) e
      (then_is _ _ total _ (around_found b u.places a total c neg) (test_is _ _ _ (below_zero total neg) refl))
  gives (rule.turned_order p x y k n at v e) =
      given _ _ (named _ _ _ _ _ _ n) e
      (map_is one_child _ _ (then_is _ _ (x, y, k) _ (then_is _ _ (Lit false (Le x y k)) _ at refl) (bounded y x (neg_ℤ k -ℤ pos 1) v)))
  gives (rule.order_of_equals p x y n at h e) =
      given _ _ (named _ _ _ _ _ _ n) e
      (map_is one_child _ _ (then_is _ _ (x, y) _ (equality_found b p x y at) (test_is _ _ _ (form.is_a_number S one b x h) refl)))
  gives (rule.equals_by_order p q x y n at bt e) =
      given _ _ (named _ _ _ _ _ _ n) e
      (map_is one_child _ _ (then_is _ _ (x, y, pos 0) _ (order_found b p x y (pos 0) at)
      (then_is _ _ (y, x, pos 0) _ (order_found b q y x (pos 0) bt) (test_is _ _ _ (and_from _ _ (and_from _ _ refl (tm_itself x)) (tm_itself y)) refl))))
  gives (rule.sum_above t k n h e) =
      given _ _ (named _ _ _ _ _ _ n) e (map_is one_child _ _ (test_is _ _ _ (form.is_a_term S one b (Plus t k) h) refl))
  gives (rule.sum_below t k n h v e) =
      given _ _ (named _ _ _ _ _ _ n) e
      (map_is one_child _ _ (test_is _ _ _ (form.is_a_term S one b (Plus t k) h) (bounded t (Plus t k) (neg_ℤ k) v)))
  gives (rule.numbers k l n h i v e) =
      given _ _ (named _ _ _ _ _ _ n) e
      (map_is one_child _ _
      (test_is _ _ _ (and_from _ _ (form.is_a_term S one b (Int k) h) (form.is_a_term S one b (Int l) i)) (bounded (Int k) (Int l) (k -ℤ l) v)))
