-- The rules of trees, as a relation: one line for each rule.
use Rattle.std.specs.Prelude.{◌≡◌, ◌≢◌, IsTrue, ℕ, ℤ, pos, neg_ℤ, ◌+ℤ◌, ◌-ℤ◌, ◌<ℤ◌, ◌≤◌, Bool, true, false, not, List, [], ◌∷◌, length, slice_get, Some}
use Rattle.rp_logic.specs.declared.sort.Sort.TheVariants.{Datatype}
use Rattle.rp_logic.specs.Terms.{Tm, Const, Int, Str, Con, Sel, Plus, Tms, no_tm, also_tm, At, Le}
use Rattle.rp_logic.specs.Formulas.{Fm, And, Or, All, Ex, Lit, Fms}
use Rattle.rp_logic.specs.Signatures.{Signature}
use Rattle.rp_logic.specs.Terms as tm
use Rattle.rp_logic.specs.Instance.{instance}
use Rattle.refute_defs.specs.Uses.{Use}
use Rattle.refute_defs.specs.Parts.{nth_tm, nth_fm, are_some, args, with_args, atom_args, atom_with, equal, at_most}
use Rattle.refute_defs.specs.Additions.{Addition, formula_alone, one_child, child_for_each, child_for_each_con, bringing}
use Rattle.refute_defs.specs.Branches.{Branch, formula_at}
use Rattle.rp_logic.specs.Constants.{each_lacks}
use Rattle.refute_defs.specs.Numbers.{fits}
use Rattle.refute_defs.specs.NewTerms.{HasSort, IsTerm, IsNumberTerm, IsAtom}

-- The node uses the rule of this number on exactly these places, terms and atoms, and with this
-- number.
pub record Names (u : Use) (r : ℕ) (ps : List ℕ) (ts : List Tm) (xs : List At) (i : ℕ) : Type 0 where
  pub rule : u.rule ≡ r
  pub places : u.places ≡ ps
  pub terms : u.terms ≡ ts
  pub atoms : u.atoms ≡ xs
  pub pick : u.pick ≡ i

-- the formula stands at this place of the branch
abbrev pub Stands : Branch → ℕ → Fm → Type 0
Stands b p f = formula_at b p ≡ Some f

-- the equalities of these terms, one by one, stand at these places
abbrev pub Equalities : Branch → List ℕ → Tms → Tms → Type 0
Equalities b [] no_tm no_tm = Unit {0}
Equalities b [] no_tm (also_tm u us) = ⊥
Equalities b [] (also_tm t ts) us = ⊥
Equalities b (p ∷ ps) no_tm us = ⊥
Equalities b (p ∷ ps) (also_tm t ts) no_tm = ⊥
Equalities b (p ∷ ps) (also_tm t ts) (also_tm u us) = Stands b p (equal t u) × Equalities b ps ts us

-- At the places stand a <= x1 + k1, x1 <= x2 + k2 and so on up to c, and `total` is the sum with
-- their numbers. Each sum on the way is within 128 bits.
abbrev pub Chain : Branch → List ℕ → Tm → Tm → ℤ → ℤ → Type 0
Chain b [] a c sum total = (a ≡ c) × (total ≡ sum)
Chain b (p ∷ ps) a c sum total =
    (x : Tm) × (k : ℤ) × Stands b p (at_most a x k) × IsTrue (fits (sum +ℤ k))
    × Chain b ps x c (sum +ℤ k) total

-- A node meets its rule at a branch, and adds this for its children.
pub data Step (S : Signature) (b : Branch) (u : Use) (adds : List Addition) : Type 0 where
  -- 1: of an `And` the conjunct of the number that is named
  part : (p : ℕ) (fs : Fms) (f : Fm) → Names u 1 (p ∷ []) [] [] u.pick → Stands b p (And fs)
      → nth_fm fs u.pick ≡ Some f → adds ≡ one_child f → Step S b u adds
  -- 2: of an `Or` a child for each disjunct
  split : (p : ℕ) (fs : Fms) → Names u 2 (p ∷ []) [] [] 0 → Stands b p (Or fs)
      → adds ≡ child_for_each fs → Step S b u adds
  -- 3: of an `All` and a term of its sort the instance
  instantiate : (p s : ℕ) (t : Tm) (f : Fm) → Names u 3 (p ∷ []) (t ∷ []) [] 0
      → Stands b p (All s f) → HasSort S b s t → adds ≡ one_child (instance t f) → Step S b u adds
  -- 4: of an `Ex` and a constant that stands neither in the signature nor on the branch the
  -- instance
  new_constant : (p s c : ℕ) (f : Fm) → Names u 4 (p ∷ []) (Const c ∷ []) [] 0 → Stands b p (Ex s f)
      → length S.consts ≤ c → IsTrue (each_lacks c b.formulas)
      → adds ≡ bringing c s (instance (Const c) f) → Step S b u adds
  -- 5: of an atom two children, with it and with its negation
  cut : (a : At) → Names u 5 [] [] (a ∷ []) 0 → IsAtom S b a
      → adds ≡ formula_alone (Lit true a) ∷ formula_alone (Lit false a) ∷ [] → Step S b u adds
  -- 6: a literal and its negation
  clash : (p q : ℕ) (sign : Bool) (a : At) → Names u 6 (p ∷ q ∷ []) [] [] 0
      → Stands b p (Lit sign a) → Stands b q (Lit (not sign) a) → adds ≡ [] → Step S b u adds
  -- 7: of a term t = t
  reflexive : (t : Tm) → Names u 7 [] (t ∷ []) [] 0 → IsTerm S b t → adds ≡ one_child (equal t t)
      → Step S b u adds
  -- 8: of x = y the equality y = x
  symmetric : (p : ℕ) (x y : Tm) → Names u 8 (p ∷ []) [] [] 0 → Stands b p (equal x y)
      → adds ≡ one_child (equal y x) → Step S b u adds
  -- 9: of x = y and y = z the equality x = z
  transitive : (p q : ℕ) (x y z : Tm) → Names u 9 (p ∷ q ∷ []) [] [] 0 → Stands b p (equal x y)
      → Stands b q (equal y z) → adds ≡ one_child (equal x z) → Step S b u adds
  -- 10: of a term with arguments, and equalities of them, the equality with the other sides in
  -- their place
  congruent_term : (t : Tm) (us : Tms) → Names u 10 u.places (t ∷ []) [] 0 → IsTerm S b t
      → IsTrue (are_some (args t)) → Equalities b u.places (args t) us
      → adds ≡ one_child (equal t (with_args t us)) → Step S b u adds
  -- 11: of a literal, and equalities of its terms, the literal with the other sides in their place
  congruent_literal : (p : ℕ) (ps : List ℕ) (sign : Bool) (a : At) (us : Tms)
      → Names u 11 (p ∷ ps) [] [] 0 → Stands b p (Lit sign a) → Equalities b ps (atom_args a) us
      → adds ≡ one_child (Lit sign (atom_with a us)) → Step S b u adds
  -- 12: an equality of different constructors
  constructor_clash : (p c d : ℕ) (ts us : Tms) → Names u 12 (p ∷ []) [] [] 0
      → Stands b p (equal (Con c ts) (Con d us)) → c ≢ d → adds ≡ [] → Step S b u adds
  -- 13: of an equality of one constructor the equality of the arguments of the number that is named
  injective : (p c : ℕ) (ts us : Tms) (x y : Tm) → Names u 13 (p ∷ []) [] [] u.pick
      → Stands b p (equal (Con c ts) (Con c us)) → nth_tm ts u.pick ≡ Some x
      → nth_tm us u.pick ≡ Some y → adds ≡ one_child (equal x y) → Step S b u adds
  -- 14: of a term of a datatype a child for each constructor, with which it was built
  cases : (t : Tm) (s : ℕ) (cons : List ℕ) → Names u 14 [] (t ∷ []) [] 0
      → slice_get S.sorts s ≡ Some (Datatype cons) → HasSort S b s t
      → adds ≡ child_for_each_con S t cons → Step S b u adds
  -- 15: a selector of its own constructor gives the argument
  selector : (c i : ℕ) (ts : Tms) (x : Tm) → Names u 15 [] (Sel c i (Con c ts) ∷ []) [] 0
      → IsTerm S b (Sel c i (Con c ts)) → nth_tm ts i ≡ Some x
      → adds ≡ one_child (equal (Sel c i (Con c ts)) x) → Step S b u adds
  -- 16: an equality of two different numbers, or of two different texts
  number_clash : (p : ℕ) (m n : ℤ) → Names u 16 (p ∷ []) [] [] 0
      → Stands b p (equal (tm.Int m) (tm.Int n)) → m ≢ n → adds ≡ [] → Step S b u adds
  text_clash : (p : ℕ) (m n : List ℕ) → Names u 16 (p ∷ []) [] [] 0
      → Stands b p (equal (tm.Str m) (tm.Str n)) → m ≢ n → adds ≡ [] → Step S b u adds
  -- 17: orders that lead from a term to itself, with a negative sum
  cycle : (a : Tm) (total : ℤ) → Names u 17 u.places [] [] 0 → Chain b u.places a a (pos 0) total
      → total <ℤ pos 0 → adds ≡ [] → Step S b u adds
  -- 18: of the negation of x <= y + k the order y <= x + (-k - 1)
  turned_order : (p : ℕ) (x y : Tm) (k : ℤ) → Names u 18 (p ∷ []) [] [] 0
      → Stands b p (Lit false (Le x y k)) → IsTrue (fits (neg_ℤ k -ℤ pos 1))
      → adds ≡ one_child (at_most y x (neg_ℤ k -ℤ pos 1)) → Step S b u adds
  -- 19: of an equality x = y of numbers the order x <= y + 0
  order_of_equals : (p : ℕ) (x y : Tm) → Names u 19 (p ∷ []) [] [] 0 → Stands b p (equal x y)
      → IsNumberTerm S b x → adds ≡ one_child (at_most x y (pos 0)) → Step S b u adds
  -- 20: of x <= y + 0 and y <= x + 0 the equality x = y
  equals_by_order : (p q : ℕ) (x y : Tm) → Names u 20 (p ∷ q ∷ []) [] [] 0
      → Stands b p (at_most x y (pos 0)) → Stands b q (at_most y x (pos 0))
      → adds ≡ one_child (equal x y) → Step S b u adds
  -- 21: of t + k, with the number 0 the order t + k <= t + k, with 1 the order t <= (t + k) + (-k)
  sum_above : (t : Tm) (k : ℤ) → Names u 21 [] (Plus t k ∷ []) [] 0 → IsTerm S b (Plus t k)
      → adds ≡ one_child (at_most (Plus t k) t k) → Step S b u adds
  sum_below : (t : Tm) (k : ℤ) → Names u 21 [] (Plus t k ∷ []) [] 1 → IsTerm S b (Plus t k)
      → IsTrue (fits (neg_ℤ k)) → adds ≡ one_child (at_most t (Plus t k) (neg_ℤ k))
      → Step S b u adds
  -- 22: of two numbers m and n the order m <= n + (m - n)
  numbers : (m n : ℤ) → Names u 22 [] (tm.Int m ∷ tm.Int n ∷ []) [] 0 → IsTerm S b (tm.Int m)
      → IsTerm S b (tm.Int n) → IsTrue (fits (m -ℤ n))
      → adds ≡ one_child (at_most (tm.Int m) (tm.Int n) (m -ℤ n)) → Step S b u adds
