-- The formulas of a branch stay well sorted.
use Rattle.std.proofs.Common.{◌≡◌, ℕ, zero, suc, ◌+◌, List, [], ◌∷◌, ◌++◌, length, true, false, ◌&&◌, sym, refl, ap, ◌∙◌, subst, slice_get, Option, Some, None, eqb-true, eq-eqb, arith, pos, neg_ℤ, ◌-ℤ◌, add-zero}
use Rattle.std.proofs.lemmas.Bool.{and_parts, and_from}
use Rattle.std.proofs.lemmas.Option.{same_Some}
use Rattle.rp_logic.specs.declared.sort.FnDecl.{FnDecl}
use Rattle.rp_logic.specs.declared.sort.LogicCon.{LogicCon}
use Rattle.rp_logic.specs.declared.sort.NewConst.{NewConst}
use Rattle.rp_logic.specs.Terms.{Tm, Tms, Var, Const, Fn, Int, Str, Con, Sel, Plus, no_tm, also_tm, At, Equal, Le, Rel}
use Rattle.rp_logic.specs.Formulas.{Fm, Fms, Lit, no_fm, also_fm}
use Rattle.rp_logic.specs.Signatures.{Signature, is_con_of, fields_of}
use Rattle.rp_logic.specs.Sorted.{const_sort, is_sort, gives, takes, sort_of_con, has_sort, have_sorts, IsSortedAtom, IsSorted, AreSorted}
use Rattle.rp_logic.specs.Instance.{instance}
use Rattle.rp_logic.proofs.SortLaws.{no, sort_known}
use Rattle.refute_defs.specs.Uses.{Use}
use Rattle.refute_defs.specs.Parts.{nth_tm, nth_fm, first_tm, second_tm, args, with_args, atom_args, atom_with, selections, built_with}
use Rattle.refute_defs.specs.Additions.{Addition, formula_alone, one_child, child_for_each, child_for_each_con, bringing}
use Rattle.refute_defs.specs.Branches.{Branch, extend_each}
use Rattle.refute_defs.specs.Rules.{Stands, Equalities, Step}
use Rattle.refute_defs.specs.Rules as rule
use Rattle.rp_logic.proofs.EachSorted.{EachSorted, sorted_at, each_more}
use Rattle.rp_logic.proofs.SortedInstances.{instance_sorted}
use Rattle.rp_logic.proofs.NewConstantSorts.{each_new, new_has_sort}
use Rattle.refute_defs.proofs.SignatureFacts.{IsKept}

sorted_nth : (S : Signature) (added : List NewConst) (fs : Fms) (n : ℕ) (f : Fm)
    → nth_fm fs n ≡ Some f → AreSorted S added [] fs → IsSorted S added [] f
sorted_nth S added no_fm n f e h = absurd cc
sorted_nth S added (also_fm g gs) zero f e h =
    subst (λ x. IsSorted S added [] x) (same_Some g f e) h.0
sorted_nth S added (also_fm g gs) (suc n) f e h = sorted_nth S added gs n f e h.1

-- # A term has one sort

one_known : (o : Option ℕ) (r s : ℕ) → is_sort o r ≡ true → is_sort o s ≡ true → r ≡ s
one_known None r s p q = no p
one_known (Some x) r s p q = sym (eqb-true x r p) ∙ eqb-true x s q

one_result : (o : Option FnDecl) (r s : ℕ) → gives o r ≡ true → gives o s ≡ true → r ≡ s
one_result None r s p q = no p
one_result (Some d) r s p q = sym (eqb-true d.result r p) ∙ eqb-true d.result s q

one_con : (o : Option LogicCon) (r s : ℕ) → is_con_of o r ≡ true → is_con_of o s ≡ true → r ≡ s
one_con None r s p q = no p
one_con (Some d) r s p q = sym (eqb-true d.sort r p) ∙ eqb-true d.sort s q

con_sort : (o : Option LogicCon) (s : ℕ) → is_con_of o s ≡ true → sort_of_con o ≡ s
con_sort None s p = no p
con_sort (Some d) s p = eqb-true d.sort s p

pub one_sort : (S : Signature) → IsKept S
    → (added : List NewConst) (scope : List ℕ) (t : Tm) (r s : ℕ)
    → has_sort S added scope r t ≡ true → has_sort S added scope s t ≡ true → r ≡ s
one_sort S i added scope (Var n) r s p q = one_known (slice_get scope n) r s p q
one_sort S i added scope (Const c) r s p q = one_known (const_sort S added c) r s p q
one_sort S i added scope (Fn f ts) r s p q =
    let o = slice_get S.fns f in
    one_result o r s (and_parts _ _ p).0 (and_parts _ _ q).0
one_sort S i added scope (Int z) r s p q = i.one_int r s p q
one_sort S i added scope (Str y) r s p q = i.one_str r s p q
one_sort S i added scope (Con c ts) r s p q =
    let o = slice_get S.cons c in
    one_con o r s (and_parts _ _ p).0 (and_parts _ _ q).0
one_sort S i added scope (Sel c k t) r s p q =
    let o = slice_get S.cons c in
    one_known (slice_get (fields_of o) k) r s (and_parts _ _ p).0 (and_parts _ _ q).0
one_sort S i added scope (Plus t z) r s p q =
    i.one_int r s (and_parts _ _ p).0 (and_parts _ _ q).0

at_sort : (S : Signature) (added : List NewConst) (t : Tm) (r s : ℕ) → r ≡ s
    → has_sort S added [] r t ≡ true → has_sort S added [] s t ≡ true
at_sort S added t r s e h = subst (λ x. has_sort S added [] x t ≡ true) e h

-- # Congruence

module _ (S : Signature) (i : IsKept S) (b : Branch) (w : EachSorted S b.added b.formulas) where
  other_side : (p : ℕ) (x y : Tm) (s : ℕ) → Stands b p (Lit true (Equal x y))
      → has_sort S b.added [] s x ≡ true → has_sort S b.added [] s y ≡ true
  other_side p x y s at h =
      let e = sorted_at _ _ _ _ _ at w in
      at_sort S b.added y e.0 s (one_sort S i b.added [] x e.0 s e.1 h) e.2

  equal_sorts : (ps : List ℕ) (ts us : Tms) (ss : List ℕ) → Equalities b ps ts us
      → have_sorts S b.added [] ss ts ≡ true → have_sorts S b.added [] ss us ≡ true
  equal_sorts [] no_tm no_tm ss e h = h
  equal_sorts [] no_tm (also_tm u us) ss e h = absurd e
  equal_sorts [] (also_tm t ts) us ss e h = absurd e
  equal_sorts (p ∷ ps) no_tm us ss e h = absurd e
  equal_sorts (p ∷ ps) (also_tm t ts) no_tm ss e h = absurd e
  equal_sorts (p ∷ ps) (also_tm t ts) (also_tm u us) [] e h = h
  equal_sorts (p ∷ ps) (also_tm t ts) (also_tm u us) (s ∷ ss) e h =
      let d = and_parts _ _ h in
      and_from _ _ (other_side p t u s e.0 d.0) (equal_sorts ps ts us ss e.1 d.1)

  first_sort : (s : ℕ) (ss : List ℕ) (x : Tm) (us : Tms)
      → have_sorts S b.added [] (s ∷ ss) us ≡ true → has_sort S b.added [] s (first_tm x us) ≡ true
  first_sort s ss x no_tm h = no h
  first_sort s ss x (also_tm u us) h =
      (and_parts _ _ h).0

  second_sort : (r s : ℕ) (ss : List ℕ) (x : Tm) (us : Tms)
      → have_sorts S b.added [] (r ∷ s ∷ ss) us ≡ true
      → has_sort S b.added [] s (second_tm x us) ≡ true
  second_sort r s ss x no_tm h = no h
  second_sort r s ss x (also_tm u us) h =
      first_sort s ss x us (and_parts _ _ h).1

  one_item : (s : ℕ) (t : Tm) → has_sort S b.added [] s t ≡ true
      → have_sorts S b.added [] (s ∷ []) (also_tm t no_tm) ≡ true
  one_item s t h = and_from _ _ h refl

  two_items : (r s : ℕ) (t u : Tm) → has_sort S b.added [] r t ≡ true
      → has_sort S b.added [] s u ≡ true
      → have_sorts S b.added [] (r ∷ s ∷ []) (also_tm t (also_tm u no_tm)) ≡ true
  two_items r s t u h k =
      and_from _ _ h (one_item s u k)

  congruent_sort : (t : Tm) (ps : List ℕ) (us : Tms) (s : ℕ) → Equalities b ps (args t) us
      → has_sort S b.added [] s t ≡ true → has_sort S b.added [] s (with_args t us) ≡ true
  congruent_sort (Var n) ps us s e h = h
  congruent_sort (Const n) ps us s e h = h
  congruent_sort (Fn f ts) ps us s e h =
      let o = slice_get S.fns f in
      let d = and_parts _ _ h in
      and_from _ _ d.0 (equal_sorts ps ts us (takes o) e d.1)
  congruent_sort (Int z) ps us s e h = h
  congruent_sort (Str y) ps us s e h = h
  congruent_sort (Con c ts) ps us s e h =
      let o = slice_get S.cons c in
      let d = and_parts _ _ h in
      and_from _ _ d.0 (equal_sorts ps ts us (fields_of o) e d.1)
  congruent_sort (Sel c k t) ps us s e h =
      let o = slice_get S.cons c in
      let d = and_parts _ _ h in
      and_from _ _ d.0
      (first_sort (sort_of_con o) [] t us (equal_sorts ps (also_tm t no_tm) us (sort_of_con o ∷ []) e (one_item (sort_of_con o) t d.1)))
  congruent_sort (Plus t z) ps us s e h =
      let d = and_parts _ _ h in
      and_from _ _ d.0 (first_sort s [] t us (equal_sorts ps (also_tm t no_tm) us (s ∷ []) e (one_item s t d.1)))

  congruent_atom : (a : At) (ps : List ℕ) (us : Tms) → Equalities b ps (atom_args a) us
      → IsSortedAtom S b.added [] a → IsSortedAtom S b.added [] (atom_with a us)
  congruent_atom (Equal x y) ps us e h =
      let d = equal_sorts ps (also_tm x (also_tm y no_tm)) us (h.0 ∷ h.0 ∷ []) e (two_items h.0 h.0 x y h.1 h.2) in
      (h.0, first_sort h.0 (h.0 ∷ []) x us d, second_sort h.0 h.0 [] y us d)
  congruent_atom (Le x y k) ps us e h =
      let d = equal_sorts ps (also_tm x (also_tm y no_tm)) us (h.0.0 ∷ h.1.0 ∷ []) e (two_items h.0.0 h.1.0 x y h.0.2 h.1.2) in
      ((h.0.0, h.0.1, first_sort h.0.0 (h.1.0 ∷ []) x us d), (h.1.0, h.1.1, second_sort h.0.0 h.1.0 [] y us d))
  congruent_atom (Rel r ts) ps us e h = (h.0, h.1, equal_sorts ps ts us h.0 e h.2)

-- # Constructors

nth_sorts : (S : Signature) (added : List NewConst) (ss : List ℕ) (ts : Tms) (n : ℕ) (x : Tm)
    → have_sorts S added [] ss ts ≡ true → nth_tm ts n ≡ Some x
    → (s : ℕ) × (slice_get ss n ≡ Some s) × (has_sort S added [] s x ≡ true)
nth_sorts S added ss no_tm n x h e = absurd cc
nth_sorts S added [] (also_tm t ts) n x h e = no h
nth_sorts S added (s ∷ ss) (also_tm t ts) zero x h e =
    (s, refl, subst (λ y. has_sort S added [] s y ≡ true) (same_Some t x e) (and_parts _ _ h).0)
nth_sorts S added (s ∷ ss) (also_tm t ts) (suc n) x h e =
    nth_sorts S added ss ts n x (and_parts _ _ h).1 e

known_sort : (o : Option ℕ) (s : ℕ) → o ≡ Some s → is_sort o s ≡ true
known_sort o s e = subst (λ x. is_sort x s ≡ true) (sym e) (eq-eqb s s refl)

rest_sorts : (S : Signature) (added : List NewConst) (c : ℕ) (t : Tm)
    → has_sort S added [] (sort_of_con (slice_get S.cons c)) t ≡ true → (ss : List ℕ) (k : ℕ)
    → ((j : ℕ) → slice_get (fields_of (slice_get S.cons c)) (k + j) ≡ slice_get ss j)
    → have_sorts S added [] ss (selections c k (length ss) t) ≡ true
rest_sorts S added c t h [] k at = refl
rest_sorts S added c t h (s ∷ ss) k at =
    let o = slice_get S.cons c in
    let here : slice_get (fields_of o) k ≡ Some s = ap (λ n. slice_get (fields_of o) n) (sym (add-zero k)) ∙ at zero in
    and_from (is_sort (slice_get (fields_of o) k) s && has_sort S added [] (sort_of_con o) t) (have_sorts S added [] ss (selections c (suc k) (length ss) t))
    (and_from _ _ (known_sort (slice_get (fields_of o) k) s here) h)
    (rest_sorts S added c t h ss (suc k) (λ j. ap (λ n. slice_get (fields_of o) n) (omega arith) ∙ at (suc j)))

case_sorted : (S : Signature) (added : List NewConst) (t : Tm) (s c : ℕ)
    → is_con_of (slice_get S.cons c) s ≡ true → has_sort S added [] s t ≡ true
    → IsSorted S added [] (built_with S t c)
case_sorted S added t s c p h =
    let o = slice_get S.cons c in
    let d : has_sort S added [] (sort_of_con o) t ≡ true = at_sort S added t s (sort_of_con o) (sym (con_sort o s p)) h in (
      s,
      h,
      and_from _ _ p
          (rest_sorts S added c t d (fields_of o) 0 (λ j. ap (λ n. slice_get (fields_of o) n) (omega arith))),
    )

-- # All branches

abbrev pub SortedBranches : Signature → List Branch → Type 0
SortedBranches S [] = Unit {0}
SortedBranches S (b ∷ bs) = EachSorted S b.added b.formulas × SortedBranches S bs

split_sorted : (S : Signature) (b : Branch) (fs : Fms) → EachSorted S b.added b.formulas
    → AreSorted S b.added [] fs → SortedBranches S (extend_each b (child_for_each fs))
split_sorted S b no_fm w h = tt
split_sorted S b (also_fm f fs) w h =
    (each_more _ _ _ _ w h.0, split_sorted S b fs w h.1)

cases_sorted : (S : Signature) (b : Branch) (t : Tm) (s : ℕ) → EachSorted S b.added b.formulas
    → has_sort S b.added [] s t ≡ true → (cs : List ℕ)
    → ((k c : ℕ) → slice_get cs k ≡ Some c → is_con_of (slice_get S.cons c) s ≡ true)
    → SortedBranches S (extend_each b (child_for_each_con S t cs))
cases_sorted S b t s w h [] o = tt
cases_sorted S b t s w h (c ∷ cs) o =
    (each_more _ _ _ _ w (case_sorted S b.added t s c (o 0 c refl) h), cases_sorted S b t s w h cs (λ k d e. o (suc k) d e))

moved : (S : Signature) (b : Branch) (adds others : List Addition) → adds ≡ others
    → SortedBranches S (extend_each b others) → SortedBranches S (extend_each b adds)
moved S b adds others e h = subst (λ x. SortedBranches S (extend_each b x)) (sym e) h

one : (S : Signature) (b : Branch) (f : Fm) (adds : List Addition) → adds ≡ one_child f
    → EachSorted S b.added b.formulas → IsSorted S b.added [] f
    → SortedBranches S (extend_each b adds)
one S b f adds e w h = moved S b adds (one_child f) e (each_more _ _ _ _ w h, tt)

pub step_sorted : (S : Signature) → IsKept S → (b : Branch) (u : Use) (adds : List Addition)
    → EachSorted S b.added b.formulas → Step S b u adds → SortedBranches S (extend_each b adds)
step_sorted S i b u adds w (rule.part p fs f a at n e) =
    one S b f adds e w (sorted_nth S b.added fs u.pick f n (sorted_at _ _ _ _ _ at w))
step_sorted S i b u adds w (rule.split p fs a at e) =
    moved S b adds (child_for_each fs) e (split_sorted S b fs w (sorted_at _ _ _ _ _ at w))
step_sorted S i b u adds w (rule.instantiate p s t f a at h e) =
    one S b (instance t f) adds e w (instance_sorted f S b.added [] [] s t h (sorted_at _ _ _ _ _ at w).1)
step_sorted S i b u adds w (rule.new_constant p s c f a at l lack e) =
    let new : NewConst = record { number = c; sort = s } in
    let fresh = each_new b.formulas S b.added new lack w in
    moved S b adds (bringing c s (instance (Const c) f)) e (
      each_more _ _ _ _ fresh
          (instance_sorted f S (b.added ++ new ∷ []) [] [] s (Const c) (new_has_sort S b.added new l) (sorted_at _ _ _ _ _ at fresh).1),
      tt,
    )
step_sorted S i b u adds w (rule.cut a q h e) =
    moved S b adds (formula_alone (Lit true a) ∷ formula_alone (Lit false a) ∷ []) e (each_more _ _ _ _ w h, (each_more _ _ _ _ w h, tt))
step_sorted S i b u adds w (rule.clash p q s a x at bt e) = moved S b adds [] e tt
step_sorted S i b u adds w (rule.transitive p q x y z a at bt e) =
    let h = sorted_at _ _ _ _ _ at w in
    one S b (Lit true (Equal x z)) adds e w (h.0, h.1, other_side S i b w q y z h.0 bt h.2)
step_sorted S i b u adds w (rule.reflexive t a h e) =
    one S b (Lit true (Equal t t)) adds e w (h.0, h.1, h.1)
step_sorted S i b u adds w (rule.symmetric p x y a at e) =
    let h = sorted_at _ _ _ _ _ at w in
    one S b (Lit true (Equal y x)) adds e w (h.0, h.2, h.1)
step_sorted S i b u adds w (rule.congruent_term t us a h d q e) =
    one S b (Lit true (Equal t (with_args t us))) adds e w (h.0, h.1, congruent_sort S i b w t u.places us h.0 q h.1)
step_sorted S i b u adds w (rule.congruent_literal p ps s a us n at q e) =
    one S b (Lit s (atom_with a us)) adds e w (congruent_atom S i b w a ps us q (sorted_at _ _ _ _ _ at w))
step_sorted S i b u adds w (rule.constructor_clash p c d ts us a at n e) = moved S b adds [] e tt
step_sorted S i b u adds w (rule.injective p c ts us x y a at m n e) =
    let h = sorted_at _ _ _ _ _ at w in
    let o = slice_get S.cons c in
    let j = nth_sorts S b.added (fields_of o) ts u.pick x (and_parts _ _ h.1).1 m in
    let k = nth_sorts S b.added (fields_of o) us u.pick y (and_parts _ _ h.2).1 n in
    one S b (Lit true (Equal x y)) adds e w (j.0, j.2, at_sort S b.added y k.0 j.0 (same_Some k.0 j.0 (sym k.1 ∙ j.1)) k.2)
step_sorted S i b u adds w (rule.cases t s cs a d h e) =
    moved S b adds (child_for_each_con S t cs) e (cases_sorted S b t s w h cs (λ k c f. i.own_listed s c k cs d f))
step_sorted S i b u adds w (rule.selector c n ts x a h m e) =
    let o = slice_get S.cons c in
    let g = and_parts _ _ h.1 in
    let j = nth_sorts S b.added (fields_of o) ts n x (and_parts _ _ g.1).1 m in
    one S b (Lit true (Equal (Sel c n (Con c ts)) x)) adds e w
    (h.0, h.1, at_sort S b.added x j.0 h.0 (same_Some j.0 h.0 (sym j.1 ∙ sort_known (slice_get (fields_of o) n) h.0 g.0)) j.2)
step_sorted S i b u adds w (rule.number_clash p m n a at d e) = moved S b adds [] e tt
step_sorted S i b u adds w (rule.text_clash p m n a at d e) = moved S b adds [] e tt
step_sorted S i b u adds w (rule.cycle x k a c l e) = moved S b adds [] e tt
step_sorted S i b u adds w (rule.turned_order p x y k a at v e) =
    let h = sorted_at _ _ _ _ _ at w in one S b (Lit true (Le y x (neg_ℤ k -ℤ pos 1))) adds e w (h.1, h.0)
step_sorted S i b u adds w (rule.order_of_equals p x y a at h e) =
    one S b (Lit true (Le x y (pos 0))) adds e w (h, (h.0, h.1, other_side S i b w p x y h.0 at h.2))
step_sorted S i b u adds w (rule.equals_by_order p q x y a at bt e) =
    let h = sorted_at _ _ _ _ _ at w in
    one S b (Lit true (Equal x y)) adds e w (h.0.0, h.0.2, at_sort S b.added y h.1.0 h.0.0 (i.one_int h.1.0 h.0.0 h.1.1 h.0.1) h.1.2)
step_sorted S i b u adds w (rule.sum_above t k a h e) =
    let d = and_parts _ _ h.1 in
    one S b (Lit true (Le (Plus t k) t k)) adds e w ((h.0, d.0, h.1), (h.0, d.0, d.1))
step_sorted S i b u adds w (rule.sum_below t k a h v e) =
    let d = and_parts _ _ h.1 in
    one S b (Lit true (Le t (Plus t k) (neg_ℤ k))) adds e w ((h.0, d.0, d.1), (h.0, d.0, h.1))
step_sorted S i b u adds w (rule.numbers m n a h k v e) =
    one S b (Lit true (Le (Int m) (Int n) (m -ℤ n))) adds e w ((h.0, h.1, h.1), (k.0, k.1, k.1))
