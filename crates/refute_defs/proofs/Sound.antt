-- A closed tree has no model.
use Rattle.std.proofs.Common.{◌≡◌, ℕ, zero, suc, ◌≤◌, List, [], ◌∷◌, ◌++◌, length, Bool, true, false, not, cond, eqb, ltb, sym, refl, ap, ◌∙◌, subst, true≢false, slice_get, Option, Some, eqb-true, eq-eqb, ltb-true, arith, pos, neg_ℤ, ◌+ℤ◌, ◌-ℤ◌, int_le}
use Rattle.std.proofs.lemmas.Bool.Decides.{Decides-int_eq}
use Rattle.std.proofs.lemmas.Slice.Eq.{bytes_eq-Decides}
use Rattle.std.proofs.lemmas.Bool.{and_parts}
use Rattle.std.proofs.lemmas.Option.{same_Some}
use Rattle.rp_logic.specs.declared.sort.NewConst.{NewConst}
use Rattle.rp_logic.specs.Terms.{Tm, Const, Int, Con, Sel, Plus, Equal, Le}
use Rattle.rp_logic.specs.Formulas.{Fm, Fms, Ex, Lit, no_fm, also_fm}
use Rattle.rp_logic.specs.Signatures.{Signature, is_int}
use Rattle.rp_logic.specs.Sorted.{added_sort, has_sort}
use Rattle.rp_logic.specs.Elements.{Elem, Whole}
use Rattle.rp_logic.specs.Structures.{Structure, Fits, Is, is_elem, number_of, nth_elem}
use Rattle.rp_logic.specs.Truth.{Meaning, meaning_with, value, values, atom_truth, Holds, AllHold, NoneHolds, AllTrue}
use Rattle.rp_logic.specs.Instance.{instance}
use Rattle.rp_logic.proofs.InstanceLaws.{instance_law}
use Rattle.rp_logic.proofs.SortLaws.{no}
use Rattle.rp_logic.proofs.ValueSorts.{closed_of_sort, closed_value}
use Rattle.refute_defs.specs.Uses.{Use, Nd, Rule, Unvisited, Current}
use Rattle.refute_defs.specs.Parts.{nth_fm, args, with_args, atom_args, atom_with, built_with}
use Rattle.refute_defs.specs.Additions.{Addition, formula_alone, one_child, child_for_each, child_for_each_con, bringing}
use Rattle.refute_defs.specs.Branches.{Branch, extend_each, root}
use Rattle.rp_logic.specs.Constants.{formula_lacks, each_lacks, with_value}
use Rattle.refute_defs.specs.Rules.{Stands, Step}
use Rattle.refute_defs.specs.Rules as rule
use Rattle.refute_defs.specs.Closed.{AreClosed, IsClosedTree, AreWellSorted, IsSignature}
use Rattle.rp_logic.proofs.EachSorted.{EachSorted, sorted_at}
use Rattle.rp_logic.proofs.ElementLaws.{same-is, sames-are, is-same}
use Rattle.rp_logic.proofs.NewConstants.{truth_lacks, branch_holds}
use Rattle.rp_logic.proofs.NewConstantSorts.{last_counts}
use Rattle.refute_defs.proofs.RuleTruth.{true_at, equal_values, congruent_value, congruent_holds, nth_value, selector_value, made_by, case_true, turn, le_itself, antisymmetric, above, below, apart, chain_le, no_cycle, is_whole}
use Rattle.refute_defs.proofs.SignatureFacts.{IsKept, kept}
use Rattle.refute_defs.proofs.KeepsSorts.{SortedBranches, step_sorted}

pub lacks_at : (c : ℕ) (fs : List Fm) (p : ℕ) (f : Fm) → slice_get fs p ≡ Some f
    → each_lacks c fs ≡ true → formula_lacks c f ≡ true
lacks_at c [] p f e h = absurd cc
lacks_at c (g ∷ gs) zero f e h =
    subst (λ x. formula_lacks c x ≡ true) (same_Some g f e) (and_parts _ _ h).0
lacks_at c (g ∷ gs) (suc p) f e h =
    lacks_at c gs p f e (and_parts _ _ h).1

pub true_more : (M : Meaning) (fs : List Fm) (f : Fm) → AllTrue M fs → Holds M [] f
    → AllTrue M (fs ++ f ∷ [])
true_more M [] f h t = (t, tt)
true_more M (g ∷ gs) f h t = (h.0, true_more M gs f h.1 t)

pub true_nth : (M : Meaning) (fs : Fms) (n : ℕ) (f : Fm) → nth_fm fs n ≡ Some f → AllHold M [] fs
    → Holds M [] f
true_nth M no_fm n f e h = absurd cc
true_nth M (also_fm g gs) zero f e h = subst (λ x. Holds M [] x) (same_Some g f e) h.0
true_nth M (also_fm g gs) (suc n) f e h = true_nth M gs n f e h.1

-- # A new constant

new_sort : (a b : Bool) (o q x : Option ℕ) (s r : ℕ) (v y : Elem) (S : Signature) (M : Structure)
    → (a ≡ true → b ≡ true → ⊥) → is_elem S M.sizes s v ≡ true
    → (cond a o q ≡ Some r → is_elem S M.sizes r y ≡ true) → x ≡ cond b (Some s) q
    → cond a o x ≡ Some r → is_elem S M.sizes r (cond b v y) ≡ true
new_sort true true o q x s r v y S M n i h l e = absurd (n refl refl)
new_sort true false o q x s r v y S M n i h l e = h e
new_sort false true o q x s r v y S M n i h l e =
    subst (λ z. is_elem S M.sizes z v ≡ true) (same_Some s r (sym l ∙ e)) i
new_sort false false o q x s r v y S M n i h l e = h (sym l ∙ e)

-- a structure fits with any element of its sort for the new constant
pub fits_new : (S : Signature) (M : Structure) (k : ℕ → Elem) (added : List NewConst) (new : NewConst) (v : Elem)
    → Fits S M k added → length S.consts ≤ new.number → is_elem S M.sizes new.sort v ≡ true
    → Fits S M (with_value k new.number v) (added ++ new ∷ [])
fits_new S M k added new v w l i = record {
  functions = w.functions;
  defaults = w.defaults;
  fields = w.fields;
  selectors = w.selectors;
  constants = λ d r e. new_sort (ltb d (length S.consts)) (eqb new.number d) (slice_get S.consts d) (added_sort added d) (added_sort (added ++ new ∷ []) d) new.sort r v (k d) S M
      (λ p q. let a = ltb-true d (length S.consts) p in let b = eqb-true new.number d q in omega arith) i (w.constants d r) (last_counts added new d) e;
}

-- # Each rule

-- no structure of the signature, with the constants of the branch, makes all of its formulas true
abbrev pub NoModel : Signature → Branch → Type 0
NoModel S b =
    (M : Structure) (k : ℕ → Elem) → Fits S M k b.added → AllTrue (meaning_with S M k) b.formulas → ⊥

abbrev pub NoModels : Signature → List Branch → Type 0
NoModels S [] = Unit {0}
NoModels S (b ∷ bs) = NoModel S b × NoModels S bs

split_sound : (S : Signature) (b : Branch) (fs : Fms)
    → NoModels S (extend_each b (child_for_each fs)) → (M : Structure) (k : ℕ → Elem)
    → Fits S M k b.added → AllTrue (meaning_with S M k) b.formulas
    → NoneHolds (meaning_with S M k) [] fs
split_sound S b no_fm n M k w t = tt
split_sound S b (also_fm f fs) n M k w t =
    ((λ h. n.0 M k w (true_more _ _ _ t h)), split_sound S b fs n.1 M k w t)

moved : (S : Signature) (b : Branch) (adds others : List Addition) → adds ≡ others
    → NoModels S (extend_each b adds) → NoModels S (extend_each b others)
moved S b adds others e h = subst (λ x. NoModels S (extend_each b x)) e h

two_ways : (b : Bool) → (b ≡ true → ⊥) → (b ≡ false → ⊥) → ⊥
two_ways true h k = h refl
two_ways false h k = k refl

both_ways : (b s : Bool) → b ≡ s → b ≡ not s → ⊥
both_ways true true h k = true≢false k
both_ways true false h k = true≢false h
both_ways false true h k = true≢false (sym h)
both_ways false false h k = true≢false (sym k)

new_sound : (S : Signature) (b : Branch) (p s c : ℕ) (f : Fm) → Stands b p (Ex s f)
    → length S.consts ≤ c → each_lacks c b.formulas ≡ true
    → NoModels S (extend_each b (bringing c s (instance (Const c) f))) → NoModel S b
new_sound S b p s c f at l lack n M k w t =
    true_at _ _ _ _ at t step
  where
    step : (v : Elem) → Is S M s v → ¬ Holds (meaning_with S M k) (v ∷ []) f
    step v i h =
        let m = with_value k c v in
        let new : NewConst = record { number = c; sort = s } in
        let here : m c ≡ v = ap (λ x. cond x v (k c)) (eq-eqb c c refl) in
        let inside : formula_lacks c f ≡ true = lacks_at c b.formulas p (Ex s f) at lack in
        let open_truth : Holds (meaning_with S M m) (v ∷ []) f = (truth_lacks S M k c v f (v ∷ []) inside).1 h in
        let named : Holds (meaning_with S M m) (m c ∷ []) f = subst (λ x. Holds (meaning_with S M m) (x ∷ []) f) (sym here) open_truth in
        let closed : Holds (meaning_with S M m) [] (instance (Const c) f) = (instance_law f (meaning_with S M m) [] [] (Const c) refl).1 named in
        n.0 M m (fits_new S M k b.added new v w l i) (true_more _ _ _ (branch_holds S M k c v b.formulas lack t) closed)

cases_sound : (S : Signature) (b : Branch) (t : Tm) (M : Structure) (k : ℕ → Elem)
    → Fits S M k b.added → AllTrue (meaning_with S M k) b.formulas → (cs : List ℕ)
    → NoModels S (extend_each b (child_for_each_con S t cs)) → (j c : ℕ) → slice_get cs j ≡ Some c
    → Holds (meaning_with S M k) [] (built_with S t c) → ⊥
cases_sound S b t M k w h [] n j c e i = absurd cc
cases_sound S b t M k w h (d ∷ ds) n zero c e i =
    n.0 M k w (true_more _ _ _ h (subst (λ x. Holds (meaning_with S M k) [] (built_with S t x)) (sym (same_Some d c e)) i))
cases_sound S b t M k w h (d ∷ ds) n (suc j) c e i = cases_sound S b t M k w h ds n.1 j c e i

one_more : (S : Signature) (b : Branch) (f : Fm) (adds : List Addition) → adds ≡ one_child f
    → NoModels S (extend_each b adds) → (M : Structure) (k : ℕ → Elem) → Fits S M k b.added
    → AllTrue (meaning_with S M k) b.formulas → Holds (meaning_with S M k) [] f → ⊥
one_more S b f adds e n M k w t h =
    (moved S b adds (one_child f) e n).0 M k w (true_more _ _ _ t h)

number : (S : Signature) → IsKept S → (M : Structure) (k : ℕ → Elem) (ns : List NewConst)
    → Fits S M k ns → (x : Tm) (s : ℕ) → is_int (slice_get S.sorts s) ≡ true
    → has_sort S ns [] s x ≡ true
    → value (meaning_with S M k) [] x ≡ Whole (number_of (value (meaning_with S M k) [] x))
number S i M k ns w x s p h =
    is_whole S M.sizes s (value (meaning_with S M k) [] x) p (closed_value x S M k ns s w h) (λ c q. let d = i.of_datatype c s q in no (subst (λ o. is_int o ≡ true) d.1 p))

pub step_sound : (S : Signature) → IsKept S → (b : Branch) (u : Use) (adds : List Addition)
    → EachSorted S b.added b.formulas → Step S b u adds → NoModels S (extend_each b adds)
    → NoModel S b
step_sound S i b u adds o (rule.part p fs f a at j e) n M k w t =
    one_more S b f adds e n M k w t (true_nth (meaning_with S M k) fs u.pick f j (true_at _ _ _ _ at t))
step_sound S i b u adds o (rule.split p fs a at e) n M k w t =
    true_at _ _ _ _ at t (split_sound S b fs (moved S b adds (child_for_each fs) e n) M k w t)
step_sound S i b u adds o (rule.instantiate p s x f a at h e) n M k w t =
    one_more S b (instance x f) adds e n M k w t
    ((instance_law f (meaning_with S M k) [] [] x (closed_of_sort x S b.added s h)).1
    (true_at _ _ _ _ at t (value (meaning_with S M k) [] x) (closed_value x S M k b.added s w h)))
step_sound S i b u adds o (rule.new_constant p s c f a at l lack e) n M k w t =
    new_sound S b p s c f at l lack (moved S b adds (bringing c s (instance (Const c) f)) e n) M k w t
step_sound S i b u adds o (rule.cut a q h e) n M k w t =
    let m = moved S b adds (formula_alone (Lit true a) ∷ formula_alone (Lit false a) ∷ []) e n in
    two_ways (atom_truth (meaning_with S M k) [] a)
    (λ h. m.0 M k w (true_more _ _ _ t h))
    (λ h. m.1.0 M k w (true_more _ _ _ t h))
step_sound S i b u adds o (rule.clash p q s a x at bt e) n M k w t =
    both_ways (atom_truth (meaning_with S M k) [] a) s
    (true_at _ _ _ _ at t)
    (true_at _ _ _ _ bt t)
step_sound S i b u adds o (rule.transitive p q x y z a at bt e) n M k w t =
    let val : Tm → Elem = value (meaning_with S M k) [] in
    let one = same-is (val x) (val y) (true_at _ _ _ _ at t) in
    let two = same-is (val y) (val z) (true_at _ _ _ _ bt t) in
    one_more S b (Lit true (Equal x z)) adds e n M k w t (is-same (val x) (val z) (one ∙ two))
step_sound S i b u adds o (rule.reflexive x a h e) n M k w t =
    one_more S b (Lit true (Equal x x)) adds e n M k w t (is-same (value (meaning_with S M k) [] x) (value (meaning_with S M k) [] x) refl)
step_sound S i b u adds o (rule.symmetric p x y a at e) n M k w t =
    let val : Tm → Elem = value (meaning_with S M k) [] in
    one_more S b (Lit true (Equal y x)) adds e n M k w t (is-same (val y) (val x) (sym (same-is (val x) (val y) (true_at _ _ _ _ at t))))
step_sound S i b u adds o (rule.congruent_term x us a h d q e) n M k w t =
    let m = meaning_with S M k in
    one_more S b (Lit true (Equal x (with_args x us))) adds e n M k w t (is-same (value m [] x) (value m [] (with_args x us)) (congruent_value m x us (equal_values b m t u.places (args x) us q)))
step_sound S i b u adds o (rule.congruent_literal p ps s a us c at q e) n M k w t =
    let m = meaning_with S M k in
    one_more S b (Lit s (atom_with a us)) adds e n M k w t (sym (congruent_holds m a us (equal_values b m t ps (atom_args a) us q)) ∙ true_at _ _ _ _ at t)
step_sound S i b u adds o (rule.constructor_clash p c d ts us a at q e) n M k w t =
    let m = meaning_with S M k in
    q (eqb-true c d (and_parts _ _ (true_at _ _ _ _ at t)).0)
step_sound S i b u adds o (rule.injective p c ts us x y a at j l e) n M k w t =
    let m = meaning_with S M k in
    let q = sames-are (values m [] ts) (values m [] us) (and_parts _ _ (true_at _ _ _ _ at t)).1 in
    one_more S b (Lit true (Equal x y)) adds e n M k w t
    (is-same (value m [] x) (value m [] y) (sym (nth_value m ts u.pick x j) ∙ ap (λ xs. nth_elem xs u.pick) q ∙ nth_value m us u.pick y l))
step_sound S i b u adds o (rule.cases x s cs a d h e) n M k w t =
    let v = value (meaning_with S M k) [] x in
    let y = made_by S M.sizes s cs v d (closed_value x S M k b.added s w h) in
    let l = i.listed s y.0 cs d y.3 in
    cases_sound S b x M k w t cs (moved S b adds (child_for_each_con S x cs) e n) l.0 y.0 l.1 (case_true S M k x y.0 y.1 y.2 y.4)
step_sound S i b u adds o (rule.selector c j ts x a h l e) n M k w t =
    let m = meaning_with S M k in
    one_more S b (Lit true (Equal (Sel c j (Con c ts)) x)) adds e n M k w t (is-same (value m [] (Sel c j (Con c ts))) (value m [] x) (selector_value m c j ts x l))
step_sound S i b u adds o (rule.number_clash p x y a at d e) n M k w t =
    d ((Decides-int_eq x y).0 (true_at _ _ _ _ at t))
step_sound S i b u adds o (rule.text_clash p x y a at d e) n M k w t =
    d ((bytes_eq-Decides x y).0 (true_at _ _ _ _ at t))
step_sound S i b u adds o (rule.cycle x z a c l e) n M k w t =
    no_cycle (number_of (value (meaning_with S M k) [] x)) z (chain_le b (meaning_with S M k) t u.places x x (pos 0) z c) l
step_sound S i b u adds o (rule.turned_order p x y z a at v e) n M k w t =
    let m = meaning_with S M k in
    one_more S b (Lit true (Le y x (neg_ℤ z -ℤ pos 1))) adds e n M k w t (turn (number_of (value m [] x)) (number_of (value m [] y)) z (true_at _ _ _ _ at t))
step_sound S i b u adds o (rule.order_of_equals p x y a at h e) n M k w t =
    let m = meaning_with S M k in
    let q = same-is (value m [] x) (value m [] y) (true_at _ _ _ _ at t) in
    one_more S b (Lit true (Le x y (pos 0))) adds e n M k w t (subst (λ v. int_le (number_of (value m [] x)) (number_of v +ℤ pos 0) ≡ true) q (le_itself (number_of (value m [] x))))
step_sound S i b u adds o (rule.equals_by_order p q x y a at bt e) n M k w t =
    let m = meaning_with S M k in
    let h = sorted_at _ _ _ _ _ at o in
    let both_equal = antisymmetric (number_of (value m [] x)) (number_of (value m [] y)) (true_at _ _ _ _ at t) (true_at _ _ _ _ bt t) in
    one_more S b (Lit true (Equal x y)) adds e n M k w t
    (is-same (value m [] x) (value m [] y) (number S i M k b.added w x h.0.0 h.0.1 h.0.2 ∙ ap Whole both_equal ∙ sym (number S i M k b.added w y h.1.0 h.1.1 h.1.2)))
step_sound S i b u adds o (rule.sum_above x z a h e) n M k w t =
    one_more S b (Lit true (Le (Plus x z) x z)) adds e n M k w t (above (number_of (value (meaning_with S M k) [] x)) z)
step_sound S i b u adds o (rule.sum_below x z a h v e) n M k w t =
    one_more S b (Lit true (Le x (Plus x z) (neg_ℤ z))) adds e n M k w t (below (number_of (value (meaning_with S M k) [] x)) z)
step_sound S i b u adds o (rule.numbers x y a h l v e) n M k w t =
    one_more S b (Lit true (Le (Int x) (Int y) (x -ℤ y))) adds e n M k w t (apart x y)

-- # The whole tree

first_ones : (S : Signature) (ks bs : List Branch) → NoModels S (ks ++ bs)
    → NoModels S ks × NoModels S bs
first_ones S [] bs h = (tt, h)
first_ones S (k ∷ ks) bs h = let r = first_ones S ks bs h.1 in ((h.0, r.0), r.1)

all_sorted : (S : Signature) (ks bs : List Branch) → SortedBranches S ks → SortedBranches S bs
    → SortedBranches S (ks ++ bs)
all_sorted S [] bs h k = k
all_sorted S (b ∷ ks) bs h k = (h.0, all_sorted S ks bs h.1 k)

pub closed_sound : (S : Signature) → IsKept S → (nodes : List Nd) (bs : List Branch)
    → SortedBranches S bs → AreClosed S bs nodes → NoModels S bs
closed_sound S i [] [] o h = tt
closed_sound S i [] (b ∷ bs) o h = absurd h
closed_sound S i (node ∷ nodes) [] o h = absurd h
closed_sound S i (Rule u ∷ nodes) (b ∷ bs) o h =
    let ks = extend_each b h.0 in
    let r = first_ones S ks bs (closed_sound S i nodes (ks ++ bs) (all_sorted S ks bs (step_sorted S i b u h.0 o.0 h.1) o.1) h.2) in
    (step_sound S i b u h.0 o.0 h.1 r.0, r.1)
closed_sound S i (Unvisited ∷ nodes) (b ∷ bs) o h = absurd h
closed_sound S i (Current ∷ nodes) (b ∷ bs) o h = absurd h

pub tree_refutes : (S : Signature) → IsKept S → (given : List Fm) → EachSorted S [] given
    → (nodes : List Nd) → IsClosedTree S given nodes → (M : Structure) (k : ℕ → Elem)
    → Fits S M k [] → AllTrue (meaning_with S M k) given → ⊥
tree_refutes S i given o nodes h M k w t =
    (closed_sound S i nodes (root given ∷ []) (o, tt) h).0 M k w t

well_sorted : (S : Signature) (fs : List Fm) → AreWellSorted S fs → EachSorted S [] fs
well_sorted S [] h = tt
well_sorted S (f ∷ fs) h = (h.0, well_sorted S fs h.1)

pub refutes : (S : Signature) (given : List Fm) (nodes : List Nd) → IsSignature S
    → AreWellSorted S given → IsClosedTree S given nodes → (M : Structure) (k : ℕ → Elem)
    → Fits S M k [] → AllTrue (meaning_with S M k) given → ⊥
refutes S given nodes keeps sorted closed M k w t =
    tree_refutes S (kept S keeps) given (well_sorted S given sorted) nodes closed M k w t
