-- What a rule adds is true where its branch is.
use Rattle.std.proofs.Common.{◌≡◌, ℕ, zero, suc, ◌+◌, List, [], ◌∷◌, length, true, false, cond, eqb, sym, refl, ap, ap₂, ◌∙◌, subst, slice_get, Option, Some, None, eq-eqb, arith, ℤ, pos, neg_ℤ, ◌+ℤ◌, ◌-ℤ◌, ◌≤ℤ◌, ◌<ℤ◌, int_le, add-zero}
use Rattle.std.proofs.lemmas.Int.{ints}
use Rattle.std.proofs.lemmas.Bool.{and_parts}
use Rattle.std.proofs.lemmas.Option.{same_Some}
use Rattle.rp_logic.specs.declared.sort.Sort.{Sort}
use Rattle.rp_logic.specs.declared.sort.Sort.TheVariants as sort
use Rattle.rp_logic.specs.Terms.{Tm, Tms, Var, Const, Fn, Int, Str, Con, Sel, Plus, no_tm, also_tm, At, Equal, Le, Rel}
use Rattle.rp_logic.specs.Formulas.{Fm}
use Rattle.rp_logic.specs.Signatures.{Signature, is_plain, is_int, is_str, is_con_of, fields_of}
use Rattle.rp_logic.specs.Elements.{Elem, Elems, Point, Whole, Text, Made, no_elem, also_elem, same_elem}
use Rattle.rp_logic.specs.Structures.{Structure, is_elem, are_elems, apply, is_related, number_of, nth_elem, elsewhere, select}
use Rattle.rp_logic.specs.Truth.{Meaning, meaning_with, value, values, atom_truth, Holds, AllTrue}
use Rattle.rp_logic.proofs.SortLaws.{no}
use Rattle.refute_defs.specs.Parts.{nth_tm, first_tm, second_tm, args, with_args, atom_args, atom_with, selections, built_with}
use Rattle.refute_defs.specs.Branches.{Branch}
use Rattle.refute_defs.specs.Rules.{Equalities, Chain}
use Rattle.rp_logic.proofs.ElementLaws.{same-is, is-same}

pub true_at : (M : Meaning) (fs : List Fm) (p : ℕ) (f : Fm) → slice_get fs p ≡ Some f → AllTrue M fs
    → Holds M [] f
true_at M [] p f e h = absurd cc
true_at M (g ∷ gs) zero f e h = subst (λ x. Holds M [] x) (same_Some g f e) h.0
true_at M (g ∷ gs) (suc p) f e h = true_at M gs p f e h.1

-- # Congruence

pub equal_values : (b : Branch) (M : Meaning) → AllTrue M b.formulas → (ps : List ℕ) (ts us : Tms)
    → Equalities b ps ts us → values M [] ts ≡ values M [] us
equal_values b M t [] no_tm no_tm h = refl
equal_values b M t [] no_tm (also_tm u us) h = absurd h
equal_values b M t [] (also_tm x ts) us h = absurd h
equal_values b M t (p ∷ ps) no_tm us h = absurd h
equal_values b M t (p ∷ ps) (also_tm x ts) no_tm h = absurd h
equal_values b M t (p ∷ ps) (also_tm x ts) (also_tm u us) h =
    ap₂ also_elem (same-is _ _ (true_at _ _ _ _ h.0 t)) (equal_values b M t ps ts us h.1)

pub first_value : (M : Meaning) (x : Tm) (us : Tms) (xs : Elems)
    → also_elem (value M [] x) xs ≡ values M [] us → value M [] x ≡ value M [] (first_tm x us)
first_value M x no_tm xs h = absurd cc
first_value M x (also_tm u us) xs h = cc

pub second_value : (M : Meaning) (x y z : Tm) (us : Tms)
    → also_elem (value M [] x) (also_elem (value M [] y) no_elem) ≡ values M [] us
    → value M [] y ≡ value M [] (second_tm y us)
second_value M x y z no_tm h = absurd cc
second_value M x y z (also_tm u us) h =
    let e : also_elem (value M [] y) no_elem ≡ values M [] us = cc in
    first_value M y us no_elem e

pub congruent_value : (M : Meaning) (t : Tm) (us : Tms) → values M [] (args t) ≡ values M [] us
    → value M [] t ≡ value M [] (with_args t us)
congruent_value M (Var n) us h = refl
congruent_value M (Const n) us h = refl
congruent_value M (Fn f ts) us h = ap (apply (slice_get M.structure.fns f)) h
congruent_value M (Int z) us h = refl
congruent_value M (Str y) us h = refl
congruent_value M (Con c ts) us h = ap (Made c) h
congruent_value M (Sel c i t) us h =
    ap (select M.sig M.structure c i) (first_value M t us no_elem h)
congruent_value M (Plus t k) us h =
    ap (λ x. Whole (number_of x +ℤ k)) (first_value M t us no_elem h)

pub congruent_holds : (M : Meaning) (a : At) (us : Tms) → values M [] (atom_args a) ≡ values M [] us
    → atom_truth M [] a ≡ atom_truth M [] (atom_with a us)
congruent_holds M (Equal x y) us h =
    ap₂ same_elem (first_value M x us (also_elem (value M [] y) no_elem) h) (second_value M x y y us h)
congruent_holds M (Le x y k) us h =
    ap₂ (λ v w. int_le (number_of v) (number_of w +ℤ k)) (first_value M x us (also_elem (value M [] y) no_elem) h) (second_value M x y y us h)
congruent_holds M (Rel r ts) us h = ap (λ xs. is_related (slice_get M.structure.rels r) xs) h

-- # Constructors

pub nth_value : (M : Meaning) (ts : Tms) (i : ℕ) (x : Tm) → nth_tm ts i ≡ Some x
    → nth_elem (values M [] ts) i ≡ value M [] x
nth_value M no_tm i x h = absurd cc
nth_value M (also_tm t ts) zero x h = ap (value M []) (same_Some t x h)
nth_value M (also_tm t ts) (suc i) x h = nth_value M ts i x h

chosen : (c : ℕ) (x y : Elem) → cond (eqb c c) x y ≡ x
chosen c x y = ap (λ b. cond b x y) (eq-eqb c c refl)

pub selector_value : (M : Meaning) (c i : ℕ) (ts : Tms) (x : Tm) → nth_tm ts i ≡ Some x
    → value M [] (Sel c i (Con c ts)) ≡ value M [] x
selector_value M c i ts x h =
    chosen c (nth_elem (values M [] ts) i) (elsewhere M.sig M.structure c i (Made c (values M [] ts))) ∙ nth_value M ts i x h

rest_values : (S : Signature) (z : List ℕ) (M : Meaning) (t : Tm) (c : ℕ) (xs : Elems)
    → value M [] t ≡ Made c xs → (ss : List ℕ) (ys : Elems) (i : ℕ)
    → ((j : ℕ) → nth_elem xs (i + j) ≡ nth_elem ys j) → are_elems S z ss ys ≡ true
    → values M [] (selections c i (length ss) t) ≡ ys
rest_values S z M t c xs e [] no_elem i at h = refl
rest_values S z M t c xs e [] (also_elem y ys) i at h = no h
rest_values S z M t c xs e (s ∷ ss) no_elem i at h = no h
rest_values S z M t c xs e (s ∷ ss) (also_elem y ys) i at h =
    ap₂ also_elem
    (ap (select M.sig M.structure c i) e ∙ chosen c (nth_elem xs i) (elsewhere M.sig M.structure c i (Made c xs)) ∙ ap (nth_elem xs) (sym (add-zero i)) ∙ at zero)
    (rest_values S z M t c xs e ss ys (suc i) (λ j. ap (nth_elem xs) (omega arith) ∙ at (suc j)) (and_parts _ _ h).1)

plus_none : (xs : Elems) (j : ℕ) → nth_elem xs (0 + j) ≡ nth_elem xs j
plus_none xs j = ap (nth_elem xs) (omega arith)

not_data : {A : Type 0} → (cs : List ℕ) (o : Option Sort) → o ≡ Some (sort.Datatype cs)
    → (is_plain o ≡ true → A) × (is_int o ≡ true → A) × (is_str o ≡ true → A)
not_data {A} cs o e =
    subst (λ x. (is_plain x ≡ true → A) × (is_int x ≡ true → A) × (is_str x ≡ true → A)) (sym e) ((λ h. no h), (λ h. no h), λ h. no h)

-- one of the constructors made the value
pub made_by : (S : Signature) (z : List ℕ) (s : ℕ) (cs : List ℕ) (v : Elem)
    → slice_get S.sorts s ≡ Some (sort.Datatype cs) → is_elem S z s v ≡ true
    → (c : ℕ) × (xs : Elems) × (v ≡ Made c xs) × (is_con_of (slice_get S.cons c) s ≡ true) × (are_elems S z (fields_of (slice_get S.cons c)) xs ≡ true)
made_by S z s cs (Point n) e h =
    (not_data cs (slice_get S.sorts s) e).0 (and_parts _ _ h).0
made_by S z s cs (Whole n) e h = (not_data cs (slice_get S.sorts s) e).1 h
made_by S z s cs (Text y) e h = (not_data cs (slice_get S.sorts s) e).2 h
made_by S z s cs (Made c xs) e h =
    let b = and_parts _ _ h in
    (c, xs, refl, b.0, b.1)

pub case_true : (S : Signature) (M : Structure) (k : ℕ → Elem) (t : Tm) (c : ℕ) (xs : Elems)
    → value (meaning_with S M k) [] t ≡ Made c xs
    → are_elems S M.sizes (fields_of (slice_get S.cons c)) xs ≡ true
    → Holds (meaning_with S M k) [] (built_with S t c)
case_true S M k t c xs e h =
    is-same (value (meaning_with S M k) [] t) (Made c (values (meaning_with S M k) [] (selections c 0 (length (fields_of (slice_get S.cons c))) t)))
    (e ∙ ap (Made c) (sym (rest_values S M.sizes (meaning_with S M k) t c xs e (fields_of (slice_get S.cons c)) xs 0 (plus_none xs) h)))

-- # Order

le_true : (a b : ℤ) → int_le a b ≡ true → a ≤ℤ b
le_true a b h = grind (arith, ints)

true_le : (a b : ℤ) → a ≤ℤ b → int_le a b ≡ true
true_le a b h = grind (arith, ints)

not_le : (a b : ℤ) → int_le a b ≡ false → b <ℤ a
not_le a b h = grind (arith, ints)

pub turn : (x y k : ℤ) → int_le x (y +ℤ k) ≡ false → int_le y (x +ℤ (neg_ℤ k -ℤ pos 1)) ≡ true
turn x y k h =
    let l = not_le x (y +ℤ k) h in
    true_le y (x +ℤ (neg_ℤ k -ℤ pos 1)) (omega (arith, ints))

pub le_itself : (x : ℤ) → int_le x (x +ℤ pos 0) ≡ true
le_itself x = true_le x (x +ℤ pos 0) (omega (arith, ints))

pub antisymmetric : (x y : ℤ) → int_le x (y +ℤ pos 0) ≡ true → int_le y (x +ℤ pos 0) ≡ true → x ≡ y
antisymmetric x y h k =
    let l = le_true x (y +ℤ pos 0) h in
    let m = le_true y (x +ℤ pos 0) k in
    omega (arith, ints)

pub above : (x k : ℤ) → int_le (x +ℤ k) (x +ℤ k) ≡ true
above x k = true_le (x +ℤ k) (x +ℤ k) (omega (arith, ints))

pub below : (x k : ℤ) → int_le x ((x +ℤ k) +ℤ neg_ℤ k) ≡ true
below x k = true_le x ((x +ℤ k) +ℤ neg_ℤ k) (omega (arith, ints))

pub apart : (m n : ℤ) → int_le m (n +ℤ (m -ℤ n)) ≡ true
apart m n = true_le m (n +ℤ (m -ℤ n)) (omega (arith, ints))

link : (x y w k sum total : ℤ) → x ≤ℤ (y +ℤ k) → y ≤ℤ (w +ℤ (total -ℤ (sum +ℤ k)))
    → x ≤ℤ (w +ℤ (total -ℤ sum))
link x y w k sum total p q = omega (arith, ints)

no_step : (x sum : ℤ) → x ≤ℤ (x +ℤ (sum -ℤ sum))
no_step x sum = omega (arith, ints)

-- the first term of a chain is at most its last, with what the chain adds
pub chain_le : (b : Branch) (M : Meaning) → AllTrue M b.formulas
    → (ps : List ℕ) (a c : Tm) (sum total : ℤ) → Chain b ps a c sum total
    → number_of (value M [] a) ≤ℤ (number_of (value M [] c) +ℤ (total -ℤ sum))
chain_le b M t [] a c sum total h =
    subst (λ x. number_of (value M [] a) ≤ℤ (number_of (value M [] x) +ℤ (total -ℤ sum))) h.0
    (subst (λ n. number_of (value M [] a) ≤ℤ (number_of (value M [] a) +ℤ (n -ℤ sum))) (sym h.1) (no_step (number_of (value M [] a)) sum))
chain_le b M t (p ∷ ps) a c sum total h =
    link (number_of (value M [] a)) (number_of (value M [] h.0)) (number_of (value M [] c)) h.1 sum total
    (le_true (number_of (value M [] a)) (number_of (value M [] h.0) +ℤ h.1) (true_at _ _ _ _ h.2 t))
    (chain_le b M t ps h.0 c (sum +ℤ h.1) total h.4)

pub no_cycle : (x k : ℤ) → x ≤ℤ (x +ℤ (k -ℤ pos 0)) → k <ℤ pos 0 → ⊥
no_cycle x k h l = omega (arith, ints)

-- A value of the sort of numbers is a number.
pub is_whole : (S : Signature) (z : List ℕ) (s : ℕ) (v : Elem) → is_int (slice_get S.sorts s) ≡ true
    → is_elem S z s v ≡ true → ((c : ℕ) → is_con_of (slice_get S.cons c) s ≡ true → ⊥)
    → v ≡ Whole (number_of v)
is_whole S z s (Point n) i h no_con =
    absurd (by (slice_get S.sorts s) i (and_parts _ _ h).0)
  where
    by : (o : Option Sort) → is_int o ≡ true → is_plain o ≡ true → ⊥
    by (Some sort.Int) p q = no q
    by (Some sort.Plain) p q = no p
    by (Some sort.Str) p q = no p
    by (Some (sort.Datatype cs)) p q = no p
    by None p q = no p
is_whole S z s (Whole n) i h no_con = refl
is_whole S z s (Text y) i h no_con = absurd (by (slice_get S.sorts s) i h)
  where
    by : (o : Option Sort) → is_int o ≡ true → is_str o ≡ true → ⊥
    by (Some sort.Int) p q = no q
    by (Some sort.Plain) p q = no p
    by (Some sort.Str) p q = no p
    by (Some (sort.Datatype cs)) p q = no p
    by None p q = no p
is_whole S z s (Made c xs) i h no_con =
    absurd (no_con c (and_parts _ _ h).0)
