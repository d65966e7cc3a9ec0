-- The test of sorts is exact, over a signature with at most one sort `Int` and at most one `Str`.
use Rattle.std.proofs.Common.{◌≡◌, ◌≢◌, ◌<◌, ◌≤◌, ◌+◌, ◌↔◌, ℕ, zero, suc, List, [], ◌∷◌, length, drop, slice_get, Option, Some, None, Bool, true, false, ◌&&◌, cond, ltb, nat_le, count_by, sym, refl, ap, ◌∙◌, subst, true≢false, arith, eqb-true, ltb-true, lt-ltb, leb-true}
use Rattle.std.specs.List.{position_from}
use Rattle.std.specs.Option.{option_or}
use Rattle.std.proofs.lemmas.List.Sums.{sum_by-cons}
use Rattle.std.proofs.lemmas.Bool.{and_parts, and_from}
use Rattle.std.proofs.lemmas.Option.{same_Some}
use Rattle.rp_logic.specs.declared.sort.Sort.{Sort}
use Rattle.rp_logic.specs.declared.sort.FnDecl.{FnDecl}
use Rattle.rp_logic.specs.declared.sort.LogicCon.{LogicCon}
use Rattle.rp_logic.specs.declared.sort.NewConst.{NewConst}
use Rattle.rp_logic.specs.declared.term.Term.{Term}
use Rattle.rp_logic.specs.Terms.{Tm, Var, Const, Fn, Int, Str, Con, Sel, Plus, Tms, At, Equal, Le, Rel}
use Rattle.rp_logic.specs.Formulas.{Fm, And, Or, All, Ex, Lit, Fms, no_fm, also_fm}
use Rattle.rp_logic.specs.Signatures.{Signature, is_int, is_str, is_con_of, fields_of, are_of_sorts, has_one_int_and_str, list_their_own, are_listed}
use Rattle.rp_logic.specs.Sorted.{const_sort, is_sort, gives, takes, sort_of_con, has_sort, have_sorts, IsNumber, IsSortedAtom, IsSorted, AreSorted, IsWellSorted}
use Rattle.rp_logic.specs.SortTests.{int_sort, str_sort, result_of, datatype_of, head_sort, at_sorts, have_one_sort, atom_test}
use Rattle.rp_logic.specs.means.FormulaTests.{sort_test, sort_tests}
use Rattle.rp_logic.specs.declared.sig.Sig.{Sig}
use Rattle.rp_logic.specs.SigView.{sig_view}
use Rattle.rp_logic.specs.Views.{term_view, terms_view}

-- # Tests

pub no : {A : Type 0} → false ≡ true → A
no h = absurd (true≢false (sym h))

and_false : (a b : Bool) → b ≡ false → a && b ≡ false
and_false true b h = h
and_false false b h = refl

-- as many terms as sorts
pub lengths_differ : (S : Signature) (added : List NewConst) (scope sorts : List ℕ) (ts : List Term) → length sorts ≢ length ts
    → have_sorts S added scope sorts (terms_view ts) ≡ false
lengths_differ S added scope [] [] h = absurd (h refl)
lengths_differ S added scope [] (t ∷ ts) h = refl
lengths_differ S added scope (s ∷ sorts) [] h = refl
lengths_differ S added scope (s ∷ sorts) (t ∷ ts) h =
    and_false (has_sort S added scope s (term_view t)) (have_sorts S added scope sorts (terms_view ts)) (lengths_differ S added scope sorts ts (λ e. h (ap suc e)))

-- # The only place of a list at which a test passes

abbrev passing : (Option Sort → Bool) → List Sort → ℕ
passing f sorts = count_by (λ sort. f (Some sort)) sorts

passing-cons : (f : Option Sort → Bool) (x : Sort) (xs : List Sort) → passing f (x ∷ xs) ≡ cond (f (Some x)) 1 0 + passing f xs
passing-cons f x xs = sum_by-cons (λ sort. cond (f (Some sort)) 1 0) x xs

some_passes : (f : Option Sort → Bool) → f None ≡ false → (xs : List Sort) (s : ℕ) → f (slice_get xs s) ≡ true → 1 ≤ passing f xs
some_passes f n [] s a = no (sym n ∙ a)
some_passes f n (x ∷ xs) zero a = let e : passing f (x ∷ xs) ≡ 1 + passing f xs = passing-cons f x xs ∙ ap (λ b. cond b 1 0 + passing f xs) a in omega arith
some_passes f n (x ∷ xs) (suc s) a = let e = passing-cons f x xs in let h : 1 ≤ passing f xs = some_passes f n xs s a in omega arith

-- where the first passes no later one does
none_later : (f : Option Sort → Bool) → f None ≡ false → (x : Sort) (xs : List Sort) (s : ℕ) → passing f (x ∷ xs) ≤ 1 → f (Some x) ≡ true → f (slice_get xs s) ≡ true → ⊥
none_later f n x xs s few a b =
    let e : passing f (x ∷ xs) ≡ 1 + passing f xs = passing-cons f x xs ∙ ap (λ c. cond c 1 0 + passing f xs) a in
    let h : 1 ≤ passing f xs = some_passes f n xs s b in
    omega arith

fewer : (f : Option Sort → Bool) (x : Sort) (xs : List Sort) → passing f (x ∷ xs) ≤ 1 → passing f xs ≤ 1
fewer f x xs few = let e = passing-cons f x xs in omega arith

pub one_place : (f : Option Sort → Bool) → f None ≡ false → (xs : List Sort) → passing f xs ≤ 1 → (r s : ℕ) → f (slice_get xs r) ≡ true → f (slice_get xs s) ≡ true → r ≡ s
one_place f n [] few r s a b = no (sym n ∙ a)
one_place f n (x ∷ xs) few zero zero a b = refl
one_place f n (x ∷ xs) few zero (suc s) a b = absurd (none_later f n x xs s few a b)
one_place f n (x ∷ xs) few (suc r) zero a b = absurd (none_later f n x xs r few b a)
one_place f n (x ∷ xs) few (suc r) (suc s) a b = ap suc (one_place f n xs (fewer f x xs few) r s a b)

-- the first place that passes does, and where one passes it is the first
pub first_passes : (f : Option Sort → Bool) (xs : List Sort) (i s : ℕ) → position_from (λ sort. f (Some sort)) i xs ≡ Some s → (k : ℕ) × (s ≡ i + k) × (f (slice_get xs k) ≡ true)
first_passes f [] i s h = absurd cc
first_passes f (x ∷ xs) i s h = by (f (Some x)) refl (λ g. first_passes f xs (i + 1) s g) h
  where
    at_next : (k : ℕ) × (s ≡ i + 1 + k) × (f (slice_get xs k) ≡ true) → (k : ℕ) × (s ≡ i + k) × (f (slice_get (x ∷ xs) k) ≡ true)
    at_next r = (suc r.0, omega arith, r.2)

    by : (b : Bool) → f (Some x) ≡ b
        → (position_from (λ sort. f (Some sort)) (i + 1) xs ≡ Some s → (k : ℕ) × (s ≡ i + 1 + k) × (f (slice_get xs k) ≡ true))
        → cond b (Some i) (position_from (λ sort. f (Some sort)) (i + 1) xs) ≡ Some s → (k : ℕ) × (s ≡ i + k) × (f (slice_get (x ∷ xs) k) ≡ true)
    by true e rest g = let q : i ≡ s = same_Some i s g in (0, omega arith, e)
    by false e rest g = at_next (rest g)

pub passes_first : (f : Option Sort → Bool) → f None ≡ false → (xs : List Sort) (i s : ℕ) → passing f xs ≤ 1 → f (slice_get xs s) ≡ true
    → position_from (λ sort. f (Some sort)) i xs ≡ Some (i + s)
passes_first f n [] i s few a = no (sym n ∙ a)
passes_first f n (x ∷ xs) i zero few a = ap (λ b. cond b (Some i) (position_from (λ sort. f (Some sort)) (i + 1) xs)) a ∙ ap Some (omega arith)
passes_first f n (x ∷ xs) i (suc s) few a = later (f (Some x)) refl (passes_first f n xs (i + 1) s (fewer f x xs few) a)
  where
    later : (b : Bool) → f (Some x) ≡ b → position_from (λ sort. f (Some sort)) (i + 1) xs ≡ Some (i + 1 + s)
        → cond b (Some i) (position_from (λ sort. f (Some sort)) (i + 1) xs) ≡ Some (i + suc s)
    later true e g = absurd (none_later f n x xs s few e a)
    later false e g = g ∙ ap Some (omega arith)

-- from one place on
pub first_from : (f : Option Sort → Bool) (xs : List Sort) (i s : ℕ) → s < length xs
    → position_from (λ sort. f (Some sort)) i (drop s xs) ≡ cond (f (slice_get xs s)) (Some i) (position_from (λ sort. f (Some sort)) (i + 1) (drop (s + 1) xs))
first_from f [] i s h = absurd (omega arith)
first_from f (x ∷ xs) i zero h = refl
first_from f (x ∷ xs) i (suc s) h = let e : suc s + 1 ≡ suc (s + 1) = omega arith in rw e (first_from f xs i s (omega arith))

pub first_here : (f : Option Sort → Bool) (xs : List Sort) (s : ℕ)
    → position_from (λ sort. f (Some sort)) 0 xs ≡ position_from (λ sort. f (Some sort)) s (drop s xs) → true ≡ f (slice_get xs s) → s < length xs
    → Some s ≡ position_from (λ sort. f (Some sort)) 0 xs
first_here f xs s i h lt =
    ap (λ b. cond b (Some s) (position_from (λ sort. f (Some sort)) (s + 1) (drop (s + 1) xs))) h ∙ sym (first_from f xs s s lt) ∙ sym i

pub not_here : (f : Option Sort → Bool) (xs : List Sort) (s : ℕ)
    → position_from (λ sort. f (Some sort)) 0 xs ≡ position_from (λ sort. f (Some sort)) s (drop s xs) → false ≡ f (slice_get xs s) → s < length xs
    → position_from (λ sort. f (Some sort)) 0 xs ≡ position_from (λ sort. f (Some sort)) (s + 1) (drop (s + 1) xs)
not_here f xs s i h lt =
    i ∙ first_from f xs s s lt ∙ ap (λ b. cond b (Some s) (position_from (λ sort. f (Some sort)) (s + 1) (drop (s + 1) xs))) (sym h)

pub or_assoc : {A : Type 0} (a b c : Option A) → option_or (option_or a b) c ≡ option_or a (option_or b c)
or_assoc None b c = refl
or_assoc (Some x) b c = refl

-- # The facts of a signature that the test rests on

pub record HasOneIntAndStr (S : Signature) : Type 0 where
  pub ints : passing is_int S.sorts ≤ 1
  pub strs : passing is_str S.sorts ≤ 1

pub ones : (S : Signature) → has_one_int_and_str S.sorts ≡ true → HasOneIntAndStr S
ones S h =
    let b = and_parts (nat_le (passing is_int S.sorts) 1) (nat_le (passing is_str S.sorts) 1) h in
    record { ints = leb-true (passing is_int S.sorts) 1 b.0; strs = leb-true (passing is_str S.sorts) 1 b.1 }

int_found : (S : Signature) → HasOneIntAndStr S → (s : ℕ) → is_int (slice_get S.sorts s) ≡ true → int_sort S ≡ Some s
int_found S one s h = passes_first is_int refl S.sorts 0 s one.ints h ∙ ap Some (omega arith)

str_found : (S : Signature) → HasOneIntAndStr S → (s : ℕ) → is_str (slice_get S.sorts s) ≡ true → str_sort S ≡ Some s
str_found S one s h = passes_first is_str refl S.sorts 0 s one.strs h ∙ ap Some (omega arith)

int_is : (S : Signature) (s : ℕ) → int_sort S ≡ Some s → is_int (slice_get S.sorts s) ≡ true
int_is S s h =
    let r = first_passes is_int S.sorts 0 s h in
    let e : r.0 ≡ s = omega arith in
    subst (λ k. is_int (slice_get S.sorts k) ≡ true) e r.2

-- # Terms

pub sort_known : (o : Option ℕ) (s : ℕ) → is_sort o s ≡ true → o ≡ Some s
sort_known None s h = no h
sort_known (Some r) s h = ap Some (eqb-true r s h)

result_known : (o : Option FnDecl) (s : ℕ) → gives o s ≡ true → result_of o ≡ Some s
result_known None s h = no h
result_known (Some decl) s h = ap Some (eqb-true decl.result s h)

datatype_known : (o : Option LogicCon) (s : ℕ) → is_con_of o s ≡ true → datatype_of o ≡ Some s
datatype_known None s h = no h
datatype_known (Some con) s h = ap Some (eqb-true con.sort s h)

-- a term has no sort but that of its form
pub head_is : (t : Tm) (S : Signature) → HasOneIntAndStr S → (added : List NewConst) (scope : List ℕ) (s : ℕ) → has_sort S added scope s t ≡ true
    → head_sort S added scope t ≡ Some s
head_is (Var n) S one added scope s h = sort_known (slice_get scope n) s h
head_is (Const c) S one added scope s h = sort_known (const_sort S added c) s h
head_is (Fn f ts) S one added scope s h =
    result_known (slice_get S.fns f) s (and_parts (gives (slice_get S.fns f) s) (have_sorts S added scope (takes (slice_get S.fns f)) ts) h).0
head_is (Int n) S one added scope s h = int_found S one s h
head_is (Str bytes) S one added scope s h = str_found S one s h
head_is (Con c ts) S one added scope s h =
    datatype_known (slice_get S.cons c) s (and_parts (is_con_of (slice_get S.cons c) s) (have_sorts S added scope (fields_of (slice_get S.cons c)) ts) h).0
head_is (Sel c i t) S one added scope s h =
    sort_known (slice_get (fields_of (slice_get S.cons c)) i) s
    (and_parts (is_sort (slice_get (fields_of (slice_get S.cons c)) i) s) (has_sort S added scope (sort_of_con (slice_get S.cons c)) t) h).0
head_is (Plus t n) S one added scope s h = int_found S one s (and_parts (is_int (slice_get S.sorts s)) (has_sort S added scope s t) h).0

-- # Atoms and formulas

at_one : (S : Signature) (added : List NewConst) (scope : List ℕ) (o : Option ℕ) (a b : Tm) → have_one_sort S added scope o a b ≡ true
    → (s : ℕ) × (o ≡ Some s) × (has_sort S added scope s a ≡ true) × (has_sort S added scope s b ≡ true)
at_one S added scope None a b h = no h
at_one S added scope (Some s) a b h =
    let r = and_parts (has_sort S added scope s a) (has_sort S added scope s b) h in (s, refl, r.0, r.1)

of_one : (S : Signature) (added : List NewConst) (scope : List ℕ) (o : Option ℕ) (s : ℕ) (a b : Tm) → o ≡ Some s → has_sort S added scope s a ≡ true
    → has_sort S added scope s b ≡ true → have_one_sort S added scope o a b ≡ true
of_one S added scope o s a b e h k =
    subst (λ x. have_one_sort S added scope x a b ≡ true) (sym e) (and_from (has_sort S added scope s a) (has_sort S added scope s b) h k)

over_sorts : (S : Signature) (added : List NewConst) (scope : List ℕ) (o : Option (List ℕ)) (ts : Tms)
    → (at_sorts S added scope o ts ≡ true) ↔ ((sorts : List ℕ) × (o ≡ Some sorts) × (have_sorts S added scope sorts ts ≡ true))
over_sorts S added scope None ts = ((λ h. no h), λ r. absurd (nothing r.0 r.1))
  where
    nothing : (sorts : List ℕ) → None ≡ Some sorts → ⊥
    nothing sorts e = cc
over_sorts S added scope (Some sorts) ts = ((λ h. (sorts, refl, h)), λ r. subst (λ x. at_sorts S added scope x ts ≡ true) (sym r.1) r.2)

numbers_at : (S : Signature) → HasOneIntAndStr S → (added : List NewConst) (scope : List ℕ) (a b : Tm)
    → (have_one_sort S added scope (int_sort S) a b ≡ true) ↔ (IsNumber S added scope a × IsNumber S added scope b)
numbers_at S one added scope a b = (
  (λ h.
      let r = at_one S added scope (int_sort S) a b h in
      let i = int_is S r.0 r.1 in ((r.0, i, r.2), (r.0, i, r.3))),
  λ p.
      let e : p.1.0 ≡ p.0.0 = one_place is_int refl S.sorts one.ints p.1.0 p.0.0 p.1.1 p.0.1 in
      of_one S added scope (int_sort S) p.0.0 a b (int_found S one p.0.0 p.0.1) p.0.2 (subst (λ s. has_sort S added scope s b ≡ true) e p.1.2),
)

pub atom_exact : (a : At) (S : Signature) → HasOneIntAndStr S → (added : List NewConst) (scope : List ℕ)
    → (atom_test S added scope a ≡ true) ↔ IsSortedAtom S added scope a
atom_exact (Equal a b) S one added scope = (
  (λ h. let r = at_one S added scope (head_sort S added scope a) a b h in (r.0, r.2, r.3)),
  λ p. of_one S added scope (head_sort S added scope a) p.0 a b (head_is a S one added scope p.0 p.1) p.1 p.2,
)
atom_exact (Le a b k) S one added scope = numbers_at S one added scope a b
atom_exact (Rel r ts) S one added scope = over_sorts S added scope (slice_get S.rels r) ts

below_and : (s n : ℕ) (b : Bool) (P : Type 0) → (b ≡ true) ↔ P → (ltb s n && b ≡ true) ↔ ((s < n) × P)
below_and s n b P e = (
  (λ h. let r = and_parts (ltb s n) b h in (ltb-true s n r.0, e.0 r.1)),
  λ p. and_from (ltb s n) b (lt-ltb s n p.0) (e.1 p.1),
)

mutual
  pub sorts_exact : (f : Fm) (S : Signature) → HasOneIntAndStr S → (added : List NewConst) (scope : List ℕ)
      → (sort_test S added scope f ≡ true) ↔ IsSorted S added scope f
  sorts_exact (And fs) S one added scope = all_sorts_exact fs S one added scope
  sorts_exact (Or fs) S one added scope = all_sorts_exact fs S one added scope
  sorts_exact (All s f) S one added scope =
      below_and s (length S.sorts) (sort_test S added (s ∷ scope) f) (IsSorted S added (s ∷ scope) f) (sorts_exact f S one added (s ∷ scope))
  sorts_exact (Ex s f) S one added scope =
      below_and s (length S.sorts) (sort_test S added (s ∷ scope) f) (IsSorted S added (s ∷ scope) f) (sorts_exact f S one added (s ∷ scope))
  sorts_exact (Lit b a) S one added scope = atom_exact a S one added scope

  pub all_sorts_exact : (fs : Fms) (S : Signature) → HasOneIntAndStr S → (added : List NewConst) (scope : List ℕ)
      → (sort_tests S added scope fs ≡ true) ↔ AreSorted S added scope fs
  all_sorts_exact no_fm S one added scope = ((λ h. tt), λ h. refl)
  all_sorts_exact (also_fm f fs) S one added scope =
      let a = sorts_exact f S one added scope in
      let b = all_sorts_exact fs S one added scope in (
        (λ h. let r = and_parts (sort_test S added scope f) (sort_tests S added scope fs) h in (a.0 r.0, b.0 r.1)),
        λ p. and_from (sort_test S added scope f) (sort_tests S added scope fs) (a.1 p.0) (b.1 p.1),
      )

-- # Over a signature of the code

pub kept_ones : (sig : Sig) → HasOneIntAndStr (sig_view sig)
kept_ones sig =
    let S = sig_view sig in
    let most : Bool = are_of_sorts (length S.sorts) S.consts S.fns S.rels S.cons && has_one_int_and_str S.sorts in
    let a = and_parts (most && list_their_own S.cons 0 S.sorts) (are_listed S.sorts 0 S.cons) sig.kept in
    let b = and_parts most (list_their_own S.cons 0 S.sorts) a.0 in
    ones S (and_parts (are_of_sorts (length S.sorts) S.consts S.fns S.rels S.cons) (has_one_int_and_str S.sorts) b.0).1

pub well_sorted_exact : (sig : Sig) (b : Bool) (f : Fm) → b ≡ sort_test (sig_view sig) [] [] f → (b ≡ true) ↔ IsWellSorted (sig_view sig) f
well_sorted_exact sig b f e =
    let x = sorts_exact f (sig_view sig) (kept_ones sig) [] [] in ((λ h. x.0 (sym e ∙ h)), λ p. e ∙ x.1 p)
