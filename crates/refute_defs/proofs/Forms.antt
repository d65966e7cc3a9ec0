-- Formulas, terms and sorts by their forms.
use Rattle.std.proofs.Common.{◌≡◌, ℕ, ℤ, List, [], Bool, true, false, not, Option, Some, None, refl, ap, sym, subst, true≢false, slice_get}
use Rattle.std.specs.Prelude.{is_some}
use Rattle.std.proofs.lemmas.Option.{same_Some}
use Rattle.rp_logic.specs.declared.sort.Sort.{Sort}
use Rattle.rp_logic.specs.declared.sort.Sort.TheVariants as sort
use Rattle.rp_logic.specs.Terms.{Tm, Tms, Var, Const, Fn, Int, Str, Con, Sel, Plus, At, Equal, Le, Rel}
use Rattle.rp_logic.specs.Formulas.{Fm, Fms, And, Or, All, Ex, Lit}
use Rattle.rp_logic.specs.Signatures.{Signature, is_int}
use Rattle.rp_logic.specs.SortTests.{head_sort, at_sort}
use Rattle.rp_logic.proofs.SortLaws.{HasOneIntAndStr, head_is}
use Rattle.refute_defs.specs.Parts.{equal, at_most}
use Rattle.refute_defs.specs.Branches.{Branch}
use Rattle.refute_defs.specs.Children.{conjuncts, disjuncts, universal, existential, literal, equality, order, constant, built, are_opposite}
use Rattle.refute_defs.specs.NewTerms.{HasSort, IsTerm, IsNumberTerm, sort_of, is_term, is_number, declared_sort, datatype}
use Rattle.rp_logic.proofs.Options.{tested, test_is, then_is, and_then, some_of}
use Rattle.refute_defs.proofs.SameTerms.{at_is}

-- # Formulas

pub is_and : (f : Fm) (fs : Fms) → conjuncts f ≡ Some fs → f ≡ And fs
is_and (And gs) fs e = ap And (same_Some gs fs e)
is_and (Or gs) fs e = absurd cc
is_and (All s g) fs e = absurd cc
is_and (Ex s g) fs e = absurd cc
is_and (Lit b a) fs e = absurd cc

pub is_or : (f : Fm) (fs : Fms) → disjuncts f ≡ Some fs → f ≡ Or fs
is_or (And gs) fs e = absurd cc
is_or (Or gs) fs e = ap Or (same_Some gs fs e)
is_or (All s g) fs e = absurd cc
is_or (Ex s g) fs e = absurd cc
is_or (Lit b a) fs e = absurd cc

pub is_all : (f : Fm) (x : ℕ × Fm) → universal f ≡ Some x → f ≡ All x.0 x.1
is_all (And gs) x e = absurd cc
is_all (Or gs) x e = absurd cc
is_all (All s g) x e = ap (λ y. All y.0 y.1) (same_Some (s, g) x e)
is_all (Ex s g) x e = absurd cc
is_all (Lit b a) x e = absurd cc

pub is_ex : (f : Fm) (x : ℕ × Fm) → existential f ≡ Some x → f ≡ Ex x.0 x.1
is_ex (And gs) x e = absurd cc
is_ex (Or gs) x e = absurd cc
is_ex (All s g) x e = absurd cc
is_ex (Ex s g) x e = ap (λ y. Ex y.0 y.1) (same_Some (s, g) x e)
is_ex (Lit b a) x e = absurd cc

pub is_lit : (f : Fm) (x : Bool × At) → literal f ≡ Some x → f ≡ Lit x.0 x.1
is_lit (And gs) x e = absurd cc
is_lit (Or gs) x e = absurd cc
is_lit (All s g) x e = absurd cc
is_lit (Ex s g) x e = absurd cc
is_lit (Lit b a) x e = ap (λ y. Lit y.0 y.1) (same_Some (b, a) x e)

pub is_equal : (f : Fm) (x : Tm × Tm) → equality f ≡ Some x → f ≡ equal x.0 x.1
is_equal (And gs) x e = absurd cc
is_equal (Or gs) x e = absurd cc
is_equal (All s g) x e = absurd cc
is_equal (Ex s g) x e = absurd cc
is_equal (Lit true (Equal a b)) x e = ap (λ y. equal y.0 y.1) (same_Some (a, b) x e)
is_equal (Lit true (Le a b k)) x e = absurd cc
is_equal (Lit true (Rel r ts)) x e = absurd cc
is_equal (Lit false a) x e = absurd cc

pub is_order : (f : Fm) (x : Tm × Tm × ℤ) → order true f ≡ Some x → f ≡ at_most x.0 x.1 x.2
is_order (And gs) x e = absurd cc
is_order (Or gs) x e = absurd cc
is_order (All s g) x e = absurd cc
is_order (Ex s g) x e = absurd cc
is_order (Lit true (Equal a b)) x e = absurd cc
is_order (Lit true (Le a b k)) x e = ap (λ y. at_most y.0 y.1 y.2) (same_Some (a, b, k) x e)
is_order (Lit true (Rel r ts)) x e = absurd cc
is_order (Lit false a) x e = absurd cc

pub is_no_order : (f : Fm) (x : Tm × Tm × ℤ) → order false f ≡ Some x
    → f ≡ Lit false (Le x.0 x.1 x.2)
is_no_order (And gs) x e = absurd cc
is_no_order (Or gs) x e = absurd cc
is_no_order (All s g) x e = absurd cc
is_no_order (Ex s g) x e = absurd cc
is_no_order (Lit false (Equal a b)) x e = absurd cc
is_no_order (Lit false (Le a b k)) x e =
    ap (λ y. Lit false (Le y.0 y.1 y.2)) (same_Some (a, b, k) x e)
is_no_order (Lit false (Rel r ts)) x e = absurd cc
is_no_order (Lit true a) x e = absurd cc

pub opposite : (f g : Fm) → are_opposite f g ≡ true
    → (sign : Bool) × (a : At) × (f ≡ Lit sign a) × (g ≡ Lit (not sign) a)
opposite (Lit true a) (Lit false c) e = (true, a, refl, ap (λ x. Lit false x) (sym (at_is a c e)))
opposite (Lit false a) (Lit true c) e = (false, a, refl, ap (λ x. Lit true x) (sym (at_is a c e)))
opposite (Lit true a) (Lit true c) e = absurd (true≢false (sym e))
opposite (Lit false a) (Lit false c) e = absurd (true≢false (sym e))
opposite (Lit true a) (And gs) e = absurd (true≢false (sym e))
opposite (Lit true a) (Or gs) e = absurd (true≢false (sym e))
opposite (Lit true a) (All s g) e = absurd (true≢false (sym e))
opposite (Lit true a) (Ex s g) e = absurd (true≢false (sym e))
opposite (Lit false a) (And gs) e = absurd (true≢false (sym e))
opposite (Lit false a) (Or gs) e = absurd (true≢false (sym e))
opposite (Lit false a) (All s g) e = absurd (true≢false (sym e))
opposite (Lit false a) (Ex s g) e = absurd (true≢false (sym e))
opposite (And fs) g e = absurd (true≢false (sym e))
opposite (Or fs) g e = absurd (true≢false (sym e))
opposite (All s f) g e = absurd (true≢false (sym e))
opposite (Ex s f) g e = absurd (true≢false (sym e))

-- # Terms

pub is_const : (t : Tm) (c : ℕ) → constant t ≡ Some c → t ≡ Const c
is_const (Var n) c e = absurd cc
is_const (Const d) c e = ap Const (same_Some d c e)
is_const (Fn f ts) c e = absurd cc
is_const (Int n) c e = absurd cc
is_const (Str b) c e = absurd cc
is_const (Con d ts) c e = absurd cc
is_const (Sel d i t) c e = absurd cc
is_const (Plus t n) c e = absurd cc

pub is_con : (t : Tm) (x : ℕ × Tms) → built t ≡ Some x → t ≡ Con x.0 x.1
is_con (Var n) x e = absurd cc
is_con (Const d) x e = absurd cc
is_con (Fn f ts) x e = absurd cc
is_con (Int n) x e = absurd cc
is_con (Str b) x e = absurd cc
is_con (Con d ts) x e = ap (λ y. Con y.0 y.1) (same_Some (d, ts) x e)
is_con (Sel d i t) x e = absurd cc
is_con (Plus t n) x e = absurd cc

-- # Sorts

known_at : (S : Signature) (b : Branch) (o : Option ℕ) (t : Tm) (s : ℕ)
    → at_sort S b.added [] o t ≡ true → o ≡ Some s → HasSort S b s t
known_at S b o t s h e = subst (λ x. at_sort S b.added [] x t ≡ true) e h

pub sort_is : (S : Signature) (b : Branch) (t : Tm) (s : ℕ) → sort_of S b t ≡ Some s
    → HasSort S b s t
sort_is S b t s e = let h = tested _ _ _ e in known_at S b (head_sort S b.added [] t) t s h.0 h.1

pub is_sort_of : (S : Signature) → HasOneIntAndStr S → (b : Branch) (t : Tm) (s : ℕ)
    → HasSort S b s t → sort_of S b t ≡ Some s
is_sort_of S one b t s h =
    let e = head_is t S one b.added [] s h in
    test_is _ _ _ (subst (λ o. at_sort S b.added [] o t ≡ true) (sym e) h) e

pub term_is : (S : Signature) (b : Branch) (t : Tm) → is_term S b t ≡ true → IsTerm S b t
term_is S b t h = let s = some_of _ h in (s.0, sort_is S b t s.0 s.1)

pub is_a_term : (S : Signature) → HasOneIntAndStr S → (b : Branch) (t : Tm) → IsTerm S b t
    → is_term S b t ≡ true
is_a_term S one b t h = ap is_some (is_sort_of S one b t h.0 h.1)

pub declared_is : (S : Signature) (b : Branch) (t : Tm) (x : Sort) → declared_sort S b t ≡ Some x
    → (s : ℕ) × (slice_get S.sorts s ≡ Some x) × HasSort S b s t
declared_is S b t x e = let a = and_then _ _ _ e in (a.0, a.2, sort_is S b t a.0 a.1)

pub is_declared : (S : Signature) → HasOneIntAndStr S → (b : Branch) (t : Tm) (s : ℕ) (x : Sort)
    → HasSort S b s t → slice_get S.sorts s ≡ Some x → declared_sort S b t ≡ Some x
is_declared S one b t s x h e = then_is _ _ _ _ (is_sort_of S one b t s h) e

pub is_data : (o : Option Sort) (cons : List ℕ) → datatype o ≡ Some cons
    → o ≡ Some (sort.Datatype cons)
is_data (Some (sort.Datatype ds)) cons e = ap (λ x. Some (sort.Datatype x)) (same_Some ds cons e)
is_data (Some sort.Plain) cons e = absurd cc
is_data (Some sort.Int) cons e = absurd cc
is_data (Some sort.Str) cons e = absurd cc
is_data None cons e = absurd cc

int_known : (o : Option Sort) → is_int o ≡ true → o ≡ Some sort.Int
int_known (Some sort.Int) h = refl
int_known (Some sort.Plain) h = absurd (true≢false (sym h))
int_known (Some sort.Str) h = absurd (true≢false (sym h))
int_known (Some (sort.Datatype cons)) h = absurd (true≢false (sym h))
int_known None h = absurd (true≢false (sym h))

pub number_is : (S : Signature) (b : Branch) (t : Tm) → is_number S b t ≡ true → IsNumberTerm S b t
number_is S b t h =
    let d = declared_is S b t sort.Int (int_known (declared_sort S b t) h) in
    (d.0, ap is_int d.1, d.2)

pub is_a_number : (S : Signature) → HasOneIntAndStr S → (b : Branch) (t : Tm) → IsNumberTerm S b t
    → is_number S b t ≡ true
is_a_number S one b t h =
    ap is_int (is_declared S one b t h.0 sort.Int h.2 (int_known (slice_get S.sorts h.0) h.1))
