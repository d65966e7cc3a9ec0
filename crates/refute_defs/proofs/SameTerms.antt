-- The tests for equal terms and atoms.
use Rattle.std.proofs.Common.{◌≡◌, ℕ, ℤ, List, true, refl, ap, ap₂, subst, eqb-true, eq-eqb}
use Rattle.std.specs.Ordering.{int_eq}
use Rattle.std.specs.Str.{bytes_eq}
use Rattle.std.proofs.lemmas.Bool.Decides.{Decides-int_eq}
use Rattle.std.proofs.lemmas.Slice.Eq.{bytes_eq-Decides}
use Rattle.std.proofs.lemmas.Bool.{and_parts, and_from}
use Rattle.rp_logic.specs.Terms.{Tm, Tms, Var, Const, Fn, Int, Str, Con, Sel, Plus, no_tm, also_tm, At, Equal, Le, Rel}
use Rattle.rp_logic.proofs.SortLaws.{no}
use Rattle.refute_defs.specs.Same.{same_tm, same_tms, same_at}

ap₃ : {A B C D : Type 0} {a b : A} {x y : B} {m n : C} (f : A → B → C → D) → a ≡ b → x ≡ y → m ≡ n
    → f a x m ≡ f b y n
ap₃ f p q r = λ i. f (p i) (q i) (r i)

-- # What passes is equal

pub same_int : (m n : ℤ) → int_eq m n ≡ true → m ≡ n
same_int m n h = (Decides-int_eq m n).0 h

pub same_text : (a b : List ℕ) → bytes_eq a b ≡ true → a ≡ b
same_text a b h = (bytes_eq-Decides a b).0 h

mutual
  pub tm_is : (t u : Tm) → same_tm t u ≡ true → t ≡ u
  tm_is (Var m) (Var n) h = ap Var (eqb-true m n h)
  tm_is (Var m) _ h = no h
  tm_is (Const m) (Const n) h = ap Const (eqb-true m n h)
  tm_is (Const m) _ h = no h
  tm_is (Fn f ts) (Fn g us) h =
      let b = and_parts _ _ h in
      ap₂ Fn (eqb-true f g b.0) (tms_are ts us b.1)
  tm_is (Fn f ts) _ h = no h
  tm_is (Int m) (Int n) h = ap Int (same_int m n h)
  tm_is (Int m) _ h = no h
  tm_is (Str a) (Str b) h = ap Str (same_text a b h)
  tm_is (Str a) _ h = no h
  tm_is (Con c ts) (Con d us) h =
      let b = and_parts _ _ h in
      ap₂ Con (eqb-true c d b.0) (tms_are ts us b.1)
  tm_is (Con c ts) _ h = no h
  tm_is (Sel c i t) (Sel d j u) h =
      let a = and_parts _ _ h in
      let b = and_parts _ _ a.0 in
      ap₃ Sel (eqb-true c d b.0) (eqb-true i j b.1) (tm_is t u a.1)
  tm_is (Sel c i t) _ h = no h
  tm_is (Plus t m) (Plus u n) h =
      let b = and_parts _ _ h in
      ap₂ Plus (tm_is t u b.1) (same_int m n b.0)
  tm_is (Plus t m) _ h = no h

  pub tms_are : (ts us : Tms) → same_tms ts us ≡ true → ts ≡ us
  tms_are no_tm no_tm h = refl
  tms_are no_tm (also_tm u us) h = no h
  tms_are (also_tm t ts) no_tm h = no h
  tms_are (also_tm t ts) (also_tm u us) h =
      let b = and_parts _ _ h in
      ap₂ also_tm (tm_is t u b.0) (tms_are ts us b.1)

pub at_is : (a b : At) → same_at a b ≡ true → a ≡ b
at_is (Equal a b) (Equal c d) h =
    let e = and_parts _ _ h in
    ap₂ Equal (tm_is a c e.0) (tm_is b d e.1)
at_is (Equal a b) _ h = no h
at_is (Le a b k) (Le c d l) h =
    let e = and_parts _ _ h in
    let f = and_parts _ _ e.0 in
    ap₃ Le (tm_is a c f.1) (tm_is b d e.1) (same_int k l f.0)
at_is (Le a b k) _ h = no h
at_is (Rel r ts) (Rel s us) h =
    let e = and_parts _ _ h in
    ap₂ Rel (eqb-true r s e.0) (tms_are ts us e.1)
at_is (Rel r ts) _ h = no h

-- # What is equal passes

pub int_itself : (m : ℤ) → int_eq m m ≡ true
int_itself m = (Decides-int_eq m m).1 refl

pub text_itself : (a : List ℕ) → bytes_eq a a ≡ true
text_itself a = (bytes_eq-Decides a a).1 refl

mutual
  pub tm_itself : (t : Tm) → same_tm t t ≡ true
  tm_itself (Var n) = eq-eqb n n refl
  tm_itself (Const c) = eq-eqb c c refl
  tm_itself (Fn f ts) = and_from _ _ (eq-eqb f f refl) (tms_itself ts)
  tm_itself (Int n) = int_itself n
  tm_itself (Str a) = text_itself a
  tm_itself (Con c ts) = and_from _ _ (eq-eqb c c refl) (tms_itself ts)
  tm_itself (Sel c i t) =
      and_from _ _ (and_from _ _ (eq-eqb c c refl) (eq-eqb i i refl)) (tm_itself t)
  tm_itself (Plus t n) = and_from _ _ (int_itself n) (tm_itself t)

  pub tms_itself : (ts : Tms) → same_tms ts ts ≡ true
  tms_itself no_tm = refl
  tms_itself (also_tm t ts) = and_from _ _ (tm_itself t) (tms_itself ts)

pub at_itself : (a : At) → same_at a a ≡ true
at_itself (Equal a b) = and_from _ _ (tm_itself a) (tm_itself b)
at_itself (Le a b k) =
    and_from _ _ (and_from _ _ (int_itself k) (tm_itself a)) (tm_itself b)
at_itself (Rel r ts) = and_from _ _ (eq-eqb r r refl) (tms_itself ts)

pub is_tm : (t u : Tm) → t ≡ u → same_tm t u ≡ true
is_tm t u e = subst (λ x. same_tm t x ≡ true) e (tm_itself t)

pub is_at : (a b : At) → a ≡ b → same_at a b ≡ true
is_at a b e = subst (λ x. same_at a x ≡ true) e (at_itself a)
