-- What formulas put together mean.
use Rattle.std.proofs.Common.{◌≡◌, ℕ, zero, suc, ◌+◌, List, [], ◌∷◌, slice_get, Bool, true, false, cond, Some, ◌↔◌, sym, refl, ◌∙◌, subst, true≢false, arith}
use Rattle.std.proofs.lemmas.Option.{none-some, same_Some}
use Rattle.rp_logic.specs.Formulas.{Fm, Fms, no_fm, also_fm}
use Rattle.rp_logic.specs.Elements.{Elem}
use Rattle.rp_logic.specs.Truth.{Meaning, Holds, AllHold, NoneHolds}
use Rattle.rp_logic.proofs.DualLaws.{stable}
use Rattle.rp_lang.specs.declared.op.OpDecl.{OpDecl}
use Rattle.crdt_enc.specs.Builders.{all_of, any_of, for_each}

pub all-of : (fs : Fms) (M : Meaning) (vars : List Elem) → Holds M vars (all_of fs) ↔ AllHold M vars fs
all-of no_fm M vars = ((λ h. h), λ h. h)
all-of (also_fm f no_fm) M vars = ((λ h. (h, tt)), λ h. h.0)
all-of (also_fm f (also_fm g fs)) M vars = ((λ h. h), λ h. h)

pub any-of : (fs : Fms) (M : Meaning) (vars : List Elem) → Holds M vars (any_of fs) ↔ (¬ NoneHolds M vars fs)
any-of no_fm M vars = ((λ h. h), λ h. h)
any-of (also_fm f no_fm) M vars = ((λ h k. k.0 h), λ h. stable f M vars (λ k. h (k, tt)))
any-of (also_fm f (also_fm g fs)) M vars = ((λ h. h), λ h. h)

-- # One formula for each operation

abbrev pub EachOp : (OpDecl → Bool) → ℕ → List OpDecl → (ℕ → OpDecl → Type 0) → Type 0
EachOp test o decls P = (k : ℕ) (decl : OpDecl) → slice_get decls k ≡ Some decl → test decl ≡ true → P (o + k) decl

each-later : (test : OpDecl → Bool) (o : ℕ) (decl : OpDecl) (decls : List OpDecl) (P : ℕ → OpDecl → Type 0) → EachOp test o (decl ∷ decls) P → EachOp test (suc o) decls P
each-later test o decl decls P h k d e t = subst (λ n. P n d) (let q : o + suc k ≡ suc o + k = omega arith in q) (h (suc k) d e t)

each-first : (test : OpDecl → Bool) (o : ℕ) (decl : OpDecl) (decls : List OpDecl) (P : ℕ → OpDecl → Type 0) → EachOp test o (decl ∷ decls) P → test decl ≡ true → P o decl
each-first test o decl decls P h t = subst (λ n. P n decl) (let q : o + 0 ≡ o = omega arith in q) (h 0 decl refl t)

each-put : (test : OpDecl → Bool) (o : ℕ) (decl : OpDecl) (decls : List OpDecl) (P : ℕ → OpDecl → Type 0) → (test decl ≡ true → P o decl) → EachOp test (suc o) decls P
    → EachOp test o (decl ∷ decls) P
each-put test o decl decls P f h zero d e t =
    let s : decl ≡ d = same_Some decl d e in
    subst (λ x. P (o + 0) x) s (subst (λ n. P n decl) (let q : o ≡ o + 0 = omega arith in q) (f (subst (λ x. test x ≡ true) (sym s) t)))
each-put test o decl decls P f h (suc k) d e t = subst (λ n. P n d) (let q : suc o + k ≡ o + suc k = omega arith in q) (h k d e t)

never : (test : OpDecl → Bool) (decl : OpDecl) (P : Type 0) → test decl ≡ false → test decl ≡ true → P
never test decl P e t = absurd (true≢false (sym t ∙ e))

pub for-each-all : (test : OpDecl → Bool) (make : ℕ → OpDecl → Fm) (o : ℕ) (decls : List OpDecl) (M : Meaning) (vars : List Elem)
    → AllHold M vars (for_each test make o decls) ↔ EachOp test o decls (λ k decl. Holds M vars (make k decl))
for-each-all test make o [] M vars = ((λ h k d e t. absurd (none-some d e)), λ h. tt)
for-each-all test make o (decl ∷ decls) M vars = go (test decl) refl (for-each-all test make (suc o) decls M vars)
  where
    Q : ℕ → OpDecl → Type 0
    Q k d = Holds M vars (make k d)

    go : (b : Bool) → test decl ≡ b → AllHold M vars (for_each test make (suc o) decls) ↔ EachOp test (suc o) decls (λ k d. Holds M vars (make k d))
        → AllHold M vars (cond b (also_fm (make o decl) (for_each test make (suc o) decls)) (for_each test make (suc o) decls))
        ↔ EachOp test o (decl ∷ decls) (λ k d. Holds M vars (make k d))
    go true e r = (
      (λ h. each-put test o decl decls (λ k d. Holds M vars (make k d)) (λ t. h.0) (r.0 h.1)),
      λ h. (each-first test o decl decls (λ k d. Holds M vars (make k d)) h e, r.1 (each-later test o decl decls (λ k d. Holds M vars (make k d)) h)),
    )
    go false e r = (
      (λ h. each-put test o decl decls (λ k d. Holds M vars (make k d)) (never test decl (Holds M vars (make o decl)) e) (r.0 h)),
      λ h. r.1 (each-later test o decl decls (λ k d. Holds M vars (make k d)) h),
    )

pub for-each-none : (test : OpDecl → Bool) (make : ℕ → OpDecl → Fm) (o : ℕ) (decls : List OpDecl) (M : Meaning) (vars : List Elem)
    → NoneHolds M vars (for_each test make o decls) ↔ EachOp test o decls (λ k decl. ¬ Holds M vars (make k decl))
for-each-none test make o [] M vars = ((λ h k d e t. absurd (none-some d e)), λ h. tt)
for-each-none test make o (decl ∷ decls) M vars = go (test decl) refl (for-each-none test make (suc o) decls M vars)
  where
    go : (b : Bool) → test decl ≡ b → NoneHolds M vars (for_each test make (suc o) decls) ↔ EachOp test (suc o) decls (λ k d. ¬ Holds M vars (make k d))
        → NoneHolds M vars (cond b (also_fm (make o decl) (for_each test make (suc o) decls)) (for_each test make (suc o) decls))
        ↔ EachOp test o (decl ∷ decls) (λ k d. ¬ Holds M vars (make k d))
    go true e r = (
      (λ h. each-put test o decl decls (λ k d. ¬ Holds M vars (make k d)) (λ t. h.0) (r.0 h.1)),
      λ h. (each-first test o decl decls (λ k d. ¬ Holds M vars (make k d)) h e, r.1 (each-later test o decl decls (λ k d. ¬ Holds M vars (make k d)) h)),
    )
    go false e r = (
      (λ h. each-put test o decl decls (λ k d. ¬ Holds M vars (make k d)) (never test decl (¬ Holds M vars (make o decl)) e) (r.0 h)),
      λ h. r.1 (each-later test o decl decls (λ k d. ¬ Holds M vars (make k d)) h),
    )

from-zero : (test : OpDecl → Bool) (decls : List OpDecl) (P : ℕ → OpDecl → Type 0)
    → EachOp test 0 decls P ↔ ((k : ℕ) (decl : OpDecl) → slice_get decls k ≡ Some decl → test decl ≡ true → P k decl)
from-zero test decls P = (
  (λ h k d e t. subst (λ n. P n d) (let q : 0 + k ≡ k = omega arith in q) (h k d e t)),
  λ h k d e t. subst (λ n. P n d) (let q : k ≡ 0 + k = omega arith in q) (h k d e t),
)

pub all-ops : (test : OpDecl → Bool) (make : ℕ → OpDecl → Fm) (decls : List OpDecl) (M : Meaning) (vars : List Elem)
    → AllHold M vars (for_each test make 0 decls) ↔ ((k : ℕ) (decl : OpDecl) → slice_get decls k ≡ Some decl → test decl ≡ true → Holds M vars (make k decl))
all-ops test make decls M vars =
    let a = for-each-all test make 0 decls M vars in
    let b = from-zero test decls (λ k decl. Holds M vars (make k decl)) in ((λ h. b.0 (a.0 h)), λ h. a.1 (b.1 h))

pub no-ops : (test : OpDecl → Bool) (make : ℕ → OpDecl → Fm) (decls : List OpDecl) (M : Meaning) (vars : List Elem)
    → NoneHolds M vars (for_each test make 0 decls) ↔ ((k : ℕ) (decl : OpDecl) → slice_get decls k ≡ Some decl → test decl ≡ true → ¬ Holds M vars (make k decl))
no-ops test make decls M vars =
    let a = for-each-none test make 0 decls M vars in
    let b = from-zero test decls (λ k decl. ¬ Holds M vars (make k decl)) in ((λ h. b.0 (a.0 h)), λ h. a.1 (b.1 h))
