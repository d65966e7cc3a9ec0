-- Terms that are listed, formula by formula.
use Rattle.std.proofs.Common.{◌≡◌, ℕ, zero, suc, ◌+◌, List, [], ◌∷◌, ◌++◌, map, drop, length, replicate, slice_get, Some, Bool, true, false, ◌&&◌, refl, ap, ap₂, sym, ◌∙◌, append_assoc, arith}
use Rattle.std.specs.Prelude.{zip}
use Rattle.std.specs.List.{list_all}
use Rattle.std.proofs.lemmas.List.{length-map, length-append}
use Rattle.rp_logic.specs.declared.formula.Fml.{Fml}
use Rattle.rp_logic.specs.Terms.{Tm}
use Rattle.rp_logic.specs.Formulas.{Fm}
use Rattle.rp_logic.specs.Views.{formula_view}
use Rattle.refute_defs.specs.Branches as branches
use Rattle.refute_defs.specs.Views.{given_view}
use Rattle.refute_branch.specs.Views.{branch_view}
use Rattle.spent_defs.specs.Standing.{terms_of}
use Rattle.spent_defs.specs.Ranks.{root}
use Rattle.spent_tests.specs.declared.branch.RankedBranch.{RankedBranch}
use Rattle.spent_tests.specs.Views.{ranked_view, standing_view, with_rank, terms_with_ranks, IsListed}

-- # Pairs

first_left : {A : Type 0} (n : ℕ) (xs : List A) (x : A) → slice_get xs n ≡ Some x
    → drop n xs ≡ x ∷ drop (suc n) xs
first_left n [] x e = absurd cc
first_left zero (y ∷ xs) x e = ap (λ z. z ∷ xs) cc
first_left (suc n) (y ∷ xs) x e = first_left n xs x e

pub next_pair : (fs : List Fml) (rs : List ℕ) (p : ℕ) (f : Fml) (r : ℕ)
    → slice_get fs p ≡ Some f → slice_get rs p ≡ Some r
    → zip (map formula_view (drop p fs)) (drop p rs)
    ≡ (formula_view f, r) ∷ zip (map formula_view (drop (p + 1) fs)) (drop (p + 1) rs)
next_pair fs rs p f r e g =
    let one : suc p ≡ p + 1 = omega arith in
    ap₂ (λ gs qs. zip (map formula_view gs) qs) (first_left p fs f e) (first_left p rs r g)
    ∙ ap (λ k. (formula_view f, r) ∷ zip (map formula_view (drop k fs)) (drop k rs)) one

-- a test of each pair, from the next one on
pub next_tested : (q : (Fm × ℕ) → Bool) (fs : List Fml) (rs : List ℕ) (p : ℕ) (f : Fml) (r : ℕ)
    (whole : Bool) → whole ≡ list_all q (zip (map formula_view (drop p fs)) (drop p rs))
    → slice_get fs p ≡ Some f → slice_get rs p ≡ Some r
    → whole ≡ q (formula_view f, r)
    && list_all q (zip (map formula_view (drop (p + 1) fs)) (drop (p + 1) rs))
next_tested q fs rs p f r whole e h g = e ∙ ap (list_all q) (next_pair fs rs p f r h g)

pub next_fails : (q : (Fm × ℕ) → Bool) (fs : List Fml) (rs : List ℕ) (p : ℕ) (f : Fml) (r : ℕ)
    (whole is : Bool) → whole ≡ list_all q (zip (map formula_view (drop p fs)) (drop p rs))
    → slice_get fs p ≡ Some f → slice_get rs p ≡ Some r → is ≡ q (formula_view f, r) → is ≡ false
    → false ≡ whole
next_fails q fs rs p f r whole is e h g met fails =
    sym (next_tested q fs rs p f r whole e h g
    ∙ ap (λ b. b && list_all q (zip (map formula_view (drop (p + 1) fs)) (drop (p + 1) rs)))
    (sym met ∙ fails))

pub next_passes : (q : (Fm × ℕ) → Bool) (fs : List Fml) (rs : List ℕ) (p : ℕ) (f : Fml) (r : ℕ)
    (whole is : Bool) → whole ≡ list_all q (zip (map formula_view (drop p fs)) (drop p rs))
    → slice_get fs p ≡ Some f → slice_get rs p ≡ Some r → is ≡ q (formula_view f, r) → is ≡ true
    → whole ≡ list_all q (zip (map formula_view (drop (p + 1) fs)) (drop (p + 1) rs))
next_passes q fs rs p f r whole is e h g met passes =
    next_tested q fs rs p f r whole e h g
    ∙ ap (λ b. b && list_all q (zip (map formula_view (drop (p + 1) fs)) (drop (p + 1) rs)))
    (sym met ∙ passes)

-- # Terms

pub listed_next : (fs : List Fml) (rs : List ℕ) (p : ℕ) (f : Fml) (r : ℕ)
    (old new whole : List (Tm × ℕ))
    → whole ≡ old ++ terms_with_ranks (zip (map formula_view (drop p fs)) (drop p rs))
    → slice_get fs p ≡ Some f → slice_get rs p ≡ Some r
    → new ≡ old ++ with_rank r (terms_of (formula_view f))
    → whole ≡ new ++ terms_with_ranks (zip (map formula_view (drop (p + 1) fs)) (drop (p + 1) rs))
listed_next fs rs p f r old new whole e h g more =
    let rest = terms_with_ranks (zip (map formula_view (drop (p + 1) fs)) (drop (p + 1) rs)) in
    e ∙ ap (λ xs. old ++ terms_with_ranks xs) (next_pair fs rs p f r h g)
    ∙ sym (append_assoc old (with_rank r (terms_of (formula_view f))) rest)
    ∙ ap (λ xs. xs ++ rest) (sym more)

append_none : {A : Type 0} (xs : List A) → xs ++ [] ≡ xs
append_none [] = refl
append_none (x ∷ xs) = ap (λ ys. x ∷ ys) (append_none xs)

terms_pushed : (fs : List Fml) (rs : List ℕ) (f : Fml) (r : ℕ) → length rs ≡ length fs
    → terms_with_ranks (zip (map formula_view (fs ++ f ∷ [])) (rs ++ r ∷ []))
    ≡ terms_with_ranks (zip (map formula_view fs) rs) ++ with_rank r (terms_of (formula_view f))
terms_pushed [] [] f r e = append_none (with_rank r (terms_of (formula_view f)))
terms_pushed [] (q ∷ rs) f r e = absurd (omega (arith, e))
terms_pushed (g ∷ fs) [] f r e = absurd (omega (arith, e))
terms_pushed (g ∷ fs) (q ∷ rs) f r e =
    ap (λ xs. with_rank q (terms_of (formula_view g)) ++ xs)
    (terms_pushed fs rs f r (omega (arith, e)))
    ∙ sym (append_assoc (with_rank q (terms_of (formula_view g)))
    (terms_with_ranks (zip (map formula_view fs) rs)) (with_rank r (terms_of (formula_view f))))

pub listed_more : (b a : RankedBranch) (f : Fml) (r : ℕ) → IsListed b
    → a.branch.formulas ≡ b.branch.formulas ++ f ∷ [] → a.ranks ≡ b.ranks ++ r ∷ []
    → map standing_view a.standing
    ≡ map standing_view b.standing ++ with_rank r (terms_of (formula_view f))
    → IsListed a
listed_more b a f r h fs rs ss =
    let n = h.ranks in
    record {
      ranks = ap length rs ∙ length-append b.ranks (r ∷ []) ∙ ap (λ k. k + 1) n
          ∙ sym (length-append b.branch.formulas (f ∷ [])) ∙ sym (ap length fs);
      standing = ss ∙ ap (λ xs. xs ++ with_rank r (terms_of (formula_view f))) h.standing
          ∙ sym (terms_pushed b.branch.formulas b.ranks f r n)
          ∙ ap₂ (λ gs qs. terms_with_ranks (zip (map formula_view gs) qs)) (sym fs) (sym rs);
    }

pub started_ranked : (b : RankedBranch) (given : List Fml) (n : ℕ)
    → branch_view b.branch ≡ branches.root (given_view given)
    → b.ranks ≡ replicate n 0 → n ≡ length b.branch.formulas
    → ranked_view b ≡ root (given_view given)
started_ranked b given n e d k =
    let fs : map formula_view b.branch.formulas ≡ given_view given = ap (λ x. x.formulas) e in
    let l : n ≡ length (given_view given) =
    k ∙ sym (length-map b.branch.formulas formula_view) ∙ ap length fs in
    let rs : b.ranks ≡ replicate (length (given_view given)) 0 = d ∙ ap (λ m. replicate m 0) l in
    (λ i. record { branch = e i; ranks = rs i })
