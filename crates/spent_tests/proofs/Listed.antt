-- What is listed are the terms that stand on the branch, with their ranks.
use Rattle.std.proofs.Common.{◌≡◌, ℕ, List, [], ◌∷◌, ◌++◌, map, length, Bool, true, false, ◌||◌, cond, refl, ap, sym, ◌∙◌, arith}
use Rattle.std.specs.Prelude.{flat_map, zip}
use Rattle.std.proofs.lemmas.List.{length-map}
use Rattle.rp_logic.specs.Terms.{Tm}
use Rattle.rp_logic.specs.Formulas.{Fm}
use Rattle.rp_logic.specs.Views.{term_view, formula_view}
use Rattle.refute_defs.specs.Same.{same_tm}
use Rattle.refute_branch.specs.Views.{branch_view}
use Rattle.spent_defs.specs.Standing.{terms_of, standing, is_among}
use Rattle.spent_defs.specs.Ranks.{ranked, first_rank, term_rank}
use Rattle.spent_tests.specs.declared.standing.Standing.{Standing}
use Rattle.spent_tests.specs.declared.branch.RankedBranch.{RankedBranch}
use Rattle.spent_tests.specs.means.Among.{rank_among}
use Rattle.spent_tests.specs.Views.{ranked_view, standing_view, only_terms, with_rank, terms_with_ranks, IsListed}

-- # The terms

only_firsts : (ss : List Standing) → only_terms ss ≡ map (λ x. x.0) (map standing_view ss)
only_firsts [] = refl
only_firsts (s ∷ ss) = ap (λ ts. term_view s.term ∷ ts) (only_firsts ss)

without_rank : (r : ℕ) (ts : List Tm) → map (λ x. x.0) (with_rank r ts) ≡ ts
without_rank r [] = refl
without_rank r (t ∷ ts) = ap (λ us. t ∷ us) (without_rank r ts)

map_append : {A B : Type 0} (f : A → B) (xs ys : List A) → map f (xs ++ ys) ≡ map f xs ++ map f ys
map_append f [] ys = refl
map_append f (x ∷ xs) ys = ap (λ zs. f x ∷ zs) (map_append f xs ys)

terms_alone : (fs : List Fm) (rs : List ℕ) → length rs ≡ length fs
    → map (λ x. x.0) (terms_with_ranks (zip fs rs)) ≡ flat_map terms_of fs
terms_alone [] rs e = refl
terms_alone (f ∷ fs) [] e = absurd (omega (arith, e))
terms_alone (f ∷ fs) (r ∷ rs) e =
    map_append (λ x. x.0) (with_rank r (terms_of f)) (terms_with_ranks (zip fs rs))
    ∙ ap (λ ts. ts ++ map (λ x. x.0) (terms_with_ranks (zip fs rs))) (without_rank r (terms_of f))
    ∙ ap (λ ts. terms_of f ++ ts) (terms_alone fs rs (omega (arith, e)))

pub standing_is : (b : RankedBranch) → IsListed b → standing (branch_view b.branch) ≡ only_terms b.standing
standing_is b h =
    sym (only_firsts b.standing ∙ ap (map (λ x. x.0)) h.standing
    ∙ terms_alone (map formula_view b.branch.formulas) b.ranks
    (h.ranks ∙ sym (length-map b.branch.formulas formula_view)))

-- # Their ranks

rank_before : (t : Tm) (r : ℕ) (ts : List Tm) (xs : List (Tm × ℕ))
    → rank_among t (with_rank r ts ++ xs) ≡ cond (is_among ts t) r (rank_among t xs)
rank_before t r [] xs = refl
rank_before t r (u ∷ ts) xs = go (same_tm t u) (rank_before t r ts xs)
  where
    go : (b : Bool) → rank_among t (with_rank r ts ++ xs) ≡ cond (is_among ts t) r (rank_among t xs)
        → cond b r (rank_among t (with_rank r ts ++ xs)) ≡ cond (b || is_among ts t) r (rank_among t xs)
    go true e = refl
    go false e = e

first_among : (t : Tm) (fs : List (Fm × ℕ)) → first_rank t fs ≡ rank_among t (terms_with_ranks fs)
first_among t [] = refl
first_among t (x ∷ fs) =
    ap (λ n. cond (is_among (terms_of x.0) t) x.1 n) (first_among t fs)
    ∙ sym (rank_before t x.1 (terms_of x.0) (terms_with_ranks fs))

pub rank_is : (b : RankedBranch) (t : Tm) → IsListed b
    → term_rank (ranked_view b) t ≡ rank_among t (map standing_view b.standing)
rank_is b t h = first_among t (ranked (ranked_view b)) ∙ ap (rank_among t) (sym h.standing)
