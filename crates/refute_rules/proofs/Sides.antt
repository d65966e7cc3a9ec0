-- The other sides of equalities, one after another.
use Rattle.std.proofs.Common.{◌≡◌, ◌≢◌, ◌≤◌, ℕ, zero, suc, ◌+◌, List, [], ◌∷◌, ◌++◌, map, drop, length, slice_get, eqb, Bool, true, false, ◌&&◌, cond, Option, Some, None, refl, ap, sym, ◌∙◌, arith}
use Rattle.std.specs.Prelude.{option_map, option_and_then}
use Rattle.std.proofs.lemmas.List.{map_push, drop_all}
use Rattle.rp_logic.specs.declared.term.Term.{Term}
use Rattle.rp_logic.specs.Terms.{Tm, Tms, no_tm, also_tm}
use Rattle.rp_logic.specs.Signatures.{Signature}
use Rattle.rp_logic.specs.Views.{term_view, terms_view}
use Rattle.refute_defs.specs.Branches.{Branch}
use Rattle.refute_defs.specs.NewTerms.{is_term}
use Rattle.refute_defs.specs.Parts.{are_some, args, with_args, equal}
use Rattle.refute_defs.specs.Shapes.{only, only_two}
use Rattle.refute_defs.specs.Children.{other_sides, term_replaced}
use Rattle.refute_rules.specs.means.Replaced.{side_at, replaced_args, replaced_term}

-- # As many places as terms

none_then : {A B : Type 0} (o : Option A) → option_and_then {T = A} {U = B} (λ x. None) o ≡ None
none_then None = refl
none_then (Some x) = refl

then_none : {A B : Type 0} (f : A → Option B) (o : Option A) → ((x : A) → f x ≡ None)
    → option_and_then f o ≡ None
then_none f None h = refl
then_none f (Some x) h = h x

map_none : {A B : Type 0} (f : A → B) (o : Option A) → o ≡ None → option_map f o ≡ None
map_none f o e = ap (option_map f) e

pub sides_differ : (b : Branch) (ps : List ℕ) (ts : List Term) → length ps ≢ length ts
    → other_sides b ps (terms_view ts) ≡ None
sides_differ b [] [] h = absurd (h refl)
sides_differ b [] (t ∷ ts) h = refl
sides_differ b (p ∷ ps) [] h = refl
sides_differ b (p ∷ ps) (t ∷ ts) h =
    let rest = sides_differ b ps ts (λ e. h (ap suc e)) in
    then_none (λ u. option_map (also_tm u) (other_sides b ps (terms_view ts)))
    (side_at b p (term_view t)) (λ u. map_none (also_tm u) (other_sides b ps (terms_view ts)) rest)

-- # One after another

abbrev pub before : List Tm → Tms → Tms
before [] us = us
before (t ∷ ts) us = also_tm t (before ts us)

before_more : (xs : List Tm) (v : Tm) (us : Tms) → before (xs ++ v ∷ []) us
    ≡ before xs (also_tm v us)
before_more [] v us = refl
before_more (x ∷ xs) v us = ap (also_tm x) (before_more xs v us)

before_all : (ts : List Term) → before (map term_view ts) no_tm ≡ terms_view ts
before_all [] = refl
before_all (t ∷ ts) = ap (also_tm (term_view t)) (before_all ts)

sides_from : (b : Branch) (ps : List ℕ) (ts : List Term) (i p : ℕ) (t : Term) (v : Tm)
    → slice_get ps i ≡ Some p → slice_get ts i ≡ Some t
    → side_at b p (term_view t) ≡ Some v
    → other_sides b (drop i ps) (terms_view (drop i ts))
    ≡ option_map (also_tm v) (other_sides b (drop (suc i) ps) (terms_view (drop (suc i) ts)))
sides_from b [] ts i p t v g h e = absurd cc
sides_from b (q ∷ ps) [] i p t v g h e = absurd cc
sides_from b (q ∷ ps) (u ∷ ts) zero p t v g h e =
    let first : side_at b q (term_view u) ≡ Some v = cc in
    ap (option_and_then (λ w. option_map (also_tm w) (other_sides b ps (terms_view ts)))) first
sides_from b (q ∷ ps) (u ∷ ts) (suc i) p t v g h e = sides_from b ps ts i p t v g h e

before_map : (xs : List Tm) (v : Tm) (o : Option Tms)
    → option_map (before xs) (option_map (also_tm v) o) ≡ option_map (before (xs ++ v ∷ [])) o
before_map xs v None = refl
before_map xs v (Some us) = ap Some (sym (before_more xs v us))

pub side_pushed : (b : Branch) (ps : List ℕ) (ts sides : List Term) (i p : ℕ) (t u : Term)
    → other_sides b ps (terms_view ts)
    ≡ option_map (before (map term_view sides)) (other_sides b (drop i ps) (terms_view (drop i ts)))
    → slice_get ps i ≡ Some p → slice_get ts i ≡ Some t → side_at b p (term_view t)
    ≡ Some (term_view u)
    → other_sides b ps (terms_view ts)
    ≡ option_map (before (map term_view (sides ++ u ∷ [])))
    (other_sides b (drop (i + 1) ps) (terms_view (drop (i + 1) ts)))
side_pushed b ps ts sides i p t u so_far g h e =
    let rest = other_sides b (drop (suc i) ps) (terms_view (drop (suc i) ts)) in
    let one : i + 1 ≡ suc i = omega arith in
    so_far
    ∙ ap (option_map (before (map term_view sides))) (sides_from b ps ts i p t (term_view u) g h e)
    ∙ before_map (map term_view sides) (term_view u) rest
    ∙ ap (λ xs. option_map (before xs) rest) (sym (map_push term_view sides u))
    ∙ ap (λ k. option_map (before (map term_view (sides ++ u ∷ [])))
    (other_sides b (drop k ps) (terms_view (drop k ts)))) (sym one)

pub sides_done : (b : Branch) (ps : List ℕ) (ts sides : List Term) (i : ℕ)
    → other_sides b ps (terms_view ts)
    ≡ option_map (before (map term_view sides)) (other_sides b (drop i ps) (terms_view (drop i ts)))
    → length ps ≤ i → length ts ≤ i → other_sides b ps (terms_view ts) ≡ Some (terms_view sides)
sides_done b ps ts sides i so_far g h =
    so_far
    ∙ ap (λ qs. option_map (before (map term_view sides))
    (other_sides b qs (terms_view (drop i ts)))) (drop_all i ps g)
    ∙ ap (λ us. option_map (before (map term_view sides)) (other_sides b [] (terms_view us)))
    (drop_all i ts h)
    ∙ ap Some (before_all sides)

pub some_sides : (b : Branch) (ps : List ℕ) (ts : List Term) → eqb (length ts) 0 ≡ false
    → replaced_args b ps (terms_view ts) ≡ other_sides b ps (terms_view ts)
some_sides b ps [] h = absurd cc
some_sides b ps (t ∷ ts) h = refl

-- # One side, and two

only_cases : (o : Option Tm) (t : Tm) → option_and_then (λ u. option_map (also_tm u) (Some no_tm)) o
    ≡ option_map (λ v. also_tm v no_tm) o
only_cases None t = refl
only_cases (Some v) t = refl

pub only_side : (b : Branch) (ps : List ℕ) (t : Tm)
    → replaced_args b ps (also_tm t no_tm) ≡ option_map
    (λ v. also_tm v no_tm) (option_and_then (λ p. side_at b p t) (only ps))
only_side b [] t = refl
only_side b (p ∷ []) t = only_cases (side_at b p t) t
only_side b (p ∷ q ∷ ps) t = then_none
    (λ u. option_map (also_tm u) (other_sides b (q ∷ ps) no_tm)) (side_at b p t) (λ u. refl)

pair_cases : (o r : Option Tm)
    → option_and_then
    (λ u. option_map (also_tm u) (option_and_then (λ w. option_map (also_tm w) (Some no_tm)) r)) o
    ≡ option_and_then (λ u. option_map (λ w. also_tm u (also_tm w no_tm)) r) o
pair_cases None r = refl
pair_cases (Some v) None = refl
pair_cases (Some v) (Some w) = refl

-- of two terms
abbrev pub both_sides : Branch → Tm → Tm → ℕ × ℕ → Option Tms
both_sides b x y ps = option_and_then
    (λ u. option_map (λ w. also_tm u (also_tm w no_tm)) (side_at b ps.1 y)) (side_at b ps.0 x)

pub two_sides : (b : Branch) (ps : List ℕ) (x y : Tm)
    → other_sides b ps (also_tm x (also_tm y no_tm))
    ≡ option_and_then (both_sides b x y) (only_two ps)
two_sides b [] x y = refl
two_sides b (p ∷ []) x y = then_none (λ u. option_map (also_tm u) None) (side_at b p x) (λ u. refl)
two_sides b (p ∷ q ∷ []) x y = pair_cases (side_at b p x) (side_at b q y)
two_sides b (p ∷ q ∷ r ∷ ps) x y =
    let rest = then_none (λ w. option_map (also_tm w) None) (side_at b q y) (λ w. refl) in
    then_none (λ u. option_map (also_tm u) (other_sides b (q ∷ r ∷ ps) (also_tm y no_tm)))
    (side_at b p x)
    (λ u. map_none (also_tm u) (other_sides b (q ∷ r ∷ ps) (also_tm y no_tm)) rest)

-- # Terms

replaced_cases : (a : Bool) (t : Tm) (o : Option Tms)
    → cond a (option_map (λ us. equal t (with_args t us)) o) None
    ≡ option_map (equal t) (option_map (with_args t) (cond a o None))
replaced_cases true t None = refl
replaced_cases true t (Some us) = refl
replaced_cases false t o = refl

split_test : {A : Type 0} (x y : Bool) (o : Option A) → cond (x && y) o None
    ≡ cond x (cond y o None) None
split_test true y o = refl
split_test false y o = refl

pub term_replaced_is : (S : Signature) (b : Branch) (ps : List ℕ) (t : Tm)
    → term_replaced S b ps t
    ≡ cond (is_term S b t) (option_map (equal t) (replaced_term b ps t)) None
term_replaced_is S b ps t =
    split_test (is_term S b t) (are_some (args t)) (option_map
    (λ us. equal t (with_args t us)) (other_sides b ps (args t)))
    ∙ ap (λ o. cond (is_term S b t) o None)
    (replaced_cases (are_some (args t)) t (other_sides b ps (args t)))
