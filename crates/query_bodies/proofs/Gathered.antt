-- Lists whose members are made one after another.
use Rattle.std.proofs.Common.{◌≡◌, ℕ, zero, suc, ◌+◌, ◌<◌, ◌≤◌, List, [], ◌∷◌, ◌++◌, length, map, take, get_or, Option, Some, None, option_map, refl, sym, ap, subst, ◌∙◌, arith}
use Rattle.std.proofs.lemmas.List.{length-map, map_more, map_push, take_all, take_more}
use Rattle.desugaring.specs.Parts.{both, each}
use Rattle.rp_lang.specs.declared.expr.Expr.{Expr}
use Rattle.rp_lang.specs.Exprs.{Ex, also_ex}
use Rattle.rp_lang.specs.Formulas.{Fo, also_fo, also_arm}
use Rattle.rp_lang.specs.Views as made
use Rattle.rp_lang.specs.declared.formula.Arm.{Arm}
use Rattle.rp_lang.proofs.FormulaViews.{arm_view-parts}
use Rattle.query_bodies.specs.declared.term.Term.{Term}
use Rattle.query_bodies.specs.declared.claim.Claim.{Claim}
use Rattle.query_bodies.specs.declared.claim.ClaimArm.{ClaimArm}
use Rattle.query_bodies.specs.Expanded as spec
use Rattle.query_bodies.specs.Expanded.{Uses, Given, given_at, lifted_by, all_lifted_by}
use Rattle.query_bodies.specs.means.Putting.{AreAmong}
use Rattle.query_bodies.specs.Views.{ArmView, given_view, term_view, terms_view, claim_view, claims_view, claim_arm_view, claim_arms_view}
use Rattle.query_bodies.proofs.ClaimViews.{claim_arm_view-parts}

abbrev last : {Y : Type 0} → List Y → Y → List Y
last ys y = ys ++ y ∷ []

one_first : {Y : Type 0} (o : Option Y) → both ◌∷◌ o (Some []) ≡ both last (Some []) o
one_first None = refl
one_first (Some y) = refl

first_and_last : {Y : Type 0} (first : Option Y) (mid : Option (List Y)) (end : Option Y)
    → both ◌∷◌ first (both last mid end) ≡ both last (both ◌∷◌ first mid) end
first_and_last None mid end = refl
first_and_last (Some x) None end = refl
first_and_last (Some x) (Some ys) None = refl
first_and_last (Some x) (Some ys) (Some y) = refl

each_last : {X Y : Type 0} (f : X → Option Y) (xs : List X) (x : X) → each f (xs ++ x ∷ []) ≡ both last (each f xs) (f x)
each_last f [] x = one_first (f x)
each_last f (z ∷ xs) x = ap (both ◌∷◌ (f z)) (each_last f xs x) ∙ first_and_last (f z) (each f xs) (f x)

-- one more is made
pub one_more : {X M Y : Type 0} (f : X → Option Y) (view : M → Y) (xs : List X) (i : ℕ) (x : X) (ms ns : List M) (m : M)
    → i < length xs → x ≡ get_or xs i x → f x ≡ Some (view m) → ns ≡ ms ++ m ∷ []
    → each f (take i xs) ≡ Some (map view ms) → each f (take (i + 1) xs) ≡ Some (map view ns)
one_more f view xs i x ms ns m lt is found pushed so_far =
    ap (each f) (take_more xs i x lt) ∙ ap (λ z. each f (take i xs ++ z ∷ [])) (sym is)
    ∙ each_last f (take i xs) x
    ∙ ap (λ o. both last o (f x)) so_far ∙ ap (both last (Some (map view ms))) found
    ∙ ap Some (sym (map_push view ms m)) ∙ ap (λ ys. Some (map view ys)) (sym pushed)

-- all are made
pub all_made : {X Y : Type 0} (f : X → Option Y) (xs : List X) (i : ℕ) (ys : List Y) → length xs ≤ i
    → each f (take i xs) ≡ Some ys → each f xs ≡ Some ys
all_made f xs i ys end so_far = ap (each f) (sym (take_all i xs end)) ∙ so_far

none_or_both : {Y L : Type 0} (also : Y → L → L) (of : List Y → L) (more : (y : Y) (ys : List Y) → of (y ∷ ys) ≡ also y (of ys))
    → (o : Option Y) (p : Option (List Y)) → both also o (option_map of p) ≡ option_map of (both ◌∷◌ o p)
none_or_both also of more None p = refl
none_or_both also of more (Some y) None = refl
none_or_both also of more (Some y) (Some ys) = ap Some (sym (more y ys))

pub terms_each : (u : Uses) (g : Given) (b : ℕ) (es : List Term)
    → spec.terms u g b (terms_view es) ≡ option_map made.exs_of (each (λ e. spec.term u g b (term_view e)) es)
terms_each u g b [] = refl
terms_each u g b (e ∷ es) =
    ap (both also_ex (spec.term u g b (term_view e))) (terms_each u g b es)
    ∙ none_or_both also_ex made.exs_of (λ y ys. refl) (spec.term u g b (term_view e))
    (each (λ e. spec.term u g b (term_view e)) es)

pub claims_each : (u : Uses) (g : Given) (b : ℕ) (fs : List Claim)
    → spec.claims u g b (claims_view fs) ≡ option_map made.fos_of (each (λ f. spec.claim u g b (claim_view f)) fs)
claims_each u g b [] = refl
claims_each u g b (f ∷ fs) =
    ap (both also_fo (spec.claim u g b (claim_view f))) (claims_each u g b fs)
    ∙ none_or_both also_fo made.fos_of (λ y ys. refl) (spec.claim u g b (claim_view f))
    (each (λ f. spec.claim u g b (claim_view f)) fs)

abbrev pub arm_made : Uses → Given → ℕ → ArmView → Option made.ArmView
arm_made u g b a = option_map (λ (f : Fo). (a.0.0, f)) (spec.claim u g (b + a.0.1) a.1)

pub arm_found : (u : Uses) (g : Given) (b : ℕ) (a : ClaimArm) (inside : ℕ) (m : Arm) → inside ≡ b + a.binds → m.con ≡ a.con
    → spec.claim u g inside (claim_view a.body) ≡ Some (made.formula_view m.body) → arm_made u g b (claim_arm_view a)
    ≡ Some (made.arm_view m)
arm_found u g b a inside m under same found =
    let pair : Fo → made.ArmView = λ f. (a.con, f) in
    let with_con : ℕ → Option made.ArmView = λ k. Some (k, made.formula_view m.body) in
    ap (arm_made u g b) (claim_arm_view-parts a)
    ∙ ap (λ (k : ℕ). option_map pair (spec.claim u g k (claim_view a.body))) (sym under)
    ∙ ap (option_map pair) found
    ∙ ap with_con (sym same)
    ∙ ap Some (sym (arm_view-parts m))

arm_also : (con : ℕ) (o : Option Fo) (p : Option (List made.ArmView))
    → both (also_arm con) o (option_map made.arms_of p) ≡ option_map made.arms_of
    (both ◌∷◌ (option_map (λ (f : Fo). (con, f)) o) p)
arm_also con None p = refl
arm_also con (Some f) None = refl
arm_also con (Some f) (Some arms) = refl

pub arms_each : (u : Uses) (g : Given) (b : ℕ) (arms : List ClaimArm)
    → spec.arms_of u g b (claim_arms_view arms) ≡ option_map made.arms_of (each (λ a. arm_made u g b (claim_arm_view a)) arms)
arms_each u g b [] = refl
arms_each u g b (a ∷ arms) =
    let v = claim_arm_view a in
    ap (both (also_arm v.0.0) (spec.claim u g (b + v.0.1) v.1)) (arms_each u g b arms)
    ∙ arm_also v.0.0 (spec.claim u g (b + v.0.1) v.1) (each (λ a. arm_made u g b (claim_arm_view a)) arms)

-- # Terms under several binders more

lifted_each : (n : ℕ) (es : List Expr) → made.exs_of (map (λ e. lifted_by n (made.expr_view e)) es)
    ≡ all_lifted_by n (made.exprs_view es)
lifted_each n [] = refl
lifted_each n (e ∷ es) = ap (also_ex (lifted_by n (made.expr_view e))) (lifted_each n es)

pub lifted_more : (n : ℕ) (es : List Expr) (i : ℕ) (e : Expr) (ms ns : List Expr) (m : Expr) → i < length es → e ≡ get_or es i e
    → made.expr_view m ≡ lifted_by n (made.expr_view e) → ns ≡ ms ++ m ∷ []
    → map made.expr_view ms ≡ map (λ e. lifted_by n (made.expr_view e)) (take i es)
    → map made.expr_view ns ≡ map (λ e. lifted_by n (made.expr_view e)) (take (i + 1) es)
lifted_more n es i e ms ns m lt is found pushed so_far =
    let f = λ (e : Expr). lifted_by n (made.expr_view e) in
    ap (map made.expr_view) pushed ∙ map_push made.expr_view ms m
    ∙ ap (λ ys. ys ++ made.expr_view m ∷ []) so_far ∙ ap (λ y. map f (take i es) ++ y ∷ []) found
    ∙ ap (λ z. map f (take i es) ++ f z ∷ []) is
    ∙ sym (map_more f es i e lt)

pub all_are_lifted : (n : ℕ) (es ms : List Expr) (i : ℕ) → length es ≤ i
    → map made.expr_view ms ≡ map (λ e. lifted_by n (made.expr_view e)) (take i es) → made.exprs_view ms
    ≡ all_lifted_by n (made.exprs_view es)
all_are_lifted n es ms i end so_far =
    ap made.exs_of (so_far ∙ ap (map (λ e. lifted_by n (made.expr_view e))) (take_all i es end)) ∙ lifted_each n es

-- # Arguments, some of which are left out

among_more : (few : Given) (o : Option Ex) (all : Given) → AreAmong few all
    → ((e : Ex) → o ≡ Some e → given_at all (length few) ≡ Some e) → AreAmong (few ++ o ∷ []) all
among_more [] o all among here zero e is = here e is
among_more [] o all among here (suc p) e is = absurd cc
among_more (f ∷ few) o [] among here zero e is = among zero e is
among_more (f ∷ few) o [] among here (suc p) e is = among_more few o [] (λ q. among (suc q)) here p e is
among_more (f ∷ few) o (a ∷ all) among here zero e is = among zero e is
among_more (f ∷ few) o (a ∷ all) among here (suc p) e is = among_more few o all (λ q. among (suc q)) here p e is

argument_at : (u : Uses) (g : Given) (b : ℕ) (args : List Term) (i : ℕ) (arg : Term) → i < length args → arg ≡ get_or args i arg
    → given_at (spec.arguments u g b (terms_view args)) i ≡ spec.term u g b (term_view arg)
argument_at u g b [] i arg lt is = absurd (omega (arith, lt))
argument_at u g b (a ∷ args) zero arg lt is = ap (λ e. spec.term u g b (term_view e)) (sym is)
argument_at u g b (a ∷ args) (suc i) arg lt is = argument_at u g b args i arg (omega (arith, lt)) is

-- none is made yet
pub none_among : (few : List (Option Expr)) (all : Given) → few ≡ [] → AreAmong (map given_view few) all
none_among few all is p e found =
    let gone : given_at (map given_view few) p ≡ None = ap (λ (xs : List (Option Expr)). given_at (map given_view xs) p) is in
    absurd cc

-- one argument more, which is made or left out
pub argument_more : (u : Uses) (g : Given) (b : ℕ) (args : List Term) (i : ℕ) (arg : Term) (ms ns : List (Option Expr))
    (m : Option Expr)
    → i < length args → arg ≡ get_or args i arg → length ms ≡ i → ns ≡ ms ++ m ∷ []
    → ((e : Ex) → given_view m ≡ Some e → spec.term u g b (term_view arg) ≡ Some e)
    → AreAmong (map given_view ms) (spec.arguments u g b (terms_view args))
    → AreAmong (map given_view ns) (spec.arguments u g b (terms_view args))
argument_more u g b args i arg ms ns m lt is count pushed made so_far =
    let all = spec.arguments u g b (terms_view args) in
    let place : length (map given_view ms) ≡ i = length-map ms given_view ∙ count in
    subst (λ few. AreAmong few all) (sym (ap (map given_view) pushed ∙ map_push given_view ms m))
    (among_more (map given_view ms) (given_view m) all so_far (λ e given. ap (given_at all) place
    ∙ argument_at u g b args i arg lt is ∙ made e given))
