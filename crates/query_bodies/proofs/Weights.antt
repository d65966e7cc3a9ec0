-- Numbers that fall at each step of an expansion.
use Rattle.std.proofs.Common.{◌≡◌, ℕ, zero, suc, ◌+◌, ◌*◌, ◌<◌, ◌≤◌, ◌==◌, Bool, true, false, List, [], ◌∷◌, length, get_or, Option, Some, None, refl, ap, ◌∙◌, arith, eqb-true}
use Rattle.query_bodies.specs.declared.term.Term.{Term}
use Rattle.query_bodies.specs.declared.claim.Claim.{Claim}
use Rattle.query_bodies.specs.declared.claim.ClaimArm.{ClaimArm}
use Rattle.query_bodies.specs.declared.bodies.Bodies.{Bodies}
use Rattle.query_bodies.specs.declared.expand.Expansion.{Expansion}
use Rattle.query_bodies.specs.Terms as te
use Rattle.query_bodies.specs.Terms.{Te, Tes, no_te, also_te, Cl, Cls, no_cl, also_cl, ClArms, no_cl_arm, also_cl_arm, Said, said_term, said_claim}
use Rattle.query_bodies.specs.Expanded.{Saids, said_at}
use Rattle.query_bodies.specs.Seen.{saids_in}
use Rattle.query_bodies.specs.Views.{term_view, terms_view, claim_view, claims_view, ArmView, claim_arm_view, claim_arms_view}
use Rattle.query_bodies.proofs.ClaimViews.{claim_arm_view-parts}

abbrev mutual
  pub weight : Te → ℕ
  weight (te.Con con args) = weights args + 1
  weight (te.Sum a b) = weight a + weight b + 1
  weight (te.Difference a b) = weight a + weight b + 1
  weight (te.Query query args) = weights args + 1
  weight (te.OpOf call) = weight call + 1
  weight (te.OpTerm op args) = weights args + 1
  weight (te.OriginOf call) = weight call + 1
  weight (te.InfoOf inv) = weight inv + 1
  weight (te.InfoTerm proc args) = weights args + 1
  weight (te.ResultOf inv) = weight inv + 1
  weight (te.ResultWith proc value) = weight value + 1
  weight (te.Use decl args) = weights args + 1
  weight _ = 0

  pub weights : Tes → ℕ
  weights no_te = 0
  weights (also_te e es) = weight e + weights es

abbrev mutual
  pub claim_weight : Cl → ℕ
  claim_weight (te.And parts) = claims_weight parts + 1
  claim_weight (te.Or parts) = claims_weight parts + 1
  claim_weight (te.Not part) = claim_weight part + 1
  claim_weight (te.Implies a b) = claim_weight a + claim_weight b + 1
  claim_weight (te.All ty body) = claim_weight body + 1
  claim_weight (te.Any ty body) = claim_weight body + 1
  claim_weight (te.Match on arms) = arms_weight arms + 1
  claim_weight (te.UseCl decl args) = 1
  claim_weight _ = 0

  pub claims_weight : Cls → ℕ
  claims_weight no_cl = 0
  claims_weight (also_cl f fs) = claim_weight f + claims_weight fs

  pub arms_weight : ClArms → ℕ
  arms_weight no_cl_arm = 0
  arms_weight (also_cl_arm con binds body rest) = claim_weight body + arms_weight rest

abbrev pub said_weight : Option Said → ℕ
said_weight None = 0
said_weight (Some (said_term e)) = weight e + 1
said_weight (Some (said_claim f)) = claim_weight f + 1

-- of the bodies of the first declarations, so many
abbrev pub weight_before : Saids → ℕ → ℕ
weight_before bodies zero = 0
weight_before bodies (suc n) = weight_before bodies n + said_weight (said_at bodies n)

-- of the bodies that may be put in
abbrev pub left : Expansion → ℕ
left e = weight_before (saids_in e.bodies.now) e.before

same_at : (bodies : Saids) (n decl : ℕ) → decl ≡ n
    → weight_before bodies decl + said_weight (said_at bodies decl) ≡ weight_before bodies n + said_weight (said_at bodies n)
same_at bodies n decl same = ap (λ (k : ℕ). weight_before bodies k + said_weight (said_at bodies k)) same

is_at_most : (a b : ℕ) → a ≡ b → a ≤ b
is_at_most a b is = omega (arith, is)

within_more : (a b c : ℕ) → a ≤ b → a ≤ b + c
within_more a b c le = omega (arith, le)

is_less : (decl n : ℕ) → decl == n ≡ false → decl < suc n → decl < n
is_less decl n e lt = grind (arith, e, lt)

one_more : (bodies : Saids) (n decl : ℕ) (here : Bool) → decl == n ≡ here → decl < suc n
    → (decl < n → weight_before bodies decl + said_weight (said_at bodies decl) ≤ weight_before bodies n)
    → weight_before bodies decl + said_weight (said_at bodies decl) ≤ weight_before bodies n + said_weight (said_at bodies n)
one_more bodies n decl true e lt before =
    is_at_most (weight_before bodies decl + said_weight (said_at bodies decl))
    (weight_before bodies n + said_weight (said_at bodies n))
    (same_at bodies n decl (eqb-true decl n e))
one_more bodies n decl false e lt before =
    within_more (weight_before bodies decl + said_weight (said_at bodies decl)) (weight_before bodies n)
    (said_weight (said_at bodies n))
    (before (is_less decl n e lt))

-- the bodies before a query's, and its own
pub weight_below : (bodies : Saids) (before decl : ℕ) → decl < before
    → weight_before bodies decl + said_weight (said_at bodies decl) ≤ weight_before bodies before
weight_below bodies zero decl lt = absurd (omega (arith, lt))
weight_below bodies (suc n) decl lt = one_more bodies n decl (decl == n) refl lt (weight_below bodies n decl)

-- # Members

first_in : (a b c : ℕ) → a ≡ b → a ≤ b + c
first_in a b c is = omega (arith, is)

later_in : (a b c : ℕ) → a ≤ c → a ≤ b + c
later_in a b c le = omega (arith, le)

pub weight_in : (es : List Term) (i : ℕ) (e : Term) → i < length es → e ≡ get_or es i e
    → weight (term_view e) ≤ weights (terms_view es)
weight_in [] i e lt is = absurd (omega (arith, lt))
weight_in (d ∷ es) zero e lt is = first_in (weight (term_view e)) (weight (term_view d)) (weights (terms_view es))
    (ap (λ (x : Term). weight (term_view x)) is)
weight_in (d ∷ es) (suc i) e lt is = later_in (weight (term_view e)) (weight (term_view d)) (weights (terms_view es))
    (weight_in es i e (omega (arith, lt)) is)

pub claim_weight_in : (fs : List Claim) (i : ℕ) (f : Claim) → i < length fs → f ≡ get_or fs i f
    → claim_weight (claim_view f) ≤ claims_weight (claims_view fs)
claim_weight_in [] i f lt is = absurd (omega (arith, lt))
claim_weight_in (g ∷ fs) zero f lt is =
    first_in (claim_weight (claim_view f)) (claim_weight (claim_view g)) (claims_weight (claims_view fs))
    (ap (λ (x : Claim). claim_weight (claim_view x)) is)
claim_weight_in (g ∷ fs) (suc i) f lt is =
    later_in (claim_weight (claim_view f)) (claim_weight (claim_view g)) (claims_weight (claims_view fs))
    (claim_weight_in fs i f (omega (arith, lt)) is)

abbrev arm_weight : ClaimArm → ℕ
arm_weight a = claim_weight (claim_arm_view a).1

arm_in : (arms : List ClaimArm) (i : ℕ) (a : ClaimArm) → i < length arms → a ≡ get_or arms i a
    → arm_weight a ≤ arms_weight (claim_arms_view arms)
arm_in [] i a lt is = absurd (omega (arith, lt))
arm_in (b ∷ arms) zero a lt is = first_in (arm_weight a) (arm_weight b) (arms_weight (claim_arms_view arms))
    (ap (λ (x : ClaimArm). arm_weight x) is)
arm_in (b ∷ arms) (suc i) a lt is = later_in (arm_weight a) (arm_weight b) (arms_weight (claim_arms_view arms))
    (arm_in arms i a (omega (arith, lt)) is)

pub arm_weight_in : (arms : List ClaimArm) (i : ℕ) (a : ClaimArm) → i < length arms → a ≡ get_or arms i a
    → claim_weight (claim_view a.body) ≤ arms_weight (claim_arms_view arms)
arm_weight_in arms i a lt is =
    let own : arm_weight a ≡ claim_weight (claim_view a.body) = ap (λ (v : ArmView). claim_weight v.1)
    (claim_arm_view-parts a) in
    let here : arm_weight a ≤ arms_weight (claim_arms_view arms) = arm_in arms i a lt is in
    omega (arith, own, here)

-- # What falls at each call: k are the bodies that are left, e or f is what is put in

list_falls : (k w v u : ℕ) → w ≡ v + 1 → u ≡ v → 4 * (k + u) + 3 < 4 * (k + w)
list_falls k w v u is same = omega (arith, is, same)

pub terms_fall : (k : ℕ) (e : Te) (args slice : List Term) → weight e ≡ weights (terms_view args) + 1 → slice ≡ args
    → 4 * (k + weights (terms_view slice)) + 3 < 4 * (k + weight e)
terms_fall k e args slice is same =
    list_falls k (weight e) (weights (terms_view args)) (weights (terms_view slice)) is
    (ap (λ (xs : List Term). weights (terms_view xs)) same)

pub claims_fall : (k : ℕ) (f : Cl) (parts slice : List Claim) → claim_weight f ≡ claims_weight (claims_view parts) + 1
    → slice ≡ parts
    → 4 * (k + claims_weight (claims_view slice)) + 3 < 4 * (k + claim_weight f)
claims_fall k f parts slice is same =
    list_falls k (claim_weight f) (claims_weight (claims_view parts)) (claims_weight (claims_view slice)) is
    (ap (λ (xs : List Claim). claims_weight (claims_view xs)) same)

pub arms_fall : (k : ℕ) (f : Cl) (arms slice : List ClaimArm) → claim_weight f ≡ arms_weight (claim_arms_view arms) + 1
    → slice ≡ arms
    → 4 * (k + arms_weight (claim_arms_view slice)) + 3 < 4 * (k + claim_weight f)
arms_fall k f arms slice is same =
    list_falls k (claim_weight f) (arms_weight (claim_arms_view arms)) (arms_weight (claim_arms_view slice)) is
    (ap (λ (xs : List ClaimArm). arms_weight (claim_arms_view xs)) same)

part_falls : (k w v u : ℕ) → v < w → u ≡ v → 4 * (k + u) + 3 < 4 * (k + w)
part_falls k w v u less same = omega (arith, less, same)

above_one : (w a : ℕ) → w ≡ a + 1 → a < w
above_one w a is = omega (arith, is)

above_left : (w a b : ℕ) → w ≡ a + b + 1 → a < w
above_left w a b is = omega (arith, is)

above_right : (w a b : ℕ) → w ≡ a + b + 1 → b < w
above_right w a b is = omega (arith, is)

term_falls : (k : ℕ) (e : Te) (part got : Term) → weight (term_view part) < weight e → got ≡ part
    → 4 * (k + weight (term_view got)) + 3 < 4 * (k + weight e)
term_falls k e part got less same =
    part_falls k (weight e) (weight (term_view part)) (weight (term_view got)) less
    (ap (λ (x : Term). weight (term_view x)) same)

pub one_falls : (k : ℕ) (e : Te) (part got : Term) → weight e ≡ weight (term_view part) + 1 → got ≡ part
    → 4 * (k + weight (term_view got)) + 3 < 4 * (k + weight e)
one_falls k e part got is same = term_falls k e part got (above_one (weight e) (weight (term_view part)) is) same

pub left_falls : (k : ℕ) (e : Te) (a b got : Term) → weight e ≡ weight (term_view a) + weight (term_view b) + 1 → got ≡ a
    → 4 * (k + weight (term_view got)) + 3 < 4 * (k + weight e)
left_falls k e a b got is same = term_falls k e a got (above_left (weight e) (weight (term_view a)) (weight (term_view b)) is)
    same

pub right_falls : (k : ℕ) (e : Te) (a b got : Term) → weight e ≡ weight (term_view a) + weight (term_view b) + 1 → got ≡ b
    → 4 * (k + weight (term_view got)) + 3 < 4 * (k + weight e)
right_falls k e a b got is same = term_falls k e b got (above_right (weight e) (weight (term_view a))
    (weight (term_view b)) is) same

claim_falls : (k : ℕ) (f : Cl) (part got : Claim) → claim_weight (claim_view part) < claim_weight f → got ≡ part
    → 4 * (k + claim_weight (claim_view got)) + 3 < 4 * (k + claim_weight f)
claim_falls k f part got less same =
    part_falls k (claim_weight f) (claim_weight (claim_view part)) (claim_weight (claim_view got)) less
    (ap (λ (x : Claim). claim_weight (claim_view x)) same)

pub one_claim_falls : (k : ℕ) (f : Cl) (part got : Claim) → claim_weight f ≡ claim_weight (claim_view part) + 1 → got ≡ part
    → 4 * (k + claim_weight (claim_view got)) + 3 < 4 * (k + claim_weight f)
one_claim_falls k f part got is same = claim_falls k f part got
    (above_one (claim_weight f) (claim_weight (claim_view part)) is) same

pub left_claim_falls : (k : ℕ) (f : Cl) (a b got : Claim) → claim_weight f ≡ claim_weight (claim_view a) + claim_weight
    (claim_view b) + 1 → got ≡ a
    → 4 * (k + claim_weight (claim_view got)) + 3 < 4 * (k + claim_weight f)
left_claim_falls k f a b got is same = claim_falls k f a got (above_left (claim_weight f) (claim_weight (claim_view a))
    (claim_weight (claim_view b)) is) same

pub right_claim_falls : (k : ℕ) (f : Cl) (a b got : Claim) → claim_weight f ≡ claim_weight (claim_view a) + claim_weight
    (claim_view b) + 1 → got ≡ b
    → 4 * (k + claim_weight (claim_view got)) + 3 < 4 * (k + claim_weight f)
right_claim_falls k f a b got is same = claim_falls k f b got (above_right (claim_weight f) (claim_weight (claim_view a))
    (claim_weight (claim_view b)) is) same

body_is_less : (all first own k v w : ℕ) → first + own ≤ all → own ≡ v + 1 → k ≡ first → 4 * (k + v) < 4 * (all + w) + 3
body_is_less all first own k v w within is here = omega (arith, within, is, here)

pub body_falls : (bodies : Saids) (before decl k w : ℕ) (body : Te) → decl < before → said_at bodies decl
    ≡ Some (said_term body)
    → k ≡ weight_before bodies decl → 4 * (k + weight body) < 4 * (weight_before bodies before + w) + 3
body_falls bodies before decl k w body lt is here =
    body_is_less (weight_before bodies before) (weight_before bodies decl) (said_weight (said_at bodies decl)) k (weight body) w
    (weight_below bodies before decl lt) (ap said_weight is) here

pub claim_body_falls : (bodies : Saids) (before decl k : ℕ) (body : Cl) → decl < before → said_at bodies decl
    ≡ Some (said_claim body)
    → k ≡ weight_before bodies decl → 4 * (k + claim_weight body) < 4 * (weight_before bodies before + 0) + 3
claim_body_falls bodies before decl k body lt is here =
    body_is_less (weight_before bodies before) (weight_before bodies decl) (said_weight (said_at bodies decl)) k
    (claim_weight body) 0
    (weight_below bodies before decl lt) (ap said_weight is) here

pub left_inside : (inner : Expansion) (bodies : Bodies) (decl : ℕ) → inner.bodies.now ≡ bodies → inner.before ≡ decl
    → left inner ≡ weight_before (saids_in bodies) decl
left_inside inner bodies decl same before =
    ap (λ (b : Bodies). weight_before (saids_in b) inner.before) same ∙ ap (weight_before (saids_in bodies)) before
