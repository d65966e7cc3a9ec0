-- Where more arguments are there, as much is made.
use Rattle.std.proofs.Common.{◌≡◌, ℕ, zero, suc, ◌+◌, ◌<◌, ◌==◌, Bool, true, false, Option, Some, None, if◌then◌else◌, option_map, option_and_then, refl, sym, ap, ◌∙◌, arith, eqb-true}
use Rattle.rp_lang.specs.Exprs as ex
use Rattle.rp_lang.specs.Exprs.{Ex, Exs, also_ex}
use Rattle.rp_lang.specs.Formulas as fo
use Rattle.rp_lang.specs.Formulas.{Fo, Fos, also_fo, Arms, also_arm}
use Rattle.desugaring.specs.Parts.{both}
use Rattle.desugaring.specs.Values as values
use Rattle.desugaring.specs.Values.{Value, as_term, as_formula}
use Rattle.query_bodies.specs.Terms as te
use Rattle.query_bodies.specs.Terms.{Te, Tes, no_te, also_te, Cl, Cls, no_cl, also_cl, ClArms, no_cl_arm, also_cl_arm, Said, said_term, said_claim}
use Rattle.query_bodies.specs.Expanded as spec
use Rattle.query_bodies.specs.Expanded.{Uses, Given, given_at, lifted_by, with_value, Saids, said_at, said_under, uses_in}
use Rattle.query_bodies.specs.means.Putting.{AreAmong}

-- where the first is there, so is the second, and the same
abbrev pub Grows : {X : Type 0} → Option X → Option X → Type 0
Grows o p = (x : _) → o ≡ Some x → p ≡ Some x

same : {X : Type 0} (o : Option X) → Grows o o
same o x e = e

map_grows : {X Y : Type 0} (f : X → Y) (o p : Option X) → Grows o p → Grows (option_map f o) (option_map f p)
map_grows f None p g y e = absurd cc
map_grows f (Some x) p g y e = ap (option_map f) (g x refl) ∙ e

both_grows : {X Y Z : Type 0} (f : X → Y → Z) (a b : Option X) (c d : Option Y) → Grows a b → Grows c d
    → Grows (both f a c) (both f b d)
both_grows f None b c d g h z e = absurd cc
both_grows f (Some x) b None d g h z e = absurd cc
both_grows f (Some x) b (Some y) d g h z e = ap (λ o. both f o d) (g x refl) ∙ ap (both f (Some x)) (h y refl) ∙ e

then_grows : {X Y : Type 0} (f h : X → Option Y) (o p : Option X) → ((x : X) → Grows (f x) (h x)) → Grows o p
    → Grows (option_and_then f o) (option_and_then h p)
then_grows f h None p more g y e = absurd cc
then_grows f h (Some x) p more g y e = ap (option_and_then h) (g x refl) ∙ more x y e

if_grows : {X : Type 0} (t : Bool) (a b c d : Option X) → Grows a b → Grows c d
    → Grows (if t then a else c) (if t then b else d)
if_grows true a b c d g h = g
if_grows false a b c d g h = h

-- uses become as much with more arguments
abbrev pub AreGrowing : Uses → Type 0
AreGrowing u = (decl : ℕ) (few all : Given) → AreAmong few all → Grows (u decl few) (u decl all)

mutual
  pub term_grows : (u : Uses) (ug : AreGrowing u) (few all : Given) (among : AreAmong few all) (b : ℕ) (t : Te)
      → Grows (spec.term u few b t) (spec.term u all b t)
  term_grows u ug few all among b (te.Slot s) = same _
  term_grows u ug few all among b (te.Level n) = same _
  term_grows u ug few all among b (te.Int n) = same _
  term_grows u ug few all among b (te.Str bytes) = same _
  term_grows u ug few all among b (te.ResultTerm proc) = same _
  term_grows u ug few all among b te.Unreturned = same _
  term_grows u ug few all among b (te.Param p) = map_grows (lifted_by b) _ _ (among p)
  term_grows u ug few all among b (te.Con k args) = map_grows (ex.Con k) _ _ (terms_grow u ug few all among b args)
  term_grows u ug few all among b (te.Query k args) = map_grows (ex.Query k) _ _ (terms_grow u ug few all among b args)
  term_grows u ug few all among b (te.OpTerm k args) = map_grows (ex.OpTerm k) _ _ (terms_grow u ug few all among b args)
  term_grows u ug few all among b (te.InfoTerm k args) = map_grows (ex.InfoTerm k) _ _ (terms_grow u ug few all among b args)
  term_grows u ug few all among b (te.Sum x y) = both_grows values.sum _ _ _ _ (term_grows u ug few all among b x)
      (term_grows u ug few all among b y)
  term_grows u ug few all among b (te.Difference x y) = both_grows values.difference _ _ _ _
      (term_grows u ug few all among b x) (term_grows u ug few all among b y)
  term_grows u ug few all among b (te.OpOf x) = map_grows ex.OpOf _ _ (term_grows u ug few all among b x)
  term_grows u ug few all among b (te.OriginOf x) = map_grows ex.OriginOf _ _ (term_grows u ug few all among b x)
  term_grows u ug few all among b (te.InfoOf x) = map_grows ex.InfoOf _ _ (term_grows u ug few all among b x)
  term_grows u ug few all among b (te.ResultOf x) = map_grows ex.ResultOf _ _ (term_grows u ug few all among b x)
  term_grows u ug few all among b (te.ResultWith proc x) = map_grows (with_value proc) _ _ (term_grows u ug few all among b x)
  term_grows u ug few all among b (te.Use decl args) = then_grows as_term as_term _ _ (λ v. same (as_term v))
      (ug decl _ _ (arguments_grow u ug few all among b args))

  pub terms_grow : (u : Uses) (ug : AreGrowing u) (few all : Given) (among : AreAmong few all) (b : ℕ) (es : Tes)
      → Grows (spec.terms u few b es) (spec.terms u all b es)
  terms_grow u ug few all among b no_te = same _
  terms_grow u ug few all among b (also_te e es) = both_grows also_ex _ _ _ _ (term_grows u ug few all among b e)
      (terms_grow u ug few all among b es)

  pub arguments_grow : (u : Uses) (ug : AreGrowing u) (few all : Given) (among : AreAmong few all) (b : ℕ) (es : Tes)
      → AreAmong (spec.arguments u few b es) (spec.arguments u all b es)
  arguments_grow u ug few all among b no_te p = same _
  arguments_grow u ug few all among b (also_te e es) zero = term_grows u ug few all among b e
  arguments_grow u ug few all among b (also_te e es) (suc p) = arguments_grow u ug few all among b es p

mutual
  pub claim_grows : (u : Uses) (ug : AreGrowing u) (few all : Given) (among : AreAmong few all) (b : ℕ) (f : Cl)
      → Grows (spec.claim u few b f) (spec.claim u all b f)
  claim_grows u ug few all among b (te.And parts) = map_grows fo.And _ _ (claims_grow u ug few all among b parts)
  claim_grows u ug few all among b (te.Or parts) = map_grows fo.Or _ _ (claims_grow u ug few all among b parts)
  claim_grows u ug few all among b (te.Not f) = map_grows fo.Not _ _ (claim_grows u ug few all among b f)
  claim_grows u ug few all among b (te.Implies f h) = both_grows fo.Implies _ _ _ _ (claim_grows u ug few all among b f)
      (claim_grows u ug few all among b h)
  claim_grows u ug few all among b (te.All ty body) = map_grows (fo.All ty) _ _ (claim_grows u ug few all among (b + 1) body)
  claim_grows u ug few all among b (te.Any ty body) = map_grows (fo.Any ty) _ _ (claim_grows u ug few all among (b + 1) body)
  claim_grows u ug few all among b (te.Holds x) = map_grows fo.Holds _ _ (term_grows u ug few all among b x)
  claim_grows u ug few all among b (te.Visible x) = map_grows fo.Visible _ _ (term_grows u ug few all among b x)
  claim_grows u ug few all among b (te.Equal x y) = both_grows fo.Equal _ _ _ _ (term_grows u ug few all among b x)
      (term_grows u ug few all among b y)
  claim_grows u ug few all among b (te.Less x y) = both_grows fo.Less _ _ _ _ (term_grows u ug few all among b x)
      (term_grows u ug few all among b y)
  claim_grows u ug few all among b (te.AtMost x y) = both_grows fo.AtMost _ _ _ _ (term_grows u ug few all among b x)
      (term_grows u ug few all among b y)
  claim_grows u ug few all among b (te.Before x y) = both_grows fo.Before _ _ _ _ (term_grows u ug few all among b x)
      (term_grows u ug few all among b y)
  claim_grows u ug few all among b (te.Same x y) = both_grows fo.Same _ _ _ _ (term_grows u ug few all among b x)
      (term_grows u ug few all among b y)
  claim_grows u ug few all among b (te.Match on arms) = both_grows fo.Match _ _ _ _ (term_grows u ug few all among b on)
      (arms_grow u ug few all among b arms)
  claim_grows u ug few all among b (te.UseCl decl args) = map_grows as_formula _ _
      (ug decl _ _ (arguments_grow u ug few all among b args))

  pub claims_grow : (u : Uses) (ug : AreGrowing u) (few all : Given) (among : AreAmong few all) (b : ℕ) (fs : Cls)
      → Grows (spec.claims u few b fs) (spec.claims u all b fs)
  claims_grow u ug few all among b no_cl = same _
  claims_grow u ug few all among b (also_cl f fs) = both_grows also_fo _ _ _ _ (claim_grows u ug few all among b f)
      (claims_grow u ug few all among b fs)

  pub arms_grow : (u : Uses) (ug : AreGrowing u) (few all : Given) (among : AreAmong few all) (b : ℕ) (arms : ClArms)
      → Grows (spec.arms_of u few b arms) (spec.arms_of u all b arms)
  arms_grow u ug few all among b no_cl_arm = same _
  arms_grow u ug few all among b (also_cl_arm con binds body rest) = both_grows (also_arm con) _ _ _ _
      (claim_grows u ug few all among (b + binds) body) (arms_grow u ug few all among b rest)

pub said_grows : (u : Uses) → AreGrowing u → (few all : Given) → AreAmong few all → (b : ℕ) (s : Said)
    → Grows (said_under u few b s) (said_under u all b s)
said_grows u ug few all among b (said_term e) = map_grows values.term _ _ (term_grows u ug few all among b e)
said_grows u ug few all among b (said_claim f) = map_grows values.formula _ _ (claim_grows u ug few all among b f)

pub uses_grow : (bodies : Saids) (n : ℕ) → AreGrowing (uses_in bodies n)
uses_grow bodies zero decl few all among = same _
uses_grow bodies (suc n) decl few all among =
    if_grows (decl == n) _ _ _ _
    (then_grows (said_under (uses_in bodies n) few 0) (said_under (uses_in bodies n) all 0) (said_at bodies n)
    (said_at bodies n)
    (said_grows (uses_in bodies n) (uses_grow bodies n) few all among 0) (same (said_at bodies n)))
    (uses_grow bodies n decl few all among)

-- # A use is the body of its query

at_once : (bodies : Saids) (n decl : ℕ) (given : Given) (here : Bool) → decl == n ≡ here → decl < suc n
    → (decl < n → uses_in bodies n decl given ≡ option_and_then (said_under (uses_in bodies decl) given 0)
    (said_at bodies decl))
    → (if here then option_and_then (said_under (uses_in bodies n) given 0) (said_at bodies n) else uses_in bodies n decl given)
    ≡ option_and_then (said_under (uses_in bodies decl) given 0) (said_at bodies decl)
at_once bodies n decl given true e lt before =
    ap (λ k. option_and_then (said_under (uses_in bodies k) given 0) (said_at bodies k)) (sym (eqb-true decl n e))
at_once bodies n decl given false e lt before = before (grind (arith, e, lt))

pub use_below : (bodies : Saids) (n decl : ℕ) (given : Given) → decl < n
    → uses_in bodies n decl given ≡ option_and_then (said_under (uses_in bodies decl) given 0) (said_at bodies decl)
use_below bodies zero decl given lt = absurd (omega (arith, lt))
use_below bodies (suc n) decl given lt = at_once bodies n decl given (decl == n) refl lt (use_below bodies n decl given)
