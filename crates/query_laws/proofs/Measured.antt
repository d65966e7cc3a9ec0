-- Measures against what is made: depth, binders, nodes and whether it reads the store.
use Rattle.std.proofs.Common.{◌≡◌, ◌≤◌, ◌<◌, ◌+◌, ◌*◌, ℕ, suc, max, Bool, true, false, ◌||◌, List, [], ◌∷◌, length, Option, Some, None, slice_get, nat_lt, if◌then◌else◌, refl, ap, sym, subst, ◌∙◌, arith, mul-pos, ltb-true, ltb-false}
use Rattle.std.specs.Prelude.{unwrap_or}
use Rattle.rp_value.specs.declared.tables.ConTable.{ConTable}
use Rattle.rp_lang.specs.Exprs as ex
use Rattle.rp_lang.specs.Exprs.{Ex, Exs, no_ex, also_ex}
use Rattle.rp_lang.specs.Formulas as fo
use Rattle.rp_lang.specs.Formulas.{Fo, Fos, no_fo, also_fo, Arms, no_arm, also_arm}
use Rattle.rp_lang.specs.Bounds.{fo_binders, arms_binders}
use Rattle.rp_lang.specs.Types.{fields_of}
use Rattle.desugaring.specs.Values as values
use Rattle.desugaring.specs.Values.{Value, term, formula, as_term, as_formula}
use Rattle.desugaring.proofs.Options.{then_there, map_there, both_there}
use Rattle.query_bodies.specs.declared.bodies.Standing.{Standing}
use Rattle.query_bodies.specs.Terms as te
use Rattle.query_bodies.specs.Terms.{Te, Tes, no_te, also_te, Cl, Cls, no_cl, also_cl, ClArms, no_cl_arm, also_cl_arm, Said, said_term, said_claim}
use Rattle.query_bodies.specs.Expanded as put
use Rattle.query_bodies.specs.Expanded.{Uses, Given, given_at, lifted_by}
use Rattle.query_bodies.specs.Measures as measure
use Rattle.query_bodies.specs.Measures.{At, Measured, Known, below, under, node, noted, noted_use, reading, stood, standing_in, argument_at, times, nowhere}
use Rattle.query_laws.specs.Told.{IsClaimAt, claim_fits, claims_fit, arms_fit}
use Rattle.query_laws.proofs.Sizes.{Size, size_ex, size_exs, size_fo, size_fos, size_arms, size_of, node_size, arm_size, join, IsNear, sum_near, difference_near, size_lifted}
use Rattle.query_laws.proofs.Standing.{OnEach, Covered, each_missing, Present, over_missing}
use Rattle.query_laws.proofs.Told.{few, many, ToldTerm, ToldClaim, ToldList, anywhere, narrow_at, term_listed, claim_listed, claim_term, told_near, told_none, told_both, told_leaf, told_over, told_reading, told_bound, told_arm}
use Rattle.query_laws.proofs.Params.{told_param}
use Rattle.query_laws.proofs.Used.{BodyTold, ArgsTold, args_none, arg_skipped, arg_told, use_told}

-- # Uses

-- what a use becomes is told by the measures of the query's body
pub record UseTold (cons : ConTable) (k : Known) (decl : ℕ) (given : Given) (v : Value) : Type 0 where
  pub q : Measured
  pub is : k decl ≡ Some q
  pub told : BodyTold given q (size_of cons v)

abbrev pub UsesTold : ConTable → Uses → Known → Type 0
UsesTold cons u k = (decl : ℕ) (given : Given) (v : Value) → u decl given ≡ Some v → UseTold cons k decl given v

-- a query whose body is a formula becomes one
abbrev pub FormsKept : put.Saids → Uses → Type 0
FormsKept bodies u = (decl : ℕ) (given : Given) (v : Value) → u decl given ≡ Some v → IsClaimAt bodies decl
    → v ≡ formula (as_formula v)

moved : {X : Type 0} (P : X → Type 0) (z x : X) → Some z ≡ Some x → P z → P x
moved P z x e p = subst P (cc) p

term_value : (v : Value) (x : Ex) → as_term v ≡ Some x → v ≡ term x
term_value (term y) x e = let same : y ≡ x = cc in ap term same
term_value (formula f) x e = absurd cc

-- one argument more
arg_step : (g : Given) (at : At) (o : Option Ex) (gs : Given) (s : Standing) (ss : List Standing) (m there : Measured) (next :
    Measured → Measured)
    → 0 < at.comes → Covered g m.params → Present o s
    → (0 < s.times → (x : Ex) → o ≡ Some x → ToldTerm g (argument_at at s) m there (size_ex x))
    → ((mid : Measured) → Covered g mid.params → ArgsTold g at gs ss mid (next mid))
    → ArgsTold g at (o ∷ gs) (s ∷ ss) m (next (if nat_lt 0 s.times then there else m))
arg_step g at o gs s ss m there next comes cov here first rest = by_times (nat_lt 0 s.times) refl where
  by_value : (p : Option Ex) → o ≡ p → Present p s → 0 < s.times → ArgsTold g at (p ∷ gs) (s ∷ ss) m (next there)
  by_value None e none used = absurd (omega (arith, none, used))
  by_value (Some x) e some used =
      let this = first used x e in arg_told g at x gs s ss m there (next there) used comes this (rest there (this.covered cov))

  by_times : (more : Bool) → nat_lt 0 s.times ≡ more → ArgsTold g at (o ∷ gs) (s ∷ ss) m (next (if more then there else m))
  by_times true e = by_value o refl here (ltb-true 0 s.times e)
  by_times false e =
      let none : s.times ≤ 0 = ltb-false 0 s.times e in
      arg_skipped g at o gs s ss m (next m) (omega (arith, none)) (rest m cov)

-- one argument beyond the parameters
arg_beyond : (g : Given) (at : At) (o : Option Ex) (gs : Given) (m new : Measured) → ArgsTold g at gs [] m new
    → ArgsTold g at (o ∷ gs) [] m new
arg_beyond g at o gs m new r = record {
  covered = r.covered;
  clean = r.clean;
  present = r.present;
  deep_kept = r.deep_kept;
  deep_in = r.deep_in;
  deep_out = r.deep_out;
  wide_kept = r.wide_kept;
  wide_out = r.wide_out;
  silent_kept = r.silent_kept;
  silent_in = r.silent_in;
  silent_out = r.silent_out;
  low = r.low;
  high = r.high;
}

-- from number p on how these parameters stand, and none behind
abbrev IsRest : Measured → ℕ → List Standing → Type 0
IsRest q p ss = (i : ℕ) → standing_in (Some q) (p + i) ≡ unwrap_or (slice_get ss i) nowhere

rest_first : (q : Measured) (p : ℕ) (ss : List Standing) → IsRest q p ss
    → standing_in (Some q) p ≡ unwrap_or (slice_get ss 0) nowhere
rest_first q p ss is = let same : p ≡ p + 0 = omega arith in ap (standing_in (Some q)) same ∙ is 0

rest_next : (q : Measured) (p : ℕ) (s : Standing) (ss : List Standing) → IsRest q p (s ∷ ss) → IsRest q (p + 1) ss
rest_next q p s ss is i =
    let next : p + 1 + i ≡ p + suc i = omega arith in ap (standing_in (Some q)) next ∙ is (suc i)

rest_none : (q : Measured) (p : ℕ) → IsRest q p [] → IsRest q (p + 1) []
rest_none q p is i = let next : p + 1 + i ≡ p + suc i = omega arith in ap (standing_in (Some q)) next ∙ is (suc i)

from_first : (q : Measured) → IsRest q 0 q.params
from_first q i = let same : 0 + i ≡ i = omega arith in ap (standing_in (Some q)) same

-- # Terms

one_over : (g : Given) (at : At) (m new : Measured) (s : Size) → ToldTerm g (below at) (node at m) new s
    → ToldTerm g at m new (node_size s)
one_over g at m new s t = told_over g anywhere (narrow_at at) at m new s (term_listed g (below at) (node at m) new s t)

mutual
  pub term_told : (cons : ConTable) (u : Uses) (k : Known) (t : UsesTold cons u k) (g : Given) (b : ℕ) (at : At) (m : Measured)
      (comes : 0 < at.comes) (cov : Covered g m.params) (e : Te) (x : Ex) → put.term u g b e ≡ Some x
      → ToldTerm g at m (measure.term k at e m) (size_ex x)
  term_told cons u k t g b at m comes cov (te.Slot s) x h =
      moved (λ z. ToldTerm g at m (node at m) (size_ex z)) (ex.Slot s) x h (told_leaf g anywhere (narrow_at at) at m)
  term_told cons u k t g b at m comes cov (te.Param p) x h =
      map_there (λ z. ToldTerm g at m (stood at p m) (size_ex z)) (lifted_by b) (given_at g p) x h (λ y i.
      subst (λ s. ToldTerm g at m (stood at p m) s) (sym (size_lifted b y)) (told_param g at m p y comes cov i))
  term_told cons u k t g b at m comes cov (te.Level n) x h =
      moved (λ z. ToldTerm g at m (node at m) (size_ex z)) _ x h (told_leaf g anywhere (narrow_at at) at m)
  term_told cons u k t g b at m comes cov (te.Int n) x h =
      moved (λ z. ToldTerm g at m (node at m) (size_ex z)) (ex.Int n) x h (told_leaf g anywhere (narrow_at at) at m)
  term_told cons u k t g b at m comes cov (te.Str bytes) x h =
      moved (λ z. ToldTerm g at m (node at m) (size_ex z)) (ex.Str bytes) x h (told_leaf g anywhere (narrow_at at) at m)
  term_told cons u k t g b at m comes cov (te.ResultTerm proc) x h =
      moved (λ z. ToldTerm g at m (node at m) (size_ex z)) (ex.ResultTerm proc) x h (told_leaf g anywhere (narrow_at at) at m)
  term_told cons u k t g b at m comes cov te.Unreturned x h =
      moved (λ z. ToldTerm g at m (node at m) (size_ex z)) ex.Unreturned x h (told_leaf g anywhere (narrow_at at) at m)
  term_told cons u k t g b at m comes cov (te.Con con args) x h =
      map_there (λ z. ToldTerm g at m (measure.terms k (below at) args (node at m)) (size_ex z)) (ex.Con con) _ x h (λ xs i.
      told_over g anywhere (narrow_at at) at m _ (size_exs xs)
      (terms_told cons u k t g b (below at) (node at m) comes cov args xs i))
  term_told cons u k t g b at m comes cov (te.OpTerm op args) x h =
      map_there (λ z. ToldTerm g at m (measure.terms k (below at) args (node at m)) (size_ex z)) (ex.OpTerm op) _ x h (λ xs i.
      told_over g anywhere (narrow_at at) at m _ (size_exs xs)
      (terms_told cons u k t g b (below at) (node at m) comes cov args xs i))
  term_told cons u k t g b at m comes cov (te.InfoTerm proc args) x h =
      map_there (λ z. ToldTerm g at m (measure.terms k (below at) args (node at m)) (size_ex z)) (ex.InfoTerm proc) _ x h (λ xs i.
      told_over g anywhere (narrow_at at) at m _ (size_exs xs)
      (terms_told cons u k t g b (below at) (node at m) comes cov args xs i))
  term_told cons u k t g b at m comes cov (te.Query query args) x h =
      map_there (λ z. ToldTerm g at m (measure.terms k (below at) args (reading (node at m))) (size_ex z)) (ex.Query query) _ x
      h (λ xs i.
      told_reading g anywhere (narrow_at at) at m _ (size_exs xs)
      (terms_told cons u k t g b (below at) (reading (node at m)) comes cov args xs i))
  term_told cons u k t g b at m comes cov (te.OpOf call) x h =
      map_there (λ z. ToldTerm g at m (measure.term k (below at) call (node at m)) (size_ex z)) ex.OpOf _ x h (λ y i.
      one_over g at m _ (size_ex y) (term_told cons u k t g b (below at) (node at m) comes cov call y i))
  term_told cons u k t g b at m comes cov (te.OriginOf call) x h =
      map_there (λ z. ToldTerm g at m (measure.term k (below at) call (node at m)) (size_ex z)) ex.OriginOf _ x h (λ y i.
      one_over g at m _ (size_ex y) (term_told cons u k t g b (below at) (node at m) comes cov call y i))
  term_told cons u k t g b at m comes cov (te.InfoOf inv) x h =
      map_there (λ z. ToldTerm g at m (measure.term k (below at) inv (node at m)) (size_ex z)) ex.InfoOf _ x h (λ y i.
      one_over g at m _ (size_ex y) (term_told cons u k t g b (below at) (node at m) comes cov inv y i))
  term_told cons u k t g b at m comes cov (te.ResultOf inv) x h =
      map_there (λ z. ToldTerm g at m (measure.term k (below at) inv (node at m)) (size_ex z)) ex.ResultOf _ x h (λ y i.
      one_over g at m _ (size_ex y) (term_told cons u k t g b (below at) (node at m) comes cov inv y i))
  term_told cons u k t g b at m comes cov (te.ResultWith proc value) x h =
      map_there (λ z. ToldTerm g at m (measure.term k (below at) value (node at m)) (size_ex z)) (put.with_value proc) _ x h (λ
      y i.
      one_over g at m _ (size_ex y) (term_told cons u k t g b (below at) (node at m) comes cov value y i))
  term_told cons u k t g b at m comes cov (te.Sum left right) x h =
      let mid = measure.term k (below at) left (node at m) in
      both_there (λ z. ToldTerm g at m (measure.term k (below at) right mid) (size_ex z)) values.sum _ _ x h (λ p q i j.
      let l = term_listed g (below at) (node at m) mid (size_ex p) (term_told cons u k t g b (below at) (node at m) comes cov
      left p i) in
      told_near g anywhere (narrow_at at) at m _ _ _ (sum_near p q)
      (told_over g anywhere (narrow_at at) at m _ (join (size_ex p) (size_ex q)) (told_both g (below at) (node at m) mid _
      (size_ex p) (size_ex q) l
      (term_listed g (below at) mid _ (size_ex q) (term_told cons u k t g b (below at) mid comes (l.covered cov) right q j)))))
  term_told cons u k t g b at m comes cov (te.Difference left right) x h =
      let mid = measure.term k (below at) left (node at m) in
      both_there (λ z. ToldTerm g at m (measure.term k (below at) right mid) (size_ex z)) values.difference _ _ x h (λ p q i j.
      let l = term_listed g (below at) (node at m) mid (size_ex p) (term_told cons u k t g b (below at) (node at m) comes cov
      left p i) in
      told_near g anywhere (narrow_at at) at m _ _ _ (difference_near p q)
      (told_over g anywhere (narrow_at at) at m _ (join (size_ex p) (size_ex q)) (told_both g (below at) (node at m) mid _
      (size_ex p) (size_ex q) l
      (term_listed g (below at) mid _ (size_ex q) (term_told cons u k t g b (below at) mid comes (l.covered cov) right q j)))))
  term_told cons u k t g b at m comes cov (te.Use decl args) x h =
      then_there as_term _ x h (λ v i j.
      let w = t decl (put.arguments u g b args) v i in
      let body : BodyTold (put.arguments u g b args) w.q (size_ex x) =
      subst (λ z. BodyTold (put.arguments u g b args) w.q (size_of cons z)) (term_value v x j) w.told in
      subst (λ o. ToldTerm g at m (measure.arguments k at o 0 args (noted_use at o m)) (size_ex x)) (sym w.is)
      (claim_term g at m _ (size_ex x) (use_told g at (put.arguments u g b args) w.q m _ (size_ex x) comes body
      (args_told cons u k t g b at comes w.q 0 w.q.params (from_first w.q) args (noted at w.q.facts m) cov body.present))))

  pub terms_told : (cons : ConTable) (u : Uses) (k : Known) (t : UsesTold cons u k) (g : Given) (b : ℕ) (at : At) (m : Measured)
      (comes : 0 < at.comes) (cov : Covered g m.params) (es : Tes) (xs : Exs) → put.terms u g b es ≡ Some xs
      → ToldList g at m (measure.terms k at es m) (size_exs xs)
  terms_told cons u k t g b at m comes cov no_te xs h =
      moved (λ z. ToldList g at m m (size_exs z)) no_ex xs h (told_none g at m)
  terms_told cons u k t g b at m comes cov (also_te e es) xs h =
      let mid = measure.term k at e m in
      both_there (λ z. ToldList g at m (measure.terms k at es mid) (size_exs z)) also_ex _ _ xs h (λ p q i j.
      let l = term_listed g at m mid (size_ex p) (term_told cons u k t g b at m comes cov e p i) in
      told_both g at m mid _ (size_ex p) (size_exs q) l (terms_told cons u k t g b at mid comes (l.covered cov) es q j))

  pub args_told : (cons : ConTable) (u : Uses) (k : Known) (t : UsesTold cons u k) (g : Given) (b : ℕ) (at : At)
      (comes : 0 < at.comes) (q : Measured) (p : ℕ) (ss : List Standing) (is : IsRest q p ss) (args : Tes) (m : Measured)
      (cov : Covered g m.params) → OnEach Present (put.arguments u g b args) ss
      → ArgsTold g at (put.arguments u g b args) ss m (measure.arguments k at (Some q) p args m)
  args_told cons u k t g b at comes q p ss is no_te m cov here =
      args_none g at [] ss m (λ R unused none. each_missing R none ss) (over_missing few (λ s. refl) ss) (over_missing many (λ
      s. refl) ss)
  args_told cons u k t g b at comes q p [] is (also_te e es) m cov here =
      subst (λ (z : Standing). ArgsTold g at (put.arguments u g b (also_te e es)) [] m
      (measure.arguments k at (Some q) (p + 1) es (if nat_lt 0 z.times then measure.term k (argument_at at z) e m else m)))
      (sym (rest_first q p [] is))
      (arg_beyond g at (put.term u g b e) (put.arguments u g b es) m _
      (args_told cons u k t g b at comes q (p + 1) [] (rest_none q p is) es m cov tt))
  args_told cons u k t g b at comes q p (s ∷ ss) is (also_te e es) m cov here =
      subst (λ (z : Standing). ArgsTold g at (put.arguments u g b (also_te e es)) (s ∷ ss) m
      (measure.arguments k at (Some q) (p + 1) es (if nat_lt 0 z.times then measure.term k (argument_at at z) e m else m)))
      (sym (rest_first q p (s ∷ ss) is))
      (arg_step g at (put.term u g b e) (put.arguments u g b es) s ss m (measure.term k (argument_at at s) e m)
      (λ mid. measure.arguments k at (Some q) (p + 1) es mid) comes cov here.0
      (λ used x i. let many_times : 0 < at.comes * s.times = mul-pos comes used in
      term_told cons u k t g b (argument_at at s) m (omega (arith, many_times)) cov e x i)
      (λ mid c. args_told cons u k t g b at comes q (p + 1) ss (rest_next q p s ss is) es mid c here.1))

-- # Formulas

-- two parts
abbrev pair_size : Size → Size → Size
pair_size s t = record {
  depth = 1 + max s.depth t.depth;
  binders = max s.binders t.binders;
  nodes = 1 + s.nodes + t.nodes;
  sums = s.sums + t.sums;
  reads = s.reads || t.reads;
}

pair_near : (s t : Size) → IsNear (pair_size s t) (node_size (join s t))
pair_near s t = record { depth = refl; binders = refl; least = omega arith; most = omega arith; reads = refl }

match_near : (cons : ConTable) (e : Ex) (arms : Arms)
    → IsNear (size_fo cons (fo.Match e arms)) (node_size (join (size_ex e) (size_arms cons arms)))
match_near cons e arms = record { depth = refl; binders = omega arith; least = omega arith; most = omega arith; reads = refl }

arm_near : (cons : ConTable) (con binds : ℕ) (f : Fo) (rest : Arms) → length (fields_of cons con) ≡ binds
    → IsNear (size_arms cons (also_arm con f rest)) (join (arm_size binds (size_fo cons f)) (size_arms cons rest))
arm_near cons con binds f rest e = record {
  depth = refl;
  binders = ap (λ n. max (n + fo_binders cons f) (arms_binders cons rest)) e;
  least = omega arith;
  most = omega arith;
  reads = refl;
}

-- two terms in a formula
two_told : (cons : ConTable) (u : Uses) (k : Known) (t : UsesTold cons u k) (g : Given) (b : ℕ) (at : At) (m : Measured)
    (comes : 0 < at.comes) (cov : Covered g m.params) (left right : Te) (p q : Ex) → put.term u g b left ≡ Some p
    → put.term u g b right ≡ Some q
    → ToldClaim g at m (measure.term k (below at) right (measure.term k (below at) left (node at m))) (pair_size (size_ex p)
    (size_ex q))
two_told cons u k t g b at m comes cov left right p q i j =
    let mid = measure.term k (below at) left (node at m) in
    let l = term_listed g (below at) (node at m) mid (size_ex p) (term_told cons u k t g b (below at) (node at m) comes cov
    left p i) in
    told_near g anywhere anywhere at m _ _ _ (pair_near (size_ex p) (size_ex q))
    (told_over g anywhere anywhere at m _ (join (size_ex p) (size_ex q)) (told_both g (below at) (node at m) mid _ (size_ex p)
    (size_ex q) l
    (term_listed g (below at) mid _ (size_ex q) (term_told cons u k t g b (below at) mid comes (l.covered cov) right q j))))

one_told : (cons : ConTable) (u : Uses) (k : Known) (t : UsesTold cons u k) (g : Given) (b : ℕ) (at : At) (m : Measured)
    (comes : 0 < at.comes) (cov : Covered g m.params) (e : Te) (p : Ex) → put.term u g b e ≡ Some p
    → ToldClaim g at m (measure.term k (below at) e (node at m)) (node_size (size_ex p))
one_told cons u k t g b at m comes cov e p i =
    told_over g anywhere anywhere at m _ (size_ex p)
    (term_listed g (below at) (node at m) _ (size_ex p) (term_told cons u k t g b (below at) (node at m) comes cov e p i))

mutual
  pub claim_told : (cons : ConTable) (bodies : put.Saids) (u : Uses) (k : Known) (t : UsesTold cons u k) (forms : FormsKept
      bodies u)
      (g : Given) (b : ℕ) (at : At) (m : Measured) (comes : 0 < at.comes) (cov : Covered g m.params) (f : Cl) (x : Fo)
      → claim_fits cons bodies f → put.claim u g b f ≡ Some x
      → ToldClaim g at m (measure.claim k at f m) (size_fo cons x)
  claim_told cons bodies u k t forms g b at m comes cov (te.And parts) x fits h =
      map_there (λ z. ToldClaim g at m (measure.claims k (below at) parts (node at m)) (size_fo cons z)) fo.And _ x h (λ xs i.
      told_over g anywhere anywhere at m _ (size_fos cons xs)
      (claims_told cons bodies u k t forms g b (below at) (node at m) comes cov parts xs fits i))
  claim_told cons bodies u k t forms g b at m comes cov (te.Or parts) x fits h =
      map_there (λ z. ToldClaim g at m (measure.claims k (below at) parts (node at m)) (size_fo cons z)) fo.Or _ x h (λ xs i.
      told_over g anywhere anywhere at m _ (size_fos cons xs)
      (claims_told cons bodies u k t forms g b (below at) (node at m) comes cov parts xs fits i))
  claim_told cons bodies u k t forms g b at m comes cov (te.Not part) x fits h =
      map_there (λ z. ToldClaim g at m (measure.claim k (below at) part (node at m)) (size_fo cons z)) fo.Not _ x h (λ y i.
      told_over g anywhere anywhere at m _ (size_fo cons y) (claim_listed g (below at) (node at m) _ (size_fo cons y)
      (claim_told cons bodies u k t forms g b (below at) (node at m) comes cov part y fits i)))
  claim_told cons bodies u k t forms g b at m comes cov (te.Implies left right) x fits h =
      let mid = measure.claim k (below at) left (node at m) in
      both_there (λ z. ToldClaim g at m (measure.claim k (below at) right mid) (size_fo cons z)) fo.Implies _ _ x h (λ p q i j.
      let l = claim_listed g (below at) (node at m) mid (size_fo cons p)
      (claim_told cons bodies u k t forms g b (below at) (node at m) comes cov left p fits.0 i) in
      told_near g anywhere anywhere at m _ _ _ (pair_near (size_fo cons p) (size_fo cons q))
      (told_over g anywhere anywhere at m _ (join (size_fo cons p) (size_fo cons q))
      (told_both g (below at) (node at m) mid _ (size_fo cons p) (size_fo cons q) l
      (claim_listed g (below at) mid _ (size_fo cons q)
      (claim_told cons bodies u k t forms g b (below at) mid comes (l.covered cov) right q fits.1 j)))))
  claim_told cons bodies u k t forms g b at m comes cov (te.All ty body) x fits h =
      map_there (λ z. ToldClaim g at m (measure.claim k (under 1 at) body (node at m)) (size_fo cons z)) (fo.All ty) _ x h (λ y i.
      told_bound g at m _ (size_fo cons y)
      (claim_told cons bodies u k t forms g (b + 1) (under 1 at) (node at m) comes cov body y fits i))
  claim_told cons bodies u k t forms g b at m comes cov (te.Any ty body) x fits h =
      map_there (λ z. ToldClaim g at m (measure.claim k (under 1 at) body (node at m)) (size_fo cons z)) (fo.Any ty) _ x h (λ y i.
      told_bound g at m _ (size_fo cons y)
      (claim_told cons bodies u k t forms g (b + 1) (under 1 at) (node at m) comes cov body y fits i))
  claim_told cons bodies u k t forms g b at m comes cov (te.Holds e) x fits h =
      map_there (λ z. ToldClaim g at m (measure.term k (below at) e (node at m)) (size_fo cons z)) fo.Holds _ x h (λ y i.
      one_told cons u k t g b at m comes cov e y i)
  claim_told cons bodies u k t forms g b at m comes cov (te.Visible e) x fits h =
      map_there (λ z. ToldClaim g at m (measure.term k (below at) e (node at m)) (size_fo cons z)) fo.Visible _ x h (λ y i.
      one_told cons u k t g b at m comes cov e y i)
  claim_told cons bodies u k t forms g b at m comes cov (te.Equal left right) x fits h =
      both_there (λ z. ToldClaim g at m (measure.claim k at (te.Equal left right) m) (size_fo cons z)) fo.Equal _ _ x h (λ p q
      i j.
      two_told cons u k t g b at m comes cov left right p q i j)
  claim_told cons bodies u k t forms g b at m comes cov (te.Less left right) x fits h =
      both_there (λ z. ToldClaim g at m (measure.claim k at (te.Less left right) m) (size_fo cons z)) fo.Less _ _ x h (λ p q i j.
      two_told cons u k t g b at m comes cov left right p q i j)
  claim_told cons bodies u k t forms g b at m comes cov (te.AtMost left right) x fits h =
      both_there (λ z. ToldClaim g at m (measure.claim k at (te.AtMost left right) m) (size_fo cons z)) fo.AtMost _ _ x h (λ p
      q i j.
      two_told cons u k t g b at m comes cov left right p q i j)
  claim_told cons bodies u k t forms g b at m comes cov (te.Before left right) x fits h =
      both_there (λ z. ToldClaim g at m (measure.claim k at (te.Before left right) m) (size_fo cons z)) fo.Before _ _ x h (λ p
      q i j.
      two_told cons u k t g b at m comes cov left right p q i j)
  claim_told cons bodies u k t forms g b at m comes cov (te.Same left right) x fits h =
      both_there (λ z. ToldClaim g at m (measure.claim k at (te.Same left right) m) (size_fo cons z)) fo.Same _ _ x h (λ p q i j.
      two_told cons u k t g b at m comes cov left right p q i j)
  claim_told cons bodies u k t forms g b at m comes cov (te.Match on arms) x fits h =
      let mid = measure.term k (below at) on (node at m) in
      both_there (λ z. ToldClaim g at m (measure.arms_of k at arms mid) (size_fo cons z)) fo.Match _ _ x h (λ p q i j.
      let l = term_listed g (below at) (node at m) mid (size_ex p) (term_told cons u k t g b (below at) (node at m) comes cov
      on p i) in
      told_near g anywhere anywhere at m _ _ _ (match_near cons p q)
      (told_over g anywhere anywhere at m _ (join (size_ex p) (size_arms cons q))
      (told_both g (below at) (node at m) mid _ (size_ex p) (size_arms cons q) l
      (arms_told cons bodies u k t forms g b at mid comes (l.covered cov) arms q fits j))))
  claim_told cons bodies u k t forms g b at m comes cov (te.UseCl decl args) x fits h =
      map_there (λ z. ToldClaim g at m (measure.arguments k at (k decl) 0 args (noted_use at (k decl) m)) (size_fo cons z))
      as_formula _ x h
      (λ v i.
      let w = t decl (put.arguments u g b args) v i in
      let body : BodyTold (put.arguments u g b args) w.q (size_fo cons (as_formula v)) =
      subst (λ z. BodyTold (put.arguments u g b args) w.q (size_of cons z)) (forms decl (put.arguments u g b args) v i fits)
      w.told in
      subst (λ o. ToldClaim g at m (measure.arguments k at o 0 args (noted_use at o m)) (size_fo cons (as_formula v))) (sym w.is)
      (use_told g at (put.arguments u g b args) w.q m _ (size_fo cons (as_formula v)) comes body
      (args_told cons u k t g b at comes w.q 0 w.q.params (from_first w.q) args (noted at w.q.facts m) cov body.present)))

  claims_told : (cons : ConTable) (bodies : put.Saids) (u : Uses) (k : Known) (t : UsesTold cons u k) (forms : FormsKept bodies u)
      (g : Given) (b : ℕ) (at : At) (m : Measured) (comes : 0 < at.comes) (cov : Covered g m.params) (fs : Cls) (xs : Fos)
      → claims_fit cons bodies fs → put.claims u g b fs ≡ Some xs
      → ToldList g at m (measure.claims k at fs m) (size_fos cons xs)
  claims_told cons bodies u k t forms g b at m comes cov no_cl xs fits h =
      moved (λ z. ToldList g at m m (size_fos cons z)) no_fo xs h (told_none g at m)
  claims_told cons bodies u k t forms g b at m comes cov (also_cl f fs) xs fits h =
      let mid = measure.claim k at f m in
      both_there (λ z. ToldList g at m (measure.claims k at fs mid) (size_fos cons z)) also_fo _ _ xs h (λ p q i j.
      let l = claim_listed g at m mid (size_fo cons p) (claim_told cons bodies u k t forms g b at m comes cov f p fits.0 i) in
      told_both g at m mid _ (size_fo cons p) (size_fos cons q) l
      (claims_told cons bodies u k t forms g b at mid comes (l.covered cov) fs q fits.1 j))

  arms_told : (cons : ConTable) (bodies : put.Saids) (u : Uses) (k : Known) (t : UsesTold cons u k) (forms : FormsKept bodies u)
      (g : Given) (b : ℕ) (at : At) (m : Measured) (comes : 0 < at.comes) (cov : Covered g m.params) (arms : ClArms) (xs : Arms)
      → arms_fit cons bodies arms → put.arms_of u g b arms ≡ Some xs
      → ToldList g (below at) m (measure.arms_of k at arms m) (size_arms cons xs)
  arms_told cons bodies u k t forms g b at m comes cov no_cl_arm xs fits h =
      moved (λ z. ToldList g (below at) m m (size_arms cons z)) no_arm xs h (told_none g (below at) m)
  arms_told cons bodies u k t forms g b at m comes cov (also_cl_arm con binds body rest) xs fits h =
      let mid = measure.claim k (under binds at) body m in
      both_there (λ z. ToldList g (below at) m (measure.arms_of k at rest mid) (size_arms cons z)) (also_arm con) _ _ xs h (λ p
      q i j.
      let l = told_arm g at m mid binds (size_fo cons p)
      (claim_told cons bodies u k t forms g (b + binds) (under binds at) m comes cov body p fits.1 i) in
      told_near g _ _ (below at) m _ _ _ (arm_near cons con binds p q fits.0)
      (told_both g (below at) m mid _ (arm_size binds (size_fo cons p)) (size_arms cons q) l
      (arms_told cons bodies u k t forms g b at mid comes (l.covered cov) rest q fits.2 j)))
