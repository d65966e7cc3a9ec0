-- What is measured keeps its parameters.
use Rattle.std.proofs.Common.{◌≡◌, ◌+◌, ℕ, zero, suc, Bool, true, false, List, [], ◌∷◌, length, Option, Some, None, nat_lt, if◌then◌else◌, slice_get, slice_set, refl, ap, ◌∙◌}
use Rattle.std.proofs.lemmas.List.{length-replicate, length-set}
use Rattle.query_bodies.specs.declared.bodies.Standing.{Standing}
use Rattle.query_bodies.specs.Terms as te
use Rattle.query_bodies.specs.Terms.{Te, Tes, no_te, also_te, Cl, Cls, no_cl, also_cl, ClArms, no_cl_arm, also_cl_arm, Said, said_term, said_claim}
use Rattle.query_bodies.specs.Measures as measure
use Rattle.query_bodies.specs.Measures.{At, Measured, Known, below, under, node, noted_use, reading, standing_in, standing_with, stood_at, argument_at, outside, unmeasured, nowhere, measured}

-- as many parameters are measured as before
abbrev IsLong : Measured → Measured → Type 0
IsLong m new = length new.params ≡ length m.params

stood_long : (at : At) (p : ℕ) (o : Option Standing) (ss : List Standing) → length (stood_at at p o ss) ≡ length ss
stood_long at p None ss = refl
stood_long at p (Some s) ss = length-set ss p (standing_with at s)

used_long : (at : At) (o : Option Measured) (m : Measured) → IsLong m (noted_use at o m)
used_long at None m = refl
used_long at (Some q) m = refl

left_out : (b : Bool) (m there : Measured) → IsLong m there → IsLong m (if b then there else m)
left_out true m there e = e
left_out false m there e = refl

mutual
  term_long : (k : Known) (at : At) (e : Te) (m : Measured) → IsLong m (measure.term k at e m)
  term_long k at (te.Slot s) m = refl
  term_long k at (te.Param p) m = stood_long at p (slice_get m.params p) m.params
  term_long k at (te.Level n) m = refl
  term_long k at (te.Int n) m = refl
  term_long k at (te.Str bytes) m = refl
  term_long k at (te.Con con args) m = terms_long k (below at) args (node at m)
  term_long k at (te.Sum a b) m =
      term_long k (below at) b (measure.term k (below at) a (node at m)) ∙ term_long k (below at) a (node at m)
  term_long k at (te.Difference a b) m =
      term_long k (below at) b (measure.term k (below at) a (node at m)) ∙ term_long k (below at) a (node at m)
  term_long k at (te.Query query args) m = terms_long k (below at) args (reading (node at m))
  term_long k at (te.OpOf call) m = term_long k (below at) call (node at m)
  term_long k at (te.OpTerm op args) m = terms_long k (below at) args (node at m)
  term_long k at (te.OriginOf call) m = term_long k (below at) call (node at m)
  term_long k at (te.InfoOf inv) m = term_long k (below at) inv (node at m)
  term_long k at (te.InfoTerm proc args) m = terms_long k (below at) args (node at m)
  term_long k at (te.ResultOf inv) m = term_long k (below at) inv (node at m)
  term_long k at (te.ResultTerm proc) m = refl
  term_long k at (te.ResultWith proc value) m = term_long k (below at) value (node at m)
  term_long k at te.Unreturned m = refl
  term_long k at (te.Use decl args) m =
      arguments_long k at (k decl) 0 args (noted_use at (k decl) m) ∙ used_long at (k decl) m

  terms_long : (k : Known) (at : At) (es : Tes) (m : Measured) → IsLong m (measure.terms k at es m)
  terms_long k at no_te m = refl
  terms_long k at (also_te e es) m = terms_long k at es (measure.term k at e m) ∙ term_long k at e m

  arguments_long : (k : Known) (at : At) (q : Option Measured) (p : ℕ) (es : Tes) (m : Measured)
      → IsLong m (measure.arguments k at q p es m)
  arguments_long k at q p no_te m = refl
  arguments_long k at q p (also_te e es) m =
      let s = standing_in q p in
      let there = measure.term k (argument_at at s) e m in
      arguments_long k at q (p + 1) es (if nat_lt 0 s.times then there else m)
      ∙ left_out (nat_lt 0 s.times) m there (term_long k (argument_at at s) e m)

two_long : (k : Known) (at : At) (a b : Te) (m : Measured) → IsLong m (measure.term k at b (measure.term k at a m))
two_long k at a b m = term_long k at b (measure.term k at a m) ∙ term_long k at a m

mutual
  claim_long : (k : Known) (at : At) (f : Cl) (m : Measured) → IsLong m (measure.claim k at f m)
  claim_long k at (te.And parts) m = claims_long k (below at) parts (node at m)
  claim_long k at (te.Or parts) m = claims_long k (below at) parts (node at m)
  claim_long k at (te.Not part) m = claim_long k (below at) part (node at m)
  claim_long k at (te.Implies a b) m =
      claim_long k (below at) b (measure.claim k (below at) a (node at m)) ∙ claim_long k (below at) a (node at m)
  claim_long k at (te.All ty body) m = claim_long k (under 1 at) body (node at m)
  claim_long k at (te.Any ty body) m = claim_long k (under 1 at) body (node at m)
  claim_long k at (te.Holds e) m = term_long k (below at) e (node at m)
  claim_long k at (te.Equal a b) m = two_long k (below at) a b (node at m)
  claim_long k at (te.Less a b) m = two_long k (below at) a b (node at m)
  claim_long k at (te.AtMost a b) m = two_long k (below at) a b (node at m)
  claim_long k at (te.Visible e) m = term_long k (below at) e (node at m)
  claim_long k at (te.Before a b) m = two_long k (below at) a b (node at m)
  claim_long k at (te.Same a b) m = two_long k (below at) a b (node at m)
  claim_long k at (te.Match on arms) m =
      arms_long k at arms (measure.term k (below at) on (node at m)) ∙ term_long k (below at) on (node at m)
  claim_long k at (te.UseCl decl args) m =
      arguments_long k at (k decl) 0 args (noted_use at (k decl) m) ∙ used_long at (k decl) m

  claims_long : (k : Known) (at : At) (fs : Cls) (m : Measured) → IsLong m (measure.claims k at fs m)
  claims_long k at no_cl m = refl
  claims_long k at (also_cl f fs) m = claims_long k at fs (measure.claim k at f m) ∙ claim_long k at f m

  arms_long : (k : Known) (at : At) (arms : ClArms) (m : Measured) → IsLong m (measure.arms_of k at arms m)
  arms_long k at no_cl_arm m = refl
  arms_long k at (also_cl_arm con binds body rest) m =
      arms_long k at rest (measure.claim k (under binds at) body m) ∙ claim_long k (under binds at) body m

pub measured_length : (k : Known) (n : ℕ) (s : Said) → length (measured k n s).params ≡ n
measured_length k n (said_term e) = term_long k outside e (unmeasured n) ∙ length-replicate n nowhere
measured_length k n (said_claim f) = claim_long k outside f (unmeasured n) ∙ length-replicate n nowhere
