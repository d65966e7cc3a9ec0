-- How large terms and formulas get with all uses put in, told without putting them in.
use Rattle.std.specs.Prelude.{ℕ, ◌+◌, ◌*◌, max, min, nat_lt, true, false, ◌||◌, List, length, Option, Some, None, slice_get, slice_set, unwrap_or, replicate, if◌then◌else◌}
use Rattle.query_bodies.specs.declared.bodies.Facts.{Facts}
use Rattle.query_bodies.specs.declared.bodies.Standing.{Standing}
use Rattle.query_bodies.specs.Terms as te
use Rattle.query_bodies.specs.Terms.{Te, Tes, no_te, also_te, Cl, Cls, no_cl, also_cl, ClArms, no_cl_arm, also_cl_arm, Said, said_term, said_claim}

-- no count is greater
abbrev pub most : ℕ
most = 18446744073709551615

abbrev pub plus : ℕ → ℕ → ℕ
plus a b = min (a + b) most

abbrev pub times : ℕ → ℕ → ℕ
times a b = min (a * b) most

-- the place of a part: the nodes above it, the variables that are bound there, and how often it comes
pub record At : Type 0 where
  pub above : ℕ
  pub bound : ℕ
  pub comes : ℕ

abbrev pub below : At → At
below at = record at { above = plus at.above 1 }

abbrev pub under : ℕ → At → At
under binds at = record at { above = plus at.above 1; bound = plus at.bound binds }

-- what was measured so far
pub record Measured : Type 0 where
  pub facts : Facts
  pub params : List Standing

-- of a query: what its body gets, and how its parameters stand in it
abbrev pub Known : Type 0
Known = ℕ → Option Measured

abbrev pub nowhere : Standing
nowhere = record { times = 0; deepest = 0 }

abbrev pub nothing : Facts
nothing = record { depth = 0; binders = 0; nodes = 0; reads = false }

abbrev pub one_node : Facts
one_node = record { depth = 1; binders = 0; nodes = 1; reads = false }

abbrev pub facts_with : At → Facts → Facts → Facts
facts_with at own facts = record {
  depth = max facts.depth (plus at.above own.depth);
  binders = max facts.binders (plus at.bound own.binders);
  nodes = plus facts.nodes (times at.comes own.nodes);
  reads = facts.reads || own.reads;
}

abbrev pub noted : At → Facts → Measured → Measured
noted at own m = record m { facts = facts_with at own m.facts }

abbrev pub node : At → Measured → Measured
node at m = noted at one_node m

abbrev pub reading : Measured → Measured
reading m = record m { facts = record m.facts { reads = true } }

abbrev pub standing_with : At → Standing → Standing
standing_with at s = record { times = plus s.times at.comes; deepest = max s.deepest at.above }

abbrev pub stood_at : At → ℕ → Option Standing → List Standing → List Standing
stood_at at p None params = params
stood_at at p (Some s) params = slice_set params p (standing_with at s)

abbrev pub stood : At → ℕ → Measured → Measured
stood at p m = record m { params = stood_at at p (slice_get m.params p) m.params }

-- # A use: what the body gets, and each argument where its parameter stands deepest

abbrev pub noted_use : At → Option Measured → Measured → Measured
noted_use at None m = m
noted_use at (Some q) m = noted at q.facts m

abbrev pub standing_in : Option Measured → ℕ → Standing
standing_in None p = nowhere
standing_in (Some q) p = unwrap_or (slice_get q.params p) nowhere

-- over so many parameters it was measured
abbrev pub params_in : Option Measured → ℕ
params_in None = 0
params_in (Some q) = length q.params

abbrev pub argument_at : At → Standing → At
argument_at at s = record at { above = plus at.above s.deepest; comes = times at.comes s.times }

abbrev mutual
  pub term : Known → At → Te → Measured → Measured
  term k at (te.Slot s) m = node at m
  term k at (te.Param p) m = stood at p m
  term k at (te.Level n) m = node at m
  term k at (te.Int n) m = node at m
  term k at (te.Str bytes) m = node at m
  term k at (te.Con con args) m = terms k (below at) args (node at m)
  term k at (te.Sum a b) m = term k (below at) b (term k (below at) a (node at m))
  term k at (te.Difference a b) m = term k (below at) b (term k (below at) a (node at m))
  term k at (te.Query query args) m = terms k (below at) args (reading (node at m))
  term k at (te.OpOf call) m = term k (below at) call (node at m)
  term k at (te.OpTerm op args) m = terms k (below at) args (node at m)
  term k at (te.OriginOf call) m = term k (below at) call (node at m)
  term k at (te.InfoOf inv) m = term k (below at) inv (node at m)
  term k at (te.InfoTerm proc args) m = terms k (below at) args (node at m)
  term k at (te.ResultOf inv) m = term k (below at) inv (node at m)
  term k at (te.ResultTerm proc) m = node at m
  term k at (te.ResultWith proc value) m = term k (below at) value (node at m)
  term k at te.Unreturned m = node at m
  term k at (te.Use decl args) m = arguments k at (k decl) 0 args (noted_use at (k decl) m)

  pub terms : Known → At → Tes → Measured → Measured
  terms k at no_te m = m
  terms k at (also_te e es) m = terms k at es (term k at e m)

  -- those for the parameters from number p on
  pub arguments : Known → At → Option Measured → ℕ → Tes → Measured → Measured
  arguments k at q p no_te m = m
  arguments k at q p (also_te e es) m =
      arguments k at q (p + 1) es
      (if nat_lt 0 (standing_in q p).times then term k (argument_at at (standing_in q p)) e m else m)

abbrev mutual
  pub claim : Known → At → Cl → Measured → Measured
  claim k at (te.And parts) m = claims k (below at) parts (node at m)
  claim k at (te.Or parts) m = claims k (below at) parts (node at m)
  claim k at (te.Not part) m = claim k (below at) part (node at m)
  claim k at (te.Implies a b) m = claim k (below at) b (claim k (below at) a (node at m))
  claim k at (te.All ty body) m = claim k (under 1 at) body (node at m)
  claim k at (te.Any ty body) m = claim k (under 1 at) body (node at m)
  claim k at (te.Holds e) m = term k (below at) e (node at m)
  claim k at (te.Equal a b) m = term k (below at) b (term k (below at) a (node at m))
  claim k at (te.Less a b) m = term k (below at) b (term k (below at) a (node at m))
  claim k at (te.AtMost a b) m = term k (below at) b (term k (below at) a (node at m))
  claim k at (te.Visible e) m = term k (below at) e (node at m)
  claim k at (te.Before a b) m = term k (below at) b (term k (below at) a (node at m))
  claim k at (te.Same a b) m = term k (below at) b (term k (below at) a (node at m))
  claim k at (te.Match on arms) m = arms_of k at arms (term k (below at) on (node at m))
  claim k at (te.UseCl decl args) m = arguments k at (k decl) 0 args (noted_use at (k decl) m)

  pub claims : Known → At → Cls → Measured → Measured
  claims k at no_cl m = m
  claims k at (also_cl f fs) m = claims k at fs (claim k at f m)

  pub arms_of : Known → At → ClArms → Measured → Measured
  arms_of k at no_cl_arm m = m
  arms_of k at (also_cl_arm con binds body rest) m = arms_of k at rest (claim k (under binds at) body m)

-- # Of whole expressions

abbrev pub outside : At
outside = record { above = 0; bound = 0; comes = 1 }

abbrev pub unmeasured : ℕ → Measured
unmeasured params = record { facts = nothing; params = replicate params nowhere }

-- of one over so many parameters
abbrev pub measured : Known → ℕ → Said → Measured
measured k params (said_term e) = term k outside e (unmeasured params)
measured k params (said_claim f) = claim k outside f (unmeasured params)
