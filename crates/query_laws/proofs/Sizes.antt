-- Sizes of what is made: depth, binders, nodes, sums with a literal among them, and whether it reads the store.
use Rattle.std.proofs.Common.{◌≡◌, ◌≤◌, ◌+◌, ℕ, ℤ, zero, suc, max, Bool, true, false, ◌||◌, Option, Some, None, refl, ap, ap₂, sym, ◌∙◌, arith}
use Rattle.rp_value.specs.declared.tables.ConTable.{ConTable}
use Rattle.rp_lang.specs.Exprs.{Ex, Slot, Bound, Int, Str, Con, Plus, Add, Sub, Query, OpOf, OpTerm, OriginOf, InfoOf, InfoTerm, ResultOf, ResultTerm, ResultWith, Unreturned, Exs, no_ex, also_ex}
use Rattle.rp_lang.specs.Formulas as fo
use Rattle.rp_lang.specs.Formulas.{Fo, Fos, no_fo, also_fo, Arms, no_arm, also_arm}
use Rattle.rp_lang.specs.Sizes.{ex_depth, exs_depth, ex_nodes, exs_nodes, fo_depth, fos_depth, arms_depth, fo_nodes, fos_nodes, arms_nodes}
use Rattle.rp_lang.specs.Bounds.{fo_binders, fos_binders, arms_binders}
use Rattle.desugaring.specs.Values.{Value, term, formula, literal, sum, sum_behind, sum_in_front, difference, difference_of, lifted, all_lifted, ex_reads, exs_read, fo_reads, fos_read, arms_read}
use Rattle.desugaring.proofs.Depths.{sum_depth, difference_depth}
use Rattle.query_bodies.specs.Expanded.{lifted_by}

-- # Sums with a literal: their literals are no nodes

abbrev mutual
  pub ex_sums : Ex → ℕ
  ex_sums (Slot s) = 0
  ex_sums (Bound n) = 0
  ex_sums (Int n) = 0
  ex_sums (Str bytes) = 0
  ex_sums (Con con args) = exs_sums args
  ex_sums (Plus e n) = 1 + ex_sums e
  ex_sums (Add a b) = ex_sums a + ex_sums b
  ex_sums (Sub a b) = ex_sums a + ex_sums b
  ex_sums (Query query args) = exs_sums args
  ex_sums (OpOf call) = ex_sums call
  ex_sums (OpTerm op args) = exs_sums args
  ex_sums (OriginOf call) = ex_sums call
  ex_sums (InfoOf inv) = ex_sums inv
  ex_sums (InfoTerm proc args) = exs_sums args
  ex_sums (ResultOf inv) = ex_sums inv
  ex_sums (ResultTerm proc) = 0
  ex_sums (ResultWith proc value) = ex_sums value
  ex_sums Unreturned = 0

  pub exs_sums : Exs → ℕ
  exs_sums no_ex = 0
  exs_sums (also_ex e es) = ex_sums e + exs_sums es

abbrev mutual
  pub fo_sums : Fo → ℕ
  fo_sums (fo.And parts) = fos_sums parts
  fo_sums (fo.Or parts) = fos_sums parts
  fo_sums (fo.Not f) = fo_sums f
  fo_sums (fo.Implies a b) = fo_sums a + fo_sums b
  fo_sums (fo.All ty body) = fo_sums body
  fo_sums (fo.Any ty body) = fo_sums body
  fo_sums (fo.Holds e) = ex_sums e
  fo_sums (fo.Equal a b) = ex_sums a + ex_sums b
  fo_sums (fo.Less a b) = ex_sums a + ex_sums b
  fo_sums (fo.AtMost a b) = ex_sums a + ex_sums b
  fo_sums (fo.Visible call) = ex_sums call
  fo_sums (fo.Before a b) = ex_sums a + ex_sums b
  fo_sums (fo.Same a b) = ex_sums a + ex_sums b
  fo_sums (fo.Match on arms) = ex_sums on + arms_sums arms

  pub fos_sums : Fos → ℕ
  fos_sums no_fo = 0
  fos_sums (also_fo f fs) = fo_sums f + fos_sums fs

  pub arms_sums : Arms → ℕ
  arms_sums no_arm = 0
  arms_sums (also_arm con body rest) = fo_sums body + arms_sums rest

-- # Fewer sums than nodes

mutual
  pub ex_sums_below : (e : Ex) → ex_sums e ≤ ex_nodes e
  ex_sums_below (Slot s) = omega arith
  ex_sums_below (Bound n) = omega arith
  ex_sums_below (Int n) = omega arith
  ex_sums_below (Str bytes) = omega arith
  ex_sums_below (Con con args) = let a = exs_sums_below args in omega (arith, a)
  ex_sums_below (Plus e n) = let a = ex_sums_below e in omega (arith, a)
  ex_sums_below (Add x y) = let a = ex_sums_below x in let b = ex_sums_below y in omega (arith, a, b)
  ex_sums_below (Sub x y) = let a = ex_sums_below x in let b = ex_sums_below y in omega (arith, a, b)
  ex_sums_below (Query query args) = let a = exs_sums_below args in omega (arith, a)
  ex_sums_below (OpOf call) = let a = ex_sums_below call in omega (arith, a)
  ex_sums_below (OpTerm op args) = let a = exs_sums_below args in omega (arith, a)
  ex_sums_below (OriginOf call) = let a = ex_sums_below call in omega (arith, a)
  ex_sums_below (InfoOf inv) = let a = ex_sums_below inv in omega (arith, a)
  ex_sums_below (InfoTerm proc args) = let a = exs_sums_below args in omega (arith, a)
  ex_sums_below (ResultOf inv) = let a = ex_sums_below inv in omega (arith, a)
  ex_sums_below (ResultTerm proc) = omega arith
  ex_sums_below (ResultWith proc e) = let a = ex_sums_below e in omega (arith, a)
  ex_sums_below Unreturned = omega arith

  pub exs_sums_below : (es : Exs) → exs_sums es ≤ exs_nodes es
  exs_sums_below no_ex = omega arith
  exs_sums_below (also_ex e es) = let a = ex_sums_below e in let b = exs_sums_below es in omega (arith, a, b)

mutual
  pub fo_sums_below : (f : Fo) → fo_sums f ≤ fo_nodes f
  fo_sums_below (fo.And parts) = let a = fos_sums_below parts in omega (arith, a)
  fo_sums_below (fo.Or parts) = let a = fos_sums_below parts in omega (arith, a)
  fo_sums_below (fo.Not f) = let a = fo_sums_below f in omega (arith, a)
  fo_sums_below (fo.Implies f g) = let a = fo_sums_below f in let b = fo_sums_below g in omega (arith, a, b)
  fo_sums_below (fo.All ty body) = let a = fo_sums_below body in omega (arith, a)
  fo_sums_below (fo.Any ty body) = let a = fo_sums_below body in omega (arith, a)
  fo_sums_below (fo.Holds e) = let a = ex_sums_below e in omega (arith, a)
  fo_sums_below (fo.Equal x y) = let a = ex_sums_below x in let b = ex_sums_below y in omega (arith, a, b)
  fo_sums_below (fo.Less x y) = let a = ex_sums_below x in let b = ex_sums_below y in omega (arith, a, b)
  fo_sums_below (fo.AtMost x y) = let a = ex_sums_below x in let b = ex_sums_below y in omega (arith, a, b)
  fo_sums_below (fo.Visible call) = let a = ex_sums_below call in omega (arith, a)
  fo_sums_below (fo.Before x y) = let a = ex_sums_below x in let b = ex_sums_below y in omega (arith, a, b)
  fo_sums_below (fo.Same x y) = let a = ex_sums_below x in let b = ex_sums_below y in omega (arith, a, b)
  fo_sums_below (fo.Match on arms) = let a = ex_sums_below on in let b = arms_sums_below arms in omega (arith, a, b)

  pub fos_sums_below : (fs : Fos) → fos_sums fs ≤ fos_nodes fs
  fos_sums_below no_fo = omega arith
  fos_sums_below (also_fo f fs) = let a = fo_sums_below f in let b = fos_sums_below fs in omega (arith, a, b)

  pub arms_sums_below : (arms : Arms) → arms_sums arms ≤ arms_nodes arms
  arms_sums_below no_arm = omega arith
  arms_sums_below (also_arm con body rest) = let a = fo_sums_below body in let b = arms_sums_below rest in omega (arith, a, b)

-- # A node at least

pub nodes_there : (e : Ex) → 1 ≤ ex_nodes e
nodes_there (Slot s) = omega arith
nodes_there (Bound n) = omega arith
nodes_there (Int n) = omega arith
nodes_there (Str bytes) = omega arith
nodes_there (Con con args) = omega arith
nodes_there (Plus x n) = omega arith
nodes_there (Add a b) = omega arith
nodes_there (Sub a b) = omega arith
nodes_there (Query query args) = omega arith
nodes_there (OpOf call) = omega arith
nodes_there (OpTerm op args) = omega arith
nodes_there (OriginOf call) = omega arith
nodes_there (InfoOf inv) = omega arith
nodes_there (InfoTerm proc args) = omega arith
nodes_there (ResultOf inv) = omega arith
nodes_there (ResultTerm proc) = omega arith
nodes_there (ResultWith proc x) = omega arith
nodes_there Unreturned = omega arith

-- # All in one

pub record Size : Type 0 where
  pub depth : ℕ
  pub binders : ℕ
  pub nodes : ℕ
  pub sums : ℕ
  pub reads : Bool

abbrev pub size_ex : Ex → Size
size_ex e = record { depth = ex_depth e; binders = 0; nodes = ex_nodes e; sums = ex_sums e; reads = ex_reads e }

abbrev pub size_exs : Exs → Size
size_exs es = record { depth = exs_depth es; binders = 0; nodes = exs_nodes es; sums = exs_sums es; reads = exs_read es }

abbrev pub size_fo : ConTable → Fo → Size
size_fo cons f = record {
  depth = fo_depth f;
  binders = fo_binders cons f;
  nodes = fo_nodes f;
  sums = fo_sums f;
  reads =
      fo_reads f;
}

abbrev pub size_fos : ConTable → Fos → Size
size_fos cons fs = record {
  depth = fos_depth fs;
  binders = fos_binders cons fs;
  nodes = fos_nodes fs;
  sums = fos_sums fs;
  reads = fos_read fs;
}

abbrev pub size_arms : ConTable → Arms → Size
size_arms cons arms = record {
  depth = arms_depth arms;
  binders = arms_binders cons arms;
  nodes = arms_nodes arms;
  sums =
      arms_sums arms;
  reads = arms_read arms;
}

abbrev pub size_of : ConTable → Value → Size
size_of cons (term e) = size_ex e
size_of cons (formula f) = size_fo cons f

abbrev pub no_size : Size
no_size = record { depth = 0; binders = 0; nodes = 0; sums = 0; reads = false }

abbrev pub leaf_size : Size
leaf_size = record { depth = 1; binders = 0; nodes = 1; sums = 0; reads = false }

-- a node over these parts
abbrev pub node_size : Size → Size
node_size s = record { depth = 1 + s.depth; binders = s.binders; nodes = 1 + s.nodes; sums = s.sums; reads = s.reads }

-- one that reads the store
abbrev pub read_size : Size → Size
read_size s = record { depth = 1 + s.depth; binders = s.binders; nodes = 1 + s.nodes; sums = s.sums; reads = true }

-- one under which so many variables more are bound
abbrev pub bound_size : Size → Size
bound_size s = record { depth = 1 + s.depth; binders = 1 + s.binders; nodes = 1 + s.nodes; sums = s.sums; reads = s.reads }

-- an arm, which is no node
abbrev pub arm_size : ℕ → Size → Size
arm_size binds s = record { depth = s.depth; binders = binds + s.binders; nodes = s.nodes; sums = s.sums; reads = s.reads }

abbrev pub join : Size → Size → Size
join s t = record {
  depth = max s.depth t.depth;
  binders = max s.binders t.binders;
  nodes = s.nodes + t.nodes;
  sums = s.sums +
      t.sums;
  reads = s.reads || t.reads;
}

-- The second is told of the first.
pub record IsNear (s t : Size) : Type 0 where
  pub depth : s.depth ≡ t.depth
  pub binders : s.binders ≡ t.binders
  pub least : s.nodes ≤ t.nodes
  pub most : t.nodes + t.sums ≤ s.nodes + s.sums
  pub reads : s.reads ≡ t.reads

-- # Sums

is_int : (e : Ex) (n : ℤ) → literal e ≡ Some n → e ≡ Int n
is_int (Int m) n h = let same : m ≡ n = cc in ap Int same
is_int (Slot s) n h = absurd cc
is_int (Bound m) n h = absurd cc
is_int (Str bytes) n h = absurd cc
is_int (Con con args) n h = absurd cc
is_int (Plus e m) n h = absurd cc
is_int (Add a b) n h = absurd cc
is_int (Sub a b) n h = absurd cc
is_int (Query query args) n h = absurd cc
is_int (OpOf call) n h = absurd cc
is_int (OpTerm op args) n h = absurd cc
is_int (OriginOf call) n h = absurd cc
is_int (InfoOf inv) n h = absurd cc
is_int (InfoTerm proc args) n h = absurd cc
is_int (ResultOf inv) n h = absurd cc
is_int (ResultTerm proc) n h = absurd cc
is_int (ResultWith proc e) n h = absurd cc
is_int Unreturned n h = absurd cc

-- what is counted of a sum beside its depth
record IsCounted (x a b : Ex) : Type 0 where
  least : ex_nodes x ≤ 1 + (ex_nodes a + ex_nodes b)
  most : 1 + (ex_nodes a + ex_nodes b) + (ex_sums a + ex_sums b) ≤ ex_nodes x + ex_sums x
  reads : ex_reads x ≡ (ex_reads a || ex_reads b)

or_false : (b : Bool) → b ≡ (b || false)
or_false true = refl
or_false false = refl

counted_in_front : (a b : Ex) (o : Option ℤ) → literal a ≡ o → IsCounted (sum_in_front o a b) a b
counted_in_front a b (Some n) h =
    let is = is_int a n h in
    let nodes : ex_nodes a ≡ 1 = ap ex_nodes is in
    let sums : ex_sums a ≡ 0 = ap ex_sums is in
    record {
      least = omega (arith, nodes);
      most = omega (arith, nodes, sums);
      reads = ap (λ z. ex_reads z || ex_reads b) (sym
          is);
    }
counted_in_front a b None h = record { least = omega arith; most = omega arith; reads = refl }

counted_behind : (a b : Ex) (o : Option ℤ) → literal b ≡ o → IsCounted (sum_behind o a b) a b
counted_behind a b (Some n) h =
    let is = is_int b n h in
    let nodes : ex_nodes b ≡ 1 = ap ex_nodes is in
    let sums : ex_sums b ≡ 0 = ap ex_sums is in
    record {
      least = omega (arith, nodes);
      most = omega (arith, nodes, sums);
      reads = or_false (ex_reads a) ∙ ap (λ z. ex_reads a || ex_reads z) (sym is);
    }
counted_behind a b None h = counted_in_front a b (literal a) refl

counted_taken : (a b : Ex) (o : Option ℤ) → literal b ≡ o → IsCounted (difference_of o a b) a b
counted_taken a b (Some n) h =
    let is = is_int b n h in
    let nodes : ex_nodes b ≡ 1 = ap ex_nodes is in
    let sums : ex_sums b ≡ 0 = ap ex_sums is in
    record {
      least = omega (arith, nodes);
      most = omega (arith, nodes, sums);
      reads = or_false (ex_reads a) ∙ ap (λ z. ex_reads a || ex_reads z) (sym is);
    }
counted_taken a b None h = record { least = omega arith; most = omega arith; reads = refl }

pub sum_near : (a b : Ex) → IsNear (size_ex (sum a b)) (node_size (join (size_ex a) (size_ex b)))
sum_near a b =
    let c = counted_behind a b (literal b) refl in
    record { depth = sum_depth a b; binders = refl; least = c.least; most = c.most; reads = c.reads }

pub difference_near : (a b : Ex) → IsNear (size_ex (difference a b)) (node_size (join (size_ex a) (size_ex b)))
difference_near a b =
    let c = counted_taken a b (literal b) refl in
    record { depth = difference_depth a b; binders = refl; least = c.least; most = c.most; reads = c.reads }

-- # Under a binder more

abbrev pair_size : Size → Size → Size
pair_size s t = record {
  depth = 1 + max s.depth t.depth;
  binders = 0;
  nodes = 1 + s.nodes + t.nodes;
  sums = s.sums + t.sums;
  reads = s.reads || t.reads;
}

abbrev more_size : Size → Size → Size
more_size s t = record {
  depth = max s.depth t.depth;
  binders = 0;
  nodes = s.nodes + t.nodes;
  sums = s.sums + t.sums;
  reads =
      s.reads || t.reads;
}

abbrev plus_size : Size → Size
plus_size s = record { depth = 1 + s.depth; binders = 0; nodes = 1 + s.nodes; sums = 1 + s.sums; reads = s.reads }

mutual
  pub lifted_size : (e : Ex) → size_ex (lifted e) ≡ size_ex e
  lifted_size (Slot s) = refl
  lifted_size (Bound n) = refl
  lifted_size (Int n) = refl
  lifted_size (Str bytes) = refl
  lifted_size (Con con args) = ap node_size (all_lifted_size args)
  lifted_size (Plus e n) = ap plus_size (lifted_size e)
  lifted_size (Add a b) = ap₂ pair_size (lifted_size a) (lifted_size b)
  lifted_size (Sub a b) = ap₂ pair_size (lifted_size a) (lifted_size b)
  lifted_size (Query query args) = ap read_size (all_lifted_size args)
  lifted_size (OpOf call) = ap node_size (lifted_size call)
  lifted_size (OpTerm op args) = ap node_size (all_lifted_size args)
  lifted_size (OriginOf call) = ap node_size (lifted_size call)
  lifted_size (InfoOf inv) = ap node_size (lifted_size inv)
  lifted_size (InfoTerm proc args) = ap node_size (all_lifted_size args)
  lifted_size (ResultOf inv) = ap node_size (lifted_size inv)
  lifted_size (ResultTerm proc) = refl
  lifted_size (ResultWith proc e) = ap node_size (lifted_size e)
  lifted_size Unreturned = refl

  all_lifted_size : (es : Exs) → size_exs (all_lifted es) ≡ size_exs es
  all_lifted_size no_ex = refl
  all_lifted_size (also_ex e es) = ap₂ more_size (lifted_size e) (all_lifted_size es)

pub size_lifted : (n : ℕ) (e : Ex) → size_ex (lifted_by n e) ≡ size_ex e
size_lifted zero e = refl
size_lifted (suc n) e = lifted_size (lifted_by n e) ∙ size_lifted n e
