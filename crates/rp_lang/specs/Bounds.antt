-- Limits on one expression or formula: depth, nodes, and binders inside one another.
use Rattle.std.specs.Prelude.{ℕ, ◌+◌, max, Bool, true, ◌&&◌, nat_le, List, [], ◌∷◌, ◌++◌, length, replicate, unwrap_or, slice_get}
use Rattle.rp_value.specs.declared.tables.ConTable.{ConTable}
use Rattle.rp_lang.specs.Exprs.{Ex, Slot, Bound, Int, Str, Con, Plus, Add, Sub, Query, OpOf, OpTerm, OriginOf, InfoOf, InfoTerm, ResultOf, ResultTerm, ResultWith, Unreturned, Exs, no_ex, also_ex}
use Rattle.rp_lang.specs.Formulas as fo
use Rattle.rp_lang.specs.Formulas.{Fo, Fos, no_fo, also_fo, Arms, no_arm, also_arm}
use Rattle.rp_lang.specs.Sizes.{ex_depth, ex_nodes, fo_depth}
use Rattle.rp_lang.specs.Types.{fields_of}

-- # Nodes, where each use of an arm's variable counts as the nodes of the expression that is matched

-- under binders whose uses count so much
abbrev mutual
  pub ex_weight : List ℕ → Ex → ℕ
  ex_weight uses (Slot s) = 1
  ex_weight uses (Bound n) = unwrap_or (slice_get uses n) 1
  ex_weight uses (Int n) = 1
  ex_weight uses (Str bytes) = 1
  ex_weight uses (Con con args) = 1 + exs_weight uses args
  ex_weight uses (Plus e n) = 1 + ex_weight uses e
  ex_weight uses (Add a b) = 1 + ex_weight uses a + ex_weight uses b
  ex_weight uses (Sub a b) = 1 + ex_weight uses a + ex_weight uses b
  ex_weight uses (Query query args) = 1 + exs_weight uses args
  ex_weight uses (OpOf call) = 1 + ex_weight uses call
  ex_weight uses (OpTerm op args) = 1 + exs_weight uses args
  ex_weight uses (OriginOf call) = 1 + ex_weight uses call
  ex_weight uses (InfoOf inv) = 1 + ex_weight uses inv
  ex_weight uses (InfoTerm proc args) = 1 + exs_weight uses args
  ex_weight uses (ResultOf inv) = 1 + ex_weight uses inv
  ex_weight uses (ResultTerm proc) = 1
  ex_weight uses (ResultWith proc value) = 1 + ex_weight uses value
  ex_weight uses Unreturned = 1

  pub exs_weight : List ℕ → Exs → ℕ
  exs_weight uses no_ex = 0
  exs_weight uses (also_ex e es) = ex_weight uses e + exs_weight uses es

abbrev mutual
  pub fo_weight : ConTable → List ℕ → Fo → ℕ
  fo_weight cons uses (fo.And parts) = 1 + fos_weight cons uses parts
  fo_weight cons uses (fo.Or parts) = 1 + fos_weight cons uses parts
  fo_weight cons uses (fo.Not f) = 1 + fo_weight cons uses f
  fo_weight cons uses (fo.Implies a b) = 1 + fo_weight cons uses a + fo_weight cons uses b
  fo_weight cons uses (fo.All ty body) = 1 + fo_weight cons (1 ∷ uses) body
  fo_weight cons uses (fo.Any ty body) = 1 + fo_weight cons (1 ∷ uses) body
  fo_weight cons uses (fo.Holds e) = 1 + ex_weight uses e
  fo_weight cons uses (fo.Equal a b) = 1 + ex_weight uses a + ex_weight uses b
  fo_weight cons uses (fo.Less a b) = 1 + ex_weight uses a + ex_weight uses b
  fo_weight cons uses (fo.AtMost a b) = 1 + ex_weight uses a + ex_weight uses b
  fo_weight cons uses (fo.Visible call) = 1 + ex_weight uses call
  fo_weight cons uses (fo.Before a b) = 1 + ex_weight uses a + ex_weight uses b
  fo_weight cons uses (fo.Same a b) = 1 + ex_weight uses a + ex_weight uses b
  fo_weight cons uses (fo.Match on arms) = 1 + ex_weight uses on + arms_weight cons uses (ex_weight uses on) arms

  pub fos_weight : ConTable → List ℕ → Fos → ℕ
  fos_weight cons uses no_fo = 0
  fos_weight cons uses (also_fo f fs) = fo_weight cons uses f + fos_weight cons uses fs

  pub arms_weight : ConTable → List ℕ → ℕ → Arms → ℕ
  arms_weight cons uses on no_arm = 0
  arms_weight cons uses on (also_arm con body rest) =
      fo_weight cons (replicate (length (fields_of cons con)) on ++ uses) body + arms_weight cons uses on rest

-- # Variables of quantifiers and arms inside one another

abbrev mutual
  pub fo_binders : ConTable → Fo → ℕ
  fo_binders cons (fo.And parts) = fos_binders cons parts
  fo_binders cons (fo.Or parts) = fos_binders cons parts
  fo_binders cons (fo.Not f) = fo_binders cons f
  fo_binders cons (fo.Implies a b) = max (fo_binders cons a) (fo_binders cons b)
  fo_binders cons (fo.All ty body) = 1 + fo_binders cons body
  fo_binders cons (fo.Any ty body) = 1 + fo_binders cons body
  fo_binders cons (fo.Match on arms) = arms_binders cons arms
  fo_binders cons _ = 0

  pub fos_binders : ConTable → Fos → ℕ
  fos_binders cons no_fo = 0
  fos_binders cons (also_fo f fs) = max (fo_binders cons f) (fos_binders cons fs)

  pub arms_binders : ConTable → Arms → ℕ
  arms_binders cons no_arm = 0
  arms_binders cons (also_arm con body rest) = max (length (fields_of cons con) + fo_binders cons body) (arms_binders cons rest)

-- # The limits

abbrev pub is_small_ex : Ex → Bool
is_small_ex e = nat_le (ex_depth e) 64 && nat_le (ex_nodes e) 100000

abbrev pub are_small_exs : Exs → Bool
are_small_exs no_ex = true
are_small_exs (also_ex e es) = is_small_ex e && are_small_exs es

abbrev pub is_small_fo : ConTable → Fo → Bool
is_small_fo cons f = nat_le (fo_depth f) 64 && nat_le (fo_binders cons f) 16 && nat_le (fo_weight cons [] f) 100000
