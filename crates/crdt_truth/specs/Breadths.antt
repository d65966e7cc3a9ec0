-- How much work the truth of a formula takes.
use Rattle.std.specs.Prelude.{ℕ, zero, suc, ◌+◌, ◌*◌, if◌then◌else◌, length}
use Rattle.rp_value.specs.declared.tables.Ty.{Ty}
use Rattle.rp_lang.specs.Exprs.{Ex, Slot, Bound, Int, Str, Con, Plus, Add, Sub, Query, OpOf, OpTerm, OriginOf, InfoOf, InfoTerm, ResultOf, ResultTerm, ResultWith, Unreturned, Exs, no_ex, also_ex}
use Rattle.rp_lang.specs.Formulas as fo
use Rattle.rp_lang.specs.Formulas.{Fo, Fos, no_fo, also_fo, Arms, no_arm, also_arm}
use Rattle.crdt_defs.specs.Parts.{Parts, bound, is_in_range}

abbrev pub query_breadth : Parts → ℕ
query_breadth s = length s.calls + 1

-- what the store queries of an expression add
abbrev mutual
  pub ex_breadth : Parts → Ex → ℕ
  ex_breadth s (Slot slot) = 0
  ex_breadth s (Bound n) = 0
  ex_breadth s (Int n) = 0
  ex_breadth s (Str bytes) = 0
  ex_breadth s (Con con args) = exs_breadth s args
  ex_breadth s (Plus e n) = ex_breadth s e
  ex_breadth s (Add a b) = ex_breadth s a + ex_breadth s b
  ex_breadth s (Sub a b) = ex_breadth s a + ex_breadth s b
  ex_breadth s (Query query args) = query_breadth s + exs_breadth s args
  ex_breadth s (OpOf call) = ex_breadth s call
  ex_breadth s (OpTerm op args) = exs_breadth s args
  ex_breadth s (OriginOf call) = ex_breadth s call
  ex_breadth s (InfoOf inv) = ex_breadth s inv
  ex_breadth s (InfoTerm proc args) = exs_breadth s args
  ex_breadth s (ResultOf inv) = ex_breadth s inv
  ex_breadth s (ResultTerm proc) = 0
  ex_breadth s (ResultWith proc e) = ex_breadth s e
  ex_breadth s Unreturned = 0

  pub exs_breadth : Parts → Exs → ℕ
  exs_breadth s no_ex = 0
  exs_breadth s (also_ex e es) = ex_breadth s e + exs_breadth s es

abbrev pub pair_breadth : Parts → Ex → Ex → ℕ
pair_breadth s a b = ex_breadth s a + ex_breadth s b + 1

abbrev pub in_range_below : Parts → Ty → ℕ → ℕ
in_range_below s over zero = 0
in_range_below s over (suc n) = in_range_below s over n + (if is_in_range s over n then 1 else 0)

-- how many a quantifier ranges over
abbrev pub range_size : Parts → Ty → ℕ
range_size s over = in_range_below s over (bound s over)

-- 1 for an atom, and what its queries add; for a connective 1 and the sum of its parts; for a quantifier 1 and its
-- range's size times the breadth of its body; for a `match` 1, what its value's queries add, and the sum of its arms
abbrev mutual
  pub breadth : Parts → Fo → ℕ
  breadth s (fo.And parts) = breadths s parts + 1
  breadth s (fo.Or parts) = breadths s parts + 1
  breadth s (fo.Not f) = breadth s f + 1
  breadth s (fo.Implies f g) = breadth s f + breadth s g + 1
  breadth s (fo.All over body) = range_size s over * breadth s body + 1
  breadth s (fo.Any over body) = range_size s over * breadth s body + 1
  breadth s (fo.Holds e) = ex_breadth s e + 1
  breadth s (fo.Equal a b) = pair_breadth s a b
  breadth s (fo.Less a b) = pair_breadth s a b
  breadth s (fo.AtMost a b) = pair_breadth s a b
  breadth s (fo.Visible call) = ex_breadth s call + 1
  breadth s (fo.Before a b) = pair_breadth s a b
  breadth s (fo.Same a b) = pair_breadth s a b
  breadth s (fo.Match on arms) = ex_breadth s on + arms_breadth s arms + 1

  pub breadths : Parts → Fos → ℕ
  breadths s no_fo = 0
  breadths s (also_fo f fs) = breadth s f + breadths s fs

  pub arms_breadth : Parts → Arms → ℕ
  arms_breadth s no_arm = 0
  arms_breadth s (also_arm con body rest) = breadth s body + arms_breadth s rest
