-- An expression weighs no less than it has nodes.
use Rattle.std.proofs.Common.{◌≡◌, ◌≤◌, ◌<◌, ℕ, zero, suc, Bool, true, false, ◌&&◌, nat_le, List, [], ◌∷◌, ◌++◌, length, replicate, slice_get, refl, arith}
use Rattle.std.specs.Prelude.{unwrap_or}
use Rattle.rp_value.specs.declared.tables.ConTable.{ConTable}
use Rattle.rp_lang.specs.Exprs.{Ex, Slot, Bound, Int, Str, Con, Plus, Add, Sub, Query, OpOf, OpTerm, OriginOf, InfoOf, InfoTerm, ResultOf, ResultTerm, ResultWith, Unreturned, Exs, no_ex, also_ex}
use Rattle.rp_lang.specs.Formulas as fo
use Rattle.rp_lang.specs.Formulas.{Fo, Fos, no_fo, also_fo, Arms, no_arm, also_arm}
use Rattle.rp_lang.specs.Sizes.{ex_depth, ex_nodes, exs_nodes, fo_depth, fo_nodes, fos_nodes, arms_nodes}
use Rattle.rp_lang.specs.Bounds.{ex_weight, exs_weight, fo_weight, fos_weight, arms_weight, fo_binders, is_small_ex, is_small_fo}
use Rattle.rp_lang.specs.Types.{fields_of}
use Rattle.query_bodies.specs.declared.bodies.Facts.{Facts}
use Rattle.desugaring.specs.Values.{term, formula}
use Rattle.query_laws.specs.Told.{AreTold}
use Rattle.query_laws.proofs.Sizes.{nodes_there}

-- each use of a variable counts
abbrev Count : List ℕ → Type 0
Count uses = (n : ℕ) → 1 ≤ unwrap_or (slice_get uses n) 1

count_more : (k : ℕ) (uses : List ℕ) → 1 ≤ k → Count uses → Count (k ∷ uses)
count_more k uses one all zero = one
count_more k uses one all (suc n) = all n

count_all : (many k : ℕ) (uses : List ℕ) → 1 ≤ k → Count uses → Count (replicate many k ++ uses)
count_all zero k uses one all = all
count_all (suc many) k uses one all = count_more k (replicate many k ++ uses) one (count_all many k uses one all)

mutual
  ex_weighs : (uses : List ℕ) → Count uses → (e : Ex) → ex_nodes e ≤ ex_weight uses e
  ex_weighs uses all (Slot s) = omega arith
  ex_weighs uses all (Bound n) = all n
  ex_weighs uses all (Int n) = omega arith
  ex_weighs uses all (Str bytes) = omega arith
  ex_weighs uses all (Con con args) = let a = exs_weigh uses all args in omega (arith, a)
  ex_weighs uses all (Plus e n) = let a = ex_weighs uses all e in omega (arith, a)
  ex_weighs uses all (Add x y) = let a = ex_weighs uses all x in let b = ex_weighs uses all y in omega (arith, a, b)
  ex_weighs uses all (Sub x y) = let a = ex_weighs uses all x in let b = ex_weighs uses all y in omega (arith, a, b)
  ex_weighs uses all (Query query args) = let a = exs_weigh uses all args in omega (arith, a)
  ex_weighs uses all (OpOf call) = let a = ex_weighs uses all call in omega (arith, a)
  ex_weighs uses all (OpTerm op args) = let a = exs_weigh uses all args in omega (arith, a)
  ex_weighs uses all (OriginOf call) = let a = ex_weighs uses all call in omega (arith, a)
  ex_weighs uses all (InfoOf inv) = let a = ex_weighs uses all inv in omega (arith, a)
  ex_weighs uses all (InfoTerm proc args) = let a = exs_weigh uses all args in omega (arith, a)
  ex_weighs uses all (ResultOf inv) = let a = ex_weighs uses all inv in omega (arith, a)
  ex_weighs uses all (ResultTerm proc) = omega arith
  ex_weighs uses all (ResultWith proc e) = let a = ex_weighs uses all e in omega (arith, a)
  ex_weighs uses all Unreturned = omega arith

  exs_weigh : (uses : List ℕ) → Count uses → (es : Exs) → exs_nodes es ≤ exs_weight uses es
  exs_weigh uses all no_ex = omega arith
  exs_weigh uses all (also_ex e es) = let a = ex_weighs uses all e in let b = exs_weigh uses all es in omega (arith, a, b)

mutual
  fo_weighs : (cons : ConTable) (uses : List ℕ) → Count uses → (f : Fo) → fo_nodes f ≤ fo_weight cons uses f
  fo_weighs cons uses all (fo.And parts) = let a = fos_weigh cons uses all parts in omega (arith, a)
  fo_weighs cons uses all (fo.Or parts) = let a = fos_weigh cons uses all parts in omega (arith, a)
  fo_weighs cons uses all (fo.Not f) = let a = fo_weighs cons uses all f in omega (arith, a)
  fo_weighs cons uses all (fo.Implies f g) =
      let a = fo_weighs cons uses all f in let b = fo_weighs cons uses all g in omega (arith, a, b)
  fo_weighs cons uses all (fo.All ty body) =
      let a = fo_weighs cons (1 ∷ uses) (count_more 1 uses (omega arith) all) body in omega (arith, a)
  fo_weighs cons uses all (fo.Any ty body) =
      let a = fo_weighs cons (1 ∷ uses) (count_more 1 uses (omega arith) all) body in omega (arith, a)
  fo_weighs cons uses all (fo.Holds e) = let a = ex_weighs uses all e in omega (arith, a)
  fo_weighs cons uses all (fo.Visible e) = let a = ex_weighs uses all e in omega (arith, a)
  fo_weighs cons uses all (fo.Equal x y) = let a = ex_weighs uses all x in let b = ex_weighs uses all y in omega (arith, a, b)
  fo_weighs cons uses all (fo.Less x y) = let a = ex_weighs uses all x in let b = ex_weighs uses all y in omega (arith, a, b)
  fo_weighs cons uses all (fo.AtMost x y) = let a = ex_weighs uses all x in let b = ex_weighs uses all y in omega (arith, a, b)
  fo_weighs cons uses all (fo.Before x y) = let a = ex_weighs uses all x in let b = ex_weighs uses all y in omega (arith, a, b)
  fo_weighs cons uses all (fo.Same x y) = let a = ex_weighs uses all x in let b = ex_weighs uses all y in omega (arith, a, b)
  fo_weighs cons uses all (fo.Match on arms) =
      let a = ex_weighs uses all on in
      let one = nodes_there on in
      let b = arms_weigh cons uses all (ex_weight uses on) (omega (arith, a, one)) arms in
      omega (arith, a, b)

  fos_weigh : (cons : ConTable) (uses : List ℕ) → Count uses → (fs : Fos) → fos_nodes fs ≤ fos_weight cons uses fs
  fos_weigh cons uses all no_fo = omega arith
  fos_weigh cons uses all (also_fo f fs) =
      let a = fo_weighs cons uses all f in let b = fos_weigh cons uses all fs in omega (arith, a, b)

  arms_weigh : (cons : ConTable) (uses : List ℕ) → Count uses → (on : ℕ) → 1 ≤ on → (arms : Arms)
      → arms_nodes arms ≤ arms_weight cons uses on arms
  arms_weigh cons uses all on one no_arm = omega arith
  arms_weigh cons uses all on one (also_arm con body rest) =
      let many = length (fields_of cons con) in
      let a = fo_weighs cons (replicate many on ++ uses) (count_all many on uses one all) body in
      let b = arms_weigh cons uses all on one rest in
      omega (arith, a, b)

-- # Limits

past : (n limit : ℕ) → limit < n → nat_le n limit ≡ false
past n limit lt = grind (arith, lt)

both_false : (a b : Bool) → b ≡ false → (a && b) ≡ false
both_false true b e = e
both_false false b e = refl

pub large_term : (cons : ConTable) (e : Ex) (f : Facts) → AreTold cons (term e) f → 200000 < f.nodes → is_small_ex e ≡ false
large_term cons e f told lt =
    let most = told.greatest in
    both_false (nat_le (ex_depth e) 64) (nat_le (ex_nodes e) 100000) (past (ex_nodes e) 100000 (omega (arith, most, lt)))

pub large_formula : (cons : ConTable) (g : Fo) (f : Facts) → AreTold cons (formula g) f → 200000 < f.nodes
    → is_small_fo cons g ≡ false
large_formula cons g f told lt =
    let most = told.greatest in
    let weight = fo_weighs cons [] (λ n. omega arith) g in
    both_false (nat_le (fo_depth g) 64 && nat_le (fo_binders cons g) 16) (nat_le (fo_weight cons [] g) 100000)
    (past (fo_weight cons [] g) 100000 (omega (arith, most, lt, weight)))
