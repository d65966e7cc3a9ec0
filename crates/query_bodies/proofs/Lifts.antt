-- What each variant is under several binders more.
use Rattle.std.proofs.Common.{◌≡◌, ℕ, ℤ, zero, suc, ◌+◌, List, refl, sym, ap, ◌∙◌, arith}
use Rattle.rp_lang.specs.Exprs as ex
use Rattle.rp_lang.specs.Exprs.{Ex, Exs, no_ex, also_ex}
use Rattle.desugaring.specs.Values.{lifted, all_lifted}
use Rattle.query_bodies.specs.Expanded.{lifted_by, all_lifted_by}

all_lifted_more : (n : ℕ) (es : Exs) → all_lifted (all_lifted_by n es) ≡ all_lifted_by (suc n) es
all_lifted_more n no_ex = refl
all_lifted_more n (also_ex e es) = ap (also_ex (lifted (lifted_by n e))) (all_lifted_more n es)

none_lifted : (es : Exs) → es ≡ all_lifted_by zero es
none_lifted no_ex = refl
none_lifted (also_ex e es) = ap (also_ex e) (none_lifted es)

pub lifted_by-Slot : (n : ℕ) (s : ℕ) → lifted_by n (ex.Slot s) ≡ ex.Slot s
lifted_by-Slot zero s = refl
lifted_by-Slot (suc n) s = ap lifted (lifted_by-Slot n s)

pub lifted_by-Bound : (n : ℕ) (m : ℕ) → lifted_by n (ex.Bound m) ≡ ex.Bound (m + n)
lifted_by-Bound zero m = ap ex.Bound (omega arith)
lifted_by-Bound (suc n) m = ap lifted (lifted_by-Bound n m) ∙ ap ex.Bound (omega arith)

pub lifted_by-Int : (n : ℕ) (i : ℤ) → lifted_by n (ex.Int i) ≡ ex.Int i
lifted_by-Int zero i = refl
lifted_by-Int (suc n) i = ap lifted (lifted_by-Int n i)

pub lifted_by-Str : (n : ℕ) (bytes : List ℕ) → lifted_by n (ex.Str bytes) ≡ ex.Str bytes
lifted_by-Str zero bytes = refl
lifted_by-Str (suc n) bytes = ap lifted (lifted_by-Str n bytes)

pub lifted_by-Con : (n : ℕ) (k : ℕ) (es : Exs) → lifted_by n (ex.Con k es) ≡ ex.Con k (all_lifted_by n es)
lifted_by-Con zero k es = ap (ex.Con k) (none_lifted es)
lifted_by-Con (suc n) k es = ap lifted (lifted_by-Con n k es) ∙ ap (ex.Con k) (all_lifted_more n es)

pub lifted_by-Query : (n : ℕ) (k : ℕ) (es : Exs) → lifted_by n (ex.Query k es) ≡ ex.Query k (all_lifted_by n es)
lifted_by-Query zero k es = ap (ex.Query k) (none_lifted es)
lifted_by-Query (suc n) k es = ap lifted (lifted_by-Query n k es) ∙ ap (ex.Query k) (all_lifted_more n es)

pub lifted_by-OpTerm : (n : ℕ) (k : ℕ) (es : Exs) → lifted_by n (ex.OpTerm k es) ≡ ex.OpTerm k (all_lifted_by n es)
lifted_by-OpTerm zero k es = ap (ex.OpTerm k) (none_lifted es)
lifted_by-OpTerm (suc n) k es = ap lifted (lifted_by-OpTerm n k es) ∙ ap (ex.OpTerm k) (all_lifted_more n es)

pub lifted_by-InfoTerm : (n : ℕ) (k : ℕ) (es : Exs) → lifted_by n (ex.InfoTerm k es) ≡ ex.InfoTerm k (all_lifted_by n es)
lifted_by-InfoTerm zero k es = ap (ex.InfoTerm k) (none_lifted es)
lifted_by-InfoTerm (suc n) k es = ap lifted (lifted_by-InfoTerm n k es) ∙ ap (ex.InfoTerm k) (all_lifted_more n es)

pub lifted_by-Plus : (n : ℕ) (e : Ex) (i : ℤ) → lifted_by n (ex.Plus e i) ≡ ex.Plus (lifted_by n e) i
lifted_by-Plus zero e i = refl
lifted_by-Plus (suc n) e i = ap lifted (lifted_by-Plus n e i)

pub lifted_by-Add : (n : ℕ) (a b : Ex) → lifted_by n (ex.Add a b) ≡ ex.Add (lifted_by n a) (lifted_by n b)
lifted_by-Add zero a b = refl
lifted_by-Add (suc n) a b = ap lifted (lifted_by-Add n a b)

pub lifted_by-Sub : (n : ℕ) (a b : Ex) → lifted_by n (ex.Sub a b) ≡ ex.Sub (lifted_by n a) (lifted_by n b)
lifted_by-Sub zero a b = refl
lifted_by-Sub (suc n) a b = ap lifted (lifted_by-Sub n a b)

pub lifted_by-OpOf : (n : ℕ) (e : Ex) → lifted_by n (ex.OpOf e) ≡ ex.OpOf (lifted_by n e)
lifted_by-OpOf zero e = refl
lifted_by-OpOf (suc n) e = ap lifted (lifted_by-OpOf n e)

pub lifted_by-OriginOf : (n : ℕ) (e : Ex) → lifted_by n (ex.OriginOf e) ≡ ex.OriginOf (lifted_by n e)
lifted_by-OriginOf zero e = refl
lifted_by-OriginOf (suc n) e = ap lifted (lifted_by-OriginOf n e)

pub lifted_by-InfoOf : (n : ℕ) (e : Ex) → lifted_by n (ex.InfoOf e) ≡ ex.InfoOf (lifted_by n e)
lifted_by-InfoOf zero e = refl
lifted_by-InfoOf (suc n) e = ap lifted (lifted_by-InfoOf n e)

pub lifted_by-ResultOf : (n : ℕ) (e : Ex) → lifted_by n (ex.ResultOf e) ≡ ex.ResultOf (lifted_by n e)
lifted_by-ResultOf zero e = refl
lifted_by-ResultOf (suc n) e = ap lifted (lifted_by-ResultOf n e)

pub lifted_by-ResultTerm : (n : ℕ) (proc : ℕ) → lifted_by n (ex.ResultTerm proc) ≡ ex.ResultTerm proc
lifted_by-ResultTerm zero proc = refl
lifted_by-ResultTerm (suc n) proc = ap lifted (lifted_by-ResultTerm n proc)

pub lifted_by-ResultWith : (n : ℕ) (proc : ℕ) (e : Ex) → lifted_by n (ex.ResultWith proc e) ≡ ex.ResultWith proc (lifted_by n e)
lifted_by-ResultWith zero proc e = refl
lifted_by-ResultWith (suc n) proc e = ap lifted (lifted_by-ResultWith n proc e)

pub lifted_by-Unreturned : (n : ℕ) → lifted_by n (ex.Unreturned) ≡ ex.Unreturned
lifted_by-Unreturned zero = refl
lifted_by-Unreturned (suc n) = ap lifted (lifted_by-Unreturned n)

pub as_lifted : (n : ℕ) (whole node after z : Ex) → z ≡ after → lifted_by n node ≡ after → whole ≡ node → z ≡ lifted_by n whole
as_lifted n whole node after z made is was = made ∙ sym is ∙ ap (lifted_by n) (sym was)

pub ruleset lifts = (lifted_by-Slot, lifted_by-Bound, lifted_by-Int, lifted_by-Str, lifted_by-Con, lifted_by-Query, lifted_by-OpTerm, lifted_by-InfoTerm, lifted_by-Plus, lifted_by-Add, lifted_by-Sub, lifted_by-OpOf, lifted_by-OriginOf, lifted_by-InfoOf, lifted_by-ResultOf, lifted_by-ResultTerm, lifted_by-ResultWith, lifted_by-Unreturned)
