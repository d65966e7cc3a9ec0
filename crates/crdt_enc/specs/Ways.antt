-- The steps from a root to a part of it, the last step outermost: fields, and keys with what their map keeps.
use Rattle.std.specs.Prelude.{ℕ, ◌+◌, Bool, ◌&&◌, nat_eq, List, [], ◌∷◌, ◌++◌, slice_get}
use Rattle.rp_lang.specs.declared.op.OpDecl.{OpDecl}
use Rattle.crdt_defs.specs.declared.asked.Winner.{Winner}
use Rattle.crdt_defs.specs.Doing.{is_field, is_some_key}

-- A key is a term where the way stands in a formula, and a value where it stands in the store.
pub data Way (K : Type 0) : Type 0 where
  Root : (root : ℕ) → Way K
  AtField : (n : ℕ) (before : Way K) → Way K
  AtKey : (winner : Winner) (key : K) (before : Way K) → Way K

-- how many steps it has
abbrev pub depth : {K : Type 0} → Way K → ℕ
depth (Root root) = 0
depth (AtField n way) = depth way + 1
depth (AtKey winner key way) = depth way + 1

-- the keys on the way, the first one first
abbrev pub keys : {K : Type 0} → Way K → List K
keys (Root root) = []
keys (AtField n way) = keys way
keys (AtKey winner key way) = keys way ++ key ∷ []

-- the operation is one of this root, and its path goes this way or on from its end
abbrev pub goes : {K : Type 0} → Way K → OpDecl → Bool
goes (Root root) op = nat_eq op.root root
goes (AtField n way) op = goes way op && is_field n (slice_get op.path (depth way))
goes (AtKey winner key way) op = goes way op && is_some_key (slice_get op.path (depth way))
