-- The terms of nodes.
use Rattle.std.specs.Prelude.{◌≡◌, ◌<◌, ℕ, List, [], ◌∷◌, ◌++◌, map, slice_get, Some}
use Rattle.std.specs.Option.{unwrap_or}
use Rattle.rp_logic.specs.Terms as tm
use Rattle.rp_logic.specs.Terms.{Tm}
use Rattle.rp_logic.specs.Views.{tms_of}
use Rattle.rp_terms.specs.declared.node.Node.{Node}
use Rattle.rp_terms.specs.declared.symbol.Symbol.{Symbol}
use Rattle.rp_terms.specs.declared.symbol.Symbol.TheVariants as symbol
use Rattle.rp_terms.specs.Symbols.{symbol_of, arguments}
use Rattle.rp_terms.specs.Numbered.{AreDifferent, AreNumbersOf}
use Rattle.rp_terms.specs.means.Hash.{term_hash}

-- what stands where there is no term
abbrev pub junk : Tm
junk = tm.Const 0

-- the term of a symbol over arguments
abbrev pub tree : Symbol → List Tm → Tm
tree (symbol.Var n) ts = tm.Var n
tree (symbol.Const c) ts = tm.Const c
tree (symbol.Fn f) ts = tm.Fn f (tms_of ts)
tree (symbol.Int n) ts = tm.Int n
tree (symbol.Str bytes) ts = tm.Str bytes
tree (symbol.Con con) ts = tm.Con con (tms_of ts)
tree (symbol.Sel con i) [] = junk
tree (symbol.Sel con i) (t ∷ ts) = tm.Sel con i t
tree (symbol.Plus n) [] = junk
tree (symbol.Plus n) (t ∷ ts) = tm.Plus t n

abbrev pub picked : List Tm → List ℕ → List Tm
picked terms ids = map (λ id. unwrap_or (slice_get terms id) junk) ids

abbrev pub terms_from : List Tm → List Node → List Tm
terms_from terms [] = terms
terms_from terms (node ∷ nodes) = terms_from (terms ++ tree node.symbol (picked terms node.parts) ∷ []) nodes

abbrev pub terms_of : List Node → List Tm
terms_of nodes = terms_from [] nodes

-- the node is the term, among these terms
pub record IsNode (terms : List Tm) (id : ℕ) (node : Node) (t : Tm) : Type 0 where
  pub symbol : node.symbol ≡ symbol_of t
  pub parts : AreNumbersOf terms node.parts (arguments t)
  pub earlier : (k p : ℕ) → slice_get node.parts k ≡ Some p → p < id

pub record AreBuilt (nodes : List Node) (hashes : List ℕ) : Type 0 where
  pub each : (id : ℕ) (node : Node) (t : Tm) → slice_get nodes id ≡ Some node → slice_get (terms_of nodes) id ≡ Some t → IsNode (terms_of nodes) id node t
  pub hashed : hashes ≡ map term_hash (terms_of nodes)
  pub different : AreDifferent (terms_of nodes)
