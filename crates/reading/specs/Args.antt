-- Terms that are added behind others.
use Rattle.std.specs.Prelude.{◌≡◌, List, [], ◌∷◌, ◌++◌, Some}
use Rattle.rp_grammar.specs.Trees.{ArgTrees, ExprTrees, StepTree}
use Rattle.type_rules.specs.declared.kind.Kind.{Kind}
use Rattle.type_rules.specs.Paths.{Way, key_kind}
use Rattle.query_bodies.specs.Terms.{Te}
use Rattle.query_bodies.specs.Views.{tes_of}
use Rattle.query_laws.specs.Sight.{Sight, SaysArgs, SaysTerm, SaysTerms}

-- of a step that is a key, what it says
abbrev pub AddsKey : Sight → Way → StepTree → List Te → List Te → Type 0
AddsKey s way (StepTree.dot x) old new = new ≡ old
AddsKey s way (StepTree.returned at) old new = new ≡ old
AddsKey s way (StepTree.key e) old new = (x : Te) × (new ≡ old ++ x ∷ []) × SaysTerm s (Some (key_kind s.tables.names way)) e x

-- arguments of these types
pub record AddsTerms (s : Sight) (kinds : List Kind) (es : ExprTrees) (old new : List Te) : Type 0 where
  pub more : List Te
  pub behind : new ≡ old ++ more
  pub says : SaysTerms s kinds es (tes_of more)

pub record AddsArgs (s : Sight) (kinds : List Kind) (args : ArgTrees) (old new : List Te) : Type 0 where
  pub more : List Te
  pub behind : new ≡ old ++ more
  pub says : SaysArgs s kinds args (tes_of more)
