-- The sorts of a scope, the innermost first.
use Rattle.std.specs.Prelude.{ℕ, List, [], ◌∷◌}
use Rattle.rp_logic.specs.declared.scope.Scope.{Scope}
use Rattle.rp_logic.specs.declared.scope.Scope.TheOpen.{Scope-F, Closed, Under}
use Rattle.rp_logic.specs.declared.scope.Scope.TheFolds.{fold-Scope}

abbrev pub scope_step : Scope-F (List ℕ) → List ℕ
scope_step Closed = []
scope_step (Under sort outer) = sort ∷ outer.now

abbrev pub scope_view : Scope → List ℕ
scope_view = fold-Scope (List ℕ) scope_step
