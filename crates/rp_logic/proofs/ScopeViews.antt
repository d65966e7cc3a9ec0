-- An element past the first, and the sorts of a scope under one more quantifier.
use Rattle.std.proofs.Common.{◌≡◌, ◌≢◌, ◌-◌, ℕ, List, [], ◌∷◌, zero, suc, slice_get, arith, refl, ap, ◌∙◌}
use Rattle.std.specs.Borrow.{Bor}
use Rattle.rp_logic.specs.Scopes.{scope_view, scope_step}
use Rattle.rp_logic.specs.declared.scope.Scope.{Scope}
use Rattle.rp_logic.specs.declared.scope.Scope.TheVariants.{Closed, Under, outs-Closed, outs-Under}
use Rattle.rp_logic.specs.declared.scope.Scope.TheFolds.{fold_out-Scope, map-Scope}

pub get_past : {X : Type 0} (x : X) (xs : List X) (n : ℕ) → n ≢ 0 → slice_get (x ∷ xs) n ≡ slice_get xs (n - 1)
get_past x xs zero p = absurd (p refl)
get_past x xs (suc n) p = let e : suc n - 1 ≡ n = omega arith in rw e refl

pub scope_view-Under : (sort : ℕ) (outer : Bor Scope) → scope_view (Under sort outer) ≡ sort ∷ scope_view outer.now
scope_view-Under sort outer =
    fold_out-Scope (List ℕ) scope_step (Under sort outer) ∙ ap (λ l. scope_step (map-Scope Scope (List ℕ) scope_view l)) (outs-Under sort outer)

pub scope_view-Closed : scope_view Closed ≡ []
scope_view-Closed = fold_out-Scope (List ℕ) scope_step Closed ∙ ap (λ l. scope_step (map-Scope Scope (List ℕ) scope_view l)) outs-Closed

pub ruleset scope_views = (scope_view-Under, scope_view-Closed)
