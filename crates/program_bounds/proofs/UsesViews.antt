-- How much uses count, variant by variant.
use Rattle.std.proofs.Common.{◌≡◌, ◌≢◌, ◌-◌, ◌<◌, ◌≤◌, ℕ, List, [], ◌∷◌, ◌++◌, zero, suc, replicate, slice_get, Some, arith, refl, ap, ◌∙◌}
use Rattle.std.specs.Borrow.{Bor}
use Rattle.program_bounds.specs.declared.bounds.Uses.{Uses}
use Rattle.program_bounds.specs.declared.bounds.Uses.TheVariants.{Closed, Quantified, Fields, outs-Closed, outs-Quantified, outs-Fields}
use Rattle.program_bounds.specs.declared.bounds.Uses.TheFolds.{fold_out-Uses, map-Uses}
use Rattle.program_bounds.specs.UsesView.{uses_step, uses_view}

pub uses_view-Closed : uses_view Closed ≡ []
uses_view-Closed = fold_out-Uses (List ℕ) uses_step Closed ∙ ap (λ l. uses_step (map-Uses Uses (List ℕ) uses_view l)) outs-Closed

pub uses_view-Quantified : (outer : Bor Uses) → uses_view (Quantified outer) ≡ 1 ∷ uses_view outer.now
uses_view-Quantified outer = fold_out-Uses (List ℕ) uses_step (Quantified outer) ∙ ap (λ l. uses_step (map-Uses Uses (List ℕ) uses_view l)) (outs-Quantified outer)

pub uses_view-Fields : (count each : ℕ) (outer : Bor Uses) → uses_view (Fields count each outer) ≡ replicate count each ++ uses_view outer.now
uses_view-Fields count each outer = fold_out-Uses (List ℕ) uses_step (Fields count each outer) ∙ ap (λ l. uses_step (map-Uses Uses (List ℕ) uses_view l)) (outs-Fields count each outer)

pub ruleset uses_views = (uses_view-Closed, uses_view-Quantified, uses_view-Fields)

pub among_equal : (count each n : ℕ) (outer : List ℕ) → n < count → slice_get (replicate count each ++ outer) n ≡ Some each
among_equal zero each n outer within = absurd (omega arith)
among_equal (suc count) each zero outer within = refl
among_equal (suc count) each (suc n) outer within = among_equal count each n outer (omega arith)

pub past_equal : (count each n : ℕ) (outer : List ℕ) → count ≤ n → slice_get (replicate count each ++ outer) n ≡ slice_get outer (n - count)
past_equal zero each n outer past = let e : n - 0 ≡ n = omega arith in rw e refl
past_equal (suc count) each zero outer past = absurd (omega arith)
past_equal (suc count) each (suc n) outer past =
    let e : suc n - suc count ≡ n - count = omega arith in
    rw e (past_equal count each n outer (omega arith))

pub get_past : {X : Type 0} (x : X) (xs : List X) (n : ℕ) → n ≢ 0 → slice_get (x ∷ xs) n ≡ slice_get xs (n - 1)
get_past x xs zero p = absurd (p refl)
get_past x xs (suc n) p = let e : suc n - 1 ≡ n = omega arith in rw e refl
