-- How much uses of open variables count, of those of the code.
use Rattle.std.specs.Prelude.{ℕ, List, [], ◌∷◌, ◌++◌, replicate}
use Rattle.program_bounds.specs.declared.bounds.Uses.{Uses}
use Rattle.program_bounds.specs.declared.bounds.Uses.TheOpen.{Uses-F, Closed, Quantified, Fields}
use Rattle.program_bounds.specs.declared.bounds.Uses.TheFolds.{fold-Uses}

abbrev pub uses_step : Uses-F (List ℕ) → List ℕ
uses_step Closed = []
uses_step (Quantified outer) = 1 ∷ outer.now
uses_step (Fields count each outer) = replicate count each ++ outer.now

abbrev pub uses_view : Uses → List ℕ
uses_view = fold-Uses (List ℕ) uses_step
