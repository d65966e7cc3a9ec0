-- What a walk through checks finds.
use Rattle.std.specs.Prelude.{ℕ, ◌+◌, if◌then◌else◌, List, [], ◌∷◌, ◌++◌, filter, Bool, Some, None}
use Rattle.std.specs.List.{list_all}
use Rattle.rp_span.specs.declared.Span.{Span}
use Rattle.rp_lang.specs.declared.goal.GoalKind.TheVariants as kind
use Rattle.rp_lang.specs.Formulas.{Fo}
use Rattle.event_machine.specs.Checks.{Checks, Done, Assert, Choose}
use Rattle.rp_verify.specs.declared.verdict.Unproved.{Unproved}
use Rattle.rp_verify.specs.means.Counted.{assertions}
use Rattle.rp_verify.specs.means.Rows.{holds, fails}

-- goal n, by its name
abbrev pub entry : ℕ → List ℕ → ℕ → Span → Unproved
entry proc path n at = record { goal = n; name = record { kind = kind.Assert; proc = Some proc; path = path; at = at; inv = None } }

-- goal n, where it fails at some of the rows
abbrev pub found_at : ℕ → List ℕ → ℕ → List (List Bool) → Span → Fo → List Unproved
found_at proc path n rows at f = if list_all (holds f) rows then [] else entry proc path n at ∷ []

-- the goals of checks behind a path that fail at some of the rows that come there, numbered from n on
abbrev pub found_in : ℕ → List ℕ → ℕ → List (List Bool) → Checks → List Unproved
found_in proc path n rows Done = []
found_in proc path n rows (Assert at f next) = found_at proc path n rows at f ++ found_in proc path (n + 1) rows next
found_in proc path n rows (Choose f then_ else_) =
    found_in proc (path ++ 1 ∷ []) n (filter (holds f) rows) then_
    ++ found_in proc (path ++ 2 ∷ []) (n + assertions then_) (filter (fails f) rows) else_
