-- The names of the goals of small programs, each in one line: kind, procedure, path, place, invariant.
use Rattle.std.specs.Prelude.{ℕ, List, [], ◌∷◌, Some, None}
use Rattle.rp_span.specs.declared.Span.{Span}
use Rattle.rp_lang.specs.declared.goal.GoalName.{GoalName}
use Rattle.rp_lang.specs.declared.goal.GoalKind.{GoalKind}
use Rattle.rp_lang.specs.declared.goal.GoalKind.TheVariants.{Init, Invoke, Assert, Commit, Return}
use Rattle.rp_lang.specs.rows.Samples.{span}
use Rattle.event_machine.specs.rows.Worked.{nowhere}

-- of an invariant at the start
abbrev pub at_start : Span → ℕ → GoalName
at_start at inv = record { kind = Init; proc = None; path = []; at = at; inv = Some inv }

-- of an invariant in a procedure
abbrev pub within : GoalKind → ℕ → List ℕ → Span → ℕ → GoalName
within kind proc path at inv = record { kind = kind; proc = Some proc; path = path; at = at; inv = Some inv }

-- of an assertion
abbrev pub asserted : ℕ → List ℕ → Span → GoalName
asserted proc path at = record { kind = Assert; proc = Some proc; path = path; at = at; inv = None }

-- those of `removes_users`
abbrev pub names_of_removes_users : List GoalName
names_of_removes_users =
    at_start (span 54 125) 0
    ∷ within Invoke 0 [] (span 126 205) 0
    ∷ within Commit 0 [] (span 156 191) 0
    ∷ within Return 0 [] (span 194 203) 0
    ∷ within Invoke 1 [] (span 206 279) 0
    ∷ within Commit 1 (1 ∷ []) (span 226 277) 0
    ∷ within Return 1 (1 ∷ []) (span 278 279) 0
    ∷ within Commit 1 (2 ∷ []) (span 226 277) 0
    ∷ within Return 1 (2 ∷ []) (span 278 279) 0
    ∷ within Invoke 2 [] (span 280 331) 0
    ∷ within Commit 2 [] (span 302 329) 0
    ∷ within Return 2 [] (span 330 331) 0
    ∷ []

-- those of `keeps_users`
abbrev pub names_of_keeps_users : List GoalName
names_of_keeps_users =
    at_start (span 54 125) 0
    ∷ at_start (span 126 195) 1
    ∷ within Invoke 0 [] (span 196 275) 0
    ∷ within Invoke 0 [] (span 196 275) 1
    ∷ within Commit 0 [] (span 226 261) 0
    ∷ within Commit 0 [] (span 226 261) 1
    ∷ within Return 0 [] (span 264 273) 0
    ∷ within Return 0 [] (span 264 273) 1
    ∷ within Invoke 1 [] (span 276 349) 0
    ∷ within Invoke 1 [] (span 276 349) 1
    ∷ within Commit 1 (1 ∷ []) (span 296 347) 0
    ∷ within Commit 1 (1 ∷ []) (span 296 347) 1
    ∷ within Return 1 (1 ∷ []) (span 348 349) 0
    ∷ within Return 1 (1 ∷ []) (span 348 349) 1
    ∷ within Commit 1 (2 ∷ []) (span 296 347) 0
    ∷ within Commit 1 (2 ∷ []) (span 296 347) 1
    ∷ within Return 1 (2 ∷ []) (span 348 349) 0
    ∷ within Return 1 (2 ∷ []) (span 348 349) 1
    ∷ []

-- those of `claiming_pickers`
abbrev pub names_of_claiming_pickers : List GoalName
names_of_claiming_pickers =
    at_start nowhere 0
    ∷ within Invoke 0 [] nowhere 0
    ∷ within Commit 0 [] nowhere 0
    ∷ within Commit 0 [] nowhere 0
    ∷ within Return 0 [] nowhere 0
    ∷ within Invoke 1 [] nowhere 0
    ∷ within Return 1 (1 ∷ []) nowhere 0
    ∷ within Return 1 (2 ∷ []) nowhere 0
    ∷ []
