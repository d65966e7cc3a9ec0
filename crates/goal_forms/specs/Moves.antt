-- What a step moves, as sentences about the step and as formulas under the same names.
use Rattle.std.specs.Prelude.{◌≡◌, ℕ, ◌≤◌, true, false, List, [], ◌∷◌, length}
use Rattle.rp_logic.specs.Terms.{Var}
use Rattle.rp_logic.specs.Formulas.{Fm, All}
use Rattle.rp_symbols.specs.Numbers.{call_sort, inv_sort, old_rel, new_rel, was_rel, there_rel}
use Rattle.crdt_enc.specs.Builders.{over_one}
use Rattle.hist_struct.specs.Axioms.{part_of}
use Rattle.hist_struct.specs.Steps.{Step, is_done}

-- # Sentences

-- after the step no call is committed
abbrev pub NoneCommitted : Step → Type 0
NoneCommitted x = (c : ℕ) → is_done x.new c ≡ false

-- after the step there is no invocation
abbrev pub NobodyThere : Step → Type 0
NobodyThere x = x.new.invocations ≡ []

-- every invocation was there before the step
abbrev pub AllWere : Step → Type 0
AllWere x = length x.new.invocations ≤ length x.old.invocations

-- after the step the same calls are committed as before
abbrev pub CommitsStay : Step → Type 0
CommitsStay x = (c : ℕ) → is_done x.new c ≡ is_done x.old c

-- # Formulas

abbrev pub none_committed : Fm
none_committed = All call_sort (over_one false new_rel (Var 0))

abbrev pub nobody_there : Fm
nobody_there = All inv_sort (over_one false there_rel (Var 0))

abbrev pub all_were : Fm
all_were = All inv_sort (over_one true was_rel (Var 0))

-- either way round
abbrev pub commits_stay : List Fm
commits_stay = part_of old_rel new_rel ∷ part_of new_rel old_rel ∷ []
