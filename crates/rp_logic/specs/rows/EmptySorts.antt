-- Worked rows: everything has a property, and nothing has it.
use Rattle.std.specs.Prelude.{ℕ, Bool, true, false, List, [], ◌∷◌}
use Rattle.rp_logic.specs.declared.sort.Sort.TheVariants.{Plain}
use Rattle.rp_logic.specs.Terms.{Var, Rel, no_tm, also_tm}
use Rattle.rp_logic.specs.Formulas.{Fm, All, Lit}
use Rattle.rp_logic.specs.Signatures.{Signature}
use Rattle.rp_logic.specs.Structures.{Structure, IsStructure}
use Rattle.rp_logic.specs.Truth.{meaning, AllTrue, IsRefuted}

-- one plain sort, one relation over it, and constants of these sorts
abbrev pub one_sort : List ℕ → Signature
one_sort consts = record { sorts = Plain ∷ []; consts = consts; fns = []; rels = (0 ∷ []) ∷ []; cons = [] }

abbrev pub each_has_it : Bool → Fm
each_has_it sign = All 0 (Lit sign (Rel 0 (also_tm (Var 0) no_tm)))

abbrev pub both_ways : List Fm
both_ways = each_has_it true ∷ each_has_it false ∷ []

-- the structure with no element
abbrev pub nothing : Structure
nothing = record { sizes = 0 ∷ []; consts = []; fns = []; rels = []; defaults = []; selected = [] }

-- without a constant both are true where the sort is empty
abbrev pub EmptySort : Type 0
EmptySort = IsStructure (one_sort []) nothing × AllTrue (meaning (one_sort []) nothing) both_ways

-- a constant is an element, and they are refuted
abbrev pub SortOfAConstant : Type 0
SortOfAConstant = IsRefuted (one_sort (0 ∷ [])) both_ways
