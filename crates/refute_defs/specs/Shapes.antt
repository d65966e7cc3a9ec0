-- What a node names: exactly the places, terms and atoms that its rule needs, and the number 0
-- where its rule needs none.
use Rattle.std.specs.Prelude.{ℕ, Bool, ◌&&◌, ◌==◌, if◌then◌else◌, List, [], ◌∷◌, length, Option, Some, None, option_map, option_and_then}
use Rattle.rp_logic.specs.Terms.{Tm, At}
use Rattle.refute_defs.specs.Uses.{Use}

abbrev pub only : {A : Type 0} → List A → Option A
only (x ∷ []) = Some x
only _ = None

abbrev pub only_two : {A : Type 0} → List A → Option (A × A)
only_two (x ∷ y ∷ []) = Some (x, y)
only_two _ = None

abbrev pub no_places : Use → Bool
no_places u = length u.places == 0

abbrev pub no_terms : Use → Bool
no_terms u = length u.terms == 0

abbrev pub no_atoms : Use → Bool
no_atoms u = length u.atoms == 0

abbrev pub no_pick : Use → Bool
no_pick u = u.pick == 0

-- one place, and a number
abbrev pub place_and_pick : Use → Option ℕ
place_and_pick u = if no_terms u && no_atoms u then only u.places else None

-- places and nothing else
abbrev pub the_places : Use → Option (List ℕ)
the_places u = if no_terms u && no_atoms u && no_pick u then Some u.places else None

abbrev pub the_place : Use → Option ℕ
the_place u = option_and_then only (the_places u)

abbrev pub two_places : Use → Option (ℕ × ℕ)
two_places u = option_and_then only_two (the_places u)

abbrev pub place_and_term : Use → Option (ℕ × Tm)
place_and_term u =
    if no_atoms u && no_pick u
    then option_and_then (λ p. option_map (λ t. (p, t)) (only u.terms)) (only u.places)
    else None

-- one term, and any places
abbrev pub term_with_places : Use → Option Tm
term_with_places u = if no_atoms u && no_pick u then only u.terms else None

-- one term, and a number
abbrev pub term_and_pick : Use → Option Tm
term_and_pick u = if no_places u && no_atoms u then only u.terms else None

abbrev pub the_term : Use → Option Tm
the_term u = if no_pick u then term_and_pick u else None

abbrev pub two_terms : Use → Option (Tm × Tm)
two_terms u = if no_places u && no_atoms u && no_pick u then only_two u.terms else None

abbrev pub the_atom : Use → Option At
the_atom u = if no_places u && no_terms u && no_pick u then only u.atoms else None
