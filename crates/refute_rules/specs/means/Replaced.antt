-- Terms and atoms with the other sides of equalities in the place of their arguments.
use Rattle.std.specs.Prelude.{ℕ, if◌then◌else◌, List, Option, None, option_map, option_and_then}
use Rattle.rp_logic.specs.Terms.{Tm, Tms, At}
use Rattle.refute_defs.specs.Branches.{Branch}
use Rattle.refute_defs.specs.Parts.{are_some, args, with_args, atom_args, atom_with}
use Rattle.refute_defs.specs.Children.{equality_at, other_side, other_sides}

-- the other side of the equality at the place, where t is the first
abbrev pub side_at : Branch → ℕ → Tm → Option Tm
side_at b p t = option_and_then (other_side t) (equality_at b p)

-- the other sides of some terms
abbrev pub replaced_args : Branch → List ℕ → Tms → Option Tms
replaced_args b ps ts = if are_some ts then other_sides b ps ts else None

abbrev pub replaced_term : Branch → List ℕ → Tm → Option Tm
replaced_term b ps t = option_map (with_args t) (replaced_args b ps (args t))

abbrev pub replaced_atom : Branch → List ℕ → At → Option At
replaced_atom b ps a = option_map (atom_with a) (other_sides b ps (atom_args a))
