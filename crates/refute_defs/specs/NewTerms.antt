-- Terms that a node may name: closed ones over the signature and the constants that were brought on
-- the branch.
use Rattle.std.specs.Prelude.{IsTrue, ℕ, Bool, if◌then◌else◌, List, [], slice_get, Option, Some, None, option_and_then, is_some}
use Rattle.rp_logic.specs.declared.sort.Sort.{Sort}
use Rattle.rp_logic.specs.declared.sort.Sort.TheVariants.{Datatype}
use Rattle.rp_logic.specs.Terms.{Tm, At}
use Rattle.rp_logic.specs.Signatures.{Signature, is_int}
use Rattle.rp_logic.specs.Sorted.{has_sort, IsSortedAtom, IsNumber}
use Rattle.rp_logic.specs.SortTests.{head_sort, at_sort, atom_test}
use Rattle.refute_defs.specs.Branches.{Branch}

-- # As relations

abbrev pub HasSort : Signature → Branch → ℕ → Tm → Type 0
HasSort S b s t = IsTrue (has_sort S b.added [] s t)

abbrev pub IsTerm : Signature → Branch → Tm → Type 0
IsTerm S b t = (s : ℕ) × HasSort S b s t

abbrev pub IsNumberTerm : Signature → Branch → Tm → Type 0
IsNumberTerm S b t = IsNumber S b.added [] t

abbrev pub IsAtom : Signature → Branch → At → Type 0
IsAtom S b atom = IsSortedAtom S b.added [] atom

-- # As tests, over a signature with at most one sort `Int` and at most one `Str`

-- the sort of a term, which is the only one that it has
abbrev pub sort_of : Signature → Branch → Tm → Option ℕ
sort_of S b t =
    if at_sort S b.added [] (head_sort S b.added [] t) t then head_sort S b.added [] t else None

abbrev pub is_term : Signature → Branch → Tm → Bool
is_term S b t = is_some (sort_of S b t)

abbrev pub declared_sort : Signature → Branch → Tm → Option Sort
declared_sort S b t = option_and_then (slice_get S.sorts) (sort_of S b t)

abbrev pub is_number : Signature → Branch → Tm → Bool
is_number S b t = is_int (declared_sort S b t)

abbrev pub is_atom : Signature → Branch → At → Bool
is_atom S b atom = atom_test S b.added [] atom

-- the constructors of the term's sort, if it is a datatype
abbrev pub datatype : Option Sort → Option (List ℕ)
datatype (Some (Datatype cons)) = Some cons
datatype _ = None
