-- The worked rows.
use Rattle.std.proofs.Common.{refl, arith}
use Rattle.std.proofs.lemmas.Fmt.{decimal_digit}
use Rattle.rp_print.specs.rows.Rows.{Tautology, Numbers, Strings, Quantifiers, Matches, Branches, Datatypes, ReplicatedTypes}

pub tautology : Tautology
tautology = refl

pub numbers : Numbers
numbers = rw (decimal_digit 1 (omega arith), decimal_digit 2 (omega arith), decimal_digit 3 (omega arith)) refl

pub strings : Strings
strings = refl

pub quantifiers : Quantifiers
quantifiers = refl

pub matches : Matches
matches = refl

pub branches : Branches
branches = refl

pub datatypes : Datatypes
datatypes = refl

pub replicated_types : ReplicatedTypes
replicated_types = refl
