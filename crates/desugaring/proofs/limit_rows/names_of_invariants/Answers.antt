use Rattle.std.proofs.Common.{refl, arith}
use Rattle.std.proofs.lemmas.Fmt.{decimal_digit}
use Rattle.desugaring.proofs.limit_rows.names_of_invariants.Goals as goal

pub returns : goal.returns
returns c = rw (decimal_digit 2 (omega arith)) refl
