use Rattle.well_sorted.proofs.SignatureLaws.{symbols, old-place, part-place, snapshot-place, seen-place, read-place, added-place}
use Rattle.well_sorted.proofs.laws.signatures_have_symbols.Goals as goal

pub returns : goal.returns
returns c = record { symbols = symbols; old = old-place; part = part-place; snapshot = snapshot-place; seen = seen-place; read = read-place; added = added-place }
