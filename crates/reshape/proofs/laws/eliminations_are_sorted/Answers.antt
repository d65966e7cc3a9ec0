use Rattle.reshape.proofs.FoundSorts.{eliminated-sorted, some-eliminated-sorted}
use Rattle.reshape.proofs.laws.eliminations_are_sorted.Goals as goal

pub returns : goal.returns
returns c = record { all = eliminated-sorted; some = some-eliminated-sorted }
