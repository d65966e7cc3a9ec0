use Rattle.std.proofs.Common.{length, refl}
use Rattle.spent_defs.specs.Tours.{tour}
use Rattle.spent_defs.specs.Counted.{broken, lapse}
use Rattle.spent_defs.proofs.VerdictLaws.{counted_exact}
use Rattle.spent_defs.proofs.laws.verdicts_are_exact.Goals as goal

pub returns : goal.returns
returns c = record {
  accepted = λ S given nodes budget depth.
      let t = tour S given nodes in
      counted_exact S (length nodes) budget depth t (broken t) (lapse S depth t) refl refl;
}
