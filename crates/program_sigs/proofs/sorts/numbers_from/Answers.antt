use Rattle.std.proofs.Common.{◌++◌, ◌∷◌, [], ◌∙◌, sym, ap₂}
use Rattle.program_sigs.proofs.Lists.{from_more}
use Rattle.program_sigs.proofs.sorts.numbers_from.Goals as goal

pub loop-i-preserved : goal.loop-i-preserved
loop-i-preserved c = c.in_ok-push.ensures.ok ∙ (ap₂ (λ ns n. ns ++ n ∷ []) c.loop-i.invariant c.in_ok-plus.ensures ∙ sym (from_more c.args.first c.loop-i.i))
