use Rattle.std.proofs.Common.{◌∙◌}
use Rattle.formula_enc.proofs.Arms.{among_reverse}
use Rattle.formula_enc.proofs.formulas.is_seen.Goals as goal

pub returns : goal.returns
returns c = c.is_one_of.ensures ∙ among_reverse c.args.con c.args.seen.now
