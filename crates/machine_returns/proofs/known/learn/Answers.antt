use Rattle.std.proofs.Common.{◌∙◌}
use Rattle.machine_returns.proofs.KnownLemmas.{extends_cut}
use Rattle.machine_returns.proofs.known.learn.Goals as goal

pub returns-then-is_err-clause-err : goal.returns-then-is_err-clause-err
returns-then-is_err-clause-err c = c.cut.ensures ∙ extends_cut c.args.known.now c.note.new.known c.count-before.result c.count-before.ensures.length c.note.ensures.extends
