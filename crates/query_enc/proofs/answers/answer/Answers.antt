use Rattle.std.proofs.Common.{◌∙◌, sym, arith}
use Rattle.rp_lang.specs.ProgramView.{program_view}
use Rattle.query_enc.specs.WayView.{way_view}
use Rattle.query_enc.proofs.Questions.{over_many}
use Rattle.query_enc.proofs.answers.answer.Goals as goal

pub returns-in-len2-up : goal.returns-in-len2-up
returns-in-len2-up c = c.untrue-in-len2-up.ensures ∙ sym (over_many (program_view c.args.p.now) c.args.view (way_view c.args.way.now) c.args.question c.args.args.now (omega (arith, c.in-len2-up.len_at_least)))
