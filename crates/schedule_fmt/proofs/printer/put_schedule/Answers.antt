use Rattle.schedule_fmt.proofs.Appends.{four_put}
use Rattle.schedule_fmt.proofs.printer.put_schedule.Goals as goal

pub returns : goal.returns
returns c =
    four_put _ _ _ _ _ _ _ _ _ c.in_ok-put.ensures c.in_ok-put_number.ensures c.in_ok-push.ensures.items c.in_ok-put_steps.ensures
