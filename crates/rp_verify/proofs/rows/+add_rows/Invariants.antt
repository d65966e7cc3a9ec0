use Rattle.std.proofs.Common.{◌-◌}
use Rattle.rp_verify.proofs.rows.+add_rows.Given as goal

abbrev pub decreases-add_rows : goal.decreases-add_rows
decreases-add_rows l = l.params - l.from
