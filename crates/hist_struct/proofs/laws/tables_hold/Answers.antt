use Rattle.hist_struct.proofs.TableLaws.{in-set, in-pairs, in-table}
use Rattle.hist_struct.proofs.laws.tables_hold.Goals as goal

pub returns : goal.returns
returns c = record { sets = in-set; pairs = in-pairs; functions = in-table }
