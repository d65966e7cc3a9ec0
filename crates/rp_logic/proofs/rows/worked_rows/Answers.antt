use Rattle.rp_logic.proofs.RowLaws as row
use Rattle.rp_logic.proofs.rows.worked_rows.Goals as goal

pub returns : goal.returns
returns c = record { empty_sort = row.empty_sort; sort_of_a_constant = row.sort_of_a_constant }
