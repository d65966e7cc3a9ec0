use Rattle.rp_print.proofs.ReadBack.{reads_back}
use Rattle.rp_print.proofs.laws.printed_form_reads_back.Goals as goal

pub returns : goal.returns
returns c = reads_back
