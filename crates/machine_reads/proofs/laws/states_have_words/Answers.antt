use Rattle.machine_reads.proofs.ReadingLemmas.{has_words}
use Rattle.machine_reads.proofs.laws.states_have_words.Goals as goal

pub returns : goal.returns
returns c = has_words
