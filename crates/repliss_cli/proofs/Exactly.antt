-- The report that has its cause is the one that is put.
use Rattle.std.proofs.Common.{◌≡◌, ℕ, List, subst}
use Rattle.std.specs.declared.option.Option.{Option}
use Rattle.rp_io.specs.Files.{Contents}
use Rattle.rp_io.specs.Sinks.{Puts}
use Rattle.repliss_cli.specs.declared.report.Report.{Report}
use Rattle.repliss_cli.specs.declared.report.Status.{Status}
use Rattle.repliss_cli.specs.declared.report.Status.TheVariants.{Fine, Found, Refused, ReadFault, WriteFault, NoMemory}
use Rattle.repliss_cli.specs.Words.{Words}
use Rattle.repliss_cli.specs.Texts.{report_text, status_of}
use Rattle.repliss_cli.specs.Answers.{HasCause, AreTold, Tells}

-- what the law on reports of words says of these
abbrev OneCause : Words → Option Contents → Type 0
OneCause words told = (r s : Report) → AreTold words told → HasCause words told r → HasCause words told s → r ≡ s

same_put : (words : Words) (told : Option Contents) (status : Status) (old new : Option (List ℕ)) (made report : Report) → OneCause words told
    → HasCause words told made → (status ≡ status_of made) × Puts old new (report_text made) → AreTold words told → HasCause words told report
    → (status ≡ status_of report) × Puts old new (report_text report)
same_put words told status old new made report one cause put are also =
    subst (λ r. (status ≡ status_of r) × Puts old new (report_text r)) (one made report are cause also) put

-- the report that was made, and put whole but for a fault or want of memory, is the one with its cause
pub exactly : (words : Words) (told : Option Contents) (status : Status) (old new : Option (List ℕ)) (made report : Report) → OneCause words told
    → HasCause words told made → ((status ≡ WriteFault → ⊥) → (status ≡ NoMemory → ⊥) → (status ≡ status_of made) × Puts old new (report_text made))
    → AreTold words told → HasCause words told report → Tells report status old new
exactly words told Fine old new made report one cause whole are also = same_put words told Fine old new made report one cause (whole (λ e. cc) (λ e. cc)) are also
exactly words told Found old new made report one cause whole are also = same_put words told Found old new made report one cause (whole (λ e. cc) (λ e. cc)) are also
exactly words told Refused old new made report one cause whole are also = same_put words told Refused old new made report one cause (whole (λ e. cc) (λ e. cc)) are also
exactly words told ReadFault old new made report one cause whole are also = tt
exactly words told WriteFault old new made report one cause whole are also = tt
exactly words told NoMemory old new made report one cause whole are also = tt
