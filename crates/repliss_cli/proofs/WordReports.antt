-- Words have one report over files that tell what they hold, and some report over any.
use Rattle.std.proofs.Common.{◌≡◌, ℕ, List, [], refl, sym, ◌∙◌, arith}
use Rattle.std.specs.declared.option.Option.{Option}
use Rattle.std.specs.declared.option.Option.TheVariants.{None, Some}
use Rattle.std.specs.Prelude.{IsSome, Contains}
use Rattle.rp_io.specs.Files.{Contents, content_of}
use Rattle.repliss_cli.specs.declared.report.Report.{Report}
use Rattle.repliss_cli.specs.declared.report.Report.TheVariants.{Usage}
use Rattle.repliss_cli.specs.Words.{Words, Command, Verify, Replay, asked, named_by, files_of, program_file}
use Rattle.repliss_cli.specs.Replays.{IsReplayOf}
use Rattle.repliss_cli.specs.Answers.{OnContent, IsReportOf, IsReportFrom, IsReportFor, HasCause, AreTold}

-- ---- files that are named

names_program : (command : Command) → Contains (files_of command) (program_file command)
names_program (Verify file) = (0, omega arith, refl)
names_program (Replay file schedule) = (0, omega arith, refl)

names_schedule : (file schedule : List ℕ) → Contains (files_of (Replay file schedule)) schedule
names_schedule file schedule = (1, omega arith, refl)

-- ---- one report

abbrev pub OneOf : (Report → Type 0) → Type 0
OneOf P = (r s : Report) → P r → P s → r ≡ s

-- what the laws on texts and on replays say
pub record Known : Type 0 where
  pub text : (content : List ℕ) → OneOf (IsReportOf content)
  pub replay : (content bytes : List ℕ) → OneOf (IsReplayOf content bytes)

none_is_some : IsSome {T = List ℕ} None → ⊥
none_is_some h = cc

on_told : (P : List ℕ → Report → Type 0) → ((content : List ℕ) → OneOf (P content)) → (found : Option (List ℕ)) → IsSome found
    → OneOf (λ r. OnContent found (λ content. P content r))
on_told P one None some r s h g = absurd (none_is_some some)
on_told P one (Some content) some r s h g = one content r s h g

from_content : Known → (content : List ℕ) (told : Option Contents) (command : Command) → ((file : List ℕ) → Contains (files_of command) file → IsSome (content_of told file))
    → OneOf (IsReportFrom content told command)
from_content k content told (Verify file) are r s h g = k.text content r s h g
from_content k content told (Replay file schedule) are r s h g =
    on_told (λ bytes r. IsReplayOf content bytes r) (λ bytes. k.replay content bytes) (content_of told schedule) (are schedule (names_schedule file schedule)) r s h g

one_for : Known → (told : Option Contents) (a : Option Command) → ((file : List ℕ) → Contains (named_by a) file → IsSome (content_of told file)) → OneOf (IsReportFor a told)
one_for k told None are r s h g = h ∙ sym g
one_for k told (Some command) are r s h g =
    on_told (λ content r. IsReportFrom content told command r) (λ content. from_content k content told command are)
    (content_of told (program_file command)) (are (program_file command) (names_program command)) r s h g

pub one_of_words : Known → (words : Words) (told : Option Contents) (r s : Report) → AreTold words told → HasCause words told r → HasCause words told s → r ≡ s
one_of_words k words told r s are h g = one_for k told (asked words) are r s h g

-- ---- some report

abbrev pub SomeOf : (Report → Type 0) → Type 0
SomeOf P = (r : Report) × P r

some_on : (P : List ℕ → Report → Type 0) → ((content : List ℕ) → SomeOf (P content)) → (found : Option (List ℕ)) → SomeOf (λ r. OnContent found (λ content. P content r))
some_on P some None = let (r, is) = some [] in (r, ([], is))
some_on P some (Some content) = some content

some_from : ((content : List ℕ) → SomeOf (IsReportOf content)) → ((content bytes : List ℕ) → SomeOf (IsReplayOf content bytes))
    → (told : Option Contents) (command : Command) (content : List ℕ) → SomeOf (IsReportFrom content told command)
some_from text replay told (Verify file) content = text content
some_from text replay told (Replay file schedule) content = some_on (λ bytes r. IsReplayOf content bytes r) (replay content) (content_of told schedule)

some_for : ((content : List ℕ) → SomeOf (IsReportOf content)) → ((content bytes : List ℕ) → SomeOf (IsReplayOf content bytes))
    → (told : Option Contents) (a : Option Command) → SomeOf (IsReportFor a told)
some_for text replay told None = (Usage, refl)
some_for text replay told (Some command) =
    some_on (λ content r. IsReportFrom content told command r) (some_from text replay told command) (content_of told (program_file command))

pub some_of_words : ((content : List ℕ) → SomeOf (IsReportOf content)) → ((content bytes : List ℕ) → SomeOf (IsReplayOf content bytes))
    → (words : Words) (told : Option Contents) → SomeOf (HasCause words told)
some_of_words text replay words told = some_for text replay told (asked words)
