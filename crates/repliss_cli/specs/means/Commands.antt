-- The commands of the code, and the files that they read behind the program's.
use Rattle.std.specs.Prelude.{ℕ, List, Contains}
use Rattle.repliss_cli.specs.declared.words.Command.{Command}
use Rattle.repliss_cli.specs.declared.words.Command.TheVariants as code
use Rattle.repliss_cli.specs.Words as words

abbrev pub command_view : Command → words.Command
command_view (code.Verify file) = words.Verify file.now
command_view (code.Replay file schedule) = words.Replay file.now schedule.now

-- the schedule's file isn't one that the files call sound
abbrev pub IsUnsoundSchedule : words.Command → List (List ℕ) → Type 0
IsUnsoundSchedule (words.Verify file) sound = ⊥
IsUnsoundSchedule (words.Replay file schedule) sound = Contains sound schedule → ⊥
