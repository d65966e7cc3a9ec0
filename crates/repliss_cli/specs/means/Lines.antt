-- The line of an unproved goal, from the verdict.
use Rattle.std.specs.Prelude.{ℕ, List, []}
use Rattle.std.specs.Option.{option_map_or}
use Rattle.rp_span.specs.Places.{place_of}
use Rattle.rp_lang.specs.Programs.{Prog}
use Rattle.rp_verify.specs.declared.verdict.Unproved.{Unproved}
use Rattle.repliss_cli.specs.declared.report.GoalLine.{GoalLine}
use Rattle.repliss_cli.specs.Answers.{name_at}

abbrev pub line_for : List ℕ → Prog → Unproved → GoalLine
line_for content p u = record {
  goal = u.goal;
  proc = option_map_or (name_at p) u.name.proc [];
  path = u.name.path;
  at = place_of content u.name.at.from;
}
