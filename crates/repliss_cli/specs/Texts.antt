-- The text of a report.
use Rattle.std.specs.Prelude.{ℕ, ◌==◌, ltb, length, List, [], ◌∷◌, ◌++◌, flat_map, codes, decimal, if◌then◌else◌}
use Rattle.rp_span.specs.declared.Pos.{Pos}
use Rattle.rp_lang.specs.declared.limit.LimitName.{LimitName}
use Rattle.rp_lang.specs.Limits.{limit_text, limit_number}
use Rattle.rp_grammar.specs.declared.LexFault.{LexFault}
use Rattle.rp_grammar.specs.declared.LexFault.TheVariants.{BadByte, OpenString, NumberRange}
use Rattle.repliss_cli.specs.declared.report.Ending.{Ending}
use Rattle.repliss_cli.specs.declared.report.Ending.TheVariants as ending
use Rattle.repliss_cli.specs.declared.report.GoalLine.{GoalLine}
use Rattle.repliss_cli.specs.declared.report.Status.{Status}
use Rattle.repliss_cli.specs.declared.report.Status.TheVariants.{Fine, Found, Refused, ReadFault, WriteFault, NoMemory}
use Rattle.repliss_cli.specs.declared.report.Report.{Report}
use Rattle.repliss_cli.specs.declared.report.Report.TheVariants.{Verified, Unproved, Usage, Lex, Syntax, Limit, Rule, NotYet, Schedule}

-- the end of a line that counts goals: `s` is left out after 1 alone
abbrev pub goals_end : ℕ → List ℕ
goals_end n = if n == 1 then codes " goal\n" else codes " goals\n"

abbrev pub choice_text : ℕ → List ℕ
choice_text choice = codes "." ++ decimal choice

-- a path's choices, or `-` where there is none
abbrev pub path_text : List ℕ → List ℕ
path_text [] = codes "-"
path_text (first ∷ rest) = decimal first ++ flat_map choice_text rest

abbrev pub place_text : Pos → List ℕ
place_text pos = codes " at " ++ (decimal pos.line ++ (codes ":" ++ (decimal pos.col ++ codes "\n")))

abbrev pub goal_line : GoalLine → List ℕ
goal_line g = codes "goal " ++ (decimal g.goal ++ codes " assert ") ++ g.proc ++ codes " path " ++ path_text g.path ++ place_text g.at

abbrev pub verified_line : ℕ → List ℕ
verified_line goals = codes "verified: " ++ (decimal goals ++ goals_end goals)

abbrev pub unproved_line : ℕ → ℕ → List ℕ
unproved_line unproved goals = codes "unproved: " ++ (decimal unproved ++ (codes " of " ++ (decimal goals ++ goals_end goals)))

abbrev pub fault_name : LexFault → List ℕ
fault_name BadByte = codes "bad byte"
fault_name OpenString = codes "open string"
fault_name NumberRange = codes "number range"

-- what stands before a type rule's number, so that it has two digits
abbrev pub zero_before : ℕ → List ℕ
zero_before rule = if ltb rule 10 then codes "0" else codes ""

abbrev pub rule_line : ℕ → Pos → List ℕ
rule_line rule pos = codes "refused: type T" ++ (zero_before rule ++ (decimal rule ++ place_text pos))

-- the limit's name, and the number that is passed
abbrev pub limit_line : LimitName → List ℕ
limit_line limit = codes "refused: limit " ++ (limit_text limit ++ (codes " " ++ (decimal (limit_number limit) ++ codes "\n")))

-- a line for each command
abbrev pub usage_lines : List ℕ
usage_lines = codes "usage: repliss verify FILE\n" ++ codes "usage: repliss replay FILE SCHEDULE\n"

-- the bytes of a report
abbrev pub report_text : Report → List ℕ
report_text (Verified goals) = verified_line goals
report_text (Unproved goals list) = unproved_line (length list) goals ++ flat_map goal_line list
report_text Usage = codes "refused: usage\n" ++ usage_lines
report_text (Lex fault pos) = codes "refused: lex " ++ (fault_name fault ++ place_text pos)
report_text (Syntax pos) = codes "refused: syntax" ++ place_text pos
report_text (Limit limit) = limit_line limit
report_text (Rule rule pos) = rule_line rule pos
report_text NotYet = codes "refused: not yet\n"
report_text (Schedule ending line) = line

abbrev pub status_of_ending : Ending → Status
status_of_ending ending.Clean = Fine
status_of_ending ending.Violated = Found
status_of_ending ending.Refused = Refused

-- how the command ends that puts it
abbrev pub status_of : Report → Status
status_of (Verified goals) = Fine
status_of (Unproved goals list) = Found
status_of Usage = Refused
status_of (Lex fault pos) = Refused
status_of (Syntax pos) = Refused
status_of (Limit limit) = Refused
status_of (Rule rule pos) = Refused
status_of NotYet = Refused
status_of (Schedule ending line) = status_of_ending ending

-- the number with which the process ends
abbrev pub number_of : Status → ℕ
number_of Fine = 0
number_of Found = 1
number_of Refused = 2
number_of ReadFault = 3
number_of WriteFault = 4
number_of NoMemory = 5
