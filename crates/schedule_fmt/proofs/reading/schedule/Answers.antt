use Rattle.std.proofs.Common.{rules, arith, ◌≡◌, None, true, false, sym, ap, subst}
use Rattle.std.specs.List.{position_from}
use Rattle.std.specs.Str.{bytes_eq}
use Rattle.std.proofs.lemmas.Grind.{common_steps}
use Rattle.rp_lang.specs.ProgramView.{program_view}
use Rattle.schedule_fmt.specs.means.Computed.{IsFound}
use Rattle.schedule_fmt.specs.means.Reading as spec
use Rattle.schedule_fmt.proofs.LineSteps.{no_line_at, first_read}
use Rattle.schedule_fmt.proofs.reading.schedule.Goals as goal

pub returns-in_default : goal.returns-in_default
returns-in_default c =
    let p = program_view c.args.names.now.program.now in
    let text = c.args.text.now in
    let none : position_from spec.is_newline 0 text ≡ None = first_of (search rules, grind (arith, common_steps)) in
    ap (spec.header_behind p) (no_line_at text 0 none)

pub returns-then-not-is_header : goal.returns-then-not-is_header
returns-then-not-is_header c =
    let p = program_view c.args.names.now.program.now in
    let text = c.args.text.now in
    let other : bytes_eq spec.header (spec.slice text 0 c.in-Some.end) ≡ false = first_of (search rules, grind (arith, common_steps)) in
    first_read p text c.in-Some.end false (sym c.in-Some.ensures.is) other

pub returns : goal.returns
returns c =
    let p = program_view c.args.names.now.program.now in
    let text = c.args.text.now in
    let same : bytes_eq spec.header (spec.slice text 0 c.in-Some.end) ≡ true = first_of (search rules, grind (arith, common_steps)) in
    subst (λ r. IsFound r c.behind_header.result) (sym (first_read p text c.in-Some.end true (sym c.in-Some.ensures.is) same)) c.behind_header.ensures
