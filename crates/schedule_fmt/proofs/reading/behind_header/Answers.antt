use Rattle.std.proofs.Common.{rules, arith, ◌≡◌, ◌+◌, [], drop, None, Some, sym, ap, ◌∙◌}
use Rattle.std.specs.List.{position_from}
use Rattle.std.proofs.lemmas.Grind.{common_steps}
use Rattle.rp_lang.specs.ProgramView.{program_view}
use Rattle.schedule_fmt.specs.means.Reading as spec
use Rattle.schedule_fmt.proofs.LineAnswers.{labels_bad}
use Rattle.schedule_fmt.proofs.LineSteps.{no_line_at, second_read}
use Rattle.schedule_fmt.proofs.reading.behind_header.Goals as goal

pub returns-in_default : goal.returns-in_default
returns-in_default c =
    let p = program_view c.args.names.now.program.now in
    let text = c.args.text.now in
    let none : position_from spec.is_newline c.args.from (drop c.args.from text) ≡ None = first_of (search rules, grind (arith, common_steps)) in
    ap (spec.universe_behind p) (no_line_at text c.args.from none)

pub returns-in_default-universe : goal.returns-in_default-universe
returns-in_default-universe c =
    let p = program_view c.args.names.now.program.now in
    let text = c.args.text.now in
    let none : spec.universe (spec.slice text c.args.from c.in-Some.end) ≡ None = first_of (search rules, grind (arith, common_steps)) in
    second_read p text c.args.from c.in-Some.end None (sym c.in-Some.ensures.is) none

pub returns-in-Ok : goal.returns-in-Ok
returns-in-Ok c =
    let p = program_view c.args.names.now.program.now in
    let text = c.args.text.now in
    let u = c.in-Some-universe.universe in
    second_read p text c.args.from c.in-Some.end (Some u) (sym c.in-Some.ensures.is) (sym c.in-Some-universe.ensures) ∙ ap (spec.with_universe u) c.in-Ok.ensures

pub returns-in-Err : goal.returns-in-Err
returns-in-Err c =
    let p = program_view c.args.names.now.program.now in
    let text = c.args.text.now in
    let u = c.in-Some-universe.universe in
    labels_bad (spec.universe_behind p (spec.cut_line [] (drop c.args.from text))) u (spec.labels_from p [] (drop (c.in-Some.end + 1) text) 3) c.in-Err.e
    (second_read p text c.args.from c.in-Some.end (Some u) (sym c.in-Some.ensures.is) (sym c.in-Some-universe.ensures)) c.in-Err.ensures
