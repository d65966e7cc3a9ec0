use Rattle.std.proofs.Common.{rules, ◌≡◌, [], drop, map, arith, None, sym}
use Rattle.std.specs.List.{position_from}
use Rattle.std.proofs.lemmas.Grind.{common_steps}
use Rattle.rp_lang.specs.ProgramView.{program_view}
use Rattle.schedule_fmt.specs.means.Reading as spec
use Rattle.schedule_fmt.specs.Views.{label_view}
use Rattle.schedule_fmt.proofs.Gathered.{pushed_map}
use Rattle.schedule_fmt.proofs.LineAnswers.{bad_step}
use Rattle.schedule_fmt.proofs.LineSteps.{lines_over, line_open, line_bad, line_good}
use Rattle.schedule_fmt.proofs.reading.steps.Goals as goal

pub returns-in_default : goal.returns-in_default
returns-in_default c =
    let p = program_view c.args.names.now.program.now in
    let text = c.args.text.now in
    let whole = spec.labels_from p [] (drop c.args.from text) 3 in
    let none : position_from spec.is_newline c.loop-at.at (drop c.loop-at.at text) ≡ None = first_of (search rules, grind (arith, common_steps)) in
    line_open p text whole (map label_view c.loop-at.steps) c.loop-at.at c.loop-at.line c.loop-at-test.true none c.loop-at.invariant.so_far

pub returns-in-Err : goal.returns-in-Err
returns-in-Err c =
    let p = program_view c.args.names.now.program.now in
    let text = c.args.text.now in
    let whole = spec.labels_from p [] (drop c.args.from text) 3 in
    bad_step whole (spec.label p (spec.slice text c.loop-at.at c.in-Some.end)) c.loop-at.line c.in-Err.e c.in-Err.ensures
    (λ h. line_bad p text whole (map label_view c.loop-at.steps) c.loop-at.at c.loop-at.line c.in-Some.end (sym c.in-Some.ensures.is) h c.loop-at.invariant.so_far)

pub returns : goal.returns
returns c =
    let p = program_view c.args.names.now.program.now in
    let text = c.args.text.now in
    let whole = spec.labels_from p [] (drop c.args.from text) 3 in
    lines_over p text whole (map label_view c.loop-at.steps) c.loop-at.at c.loop-at.line c.loop-at-test.false c.loop-at.invariant.so_far

pub loop-at-preserved : goal.loop-at-preserved
loop-at-preserved c =
    let p = program_view c.args.names.now.program.now in
    let text = c.args.text.now in
    let whole = spec.labels_from p [] (drop c.args.from text) 3 in
    let lower = c.in-Some.ensures.within.0 in
    let upper = c.in-Some.ensures.within.1 in
    let count = c.loop-at.invariant.line in record {
      within = omega arith;
      line = omega arith;
      so_far =
          line_good p text whole (map label_view c.loop-at.steps) c.loop-at.at c.loop-at.line c.in-Some.end (label_view c.in-Ok.step) (map label_view c.push.new.self)
          (sym c.in-Some.ensures.is) c.in-Ok.ensures (pushed_map label_view c.loop-at.steps c.push.new.self c.in-Ok.step c.in_ok-push-in-Ok.ensures.ok)
          c.loop-at.invariant.so_far;
    }
