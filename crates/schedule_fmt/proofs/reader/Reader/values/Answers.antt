use Rattle.std.proofs.Common.{rules, ◌≡◌, ◌+◌, length, map, arith, true, false, Some, None, subst}
use Rattle.std.proofs.lemmas.Grind.{common_steps}
use Rattle.rp_value.specs.ValueView.{value_view}
use Rattle.rp_lang.specs.ProgramView.{program_view}
use Rattle.schedule_fmt.specs.means.Reading as spec
use Rattle.schedule_fmt.proofs.Gathered.{value_absent, value_more, values_end, values_over, pushed_map}
use Rattle.schedule_fmt.proofs.reader.Reader.values.Goals as goal

pub returns-then-not-next_is-clause-found : goal.returns-then-not-next_is-clause-found
returns-then-not-next_is-clause-found c =
    let p = program_view c.args.self.now.names.now.program.now in
    let text = c.args.self.now.text.now in
    let tys = c.args.tys.now in
    let space : spec.next_is 32 text c.loop-i.at ≡ false = search rules in
    values_end p text tys (spec.values p text tys c.args.from) (length text) c.loop-i.i c.loop-i.at (map value_view c.loop-i.values) (omega arith) space c.loop-i.invariant

pub returns-in_err-at-clause-none : goal.returns-in_err-at-clause-none
returns-in_err-at-clause-none c = λ h.
    let p = program_view c.args.self.now.names.now.program.now in
    let text = c.args.self.now.text.now in
    let tys = c.args.tys.now in
    let space : spec.next_is 32 text c.loop-i.at ≡ true = search rules in
    let none : spec.whole_value p text c.asked_at.result (c.loop-i.at + 1) ≡ None = first_of (search rules, grind (arith, common_steps)) in
    value_absent p text tys (spec.values p text tys c.args.from) (length text) c.loop-i.i c.loop-i.at (map value_view c.loop-i.values) (omega arith) space
    (subst (λ ty. spec.whole_value p text ty (c.loop-i.at + 1) ≡ None) c.asked_at.ensures none) c.loop-i.invariant

pub loop-i-preserved : goal.loop-i-preserved
loop-i-preserved c =
    let p = program_view c.args.self.now.names.now.program.now in
    let text = c.args.self.now.text.now in
    let tys = c.args.tys.now in
    let space : spec.next_is 32 text c.loop-i.at ≡ true = search rules in
    let a = c.in_ok-at.ensures.found in
    value_more p text tys (spec.values p text tys c.args.from) (length text) c.loop-i.i c.loop-i.at (map value_view c.loop-i.values) (value_view a.0) c.in_ok-at.at (map value_view c.add_value.new.values) (omega arith) space
    (subst (λ ty. spec.whole_value p text ty (c.loop-i.at + 1) ≡ Some (value_view a.0, c.in_ok-at.at)) c.asked_at.ensures a.2)
    (pushed_map value_view c.loop-i.values c.add_value.new.values a.0 a.1) c.loop-i.invariant

pub returns-clause-found : goal.returns-clause-found
returns-clause-found c =
    let p = program_view c.args.self.now.names.now.program.now in
    let text = c.args.self.now.text.now in
    let tys = c.args.tys.now in
    values_over p text tys (spec.values p text tys c.args.from) (length text) c.loop-i.i c.loop-i.at (map value_view c.loop-i.values) (omega arith) c.loop-i.invariant
