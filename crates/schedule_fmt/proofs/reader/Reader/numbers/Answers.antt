use Rattle.std.proofs.Common.{rules, ◌≡◌, ◌+◌, length, arith, true, false, None, sym, subst}
use Rattle.std.proofs.lemmas.Grind.{common_steps}
use Rattle.std.specs.Prelude.{nat_le}
use Rattle.schedule_fmt.specs.means.Reading as spec
use Rattle.schedule_fmt.proofs.Gathered.{NumbersSoFar, number_absent, number_low, number_more, numbers_end, numbers_over}
use Rattle.schedule_fmt.proofs.reader.Reader.numbers.Goals as goal

pub returns-then-not-next_is-clause-found : goal.returns-then-not-next_is-clause-found
returns-then-not-next_is-clause-found c =
    let text = c.args.self.now.text.now in
    let space : spec.next_is 32 text c.loop-i.at ≡ false = search rules in
    numbers_end text (spec.numbers text c.args.from) (length text) c.loop-i._i c.loop-i.least c.loop-i.at c.loop-i.numbers (omega arith) space c.loop-i.invariant

pub returns-in_err-n-clause-none : goal.returns-in_err-n-clause-none
returns-in_err-n-clause-none c = λ h.
    let text = c.args.self.now.text.now in
    let space : spec.next_is 32 text c.loop-i.at ≡ true = search rules in
    let none : spec.number 4294967295 text (c.loop-i.at + 1) ≡ None = first_of (search rules, grind (arith, common_steps)) in
    number_absent text (spec.numbers text c.args.from) (length text) c.loop-i._i c.loop-i.least c.loop-i.at c.loop-i.numbers (omega arith) space none c.loop-i.invariant

pub returns-then-from-least-clause-none : goal.returns-then-from-least-clause-none
returns-then-from-least-clause-none c = λ h.
    let text = c.args.self.now.text.now in
    let space : spec.next_is 32 text c.loop-i.at ≡ true = search rules in
    let low : nat_le c.loop-i.least c.in_ok-n.n ≡ false = search rules in
    number_low text (spec.numbers text c.args.from) (length text) c.loop-i._i c.loop-i.least c.loop-i.at c.loop-i.numbers c.in_ok-n.n c.in_ok-n.to (omega arith) space c.in_ok-n.ensures.found low c.loop-i.invariant

pub loop-i-preserved : goal.loop-i-preserved
loop-i-preserved c =
    let text = c.args.self.now.text.now in
    let space : spec.next_is 32 text c.loop-i.at ≡ true = search rules in
    let fits : nat_le c.loop-i.least c.in_ok-n.n ≡ true = search rules in
    let next = number_more text (spec.numbers text c.args.from) (length text) c.loop-i._i c.loop-i.least c.loop-i.at c.loop-i.numbers c.in_ok-n.n c.in_ok-n.to c.push.new.self (omega arith) space c.in_ok-n.ensures.found fits c.in_ok-push.ensures.ok c.loop-i.invariant in
    subst (λ m. NumbersSoFar text (spec.numbers text c.args.from) (length text) (c.loop-i._i + 1) (m + 1) c.in_ok-n.to c.push.new.self) (sym c.from-least.ensures) next

pub returns-clause-found : goal.returns-clause-found
returns-clause-found c =
    let text = c.args.self.now.text.now in
    numbers_over text (spec.numbers text c.args.from) (length text) c.loop-i._i c.loop-i.least c.loop-i.at c.loop-i.numbers (omega arith) c.loop-i.invariant
