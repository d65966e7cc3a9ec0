use Rattle.std.proofs.Common.{◌≡◌, ◌∙◌}
use Rattle.text_tables.specs.declared.object.Object.{Object}
use Rattle.text_tables.proofs.Adding.{found_same}
use Rattle.text_tables.proofs.Results.{ok_both}
use Rattle.text_tables.proofs.object.ObjectTable.object_at.Goals as goal

pub returns-then-place-len : goal.returns-then-place-len
returns-then-place-len c = λ i o at from.
    let self = c.args.self.now in
    let p = c.get.result.now in
    ok_both (λ (found : Object). found ≡ p) (λ (found : Object). p.from ≡ c.args.from) (λ (found : Object). found ≡ o) c.starting.result
    c.starting.ensures.is c.starting.ensures.starts
    (λ found is starts. is ∙ found_same self.starts self.end self.objects i c.args.place c.args.from o p self.found at from c.get.ensures starts)
