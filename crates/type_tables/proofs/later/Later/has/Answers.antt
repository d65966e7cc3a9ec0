use Rattle.std.proofs.Common.{ap, sym, ◌∙◌}
use Rattle.std.specs.Prelude.{ltb}
use Rattle.std.specs.Option.{option_copied, unwrap_or}
use Rattle.type_tables.specs.Tables.{number_in}
use Rattle.type_tables.proofs.Held.{held}
use Rattle.type_tables.proofs.later.Later.has.Goals as goal

pub returns-in-Some : goal.returns-in-Some
returns-in-Some c =
    ap (λ o. ltb 0 (unwrap_or o 0))
    (ap option_copied (sym c.in-Some.is) ∙ c.get.ensures.value ∙ sym (held c.args.name.now c.self.inside.counts)
    ∙ ap (λ es. number_in es c.args.name.now) c.self.view_is)

pub returns-in-None : goal.returns-in-None
returns-in-None c =
    ap (λ o. ltb 0 (unwrap_or o 0))
    (ap option_copied (sym c.in-None.is) ∙ c.get.ensures.value ∙ sym (held c.args.name.now c.self.inside.counts)
    ∙ ap (λ es. number_in es c.args.name.now) c.self.view_is)
