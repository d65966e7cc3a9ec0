use Rattle.std.proofs.Common.{◌++◌, ◌∷◌, [], ap, ◌∙◌}
use Rattle.rp_lang.specs.declared.op.PathStep.TheVariants as step
use Rattle.text_tables.proofs.RootsLaw.{past_field}
use Rattle.text_tables.proofs.spot.Spot.at_field.Goals as goal

pub returns-clause-at : goal.returns-clause-at
returns-clause-at c = λ t path at.
    past_field t path c.args.self.now _ c.args.number at
    (c.in_ok-push.ensures.ok ∙ ap (λ p. p ++ step.Field c.args.number ∷ []) (c.in_ok-path.ensures ∙ c.as_slice.ensures.items))
    (c.in_ok-keys.ensures ∙ c.as_slice-2.ensures.items)
