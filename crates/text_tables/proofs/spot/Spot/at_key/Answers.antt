use Rattle.std.proofs.Common.{◌++◌, ◌∷◌, [], ap, ◌∙◌}
use Rattle.rp_lang.specs.declared.op.PathStep.TheVariants as step
use Rattle.text_tables.proofs.RootsLaw.{past_key}
use Rattle.text_tables.proofs.spot.Spot.at_key.Goals as goal

pub returns-clause-at : goal.returns-clause-at
returns-clause-at c = λ t path kind at e.
    past_key t path c.args.self.now _ kind c.args.ty at e
    (c.in_ok-push.ensures.ok ∙ ap (λ p. p ++ step.Key c.args.ty ∷ []) (c.in_ok-path.ensures ∙ c.as_slice.ensures.items))
    (c.in_ok-push-2.ensures.ok ∙ ap (λ ks. ks ++ c.args.ty ∷ []) (c.in_ok-keys.ensures ∙ c.as_slice-2.ensures.items))
