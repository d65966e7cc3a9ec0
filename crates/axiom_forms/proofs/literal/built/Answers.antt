use Rattle.rp_logic.specs.Views.{term_view}
use Rattle.axiom_forms.proofs.Built.{built_is}
use Rattle.axiom_forms.proofs.literal.built.Goals as goal

pub returns : goal.returns
returns c = built_is c.args.con c.args.places (term_view c.args.t.now) _ c.in_ok-parts.ensures
