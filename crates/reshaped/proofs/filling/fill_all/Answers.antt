use Rattle.std.proofs.Common.{refl}
use Rattle.reshaped.specs.Fillings.{filling_view}
use Rattle.reshaped.proofs.FillViews.{made_formulas}
use Rattle.reshaped.proofs.filling.fill_all.Goals as goal

pub returns : goal.returns
returns c = made_formulas (filling_view c.args.what.now) c.args.formulas.now _ _ refl c.in_ok-made.ensures
