use Rattle.first_form.proofs.Bare.{first_form_or_not}
use Rattle.first_form.proofs.laws.first_form_is_decided.Goals as goal

pub returns : goal.returns
returns c = first_form_or_not
