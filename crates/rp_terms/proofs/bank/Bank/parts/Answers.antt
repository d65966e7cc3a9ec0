use Rattle.std.proofs.Common.{◌≡◌, ◌∙◌, ap, map}
use Rattle.std.specs.Prelude.{Some}
use Rattle.rp_terms.specs.Symbols.{arguments}
use Rattle.rp_terms.proofs.bank.Bank.parts.Goals as goal

pub returns-clause-numbers : goal.returns-clause-numbers
returns-clause-numbers c = λ t e.
    let same : c.node.ensures.0 ≡ t = (let u = c.node.ensures.1 in cc) in
    c.node.ensures.2.parts ∙ ap (λ u. map Some (arguments u)) same

pub returns-clause-earlier : goal.returns-clause-earlier
returns-clause-earlier c = c.node.ensures.2.earlier
