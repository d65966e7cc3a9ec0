use Rattle.std.proofs.Common.{◌∙◌, ap, sym, subst, ℕ, ◌<◌, length}
use Rattle.rp_terms.proofs.BankLaws.{built_length}
use Rattle.rp_terms.proofs.bank.Bank.count.Goals as goal

pub returns-clause-length : goal.returns-clause-length
returns-clause-length c = c.count.ensures.length ∙ sym (built_length c.self.inside.nodes) ∙ ap length c.self.view_is

pub returns-clause-few : goal.returns-clause-few
returns-clause-few c = subst (λ (n : ℕ). n < 4294967295) (sym (built_length c.self.inside.nodes) ∙ ap length c.self.view_is) c.count.ensures.few
