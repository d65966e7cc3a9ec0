use Rattle.std.proofs.Common.{◌∙◌, ap, sym, subst, ℕ, ◌<◌, List, length}
use Rattle.rp_logic.specs.Terms.{Tm}
use Rattle.rp_terms.proofs.BankLaws.{built_length}
use Rattle.rp_terms.proofs.NodeLaws.{IsNodeOf, node_at}
use Rattle.rp_terms.proofs.bank.Bank.node.Goals as goal

pub get-requires : goal.get-requires
get-requires c = record { within = subst (λ (n : ℕ). c.args.id < n) (ap length (sym c.self.view_is) ∙ built_length c.self.inside.nodes) c.requires }

pub returns : goal.returns
returns c =
    subst (λ (ts : List Tm). IsNodeOf ts c.args.id c.get.result.now) c.self.view_is
    (node_at c.self.inside.nodes c.self.inside.hashes c.args.id c.get.result.now c.self.invariant c.get.ensures)
