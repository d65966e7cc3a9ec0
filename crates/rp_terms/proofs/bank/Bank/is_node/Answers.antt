use Rattle.std.proofs.Common.{rules, ◌≡◌, sym, subst, List, ℕ}
use Rattle.std.specs.Prelude.{IsTrue, ◌↔◌}
use Rattle.rp_logic.specs.Views.{term_view}
use Rattle.rp_terms.specs.Symbols.{symbol_of, arguments}
use Rattle.rp_terms.specs.Numbered.{AreDifferent, AreNumbersOf}
use Rattle.rp_terms.proofs.BankLaws.{one_numbers}
use Rattle.rp_terms.proofs.NodeLaws.{is_by_parts}
use Rattle.rp_terms.proofs.bank.Bank.is_node.Goals as goal

pub returns : goal.returns
returns c =
    let terms = c.args.self.now in
    let node = c.node-node.result.now in
    let u = term_view c.args.t.now in
    let same : node.symbol ≡ symbol_of u = search rules in
    let parts : IsTrue c.eq.result ↔ (node.parts ≡ c.args.parts.now) = search rules in
    let different = subst AreDifferent c.self.view_is c.self.invariant.different in
    is_by_parts terms c.args.id node u c.eq.result c.node-node.ensures same (
      (λ yes. subst (λ (ids : List ℕ). AreNumbersOf terms ids (arguments u)) (sym (parts.0 yes)) c.requires.numbers),
      (λ own. parts.1 (one_numbers terms node.parts c.args.parts.now (arguments u) different own c.requires.numbers)),
    )
