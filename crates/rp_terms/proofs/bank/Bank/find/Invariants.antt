use Rattle.rp_logic.specs.Views.{term_view}
use Rattle.rp_terms.proofs.SearchLaws.{IsSought, left_of}
use Rattle.rp_terms.proofs.bank.Bank.find.Given as goal

abbrev pub invariant-chain : goal.invariant-chain
invariant-chain l = IsSought l.self (term_view l.t) l.at

abbrev pub decreases-chain : goal.decreases-chain
decreases-chain l = left_of l.at
