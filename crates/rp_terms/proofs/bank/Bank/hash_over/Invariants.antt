use Rattle.std.proofs.Common.{◌≡◌, drop, map}
use Rattle.rp_logic.specs.Views.{term_view}
use Rattle.rp_terms.specs.Symbols.{arguments}
use Rattle.rp_terms.specs.means.Hash.{mixed_all, term_hash}
use Rattle.rp_terms.proofs.bank.Bank.hash_over.Given as goal

abbrev pub invariant-loop-part : goal.invariant-loop-part
invariant-loop-part l =
    term_hash (term_view l.t) ≡ mixed_all l.hash (map term_hash (drop l.part-index (arguments (term_view l.t))))
