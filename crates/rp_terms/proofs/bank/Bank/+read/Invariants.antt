use Rattle.std.proofs.Common.{◌≡◌, ◌*◌, ◌+◌, take, map}
use Rattle.std.specs.Prelude.{slice_get, Some}
use Rattle.rp_logic.specs.Views.{term_view}
use Rattle.rp_terms.proofs.bank.Bank.+read.Given as goal

abbrev pub decreases-read : goal.decreases-read
decreases-read l = 2 * l.id + 1

abbrev pub decreases-read_all : goal.decreases-read_all
decreases-read_all l = 2 * l.bound

abbrev pub invariant-read_all-loop-id : goal.invariant-read_all-loop-id
invariant-read_all-loop-id l = map (slice_get l.self) (take l.id-index l.ids) ≡ map (λ t. Some (term_view t)) l.terms
