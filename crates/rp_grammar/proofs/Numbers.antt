-- A number past the range stays past it.
use Rattle.std.proofs.Common.{◌≡◌, ℕ, ◌+◌, ◌-◌, ◌*◌, ◌<◌, true, List, [], ◌∷◌, length, get_or, drop, arith}
use Rattle.std.proofs.lemmas.List.{drop_more}
use Rattle.std.proofs.lemmas.Bool.Decides.{nat_tests}
use Rattle.rp_grammar.specs.Bytes.{is_digit, greatest}
use Rattle.rp_grammar.specs.Scan.{number_from}
use Rattle.rp_grammar.specs.declared.LexFault.TheVariants as fault
use Rattle.rp_grammar.specs.declared.Piece.TheVariants as piece

pub number_beyond : (bs : List ℕ) (v n : ℕ) → greatest < v → number_from bs v n ≡ piece.Fault 0 fault.NumberRange
number_beyond [] v n h = grind (arith, nat_tests)
number_beyond (b ∷ bs) v n h =
    let later = number_beyond bs (v * 10 + (b - 48)) (n + 1) (omega arith) in
    grind (arith, nat_tests)

pub number_beyond_at : (rest : List ℕ) (n v : ℕ) → n < length rest → is_digit (get_or rest n 0) ≡ true → greatest < v * 10 + (get_or rest n 0 - 48) → number_from (drop n rest) v n ≡ piece.Fault 0 fault.NumberRange
number_beyond_at rest n v l d h =
    let b = get_or rest n 0 in
    let after = drop (n + 1) rest in
    let next = number_beyond after (v * 10 + (b - 48)) (n + 1) h in
    rw (drop_more rest n 0 l) (rw d next)
