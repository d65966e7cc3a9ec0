-- What reading a number finds.
use Rattle.std.proofs.Common.{◌≡◌, ℕ, suc, ◌+◌, ◌-◌, ◌*◌, cond, List, [], ◌∷◌, ◌++◌, length, sym, ap, ◌∙◌, arith, ⊎_elim, add-zero}
use Rattle.std.specs.Prelude.{nat_le}
use Rattle.std.proofs.lemmas.Bool.{cases_Bool}
use Rattle.rp_grammar.specs.Bytes.{is_digit, value_from, greatest}
use Rattle.rp_grammar.specs.Pieces.{Every}
use Rattle.rp_grammar.specs.Scan.{number_from}
use Rattle.rp_grammar.specs.declared.TokenKind.TheVariants as kind
use Rattle.rp_grammar.specs.declared.LexFault.TheVariants as fault
use Rattle.rp_grammar.specs.declared.Piece.{Piece}
use Rattle.rp_grammar.specs.declared.Piece.TheVariants as piece
use Rattle.rp_grammar.proofs.Fronts.{Stops}

abbrev pub number_piece : ℕ → ℕ → Piece
number_piece v n = cond (nat_le v greatest) (piece.Token kind.Int n) (piece.Fault 0 fault.NumberRange)

pub number_from_digits : (ds rest : List ℕ) (v n : ℕ) → Every is_digit ds → Stops is_digit rest → number_from (ds ++ rest) v n ≡ number_piece (value_from v ds) (n + length ds)
number_from_digits [] [] v n a s = ap (λ m. number_piece v m) (sym (add-zero n))
number_from_digits [] (b ∷ bs) v n a s = ⊎_elim (λ e. absurd (s e)) (λ e. rw e (ap (λ m. number_piece v m) (sym (add-zero n)))) (cases_Bool (is_digit b))
number_from_digits (d ∷ ds) rest v n a s =
    let e : n + 1 + length ds ≡ n + suc (length ds) = omega arith in
    rw (a.0) (number_from_digits ds rest (v * 10 + (d - 48)) (n + 1) a.1 s ∙ ap (λ m. number_piece (value_from (v * 10 + (d - 48)) ds) m) e)
