-- The loop over the pieces of a text.
use Rattle.std.proofs.Common.{◌≡◌, ℕ, ◌+◌, ◌-◌, ◌≤◌, List, [], ◌∷◌, ◌++◌, length, take, drop, sym, subst, arith, length-drop, append_assoc}
use Rattle.std.proofs.lemmas.List.{drop-drop, take_rest}
use Rattle.rp_grammar.specs.Pieces.{Begins}
use Rattle.rp_grammar.specs.Lexed.{Lexed, Faulty, token_at}
use Rattle.rp_grammar.specs.declared.Token.{Token}
use Rattle.rp_grammar.specs.declared.TokenKind.{TokenKind}
use Rattle.rp_grammar.specs.declared.TokenKind.TheVariants as kind
use Rattle.rp_grammar.specs.declared.LexFault.{LexFault}
use Rattle.rp_grammar.specs.declared.Piece.{Piece}
use Rattle.rp_grammar.specs.declared.Piece.TheVariants as piece
use Rattle.rp_grammar.proofs.Moving.{moves}

-- whatever the bytes from `at` on are, the text is that behind these tokens
pub record Reads (bytes : List ℕ) (at : ℕ) (tokens : List Token) : Type 0 where
  pub within : at ≤ length bytes
  pub tokens_so_far : (ts : List Token) → Lexed at (drop at bytes) ts → Lexed 0 bytes (tokens ++ ts)
  pub fault_so_far : (i : ℕ) (f : LexFault) → Faulty at (drop at bytes) i f → Faulty 0 bytes i f

abbrev pub rest_of : List ℕ → ℕ → List ℕ
rest_of bytes at = take (length bytes - at) (drop at bytes)

here : {found : Piece} (bytes : List ℕ) (at : ℕ) → Begins (rest_of bytes at) found → Begins (drop at bytes) found
here {found = found} bytes at b = subst (λ l. Begins l found) (take_rest bytes at) b

pub read_end : {bytes : List ℕ} {at : ℕ} {tokens : List Token} → Reads bytes at tokens → Begins (rest_of bytes at) piece.Ended → Lexed 0 bytes (tokens ++ token_at kind.End at at ∷ [])
read_end {bytes = bytes} {at = at} r b = r.tokens_so_far (token_at kind.End at at ∷ []) (Lexed.ended (here bytes at b))

pub read_gap : {bytes : List ℕ} {at n : ℕ} {tokens : List Token} → Reads bytes at tokens → Begins (rest_of bytes at) (piece.Gap n) → Reads bytes (at + n) tokens
read_gap {bytes = bytes} {at = at} {n = n} {tokens = tokens} r b =
    let g = here bytes at b in
    let m = moves g in
    let w = r.within in
    let d : drop (at + n) bytes ≡ drop n (drop at bytes) = sym (drop-drop n at bytes) in
    record {
      within = omega (arith, m.1, length-drop at bytes);
      tokens_so_far = λ ts l. r.tokens_so_far ts (Lexed.gap g (subst (λ x. Lexed (at + n) x ts) d l));
      fault_so_far = λ i f l. r.fault_so_far i f (Faulty.gap g (subst (λ x. Faulty (at + n) x i f) d l));
    }

pub read_token : {bytes : List ℕ} {at n : ℕ} {k : TokenKind} {tokens : List Token} → Reads bytes at tokens → Begins (rest_of bytes at) (piece.Token k n) → Reads bytes (at + n) (tokens ++ token_at k at (at + n) ∷ [])
read_token {bytes = bytes} {at = at} {n = n} {k = k} {tokens = tokens} r b =
    let g = here bytes at b in
    let m = moves g in
    let w = r.within in
    let d : drop (at + n) bytes ≡ drop n (drop at bytes) = sym (drop-drop n at bytes) in
    record {
      within = omega (arith, m.1, length-drop at bytes);
      tokens_so_far = λ ts l. subst (Lexed 0 bytes) (sym (append_assoc tokens (token_at k at (at + n) ∷ []) ts))
          (r.tokens_so_far (token_at k at (at + n) ∷ ts) (Lexed.token g (subst (λ x. Lexed (at + n) x ts) d l)));
      fault_so_far = λ i f l. r.fault_so_far i f (Faulty.token g (subst (λ x. Faulty (at + n) x i f) d l));
    }

pub read_fault : {bytes : List ℕ} {at n : ℕ} {f : LexFault} {tokens : List Token} → Reads bytes at tokens → Begins (rest_of bytes at) (piece.Fault n f) → Faulty 0 bytes (at + n) f
read_fault {bytes = bytes} {at = at} {n = n} {f = f} r b = r.fault_so_far (at + n) f (Faulty.fault (here bytes at b))
