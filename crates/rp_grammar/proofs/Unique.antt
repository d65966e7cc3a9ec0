-- A text has one list of tokens or one first fault.
use Rattle.std.proofs.Common.{◌≡◌, ℕ, ◌+◌, List, ◌∷◌, drop, refl, sym, ap, subst, ◌∙◌}
use Rattle.rp_grammar.specs.Pieces.{Begins}
use Rattle.rp_grammar.specs.Lexed.{Lexed, Faulty, token_at}
use Rattle.rp_grammar.specs.declared.Token.{Token}
use Rattle.rp_grammar.specs.declared.TokenKind.{TokenKind}
use Rattle.rp_grammar.specs.declared.LexFault.{LexFault}
use Rattle.rp_grammar.specs.declared.Piece.{Piece}
use Rattle.rp_grammar.specs.declared.Piece.TheVariants as piece
use Rattle.rp_grammar.proofs.Complete.{complete}

pub same_piece : {bytes : List ℕ} {s t : Piece} → Begins bytes s → Begins bytes t → s ≡ t
same_piece a b = sym (complete a) ∙ complete b

gaps : (m n : ℕ) → piece.Gap m ≡ piece.Gap n → m ≡ n
gaps m n h = cc

token_kinds : (j k : TokenKind) (m n : ℕ) → piece.Token j m ≡ piece.Token k n → j ≡ k
token_kinds j k m n h = cc

token_lengths : (j k : TokenKind) (m n : ℕ) → piece.Token j m ≡ piece.Token k n → m ≡ n
token_lengths j k m n h = cc

pub one_lexing : {p : ℕ} {bytes : List ℕ} {ts us : List Token} → Lexed p bytes ts → Lexed p bytes us → ts ≡ us
one_lexing (Lexed.ended a) (Lexed.ended b) = refl
one_lexing (Lexed.ended a) (Lexed.gap b m) = let e = same_piece a b in cc
one_lexing (Lexed.ended a) (Lexed.token b m) = let e = same_piece a b in cc
one_lexing (Lexed.gap a m) (Lexed.ended b) = let e = same_piece a b in cc
one_lexing {p = p} {bytes = bytes} (Lexed.gap {n = i} a m) (Lexed.gap {n = j} {ts = us} b n) =
    one_lexing m (subst (λ k. Lexed (p + k) (drop k bytes) us) (sym (gaps i j (same_piece a b))) n)
one_lexing (Lexed.gap a m) (Lexed.token b n) = let e = same_piece a b in cc
one_lexing (Lexed.token a m) (Lexed.ended b) = let e = same_piece a b in cc
one_lexing (Lexed.token a m) (Lexed.gap b n) = let e = same_piece a b in cc
one_lexing {p = p} {bytes = bytes} (Lexed.token {n = i} {k = g} {ts = ts} a m) (Lexed.token {n = j} {k = h} {ts = us} b n) =
    let e = same_piece a b in
    let lengths = token_lengths g h i j e in
    let kinds = token_kinds g h i j e in
    let others = one_lexing m (subst (λ k. Lexed (p + k) (drop k bytes) us) (sym lengths) n) in
    ap (λ k. token_at k p (p + i) ∷ ts) kinds ∙ ap (λ k. token_at h p (p + k) ∷ ts) lengths ∙ ap (λ x. token_at h p (p + j) ∷ x) others

pub not_both : {p at : ℕ} {bytes : List ℕ} {ts : List Token} {f : LexFault} → Lexed p bytes ts → Faulty p bytes at f → ⊥
not_both (Lexed.ended a) (Faulty.gap b n) = let e = same_piece a b in cc
not_both (Lexed.ended a) (Faulty.token b n) = let e = same_piece a b in cc
not_both (Lexed.ended a) (Faulty.fault b) = let e = same_piece a b in cc
not_both {p = p} {at = at} {bytes = bytes} {f = f} (Lexed.gap {n = i} a m) (Faulty.gap {n = j} b n) =
    not_both m (subst (λ k. Faulty (p + k) (drop k bytes) at f) (sym (gaps i j (same_piece a b))) n)
not_both (Lexed.gap a m) (Faulty.token b n) = let e = same_piece a b in cc
not_both (Lexed.gap a m) (Faulty.fault b) = let e = same_piece a b in cc
not_both (Lexed.token a m) (Faulty.gap b n) = let e = same_piece a b in cc
not_both {p = p} {at = at} {bytes = bytes} {f = f} (Lexed.token {n = i} {k = g} a m) (Faulty.token {n = j} {k = h} b n) =
    not_both m (subst (λ k. Faulty (p + k) (drop k bytes) at f) (sym (token_lengths g h i j (same_piece a b))) n)
not_both (Lexed.token a m) (Faulty.fault b) = let e = same_piece a b in cc

pub one_fault : {p i j : ℕ} {bytes : List ℕ} {f g : LexFault} → Faulty p bytes i f → Faulty p bytes j g → (i ≡ j) × (f ≡ g)
one_fault {p = p} {j = j} {bytes = bytes} {g = h} (Faulty.gap {n = m} a x) (Faulty.gap {n = n} b y) =
    one_fault x (subst (λ k. Faulty (p + k) (drop k bytes) j h) (sym (gaps m n (same_piece a b))) y)
one_fault (Faulty.gap a x) (Faulty.token b y) = let e = same_piece a b in (cc, cc)
one_fault (Faulty.gap a x) (Faulty.fault b) = let e = same_piece a b in (cc, cc)
one_fault (Faulty.token a x) (Faulty.gap b y) = let e = same_piece a b in (cc, cc)
one_fault {p = p} {j = j} {bytes = bytes} {g = h} (Faulty.token {n = m} {k = k} a x) (Faulty.token {n = n} {k = l} b y) =
    one_fault x (subst (λ k. Faulty (p + k) (drop k bytes) j h) (sym (token_lengths k l m n (same_piece a b))) y)
one_fault (Faulty.token a x) (Faulty.fault b) = let e = same_piece a b in (cc, cc)
one_fault (Faulty.fault a) (Faulty.gap b y) = let e = same_piece a b in (cc, cc)
one_fault (Faulty.fault a) (Faulty.token b y) = let e = same_piece a b in (cc, cc)
one_fault {p = p} (Faulty.fault {n = m} {f = f} a) (Faulty.fault {n = n} {f = g} b) =
    let e = same_piece a b in
    let places : m ≡ n = cc in
    (ap (λ k. p + k) places, cc)
