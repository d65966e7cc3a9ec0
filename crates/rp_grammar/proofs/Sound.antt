-- What is computed at the front stands there.
use Rattle.std.proofs.Common.{◌≡◌, ◌≢◌, ℕ, zero, suc, ◌+◌, ◌≤◌, true, false, List, [], ◌∷◌, ◌++◌, length, take, drop, get_or, refl, sym, ap, subst, ◌∙◌, arith, ⊎_elim, Some, append_assoc, length-append, length-take-le, take-append-drop}
use Rattle.std.specs.Prelude.{nat_le}
use Rattle.std.specs.List.{prefix_len}
use Rattle.std.proofs.lemmas.Bool.{cases_Bool, both_ways, leb-true, leb-false, ne_eqb}
use Rattle.std.proofs.lemmas.Bool.Decides.{nat_tests, eqb_tells}
use Rattle.std.proofs.lemmas.List.{take_at}
use Rattle.rp_grammar.specs.Bytes.{is_blank, is_letter, is_digit, is_name_byte, is_inline, is_one_of, symbols, reserved, value, greatest}
use Rattle.rp_grammar.specs.Pieces.{Every, none, Shape, name, word, int, symbol, Longest, InRange, EndsLine, Nothing, Begins, ended, blank, comment, token, number_range, bad_byte}
use Rattle.rp_grammar.specs.Scan.{number_from, string_from, symbol_len, symbol_piece, mark_piece, name_kind, piece_of}
use Rattle.rp_grammar.specs.declared.TokenKind.{TokenKind}
use Rattle.rp_grammar.specs.declared.TokenKind.TheVariants as kind
use Rattle.rp_grammar.specs.declared.Piece.TheVariants as piece
use Rattle.rp_grammar.proofs.Words.{longest, longest_found, longest_stands}
use Rattle.rp_grammar.proofs.Fronts.{Stops, cut, every_append_right, nothing_more}
use Rattle.rp_grammar.proofs.Shapes.{Form, letters, digits, quoted, mark, form, no_shape_empty, digit_letter}
use Rattle.rp_grammar.proofs.Symbols.{some_length, longest_symbol}
use Rattle.rp_grammar.proofs.Strings.{string_sound}
use Rattle.rp_grammar.proofs.Digits.{number_piece, number_from_digits}

-- names and words

name_more : (k : TokenKind) (b : ℕ) (bs more after rest : List ℕ) → is_letter b ≡ true → Stops is_name_byte rest → rest ≡ more ++ after → Form k b (bs ++ more) → more ≡ []
name_more k b bs more after rest l s h (letters x e) = nothing_more is_name_byte more after rest h s (every_append_right is_name_byte bs more e)
name_more k b bs more after rest l s h (digits d e) = absurd (both_ways (is_letter b) (digit_letter b d) l)
name_more k b bs more after rest l s h (quoted q f) = let no : is_letter 34 ≡ true = subst (λ x. is_letter x ≡ true) q l in cc
name_more k b bs more after rest l s h (mark m e) = absurd (m.no_letter l)

pub longest_name : (b : ℕ) (bs rest : List ℕ) → is_letter b ≡ true → Stops is_name_byte rest → Longest (b ∷ bs) rest
longest_name b bs rest l s = λ k more after h x. name_more k b bs more after rest l s h (form b (bs ++ more) refl x)

pub name_shape : (b : ℕ) (bs : List ℕ) → is_letter b ≡ true → Every is_name_byte bs → Shape (name_kind (b ∷ bs)) (b ∷ bs)
name_shape b bs l e = ⊎_elim
    (λ r. rw r (word r))
    (λ r. rw r (name l e (both_ways (is_one_of reserved (b ∷ bs)) r)))
    (cases_Bool (is_one_of reserved (b ∷ bs)))

name_in_range : (text : List ℕ) → InRange (name_kind text) text
name_in_range text = ⊎_elim
    (λ r. rw r (λ e. cc))
    (λ r. rw r (λ e. cc))
    (cases_Bool (is_one_of reserved text))

letter_sound : (b : ℕ) (rest : List ℕ) → is_letter b ≡ true → let n = 1 + prefix_len is_name_byte rest in Begins (b ∷ rest) (piece.Token (name_kind (take n (b ∷ rest))) n)
letter_sound b rest l =
    let c = cut is_name_byte rest in
    let text : List ℕ = b ∷ c.front in
    let split : b ∷ rest ≡ (b ∷ c.front) ++ c.rest = ap (λ x. b ∷ x) c.is in
    let len : length (b ∷ c.front) ≡ 1 + prefix_len is_name_byte rest = omega (arith, c.len) in
    let taken : take (1 + prefix_len is_name_byte rest) (b ∷ rest) ≡ b ∷ c.front = ap (take (1 + prefix_len is_name_byte rest)) split ∙ take_at (b ∷ c.front) c.rest _ len in
    subst (λ t. Begins (b ∷ rest) (piece.Token (name_kind t) (1 + prefix_len is_name_byte rest))) (sym taken)
    (subst (λ n. Begins (b ∷ rest) (piece.Token (name_kind (b ∷ c.front)) n)) len
    (token (b ∷ c.front) c.rest split (name_shape b c.front l c.every) (longest_name b c.front c.rest l c.stops) (name_in_range (b ∷ c.front))))

-- numbers

number_more : (k : TokenKind) (b : ℕ) (bs more after rest : List ℕ) → is_digit b ≡ true → Stops is_digit rest → rest ≡ more ++ after → Form k b (bs ++ more) → more ≡ []
number_more k b bs more after rest d s h (letters l e) = absurd (both_ways (is_letter b) (digit_letter b d) l)
number_more k b bs more after rest d s h (digits x e) = nothing_more is_digit more after rest h s (every_append_right is_digit bs more e)
number_more k b bs more after rest d s h (quoted q f) = let no : is_digit 34 ≡ true = subst (λ x. is_digit x ≡ true) q d in cc
number_more k b bs more after rest d s h (mark m e) = absurd (m.no_digit d)

pub longest_number : (b : ℕ) (bs rest : List ℕ) → is_digit b ≡ true → Stops is_digit rest → Longest (b ∷ bs) rest
longest_number b bs rest d s = λ k more after h x. number_more k b bs more after rest d s h (form b (bs ++ more) refl x)

digit_sound : (b : ℕ) (rest : List ℕ) → is_digit b ≡ true → Begins (b ∷ rest) (number_from (b ∷ rest) 0 0)
digit_sound b rest d =
    let c = cut is_digit rest in
    let split : b ∷ rest ≡ (b ∷ c.front) ++ c.rest = ap (λ x. b ∷ x) c.is in
    let long = longest_number b c.front c.rest d c.stops in
    let run : number_from (b ∷ rest) 0 0 ≡ number_piece (value (b ∷ c.front)) (0 + length (b ∷ c.front)) = ap (λ x. number_from x 0 0) split ∙ number_from_digits (b ∷ c.front) c.rest 0 0 (d, c.every) c.stops in
    let zero_is : 0 + length (b ∷ c.front) ≡ length (b ∷ c.front) = omega arith in
    subst (Begins (b ∷ rest)) (sym (run ∙ ap (number_piece (value (b ∷ c.front))) zero_is))
    (⊎_elim
    (λ e. rw e (token (b ∷ c.front) c.rest split (int d c.every) long (λ i. leb-true _ _ e)))
    (λ e. rw e (number_range (b ∷ c.front) c.rest split (int d c.every) long (leb-false _ _ e)))
    (cases_Bool (nat_le (value (b ∷ c.front)) greatest)))

-- symbols, comments and bytes at which nothing begins

none_is_some : (n : ℕ) → some_length 0 ≡ Some n → ⊥
none_is_some n h = cc

pub length_of_some : (m n : ℕ) → some_length m ≡ Some n → m ≡ n
length_of_some zero n h = cc
length_of_some (suc m) n h = cc

mark_symbol : (k : TokenKind) (b : ℕ) (bs : List ℕ) → is_letter b ≡ false → is_digit b ≡ false → b ≢ 34 → Form k b bs → is_one_of symbols (b ∷ bs) ≡ true
mark_symbol k b bs l d q (letters x e) = absurd (both_ways (is_letter b) l x)
mark_symbol k b bs l d q (digits x e) = absurd (both_ways (is_digit b) d x)
mark_symbol k b bs l d q (quoted x f) = absurd (q x)
mark_symbol k b bs l d q (mark m e) = e

same_tail : (a b : ℕ) (r s : List ℕ) → a ∷ r ≡ b ∷ s → r ≡ s
same_tail a b r s h = cc

same_head : (a b : ℕ) (r s : List ℕ) → a ∷ r ≡ b ∷ s → a ≡ b
same_head a b r s h = cc

-- what is known of a byte that begins no name, number, string or gap
pub record Mark (b : ℕ) : Type 0 where
  pub no_letter : is_letter b ≡ false
  pub no_blank : is_blank b ≡ false
  pub no_digit : is_digit b ≡ false
  pub no_quote : b ≢ 34

-- a symbol at the front is at most as long as the longest
symbol_below : (b : ℕ) (rest front after : List ℕ) → b ∷ rest ≡ front ++ after → is_one_of symbols front ≡ true → (n : ℕ) × (some_length (symbol_len b (get_or rest 0 0) (get_or rest 1 0)) ≡ Some n) × (length front ≤ n)
symbol_below b rest front after h s =
    let f = longest_found symbols front after s in
    (f.n, sym (longest_symbol b rest) ∙ ap (longest symbols) h ∙ f.is, f.least_is)

no_token_here : (b : ℕ) (rest : List ℕ) → Mark b → symbol_len b (get_or rest 0 0) (get_or rest 1 0) ≡ 0 → (k : TokenKind) (front after : List ℕ) → b ∷ rest ≡ front ++ after → Shape k front → ⊥
no_token_here b rest m z k [] after h s = no_shape_empty refl s
no_token_here b rest m z k (c ∷ cs) after h s =
    let e : b ≡ c = same_head b c rest (cs ++ after) h in
    let s2 = mark_symbol k b cs m.no_letter m.no_digit m.no_quote (form b cs (ap (λ x. x ∷ cs) (sym e)) s) in
    let (n, found, l) = symbol_below b rest (b ∷ cs) after (h ∙ ap (λ x. x ∷ (cs ++ after)) (sym e)) s2 in
    none_is_some n (ap some_length (sym z) ∙ found)

nothing_here : (b : ℕ) (rest : List ℕ) → Mark b → ((after : List ℕ) → b ∷ rest ≡ 47 ∷ 47 ∷ after → ⊥) → symbol_len b (get_or rest 0 0) (get_or rest 1 0) ≡ 0 → Nothing b rest
nothing_here b rest m c z = record {
  no_blank = both_ways (is_blank b) m.no_blank;
  no_quote = m.no_quote;
  no_comment = c;
  no_token = no_token_here b rest m z;
}

symbol_more : (k : TokenKind) (b : ℕ) (rest bs more after : List ℕ) (n : ℕ) → Mark b → symbol_len b (get_or rest 0 0) (get_or rest 1 0) ≡ n → length (b ∷ bs) ≡ n → b ∷ rest ≡ (b ∷ bs ++ more) ++ after → Form k b (bs ++ more) → more ≡ []
symbol_more k b rest bs [] after n m z l h f = refl
symbol_more k b rest bs (x ∷ more) after n m z l h f =
    let s = mark_symbol k b (bs ++ x ∷ more) m.no_letter m.no_digit m.no_quote f in
    let (i, found, long) = symbol_below b rest (b ∷ bs ++ x ∷ more) after h s in
    let same = length_of_some _ i found in
    absurd (omega (arith, length-append bs (x ∷ more)))

symbol_sound : (b : ℕ) (rest : List ℕ) (n : ℕ) → Mark b → symbol_len b (get_or rest 0 0) (get_or rest 1 0) ≡ suc n → Begins (b ∷ rest) (piece.Token kind.Symbol (suc n))
symbol_sound b rest n m z =
    let stands = longest_stands symbols (b ∷ rest) (suc n) (longest_symbol b rest ∙ ap some_length z) in
    let within = stands.within in
    let bs : List ℕ = take n rest in
    let len : length (b ∷ take n rest) ≡ suc n = ap suc (length-take-le n rest (omega arith)) in
    let split : b ∷ rest ≡ (b ∷ take n rest) ++ drop n rest = ap (λ x. b ∷ x) (sym (take-append-drop n rest)) in
    subst (λ i. Begins (b ∷ rest) (piece.Token kind.Symbol i)) len
    (token (b ∷ take n rest) (drop n rest) split (symbol stands.is)
    (λ k more after h s. symbol_more k b rest (take n rest) more after (suc n) m z len
    (split ∙ ap (λ x. (b ∷ take n rest) ++ x) h ∙ sym (append_assoc (b ∷ take n rest) more after))
    (form b (take n rest ++ more) refl s))
    (λ i. cc))

-- the end of a comment
ends_line : (rest : List ℕ) → Stops is_inline rest → EndsLine rest
ends_line [] s = tt
ends_line (b ∷ bs) s = grind (arith, nat_tests)

comment_sound : (rest : List ℕ) → Begins (47 ∷ 47 ∷ rest) (piece.Gap (2 + prefix_len is_inline rest))
comment_sound rest =
    let c = cut is_inline rest in
    subst (λ n. Begins (47 ∷ 47 ∷ rest) (piece.Gap (2 + n))) (sym c.len)
    (comment c.front c.rest (ap (λ x. 47 ∷ 47 ∷ x) c.is) c.every (ends_line c.rest c.stops))

slash_alone : (rest : List ℕ) → get_or rest 0 0 ≢ 47 → (after : List ℕ) → 47 ∷ rest ≡ 47 ∷ 47 ∷ after → ⊥
slash_alone rest n after h = n (ap (λ l. get_or l 0 0) (same_tail 47 47 rest (47 ∷ after) h))

slash_mark : Mark 47
slash_mark = record { no_letter = refl; no_blank = refl; no_digit = refl; no_quote = λ e. omega arith }

slash_sound : (rest : List ℕ) → Begins (47 ∷ rest) (mark_piece 47 rest)
slash_sound [] = bad_byte (nothing_here 47 [] slash_mark (slash_alone [] (λ e. omega arith)) refl)
slash_sound (c ∷ cs) = ⊎_elim
    (λ e. rw (e.0) (subst (λ x. Begins (47 ∷ x ∷ cs) (piece.Gap (2 + prefix_len is_inline cs))) (sym (e.1)) (comment_sound cs)))
    (λ e. rw (e.0) (bad_byte (nothing_here 47 (c ∷ cs) slash_mark (slash_alone (c ∷ cs) (e.1)) refl)))
    (eqb_tells c 47)

symbol_piece_sound : (b : ℕ) (rest : List ℕ) (n : ℕ) → Mark b → b ≢ 47 → symbol_len b (get_or rest 0 0) (get_or rest 1 0) ≡ n → Begins (b ∷ rest) (symbol_piece n)
symbol_piece_sound b rest zero m s z = bad_byte (nothing_here b rest m (λ after h. s (same_head b 47 rest (47 ∷ after) h)) z)
symbol_piece_sound b rest (suc n) m s z = rw (ne_eqb (suc n) 0 (λ e. omega arith)) (symbol_sound b rest n m z)

mark_sound : (b : ℕ) (rest : List ℕ) → Mark b → Begins (b ∷ rest) (mark_piece b rest)
mark_sound b rest m = ⊎_elim
    (λ e. subst (λ x. Begins (x ∷ rest) (mark_piece x rest)) (sym (e.1)) (slash_sound rest))
    (λ e. rw (e.0) (symbol_piece_sound b rest _ m (e.1) refl))
    (eqb_tells b 47)

not_letter_sound : (b : ℕ) (rest : List ℕ) → is_letter b ≡ false → Begins (b ∷ rest) (piece_of (b ∷ rest))
not_letter_sound b rest l = ⊎_elim
    (λ (k : is_blank b ≡ true). rw (l, k) (blank k)) (λ (k : is_blank b ≡ false). ⊎_elim
    (λ (d : is_digit b ≡ true). rw (l, k, d) (rw d at (digit_sound b rest d))) (λ (d : is_digit b ≡ false). ⊎_elim
    (λ q. rw (l, k, d, q.0) (subst (λ x. Begins (x ∷ rest) (string_from rest false 1)) (sym (q.1)) (string_sound rest [] false none)))
    (λ q. rw (l, k, d, q.0) (mark_sound b rest (record { no_letter = l; no_blank = k; no_digit = d; no_quote = q.1 })))
    (eqb_tells b 34)) (cases_Bool (is_digit b))) (cases_Bool (is_blank b))

pub sound : (bytes : List ℕ) → Begins bytes (piece_of bytes)
sound [] = ended
sound (b ∷ rest) = ⊎_elim
    (λ (l : is_letter b ≡ true). rw l (letter_sound b rest l))
    (λ (l : is_letter b ≡ false). not_letter_sound b rest l)
    (cases_Bool (is_letter b))
