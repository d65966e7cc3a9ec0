-- What stands at the front is what is computed.
use Rattle.std.proofs.Common.{◌≡◌, ℕ, zero, suc, ◌+◌, ◌-◌, ◌<◌, ◌≤◌, true, false, List, [], ◌∷◌, ◌++◌, length, take, drop, get_or, refl, sym, ap, subst, ◌∙◌, arith, ⊎_elim, Some, append_assoc, length-append, length-take-le, take-append-drop}
use Rattle.std.specs.List.{prefix_len}
use Rattle.std.proofs.lemmas.Bool.{le-leb, lt-leb, ne_eqb, false_from_ne_true}
use Rattle.std.proofs.lemmas.Bool.Decides.{eqb_tells}
use Rattle.std.proofs.lemmas.List.{take_at}
use Rattle.std.proofs.Math.Seq.{take-append-add}
use Rattle.rp_grammar.specs.Bytes.{is_blank, is_letter, is_digit, is_name_byte, is_plain, is_escaped, is_inline, is_one_of, symbols, reserved, value, greatest}
use Rattle.rp_grammar.specs.Pieces.{Every, Chars, Shape, name, word, int, str, symbol, Longest, InRange, EndsLine, BeginsEscaped, Stray, Nothing, Begins, ended, blank, comment, token, number_range, open_string, bad_in_string, bad_byte}
use Rattle.rp_grammar.specs.Scan.{string_from, symbol_len, symbol_piece, name_kind, piece_of}
use Rattle.rp_grammar.specs.declared.TokenKind.{TokenKind}
use Rattle.rp_grammar.specs.declared.TokenKind.TheVariants as kind
use Rattle.rp_grammar.specs.declared.LexFault.TheVariants as fault
use Rattle.rp_grammar.specs.declared.Piece.{Piece}
use Rattle.rp_grammar.specs.declared.Piece.TheVariants as piece
use Rattle.rp_grammar.proofs.Words.{longest_found, longest_stands}
use Rattle.rp_grammar.proofs.Fronts.{Stops, prefix_len_at, every_append}
use Rattle.rp_grammar.proofs.Shapes.{reserved_form, reserved_empty, symbol_form, symbol_empty, MarkForm, digit_letter, blank_letter, digit_blank}
use Rattle.rp_grammar.proofs.Symbols.{some_length, longest_symbol}
use Rattle.rp_grammar.proofs.Strings.{string_from_chars}
use Rattle.rp_grammar.proofs.Digits.{number_piece, number_from_digits}
use Rattle.rp_grammar.proofs.Sound.{name_shape, sound, length_of_some}

-- where no longer front is a token, the test stops
stops_name : (b : ℕ) (bs rest : List ℕ) → is_letter b ≡ true → Every is_name_byte bs → Longest (b ∷ bs) rest → Stops is_name_byte rest
stops_name b bs [] l e h = tt
stops_name b bs (x ∷ xs) l e h = λ t.
    let none_more = h (name_kind (b ∷ bs ++ x ∷ [])) (x ∷ []) xs refl (name_shape b (bs ++ x ∷ []) l (every_append is_name_byte bs (x ∷ []) e (t, tt))) in
    let no : ⊥ = cc in no

stops_digit : (b : ℕ) (bs rest : List ℕ) → is_digit b ≡ true → Every is_digit bs → Longest (b ∷ bs) rest → Stops is_digit rest
stops_digit b bs [] d e h = tt
stops_digit b bs (x ∷ xs) d e h = λ t.
    let none_more = h kind.Int (x ∷ []) xs refl (int d (every_append is_digit bs (x ∷ []) e (t, tt))) in
    let no : ⊥ = cc in no

name_complete : (b : ℕ) (bs rest : List ℕ) → is_letter b ≡ true → Every is_name_byte bs → Longest (b ∷ bs) rest → piece_of ((b ∷ bs) ++ rest) ≡ piece.Token (name_kind (b ∷ bs)) (length (b ∷ bs))
name_complete b bs rest l e h =
    let n = prefix_len_at is_name_byte bs rest e (stops_name b bs rest l e h) in
    let m : 1 + prefix_len is_name_byte (bs ++ rest) ≡ length (b ∷ bs) = omega (arith, n) in
    rw l (rw m (ap (λ t. piece.Token (name_kind t) (length (b ∷ bs))) (take_at (b ∷ bs) rest (length (b ∷ bs)) refl)))

word_complete : (front rest : List ℕ) → is_one_of reserved front ≡ true → Longest front rest → piece_of (front ++ rest) ≡ piece.Token kind.Word (length front)
word_complete [] rest r h = absurd (reserved_empty r)
word_complete (b ∷ bs) rest r h =
    let f = reserved_form b bs r in
    let k : name_kind (b ∷ bs) ≡ kind.Word = rw r refl in
    name_complete b bs rest f.letter f.others h ∙ ap (λ k. piece.Token k (length (b ∷ bs))) k

number_complete : (b : ℕ) (bs rest : List ℕ) → is_digit b ≡ true → Every is_digit bs → Longest (b ∷ bs) rest → piece_of ((b ∷ bs) ++ rest) ≡ number_piece (value (b ∷ bs)) (length (b ∷ bs))
number_complete b bs rest d e h =
    let run = number_from_digits (b ∷ bs) rest 0 0 (d, e) (stops_digit b bs rest d e h) in
    let zero_is : 0 + length (b ∷ bs) ≡ length (b ∷ bs) = omega arith in
    rw (digit_letter b d, digit_blank b d, d) (rw d at (run ∙ ap (number_piece (value (b ∷ bs))) zero_is))

string_complete : (front body rest : List ℕ) → front ≡ 34 ∷ (body ++ 34 ∷ []) → Chars body → piece_of (front ++ rest) ≡ piece.Token kind.Str (length front)
string_complete front body rest h c =
    let run = string_from_chars (34 ∷ rest) 1 c in
    let e : 1 + length body + 1 ≡ length front = omega (arith, ap length h, length-append body (34 ∷ [])) in
    ap (λ x. piece_of (x ++ rest)) h ∙ ap (λ x. string_from x false 1) (append_assoc body (34 ∷ []) rest) ∙ run ∙ ap (piece.Token kind.Str) e

mark_is : (b : ℕ) (rest : List ℕ) → MarkForm b → piece_of (b ∷ rest) ≡ symbol_piece (symbol_len b (get_or rest 0 0) (get_or rest 1 0))
mark_is b rest m =
    rw (false_from_ne_true (is_letter b) m.no_letter, false_from_ne_true (is_blank b) m.no_blank, false_from_ne_true (is_digit b) m.no_digit, ne_eqb b 34 m.no_quote, ne_eqb b 47 m.no_slash) refl

symbol_piece_is : (m n : ℕ) → some_length m ≡ Some n → symbol_piece m ≡ piece.Token kind.Symbol n
symbol_piece_is zero n h = cc
symbol_piece_is (suc m) n h = rw (ne_eqb (suc m) 0 (λ e. omega arith)) (ap (piece.Token kind.Symbol) (length_of_some (suc m) n h))

longest_length : (front rest : List ℕ) (n : ℕ) → length front ≤ n → n ≤ length (front ++ rest) → is_one_of symbols (take n (front ++ rest)) ≡ true → Longest front rest → n ≡ length front
longest_length front rest n low high r h =
    let m : ℕ = n - length front in
    let e : n ≡ length front + (n - length front) = omega arith in
    let taken = ap (λ k. take k (front ++ rest)) e ∙ take-append-add front rest (n - length front) in
    let none_more = h kind.Symbol (take (n - length front) rest) (drop (n - length front) rest) (sym (take-append-drop (n - length front) rest)) (symbol (subst (λ x. is_one_of symbols x ≡ true) taken r)) in
    let len : n - length front ≡ 0 = sym (length-take-le (n - length front) rest (omega (arith, length-append front rest))) ∙ ap length none_more in
    omega arith

symbol_complete : (front rest : List ℕ) → is_one_of symbols front ≡ true → Longest front rest → piece_of (front ++ rest) ≡ piece.Token kind.Symbol (length front)
symbol_complete [] rest r h = absurd (symbol_empty r)
symbol_complete (b ∷ bs) rest r h =
    let m = symbol_form b bs r in
    let f = longest_found symbols (b ∷ bs) rest r in
    let s = longest_stands symbols ((b ∷ bs) ++ rest) f.n f.is in
    let same = longest_length (b ∷ bs) rest f.n f.least_is s.within s.is h in
    mark_is b (bs ++ rest) m ∙ symbol_piece_is _ (length (b ∷ bs)) (sym (longest_symbol b (bs ++ rest)) ∙ f.is ∙ ap (λ n. Some n) same)

range_is : (v n : ℕ) → v ≤ greatest → number_piece v n ≡ piece.Token kind.Int n
range_is v n h = rw (le-leb v greatest h) refl

beyond_is : (v n : ℕ) → greatest < v → number_piece v n ≡ piece.Fault 0 fault.NumberRange
beyond_is v n h = rw (lt-leb v greatest h) refl

int_complete : {k : TokenKind} {front : List ℕ} (rest : List ℕ) → Shape k front → k ≡ kind.Int → Longest front rest → piece_of (front ++ rest) ≡ number_piece (value front) (length front)
int_complete rest (name l e n) i h = cc
int_complete rest (word r) i h = cc
int_complete rest (int {b = b} {bs = bs} d e) i h = number_complete b bs rest d e h
int_complete rest (str body j c) i h = cc
int_complete rest (symbol r) i h = cc

token_complete : {k : TokenKind} {front : List ℕ} (rest : List ℕ) → Shape k front → Longest front rest → InRange k front → piece_of (front ++ rest) ≡ piece.Token k (length front)
token_complete rest (name {b = b} {bs = bs} l e n) h r =
    let k : name_kind (b ∷ bs) ≡ kind.Name = rw (false_from_ne_true (is_one_of reserved (b ∷ bs)) n) refl in
    name_complete b bs rest l e h ∙ ap (λ k. piece.Token k (length (b ∷ bs))) k
token_complete rest (word {bs = bs} w) h r = word_complete bs rest w h
token_complete rest (int {b = b} {bs = bs} d e) h r = number_complete b bs rest d e h ∙ range_is (value (b ∷ bs)) (length (b ∷ bs)) (r refl)
token_complete rest (str {bs = bs} body i c) h r = string_complete bs body rest i c
token_complete rest (symbol {bs = bs} s) h r = symbol_complete bs rest s h

line_stops : (rest : List ℕ) → EndsLine rest → Stops is_inline rest
line_stops [] e = tt
line_stops (b ∷ bs) e = λ h. let no : is_inline 10 ≡ true = subst (λ x. is_inline x ≡ true) e h in cc

comment_complete : (body rest : List ℕ) → Every is_inline body → EndsLine rest → piece_of (47 ∷ 47 ∷ (body ++ rest)) ≡ piece.Gap (2 + length body)
comment_complete body rest e h = ap (λ n. piece.Gap (2 + n)) (prefix_len_at is_inline body rest e (line_stops rest h))

open_is : (rest : List ℕ) (n : ℕ) → EndsLine rest → string_from rest false n ≡ piece.Fault 0 fault.OpenString
open_is [] n e = refl
open_is (b ∷ bs) n e = subst (λ x. string_from (x ∷ bs) false n ≡ piece.Fault 0 fault.OpenString) (sym e) refl

stray_rest : (rest : List ℕ) (n : ℕ) → (BeginsEscaped rest → ⊥) → string_from rest true n ≡ piece.Fault n fault.BadByte
stray_rest [] n h = refl
stray_rest (b ∷ bs) n h = rw (false_from_ne_true (is_escaped b) h) refl

stray_is : (b : ℕ) (rest : List ℕ) (n : ℕ) → Stray b rest → string_from (b ∷ rest) false n ≡ piece.Fault n fault.BadByte
stray_is b rest n s = ⊎_elim
    (λ e. rw (ne_eqb b 34 s.not_quote, e.0) (stray_rest rest n (s.not_escape (e.1))))
    (λ e. rw (false_from_ne_true (is_plain b) s.not_plain, ne_eqb b 34 s.not_quote, e.0, ne_eqb b 10 s.not_newline) refl)
    (eqb_tells b 92)

same_head : (a b : ℕ) (r s : List ℕ) → a ∷ r ≡ b ∷ s → a ≡ b
same_head a b r s h = cc

same_tail : (a b : ℕ) (r s : List ℕ) → a ∷ r ≡ b ∷ s → r ≡ s
same_tail a b r s h = cc

nothing_only : {bytes : List ℕ} {found : Piece} (b : ℕ) (rest : List ℕ) → Nothing b rest → bytes ≡ b ∷ rest → Begins bytes found → found ≡ piece.Fault 0 fault.BadByte
nothing_only b rest n h ended = cc
nothing_only b rest n h (blank {b = c} {rest = r} k) = absurd (n.no_blank (subst (λ x. is_blank x ≡ true) (same_head c b r rest h) k))
nothing_only b rest n h (comment body r i e l) = absurd (n.no_comment (body ++ r) (sym h ∙ i))
nothing_only b rest n h (token {k = k} front r i s l g) = absurd (n.no_token k front r (sym h ∙ i) s)
nothing_only b rest n h (number_range front r i s l g) = absurd (n.no_token kind.Int front r (sym h ∙ i) s)
nothing_only b rest n h (open_string body r i c e) = absurd (n.no_quote (same_head b 34 rest (body ++ r) (sym h ∙ i)))
nothing_only b rest n h (bad_in_string body x r i c e) = absurd (n.no_quote (same_head b 34 rest (body ++ x ∷ r) (sym h ∙ i)))
nothing_only b rest n h (bad_byte m) = refl

pub complete : {bytes : List ℕ} {found : Piece} → Begins bytes found → piece_of bytes ≡ found
complete ended = refl
complete (blank {b = b} k) = rw (blank_letter b k, k) refl
complete (comment body rest h e l) = ap piece_of h ∙ comment_complete body rest e l
complete (token front rest h s l r) = ap piece_of h ∙ token_complete rest s l r
complete (number_range front rest h s l g) = ap piece_of h ∙ int_complete rest s refl l ∙ beyond_is (value front) (length front) g
complete (open_string body rest h c e) = ap piece_of h ∙ string_from_chars rest 1 c ∙ open_is rest (1 + length body) e
complete (bad_in_string body b rest h c s) = ap piece_of h ∙ string_from_chars (b ∷ rest) 1 c ∙ stray_is b rest (1 + length body) s
complete (bad_byte {b = b} {rest = rest} n) = nothing_only b rest n refl (sound (b ∷ rest))
