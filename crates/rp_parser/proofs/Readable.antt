-- The tokens of a text are readable, and what their bytes say.
use Rattle.std.proofs.Common.{◌≡◌, ◌≢◌, ℕ, ◌+◌, ◌-◌, ◌*◌, ◌≤◌, List, [], ◌∷◌, ◌++◌, IsTrue, Option, Some, None, IsSome, length, take, drop, refl, sym, ap, subst, ◌∙◌, arith, length-drop, length-append}
use Rattle.std.specs.List.{AllByRecursion}
use Rattle.std.proofs.lemmas.List.{drop-drop, take_at, append-nil, append_assoc}
use Rattle.rp_span.specs.declared.Span.{Span}
use Rattle.rp_grammar.specs.Bytes.{is_plain, is_one_of, reserved, symbols, value, value_from, greatest}
use Rattle.rp_grammar.specs.Pieces.{Begins, Shape, Chars, InRange}
use Rattle.rp_grammar.specs.Pieces as pieces
use Rattle.rp_grammar.specs.Lexed.{Lexed, Spelled}
use Rattle.rp_grammar.specs.Toks.{slice, Means, escaped, IsTerminal, ToksOf}
use Rattle.rp_grammar.specs.Terminals.{str, Tok}
use Rattle.rp_grammar.specs.Toks as toks
use Rattle.rp_grammar.specs.declared.Token.{Token}
use Rattle.rp_grammar.specs.declared.TokenKind.TheVariants as kind
use Rattle.rp_grammar.specs.declared.Piece.{Piece}
use Rattle.rp_grammar.specs.declared.Piece.TheVariants as piece
use Rattle.rp_grammar.proofs.Moving.{moves}
use Rattle.rp_grammar.proofs.Places.{all_spelled}
use Rattle.rp_parser.specs.declared.mark.Kind.{Kind}
use Rattle.rp_parser.specs.declared.mark.Mark.{Mark}
use Rattle.rp_parser.specs.means.Marks.{meant, terminal_of, tok_of, IsReadable}
use Rattle.rp_parser.specs.means.Marks as marks
use Rattle.rp_parser.proofs.Lists.{map_pushed}

abbrev pub marked : Kind → Span → Mark
marked kd s = record { kind = kd; span = s }

abbrev pub RangeOf : List ℕ → Piece → Type 0
RangeOf bytes (piece.Token k n) = InRange k (take n bytes)
RangeOf bytes piece.Ended = Unit {0}
RangeOf bytes (piece.Gap n) = Unit {0}
RangeOf bytes (piece.Fault n f) = Unit {0}

range_of : {bytes : List ℕ} {found : Piece} → Begins bytes found → RangeOf bytes found
range_of pieces.ended = tt
range_of (pieces.blank h) = tt
range_of (pieces.comment body rest h e l) = tt
range_of (pieces.token {k = k} front rest h s l r) = subst (InRange k) (sym (ap (take (length front)) h ∙ take_at front rest (length front) refl)) r
range_of (pieces.number_range front rest h s l g) = tt
range_of (pieces.open_string body rest h c e) = tt
range_of (pieces.bad_in_string body b rest h c s) = tt
range_of (pieces.bad_byte n) = tt

all_in_range : {p : ℕ} {ts : List Token} {bytes : List ℕ} (text : List ℕ) → bytes ≡ drop p text → p ≤ length text → Lexed p bytes ts → AllByRecursion (λ t. InRange t.kind (slice text t.span)) ts
all_in_range {p = p} text h w (Lexed.ended b) = ((λ e. cc), tt)
all_in_range {p = p} {bytes = bytes} text h w (Lexed.gap {n = n} b l) =
    let m = moves b in
    let within : p + n ≤ length text = omega (arith, m.1, ap length h, length-drop p text) in
    all_in_range text (ap (drop n) h ∙ drop-drop n p text) within l
all_in_range {p = p} {bytes = bytes} text h w (Lexed.token {n = n} {k = k} b l) =
    let m = moves b in
    let within : p + n ≤ length text = omega (arith, m.1, ap length h, length-drop p text) in
    let size : n ≡ p + n - p = omega arith in
    let range = subst (λ i. InRange k (take i (drop p text))) size (subst (λ x. InRange k (take n x)) h (range_of b)) in
    (range, all_in_range text (ap (drop n) h ∙ drop-drop n p text) within l)

both : (text : List ℕ) (ts : List Token) → AllByRecursion (λ t. InRange t.kind (slice text t.span)) ts → AllByRecursion (Spelled text) ts → AllByRecursion (IsReadable text) ts
both text [] a b = tt
both text (t ∷ ts) (r, a) (s, b) = ((s, r), both text ts a b)

-- all tokens of a text are readable
pub all_readable : (text : List ℕ) (ts : List Token) → Lexed 0 text ts → AllByRecursion (IsReadable text) ts
all_readable text ts l = both text ts (all_in_range text refl (omega arith) l) (all_spelled text refl (omega arith) l)

pub plain_meant : (b : ℕ) (bs : List ℕ) → b ≢ 92 → meant (b ∷ bs) ≡ b ∷ meant bs
plain_meant b [] n = refl
plain_meant b (c ∷ bs) n = grind arith

not_backslash : (b : ℕ) → IsTrue (is_plain b) → b ≢ 92
not_backslash b h e = grind arith

-- the inside of a string means what its bytes are computed to mean
pub means : {bs : List ℕ} → Chars bs → Means bs (meant bs)
means pieces.Chars.none = toks.Means.none
means (pieces.Chars.plain {b = b} {bs = bs} p c) = subst (Means (b ∷ bs)) (sym (plain_meant b bs (not_backslash b p))) (toks.Means.plain p (means c))
means (pieces.Chars.escape {b = b} {bs = bs} p c) = toks.Means.escape p (means c)

pub not_none : {X : Type 0} (o : Option X) → o ≡ None → IsSome o → ⊥
not_none None e h = cc
not_none (Some x) e h = cc

pub is_reserved : {bs : List ℕ} → Shape kind.Word bs → IsTrue (is_one_of reserved bs)
is_reserved (pieces.Shape.word h) = h

pub is_mark : {bs : List ℕ} → Shape kind.Symbol bs → IsTrue (is_one_of symbols bs)
is_mark (pieces.Shape.symbol h) = h

quoted_length : (bs body : List ℕ) → bs ≡ 34 ∷ (body ++ 34 ∷ []) → length bs ≡ length body + 2
quoted_length bs body e = omega (arith, ap length e, length-append body (34 ∷ []))

pub has_quotes : {bs : List ℕ} → Shape kind.Str bs → 2 ≤ length bs
has_quotes {bs = bs} (pieces.Shape.str body e c) = omega (arith, quoted_length bs body e)

inside_is : (bs body : List ℕ) → bs ≡ 34 ∷ (body ++ 34 ∷ []) → take (length bs - 1 - 1) (drop 1 bs) ≡ body
inside_is bs body e =
    let size : length bs - 1 - 1 ≡ length body = omega (arith, quoted_length bs body e) in
    ap (λ n. take n (drop 1 bs)) size ∙ ap (λ xs. take (length body) (drop 1 xs)) e ∙ take_at body (34 ∷ []) (length body) refl

-- what stands between a string's quotes
pub string_terminal : (bs : List ℕ) → Shape kind.Str bs → IsTerminal bs kind.Str (str (meant (take (length bs - 1 - 1) (drop 1 bs))))
string_terminal bs (pieces.Shape.str body e c) = (body, meant body, e, means c, ap (λ x. str (meant x)) (inside_is bs body e))

-- further digits make a number no smaller
pub no_smaller : (n : ℕ) (bs : List ℕ) → n ≤ value_from n bs
no_smaller n [] = omega arith
no_smaller n (b ∷ bs) = let h = no_smaller (n * 10 + (b - 48)) bs in omega arith

-- one more digit makes a number that is no greater than the whole one
pub digit_fits : (total b : ℕ) (rest after digits : List ℕ) → rest ≡ b ∷ after → value_from total rest ≡ value digits → value digits ≤ greatest → total * 10 + (b - 48) ≤ 9223372036854775807
digit_fits total b rest after digits is e g =
    let h = no_smaller (total * 10 + (b - 48)) after in
    let e : value_from (total * 10 + (b - 48)) after ≡ value digits = ap (value_from total) (sym is) ∙ e in
    omega (arith, h, e, g)

-- where no token is left, all are read
pub all_read : (text : List ℕ) (rest tokens : List Token) (ms : List Mark) → length rest ≡ 0 → ((us : List Tok) → ToksOf text rest us → ToksOf text tokens (marks.toks ms ++ us)) → ToksOf text tokens (marks.toks ms)
all_read text [] tokens ms h f = subst (ToksOf text tokens) (append-nil (marks.toks ms)) (f [] toks.ToksOf.none)
all_read text (t ∷ ts) tokens ms h f = absurd (omega arith)

-- one more token
pub one_read : (text : List ℕ) (rest after tokens : List Token) (t : Token) (kd : Kind) (all ms : List Mark) → rest ≡ t ∷ after → IsTerminal (slice text t.span) t.kind (terminal_of kd) → all ≡ ms ++ marked kd t.span ∷ [] → ((us : List Tok) → ToksOf text rest us → ToksOf text tokens (marks.toks ms ++ us)) → (us : List Tok) → ToksOf text after us → ToksOf text tokens (marks.toks all ++ us)
one_read text rest after tokens t kd all ms is i h f us d =
    let m = marked kd t.span in
    let u = tok_of m in
    let longer : marks.toks ms ++ (u ∷ us) ≡ marks.toks all ++ us = sym (append_assoc (marks.toks ms) (u ∷ []) us) ∙ ap (λ xs. xs ++ us) (map_pushed tok_of all ms m h) in
    subst (ToksOf text tokens) longer (f (u ∷ us) (subst (λ r. ToksOf text r (u ∷ us)) (sym is) (toks.ToksOf.more i d)))
