-- Terminals that are written one behind another are read as these terminals.
use Rattle.std.proofs.Common.{◌≡◌, ℕ, ◌+◌, ◌-◌, ◌<◌, ◌≤◌, true, false, List, [], ◌∷◌, ◌++◌, length, take, drop, map, refl, sym, ap, subst, ◌∙◌, arith, inl, inr, ◌⊎◌, ⊎_elim, append_assoc, length-append}
use Rattle.std.specs.Prelude.{◌^◌, ◌==◌}
use Rattle.std.specs.Fmt.{decimal}
use Rattle.std.proofs.Math.Seq.{take-append_seam, drop-append_seam}
use Rattle.std.proofs.lemmas.Bool.{and_parts, leb-true}
use Rattle.std.proofs.lemmas.Bool.Decides.{nat_tests, eqb_tells}
use Rattle.std.proofs.lemmas.List.{drop-drop}
use Rattle.std.proofs.lemmas.Fmt.{digits_decimal, digits_value-decimal, decimal_nonempty}
use Rattle.std.proofs.lemmas.Str.Parse.{IsDigitsTest, FoldsDigits, IsNumeralModel, numerals_by_fold}
use Rattle.rp_grammar.specs.declared.Token.{Token}
use Rattle.rp_grammar.specs.declared.TokenKind.{TokenKind}
use Rattle.rp_grammar.specs.declared.TokenKind.TheVariants as kind
use Rattle.rp_grammar.specs.declared.Piece.TheVariants as piece
use Rattle.rp_grammar.specs.declared.terminal.Symbol.{Symbol}
use Rattle.rp_grammar.specs.declared.terminal.Symbol.TheVariants as symbol
use Rattle.rp_grammar.specs.Bytes.{is_blank, is_digit, is_name_byte, is_plain, is_escaped, is_one_of, reserved, value, value_from, greatest}
use Rattle.rp_grammar.specs.Pieces.{Every, Chars, Shape, Begins}
use Rattle.rp_grammar.specs.Scan.{piece_of}
use Rattle.rp_grammar.specs.Lexed.{Lexed, token_at}
use Rattle.rp_grammar.specs.Spelling.{spelling, mark}
use Rattle.rp_grammar.specs.Terminals.{Terminal, name, word, int, str, symbol, end, Tok, at}
use Rattle.rp_grammar.specs.Toks.{Means, escaped, IsTerminal, slice, ToksOf}
use Rattle.rp_grammar.proofs.FormedTexts.{Lexable}
use Rattle.rp_grammar.proofs.Fronts.{Stops}
use Rattle.rp_grammar.proofs.Shapes.{reserved_form, reserved_empty}
use Rattle.rp_grammar.proofs.Tables.{is_word}
use Rattle.rp_grammar.proofs.Strings.{string_from_chars}
use Rattle.rp_grammar.proofs.Sound.{sound, longest_name, longest_number}
use Rattle.rp_print.specs.Printed.{spelled, written, escape, followed, line}
use Rattle.rp_print.proofs.Spells.{terminal_of}

-- # What stands behind a terminal

data Sep : ℕ → Type 0 where
  space : Sep 32
  newline : Sep 10

abbrev Starts : List ℕ → Type 0
Starts [] = ⊥
Starts (b ∷ bs) = Sep b

sep_name : {b : ℕ} → Sep b → is_name_byte b ≡ true → ⊥
sep_name space e = cc
sep_name newline e = cc

sep_digit : {b : ℕ} → Sep b → is_digit b ≡ true → ⊥
sep_digit space e = cc
sep_digit newline e = cc

name_stops : (rest : List ℕ) → Starts rest → Stops is_name_byte rest
name_stops [] s = absurd s
name_stops (b ∷ bs) s = sep_name s

digit_stops : (rest : List ℕ) → Starts rest → Stops is_digit rest
digit_stops [] s = absurd s
digit_stops (b ∷ bs) s = sep_digit s

-- # Terminals that can be written

abbrev pub kind_of : Terminal → TokenKind
kind_of (name n) = kind.Name
kind_of (word w) = kind.Word
kind_of (int n) = kind.Int
kind_of (str bytes) = kind.Str
kind_of (symbol m) = kind.Symbol
kind_of end = kind.End

-- # Numbers

digit_parts : (c : ℕ) (cs : List ℕ) → Every is_digit (c ∷ cs) → (48 ≤ c) × (c ≤ 57)
digit_parts c cs e =
    let (least, most) = and_parts _ _ (e.0) in
    (leb-true 48 c least, leb-true c 57 most)

digit_is : (c : ℕ) → 48 ≤ c → c ≤ 57 → is_digit c ≡ true
digit_is c h k = grind (arith, nat_tests)

digits_test : IsDigitsTest (Every is_digit)
digits_test = record {
  empty = tt;
  parts = λ c cs e. (digit_parts c cs e, e.1);
  more = λ c cs k e. (digit_is c k.0 k.1, e);
}

folds : FoldsDigits value_from
folds = record { empty = λ n. refl; more = λ n c cs k. refl }

numerals : IsNumeralModel (Every is_digit) (value_from 0)
numerals = numerals_by_fold (Every is_digit) digits_test value_from folds

in_range : (n : ℕ) → n ≤ greatest → n < 2 ^ 64
in_range n h = omega arith

number_front : (ds rest : List ℕ) → 0 < length ds → Every is_digit ds → value ds ≤ greatest → Starts rest → Begins (ds ++ rest) (piece.Token kind.Int (length ds))
number_front [] rest l e r s = absurd (omega arith)
number_front (c ∷ cs) rest l e r s = Begins.token (c ∷ cs) rest refl (Shape.int e.0 e.1) (longest_number c cs rest e.0 (digit_stops rest s)) (λ i. r)

number_begins : (n : ℕ) (rest : List ℕ) → n ≤ greatest → Starts rest → Begins (decimal n ++ rest) (piece.Token kind.Int (length (decimal n)))
number_begins n rest h s =
    let small = in_range n h in
    number_front (decimal n) rest (decimal_nonempty n small) (digits_decimal numerals n small) (subst (λ v. v ≤ greatest) (sym (digits_value-decimal numerals n small)) h) s

-- # Names, words, symbols

name_begins : {n : List ℕ} (rest : List ℕ) → Shape kind.Name n → Starts rest → Begins (n ++ rest) (piece.Token kind.Name (length n))
name_begins rest (Shape.name {b = c} {bs = cs} l e free) s = Begins.token (c ∷ cs) rest refl (Shape.name l e free) (longest_name c cs rest l (name_stops rest s)) (λ i. cc)

word_front : (bs rest : List ℕ) → is_one_of reserved bs ≡ true → Starts rest → Begins (bs ++ rest) (piece.Token kind.Word (length bs))
word_front [] rest h s = absurd (reserved_empty h)
word_front (c ∷ cs) rest h s = Begins.token (c ∷ cs) rest refl (Shape.word h) (longest_name c cs rest (reserved_form c cs h).letter (name_stops rest s)) (λ i. cc)

before_space : (m : Symbol) (bs : List ℕ) → piece_of (mark m ++ 32 ∷ bs) ≡ piece.Token kind.Symbol (length (mark m))
before_space symbol.OpenBrace bs = refl
before_space symbol.CloseBrace bs = refl
before_space symbol.OpenParen bs = refl
before_space symbol.CloseParen bs = refl
before_space symbol.OpenBracket bs = refl
before_space symbol.CloseBracket bs = refl
before_space symbol.Comma bs = refl
before_space symbol.Semicolon bs = refl
before_space symbol.Colon bs = refl
before_space symbol.DoubleColon bs = refl
before_space symbol.Dot bs = refl
before_space symbol.Assign bs = refl
before_space symbol.Equal bs = refl
before_space symbol.NotEqual bs = refl
before_space symbol.Less bs = refl
before_space symbol.AtMost bs = refl
before_space symbol.Greater bs = refl
before_space symbol.AtLeast bs = refl
before_space symbol.Implies bs = refl
before_space symbol.Arrow bs = refl
before_space symbol.And bs = refl
before_space symbol.Or bs = refl
before_space symbol.Not bs = refl
before_space symbol.Plus bs = refl
before_space symbol.Minus bs = refl
before_space symbol.Bar bs = refl

before_newline : (m : Symbol) (bs : List ℕ) → piece_of (mark m ++ 10 ∷ bs) ≡ piece.Token kind.Symbol (length (mark m))
before_newline symbol.OpenBrace bs = refl
before_newline symbol.CloseBrace bs = refl
before_newline symbol.OpenParen bs = refl
before_newline symbol.CloseParen bs = refl
before_newline symbol.OpenBracket bs = refl
before_newline symbol.CloseBracket bs = refl
before_newline symbol.Comma bs = refl
before_newline symbol.Semicolon bs = refl
before_newline symbol.Colon bs = refl
before_newline symbol.DoubleColon bs = refl
before_newline symbol.Dot bs = refl
before_newline symbol.Assign bs = refl
before_newline symbol.Equal bs = refl
before_newline symbol.NotEqual bs = refl
before_newline symbol.Less bs = refl
before_newline symbol.AtMost bs = refl
before_newline symbol.Greater bs = refl
before_newline symbol.AtLeast bs = refl
before_newline symbol.Implies bs = refl
before_newline symbol.Arrow bs = refl
before_newline symbol.And bs = refl
before_newline symbol.Or bs = refl
before_newline symbol.Not bs = refl
before_newline symbol.Plus bs = refl
before_newline symbol.Minus bs = refl
before_newline symbol.Bar bs = refl

symbol_piece_at : {b : ℕ} (m : Symbol) (bs : List ℕ) → Sep b → piece_of (mark m ++ b ∷ bs) ≡ piece.Token kind.Symbol (length (mark m))
symbol_piece_at m bs space = before_space m bs
symbol_piece_at m bs newline = before_newline m bs

symbol_begins : (m : Symbol) (rest : List ℕ) → Starts rest → Begins (mark m ++ rest) (piece.Token kind.Symbol (length (mark m)))
symbol_begins m [] s = absurd s
symbol_begins m (b ∷ bs) s = subst (Begins (mark m ++ b ∷ bs)) (symbol_piece_at m bs s) (sound (mark m ++ b ∷ bs))

-- # Strings

plain_tests : (b : ℕ) → is_plain b ≡ true → ((b == 10) ≡ false) × ((b == 34) ≡ false) × ((b == 92) ≡ false)
plain_tests b h = (grind (arith, nat_tests), grind (arith, nat_tests), grind (arith, nat_tests))

written_plain : (b : ℕ) → is_plain b ≡ true → written b ≡ b ∷ []
written_plain b h = let p = plain_tests b h in rw (p.0, p.1, p.2) refl

no_escape : (b : ℕ) → is_escaped b ≡ true → (b == 34) ≡ false → (b == 92) ≡ false → (b == 110) ≡ false → ⊥
no_escape b h x y z = let e : false ≡ true = rw (x, y, z) at h in cc

escaped_cases : (b : ℕ) → is_escaped b ≡ true → (b ≡ 34) ⊎ ((b ≡ 92) ⊎ (b ≡ 110))
escaped_cases b h =
    ⊎_elim (λ q. inl (q.1)) (λ q. ⊎_elim (λ r. inr (inl (r.1))) (λ r. ⊎_elim (λ t. inr (inr (t.1))) (λ t. absurd (no_escape b h (q.0) (r.0) (t.0))) (eqb_tells b 110)) (eqb_tells b 92)) (eqb_tells b 34)

escape_one : (b : ℕ) (bs ms : List ℕ) → Means bs ms → (b ≡ 34) ⊎ ((b ≡ 92) ⊎ (b ≡ 110)) → Means (written (escaped b) ++ bs) (escaped b ∷ ms)
escape_one b bs ms m h =
    let P : ℕ → Type 0 = λ x. Means (written (escaped x) ++ bs) (escaped x ∷ ms) in
    ⊎_elim (λ e. subst P (sym e) (Means.escape {b = 34} refl m)) (λ k. ⊎_elim (λ e. subst P (sym e) (Means.escape {b = 92} refl m)) (λ e. subst P (sym e) (Means.escape {b = 110} refl m)) k) h

escape_means : {body ms : List ℕ} → Means body ms → Means (escape ms) ms
escape_means Means.none = Means.none
escape_means (Means.plain {b = b} {ms = ms} h m) = subst (λ w. Means (w ++ escape ms) (b ∷ ms)) (sym (written_plain b h)) (Means.plain h (escape_means m))
escape_means (Means.escape {b = b} {ms = ms} h m) = escape_one b (escape ms) ms (escape_means m) (escaped_cases b h)

means_chars : {body ms : List ℕ} → Means body ms → Chars body
means_chars Means.none = Chars.none
means_chars (Means.plain h m) = Chars.plain h (means_chars m)
means_chars (Means.escape h m) = Chars.escape h (means_chars m)

string_front : (body rest : List ℕ) → Chars body → Begins ((34 ∷ (body ++ 34 ∷ [])) ++ rest) (piece.Token kind.Str (length (34 ∷ (body ++ 34 ∷ []))))
string_front body rest c =
    let e : piece_of (34 ∷ (body ++ 34 ∷ rest)) ≡ piece.Token kind.Str (1 + length body + 1) = string_from_chars (34 ∷ rest) 1 c in
    let l : 1 + length body + 1 ≡ length (34 ∷ (body ++ 34 ∷ [])) = omega (arith, length-append body (34 ∷ [])) in
    subst (λ n. Begins ((34 ∷ (body ++ 34 ∷ [])) ++ rest) (piece.Token kind.Str n)) l
    (subst (λ bs. Begins (34 ∷ bs) (piece.Token kind.Str (1 + length body + 1))) (sym (append_assoc body (34 ∷ []) rest))
    (subst (Begins (34 ∷ (body ++ 34 ∷ rest))) e (sound (34 ∷ (body ++ 34 ∷ rest)))))

begins : (t : Terminal) (rest : List ℕ) → Lexable t → Starts rest → Begins (spelled t ++ rest) (piece.Token (kind_of t) (length (spelled t)))
begins (name n) rest h s = name_begins rest h s
begins (word w) rest h s = word_front (spelling w) rest (is_word (spelling w) w refl) s
begins (int n) rest h s = number_begins n rest h s
begins (str bytes) rest h s = string_front (escape bytes) rest (means_chars (escape_means h.1))
begins (symbol m) rest h s = symbol_begins m rest s
begins end rest h s = absurd h

spells_terminal : (t : Terminal) → Lexable t → IsTerminal (spelled t) (kind_of t) t
spells_terminal (name n) h = refl
spells_terminal (word w) h = (w, refl, refl)
spells_terminal (int n) h = ap int (sym (digits_value-decimal numerals n (in_range n h)))
spells_terminal (str bytes) h = (escape bytes, bytes, refl, escape_means h.1, refl)
spells_terminal (symbol m) h = (m, refl, refl)
spells_terminal end h = absurd h

-- # Reading on

-- the tokens of the bytes of a text from p on are these terminals
abbrev FoundAt : List ℕ → ℕ → List ℕ → List Terminal → Type 0
FoundAt text p bytes ts = (tokens : List Token) × (us : List Tok) × Lexed p bytes tokens × ToksOf text tokens us × (map terminal_of us ≡ ts)

-- wherever these bytes are the rest of the text
pub record ReadsAs (text bytes : List ℕ) (ts : List Terminal) : Type 0 where
  pub from : (p : ℕ) → drop p text ≡ bytes → FoundAt text p bytes ts

read_end : (text : List ℕ) → ReadsAs text [] (end ∷ [])
read_end text = record { from = λ p h. (_, _, Lexed.ended Begins.ended, ToksOf.more refl ToksOf.none, refl) }

read_gap : {text : List ℕ} (b : ℕ) (rest : List ℕ) (ts : List Terminal) → is_blank b ≡ true → ReadsAs text rest ts → ReadsAs text (b ∷ rest) ts
read_gap {text = text} b rest ts h r = record {
  from = λ p e.
      let f = r.from (p + 1) (sym (drop-drop 1 p text) ∙ ap (drop 1) e) in
      (f.0, f.1, Lexed.gap (Begins.blank h) f.2, f.3, f.4);
}

read_token : {text : List ℕ} (t : Terminal) (rest : List ℕ) (ts : List Terminal) → Lexable t → Starts rest → ReadsAs text rest ts → ReadsAs text (spelled t ++ rest) (t ∷ ts)
read_token {text = text} t rest ts h s r = record {
  from = λ p e.
      let n = length (spelled t) in
      let after : drop (length (spelled t)) (spelled t ++ rest) ≡ rest = drop-append_seam (spelled t) rest in
      let f = r.from (p + length (spelled t)) (sym (drop-drop (length (spelled t)) p text) ∙ ap (drop (length (spelled t))) e ∙ after) in
      let size : p + length (spelled t) - p ≡ length (spelled t) = omega arith in
      let piece_is : slice text (token_at (kind_of t) p (p + length (spelled t))).span ≡ spelled t =
      ap (λ i. take i (drop p text)) size ∙ ap (take (length (spelled t))) e ∙ take-append_seam (spelled t) rest in (
        token_at (kind_of t) p (p + length (spelled t)) ∷ f.0,
        at t (token_at (kind_of t) p (p + length (spelled t))).span ∷ f.1,
        Lexed.token (begins t rest h s) (subst (λ bs. Lexed (p + length (spelled t)) bs f.0) (sym after) f.2),
        ToksOf.more (subst (λ bs. IsTerminal bs (kind_of t) t) (sym piece_is) (spells_terminal t h)) f.3,
        ap (λ ks. t ∷ ks) f.4,
      );
}

abbrev pub AllOf : (Terminal → Type 0) → List Terminal → Type 0
AllOf L [] = Unit {0}
AllOf L (t ∷ ts) = L t × AllOf L ts

starts_followed : (ts : List Terminal) (rest : List ℕ) → Starts rest → Starts (followed ts ++ rest)
starts_followed [] rest s = s
starts_followed (t ∷ ts) rest s = space

read_followed : {text : List ℕ} (ts : List Terminal) (rest : List ℕ) (more : List Terminal) → AllOf Lexable ts → Starts rest → ReadsAs text rest more → ReadsAs text (followed ts ++ rest) (ts ++ more)
read_followed [] rest more h s r = r
read_followed {text = text} (t ∷ ts) rest more h s r =
    read_gap 32 ((spelled t ++ followed ts) ++ rest) (t ∷ (ts ++ more)) refl
    (subst (λ bs. ReadsAs text bs (t ∷ (ts ++ more))) (sym (append_assoc (spelled t) (followed ts) rest))
    (read_token t (followed ts ++ rest) (ts ++ more) h.0 (starts_followed ts rest s) (read_followed ts rest more h.1 s r)))

pub read_line : {text : List ℕ} (ts : List Terminal) (rest : List ℕ) (more : List Terminal) → AllOf Lexable ts → ReadsAs text rest more → ReadsAs text (line ts ++ rest) (ts ++ more)
read_line [] rest more h r = read_gap 10 rest more refl r
read_line {text = text} (t ∷ ts) rest more h r =
    subst (λ bs. ReadsAs text bs (t ∷ (ts ++ more))) (sym (append_assoc (spelled t) (followed ts ++ 10 ∷ []) rest ∙ ap (λ bs. spelled t ++ bs) (append_assoc (followed ts) (10 ∷ []) rest)))
    (read_token t (followed ts ++ 10 ∷ rest) (ts ++ more) h.0 (starts_followed ts (10 ∷ rest) newline)
    (read_followed ts (10 ∷ rest) more h.1 newline (read_gap 10 rest more refl r)))

pub read_nothing : (text : List ℕ) → ReadsAs text [] (end ∷ [])
read_nothing text = read_end text
