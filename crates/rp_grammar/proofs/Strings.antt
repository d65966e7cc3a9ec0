-- What reading a string finds.
use Rattle.std.proofs.Common.{◌≡◌, ℕ, suc, ◌+◌, Bool, true, false, eqb, List, [], ◌∷◌, ◌++◌, length, refl, sym, ap, subst, ◌∙◌, arith, ⊎_elim, append_assoc, length-append, add-zero}
use Rattle.std.proofs.lemmas.Bool.{cases_Bool, both_ways}
use Rattle.std.proofs.lemmas.Bool.Decides.{nat_tests, eqb_tells}
use Rattle.rp_grammar.specs.Bytes.{is_plain, is_escaped}
use Rattle.rp_grammar.specs.Pieces.{Chars, none, plain, escape, Longest, BeginsEscaped, Stray, Begins, open_string, bad_in_string, token, str}
use Rattle.rp_grammar.specs.Scan.{string_from}
use Rattle.rp_grammar.specs.declared.TokenKind.{TokenKind}
use Rattle.rp_grammar.specs.declared.TokenKind.TheVariants as kind
use Rattle.rp_grammar.specs.declared.Piece.TheVariants as piece
use Rattle.rp_grammar.proofs.Shapes.{Form, letters, digits, quoted, mark, form}

plain_is : (b : ℕ) → is_plain b ≡ true → (eqb b 34 ≡ false) × (eqb b 92 ≡ false)
plain_is b h = (grind (arith, nat_tests), grind (arith, nat_tests))

-- characters of a string are read
pub string_from_chars : {body : List ℕ} (rest : List ℕ) (n : ℕ) → Chars body → string_from (body ++ rest) false n ≡ string_from rest false (n + length body)
string_from_chars rest n none = ap (λ m. string_from rest false m) (sym (add-zero n))
string_from_chars rest n (plain {b = b} {bs = bs} h c) =
    let p = plain_is b h in
    let e : n + 1 + length bs ≡ n + suc (length bs) = omega arith in
    rw (h, p.0, p.1) (string_from_chars rest (n + 1) c ∙ ap (λ m. string_from rest false m) e)
string_from_chars rest n (escape {b = b} {bs = bs} h c) =
    let e : n + 2 + length bs ≡ n + suc (suc (length bs)) = omega arith in
    rw h (string_from_chars rest (n + 2) c ∙ ap (λ m. string_from rest false m) e)

pub chars_append : {body more : List ℕ} → Chars body → Chars more → Chars (body ++ more)
chars_append none d = d
chars_append (plain h c) d = plain h (chars_append c d)
chars_append (escape h c) d = escape h (chars_append c d)

token_is : (m n : ℕ) → piece.Token kind.Str m ≡ piece.Token kind.Str n → m ≡ n
token_is m n h = cc

same_rests : (c d x y : List ℕ) → length c ≡ length d → c ++ 34 ∷ x ≡ d ++ 34 ∷ y → x ≡ y
same_rests [] [] x y l h = cc
same_rests [] (d ∷ ds) x y l h = absurd (omega arith)
same_rests (c ∷ cs) [] x y l h = absurd (omega arith)
same_rests (c ∷ cs) (d ∷ ds) x y l h = same_rests cs ds x y (omega arith) (let t : cs ++ 34 ∷ x ≡ ds ++ 34 ∷ y = cc in t)

-- a string's characters end at its first closing quote
pub same_chars : {c d : List ℕ} (x y : List ℕ) → Chars c → Chars d → c ++ 34 ∷ x ≡ d ++ 34 ∷ y → x ≡ y
same_chars {c = c} {d = d} x y p q h =
    let a = string_from_chars (34 ∷ x) 0 p in
    let b = string_from_chars (34 ∷ y) 0 q in
    let e = token_is _ _ (sym a ∙ ap (λ l. string_from l false 0) h ∙ b) in
    let l : length c ≡ length d = omega arith in
    same_rests c d x y l h

longest_form : (k : TokenKind) (body more : List ℕ) → Chars body → Form k 34 (body ++ 34 ∷ [] ++ more) → more ≡ []
longest_form k body more c (letters l e) = cc
longest_form k body more c (digits l e) = cc
longest_form k body more c (quoted i f) = same_chars more [] c f.chars (sym (append_assoc body (34 ∷ []) more) ∙ f.is)
longest_form k body more c (mark m e) = absurd (m.no_quote refl)

longest_string : (body rest : List ℕ) → Chars body → Longest (34 ∷ (body ++ 34 ∷ [])) rest
longest_string body rest c = λ k more after h s. longest_form k body more c (form 34 (body ++ 34 ∷ [] ++ more) refl s)

join_one : (body : List ℕ) (b : ℕ) (bs : List ℕ) → (body ++ b ∷ []) ++ bs ≡ body ++ b ∷ bs
join_one body b bs = append_assoc body (b ∷ []) bs

moved : (text other bs : List ℕ) (n m : ℕ) → text ≡ other → n ≡ m → Begins (34 ∷ text) (string_from bs false n) → Begins (34 ∷ other) (string_from bs false m)
moved text other bs n m h e x = subst (λ t. Begins (34 ∷ t) (string_from bs false m)) h (subst (λ k. Begins (34 ∷ text) (string_from bs false k)) e x)

closed : (body bs : List ℕ) → Chars body → Begins (34 ∷ (body ++ 34 ∷ bs)) (piece.Token kind.Str (1 + length body + 1))
closed body bs c =
    let front : List ℕ = 34 ∷ (body ++ 34 ∷ []) in
    let e : length (34 ∷ (body ++ 34 ∷ [])) ≡ 1 + length body + 1 = omega (arith, length-append body (34 ∷ [])) in
    subst (λ n. Begins (34 ∷ (body ++ 34 ∷ bs)) (piece.Token kind.Str n)) e
    (token (34 ∷ (body ++ 34 ∷ [])) bs (ap (λ l. 34 ∷ l) (sym (join_one body 34 bs))) (str body refl c) (longest_string body bs c) (λ i. cc))

-- the bytes yet to read, behind a backslash that is read
abbrev pub pending : Bool → List ℕ → List ℕ
pending true bs = 92 ∷ bs
pending false bs = bs

stray_backslash : (rest : List ℕ) → (BeginsEscaped rest → ⊥) → Stray 92 rest
stray_backslash rest h = record { not_plain = λ x. cc; not_quote = λ x. omega arith; not_newline = λ x. omega arith; not_escape = λ x y. h y }

ends_in_backslash : (body : List ℕ) → Chars body → Begins (34 ∷ (body ++ 92 ∷ [])) (string_from [] true (1 + length body))
ends_in_backslash body c = bad_in_string body 92 [] refl c (stray_backslash [] (λ x. x))

escape_step : (b : ℕ) (bs body : List ℕ) → Chars body → (is_escaped b ≡ true → Begins (34 ∷ ((body ++ 92 ∷ b ∷ []) ++ bs)) (string_from bs false (1 + length (body ++ 92 ∷ b ∷ [])))) → Begins (34 ∷ (body ++ 92 ∷ b ∷ bs)) (string_from (b ∷ bs) true (1 + length body))
escape_step b bs body c later =
    ⊎_elim
    (λ e. rw e (moved ((body ++ 92 ∷ b ∷ []) ++ bs) (body ++ 92 ∷ b ∷ bs) bs _ _ (append_assoc body (92 ∷ b ∷ []) bs) (omega (arith, length-append body (92 ∷ b ∷ []))) (later e)))
    (λ e. rw e (bad_in_string body 92 (b ∷ bs) refl c (stray_backslash (b ∷ bs) (λ y. both_ways (is_escaped b) e y))))
    (cases_Bool (is_escaped b))

char_step : (b : ℕ) (bs body : List ℕ) → Chars body → Begins (34 ∷ (body ++ 92 ∷ bs)) (string_from bs true (1 + length body)) → (is_plain b ≡ true → Begins (34 ∷ ((body ++ b ∷ []) ++ bs)) (string_from bs false (1 + length (body ++ b ∷ [])))) → Begins (34 ∷ (body ++ b ∷ bs)) (string_from (b ∷ bs) false (1 + length body))
char_step b bs body c escaped later =
    ⊎_elim
    (λ q. rw (q.0) (subst (λ x. Begins (34 ∷ (body ++ x ∷ bs)) (piece.Token kind.Str (1 + length body + 1))) (sym (q.1)) (closed body bs c)))
    (λ q. ⊎_elim
    (λ s. rw (q.0, s.0) (subst (λ x. Begins (34 ∷ (body ++ x ∷ bs)) (string_from bs true (1 + length body))) (sym (s.1)) escaped))
    (λ s. ⊎_elim
    (λ e. rw (e, q.0, s.0) (moved ((body ++ b ∷ []) ++ bs) (body ++ b ∷ bs) bs _ _ (join_one body b bs) (omega (arith, length-append body (b ∷ []))) (later e)))
    (λ e. ⊎_elim
    (λ n. rw (e, q.0, s.0, n.0) (open_string body (b ∷ bs) refl c (n.1)))
    (λ n. rw (e, q.0, s.0, n.0) (bad_in_string body b bs refl c (record { not_plain = both_ways (is_plain b) e; not_quote = q.1; not_newline = n.1; not_escape = λ x y. s.1 x })))
    (eqb_tells b 10))
    (cases_Bool (is_plain b)))
    (eqb_tells b 92))
    (eqb_tells b 34)

-- what reading a string finds, behind characters that are read
pub string_sound : (bs body : List ℕ) (t : Bool) → Chars body → Begins (34 ∷ (body ++ pending t bs)) (string_from bs t (1 + length body))
string_sound [] body false c = open_string body [] refl c tt
string_sound [] body true c = ends_in_backslash body c
string_sound (b ∷ bs) body true c = escape_step b bs body c (λ e. string_sound bs (body ++ 92 ∷ b ∷ []) false (chars_append c (escape e none)))
string_sound (b ∷ bs) body false c = char_step b bs body c (string_sound bs body true c) (λ e. string_sound bs (body ++ b ∷ []) false (chars_append c (plain e none)))
