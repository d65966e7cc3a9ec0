-- A token's form by its first byte.
use Rattle.std.proofs.Common.{◌≡◌, ℕ, Bool, true, false, not, ◌&&◌, eqb, List, [], ◌∷◌, ◌++◌, refl, sym, subst, ◌∙◌, arith}
use Rattle.std.proofs.lemmas.Bool.{both_ways, and_parts, not-true}
use Rattle.std.proofs.lemmas.Bool.Decides.{nat_tests}
use Rattle.rp_grammar.specs.Bytes.{is_blank, is_letter, is_digit, is_name_byte, is_one_of, symbols, reserved}
use Rattle.rp_grammar.specs.Pieces.{Every, Chars, Shape, name, word, int, str, symbol}
use Rattle.rp_grammar.specs.declared.TokenKind.{TokenKind}
use Rattle.rp_grammar.specs.declared.TokenKind.TheVariants as kind
use Rattle.rp_grammar.proofs.Words.{one_of_passes}

passes : (ℕ → Bool) → List ℕ → Bool
passes p [] = true
passes p (b ∷ bs) = p b && passes p bs

every_passes : (p : ℕ → Bool) (bs : List ℕ) → passes p bs ≡ true → Every p bs
unfolding passes
every_passes p [] h = tt
every_passes p (b ∷ bs) h = let (x, y) = and_parts (p b) (passes p bs) h in (x, every_passes p bs y)

is_word_form : List ℕ → Bool
is_word_form [] = false
is_word_form (b ∷ bs) = is_letter b && passes is_name_byte bs

-- a symbol's first byte
begins_mark : ℕ → Bool
begins_mark b = not (is_letter b) && not (is_blank b) && not (is_digit b) && not (eqb b 34) && not (eqb b 47)

is_mark_form : List ℕ → Bool
is_mark_form [] = false
is_mark_form (b ∷ bs) = begins_mark b

pub record WordForm (b : ℕ) (bs : List ℕ) : Type 0 where
  pub letter : is_letter b ≡ true
  pub others : Every is_name_byte bs

pub reserved_form : (b : ℕ) (bs : List ℕ) → is_one_of reserved (b ∷ bs) ≡ true → WordForm b bs
unfolding is_word_form passes
reserved_form b bs h =
    let (x, y) = and_parts (is_letter b) (passes is_name_byte bs) (one_of_passes is_word_form reserved (b ∷ bs) refl h) in
    record { letter = x; others = every_passes is_name_byte bs y }

pub reserved_empty : is_one_of reserved [] ≡ true → ⊥
reserved_empty h = cc

pub record MarkForm (b : ℕ) : Type 0 where
  pub no_letter : is_letter b ≡ true → ⊥
  pub no_blank : is_blank b ≡ true → ⊥
  pub no_digit : is_digit b ≡ true → ⊥
  pub no_quote : b ≡ 34 → ⊥
  pub no_slash : b ≡ 47 → ⊥

mark_form : (b : ℕ) → begins_mark b ≡ true → MarkForm b
unfolding begins_mark
mark_form b h =
    let (h4, s) = and_parts _ _ h in
    let (h3, q) = and_parts _ _ h4 in
    let (h2, d) = and_parts _ _ h3 in
    let (l, k) = and_parts _ _ h2 in
    record {
      no_letter = both_ways (is_letter b) (not-true _ l);
      no_blank = both_ways (is_blank b) (not-true _ k);
      no_digit = both_ways (is_digit b) (not-true _ d);
      no_quote = λ e. grind (arith, nat_tests);
      no_slash = λ e. grind (arith, nat_tests);
    }

pub symbol_form : (b : ℕ) (bs : List ℕ) → is_one_of symbols (b ∷ bs) ≡ true → MarkForm b
unfolding is_mark_form begins_mark
symbol_form b bs h = mark_form b (one_of_passes is_mark_form symbols (b ∷ bs) refl h)

pub symbol_empty : is_one_of symbols [] ≡ true → ⊥
symbol_empty h = cc

-- classes of bytes exclude each other
pub blank_letter : (b : ℕ) → is_blank b ≡ true → is_letter b ≡ false
blank_letter b h = grind (arith, nat_tests)

pub digit_letter : (b : ℕ) → is_digit b ≡ true → is_letter b ≡ false
digit_letter b h = grind (arith, nat_tests)

pub digit_blank : (b : ℕ) → is_digit b ≡ true → is_blank b ≡ false
digit_blank b h = grind (arith, nat_tests)

pub no_shape_empty : {k : TokenKind} {bs : List ℕ} → bs ≡ [] → Shape k bs → ⊥
no_shape_empty h (name {b = c} {bs = cs} l e n) = cc
no_shape_empty h (word r) = reserved_empty (subst (λ x. is_one_of reserved x ≡ true) h r)
no_shape_empty h (int {b = c} {bs = cs} d e) = cc
no_shape_empty h (str body i c) = let j = sym i ∙ h in cc
no_shape_empty h (symbol r) = symbol_empty (subst (λ x. is_one_of symbols x ≡ true) h r)

same_head : (a b : ℕ) (r s : List ℕ) → a ∷ r ≡ b ∷ s → a ≡ b
same_head a b r s h = cc

same_tail : (a b : ℕ) (r s : List ℕ) → a ∷ r ≡ b ∷ s → r ≡ s
same_tail a b r s h = cc

pub record QuoteForm (bs : List ℕ) : Type 0 where
  pub body : List ℕ
  pub is : bs ≡ body ++ 34 ∷ []
  pub chars : Chars body

-- what a token is that begins with b
pub data Form : TokenKind → ℕ → List ℕ → Type 0 where
  letters : {k : TokenKind} {b : ℕ} {bs : List ℕ} → is_letter b ≡ true → Every is_name_byte bs → Form k b bs
  digits : {b : ℕ} {bs : List ℕ} → is_digit b ≡ true → Every is_digit bs → Form kind.Int b bs
  quoted : {b : ℕ} {bs : List ℕ} → b ≡ 34 → QuoteForm bs → Form kind.Str b bs
  mark : {b : ℕ} {bs : List ℕ} → MarkForm b → is_one_of symbols (b ∷ bs) ≡ true → Form kind.Symbol b bs

pub form : {k : TokenKind} {bytes : List ℕ} (b : ℕ) (bs : List ℕ) → bytes ≡ b ∷ bs → Shape k bytes → Form k b bs
form b bs h (name {b = c} {bs = cs} l e n) = letters (subst (λ x. is_letter x ≡ true) (same_head c b cs bs h) l) (subst (Every is_name_byte) (same_tail c b cs bs h) e)
form b bs h (word r) = let w = reserved_form b bs (subst (λ x. is_one_of reserved x ≡ true) h r) in letters w.letter w.others
form b bs h (int {b = c} {bs = cs} d e) = digits (subst (λ x. is_digit x ≡ true) (same_head c b cs bs h) d) (subst (Every is_digit) (same_tail c b cs bs h) e)
form b bs h (str body i c) =
    let j = sym h ∙ i in
    quoted (same_head b 34 bs (body ++ 34 ∷ []) j) (record { body = body; is = same_tail b 34 bs (body ++ 34 ∷ []) j; chars = c })
form b bs h (symbol r) = let s = subst (λ x. is_one_of symbols x ≡ true) h r in mark (symbol_form b bs s) s
