-- Each word and each symbol is found by its text.
use Rattle.std.proofs.Common.{◌≡◌, ℕ, true, false, List, length, refl, sym, ap, ◌∙◌, Option, Some}
use Rattle.std.specs.Prelude.{IsSome, IsTrue, ◌↔◌}
use Rattle.std.specs.Option.{is_some}
use Rattle.std.proofs.lemmas.Bool.{false_from_ne_true, both_ways}
use Rattle.rp_grammar.specs.Bytes.{is_one_of, reserved, symbols}
use Rattle.rp_grammar.specs.Scan.{name_kind}
use Rattle.rp_grammar.specs.Spelling.{spelling, mark, words, marks, word_of, symbol_of}
use Rattle.rp_grammar.specs.declared.terminal.Word.{Word}
use Rattle.rp_grammar.specs.declared.terminal.Symbol.{Symbol}
use Rattle.rp_grammar.specs.declared.TokenKind.TheVariants as kind
use Rattle.rp_grammar.proofs.Computed.{found}
use Rattle.rp_grammar.proofs.Tables.{word_of-spelling, symbol_of-mark}
use Rattle.rp_lexer.specs.means.Named.{named, sized}
use Rattle.rp_lexer.proofs.Named.{is_some-named, named_sized}

-- what is found among the items of its own length is found among all
pub found_sized : {X : Type 0} (text : X → List ℕ) (all own : List X) (bs : List ℕ) (result : Option X) → result ≡ named text own bs → own ≡ sized text (length bs) all
    → result ≡ named text all bs
found_sized text all own bs result h same = h ∙ ap (λ xs. named text xs bs) same ∙ named_sized text (length bs) all bs refl

pub word_spelled : (bs : List ℕ) (result : Option Word) → result ≡ word_of bs → (w : Word) → (result ≡ Some w) ↔ (bs ≡ spelling w)
word_spelled bs result h w = (λ e. found spelling words bs w (sym h ∙ e), λ e. h ∙ ap word_of e ∙ word_of-spelling w)

pub symbol_spelled : (bs : List ℕ) (result : Option Symbol) → result ≡ symbol_of bs → (m : Symbol) → (result ≡ Some m) ↔ (bs ≡ mark m)
symbol_spelled bs result h m = (λ e. found mark marks bs m (sym h ∙ e), λ e. h ∙ ap symbol_of e ∙ symbol_of-mark m)

pub word_some : (bs : List ℕ) (result : Option Word) → result ≡ word_of bs → IsSome result ↔ IsTrue (is_one_of reserved bs)
word_some bs result h =
    let e : is_some result ≡ is_one_of reserved bs = ap is_some h ∙ is_some-named spelling words bs in
    (λ some. sym e ∙ some, λ one. e ∙ one)

pub symbol_some : (bs : List ℕ) (result : Option Symbol) → result ≡ symbol_of bs → IsSome result ↔ IsTrue (is_one_of symbols bs)
symbol_some bs result h =
    let e : is_some result ≡ is_one_of symbols bs = ap is_some h ∙ is_some-named mark marks bs in
    (λ some. sym e ∙ some, λ one. e ∙ one)

-- a name that is a word is of that kind
pub word_kind : (bs : List ℕ) (o : Option Word) → (IsSome o ↔ IsTrue (is_one_of reserved bs)) → is_some o ≡ true → kind.Word ≡ name_kind bs
word_kind bs o h some =
    let r : is_one_of reserved bs ≡ true = h.0 some in
    rw r refl

pub no_word_kind : (bs : List ℕ) (o : Option Word) → (IsSome o ↔ IsTrue (is_one_of reserved bs)) → is_some o ≡ false → kind.Name ≡ name_kind bs
no_word_kind bs o h none =
    let r : is_one_of reserved bs ≡ false = false_from_ne_true (is_one_of reserved bs) (λ one. both_ways (is_some o) none (h.1 one)) in
    rw r refl
