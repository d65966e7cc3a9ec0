-- The terminals of a text, computed.
use Rattle.std.proofs.Common.{◌≡◌, ℕ, zero, suc, ◌+◌, List, [], ◌∷◌, drop, refl, sym, ap, subst, ◌∙◌, Option, Some, None, ⊎_elim}
use Rattle.std.specs.List.{find}
use Rattle.std.specs.Str.{bytes_eq}
use Rattle.std.proofs.lemmas.Bool.{cases_Bool}
use Rattle.std.proofs.lemmas.Option.{same_Some}
use Rattle.std.proofs.lemmas.Slice.Eq.{bytes_eq-Decides}
use Rattle.rp_grammar.specs.declared.Token.{Token}
use Rattle.rp_grammar.specs.declared.TokenKind.{TokenKind}
use Rattle.rp_grammar.specs.declared.TokenKind.TheVariants as kind
use Rattle.rp_grammar.specs.declared.Piece.{Piece}
use Rattle.rp_grammar.specs.declared.Piece.TheVariants as piece
use Rattle.rp_grammar.specs.declared.terminal.Word.{Word}
use Rattle.rp_grammar.specs.declared.terminal.Symbol.{Symbol}
use Rattle.rp_grammar.specs.Bytes.{value}
use Rattle.rp_grammar.specs.Pieces.{Begins}
use Rattle.rp_grammar.specs.Lexed.{Lexed, token_at}
use Rattle.rp_grammar.specs.Scan.{piece_of}
use Rattle.rp_grammar.specs.Spelling.{spelling, mark, words, marks, word_of, symbol_of}
use Rattle.rp_grammar.specs.Terminals.{Terminal, name, word, int, symbol, end, Tok, at}
use Rattle.rp_grammar.specs.Toks.{IsTerminal, slice, ToksOf}
use Rattle.rp_grammar.specs.Texts.{HasToks}
use Rattle.rp_grammar.proofs.Sound.{sound}

abbrev pub tokens_from : ℕ → ℕ → List ℕ → Piece → Option (List Token)
tokens_from zero p bytes found = None
tokens_from (suc fuel) p bytes piece.Ended = Some (token_at kind.End p p ∷ [])
tokens_from (suc fuel) p bytes (piece.Gap n) = let rest = drop n bytes in tokens_from fuel (p + n) rest (piece_of rest)
tokens_from (suc fuel) p bytes (piece.Token k n) = let rest = drop n bytes in elim (tokens_from fuel (p + n) rest (piece_of rest)) [ None ↦ None | Some ts ↦ Some (token_at k p (p + n) ∷ ts) ]
tokens_from (suc fuel) p bytes (piece.Fault n f) = None

lexed_more : {p n : ℕ} {k : TokenKind} {bytes : List ℕ} (ts : List Token) (o : Option (List Token)) → Begins bytes (piece.Token k n) → ((us : List Token) → o ≡ Some us → Lexed (p + n) (drop n bytes) us)
    → elim o [ None ↦ None | Some us ↦ Some (token_at k p (p + n) ∷ us) ] ≡ Some ts → Lexed p bytes ts
lexed_more ts None b m h = cc
lexed_more {p = p} {n = n} {k = k} {bytes = bytes} ts (Some us) b m h = subst (Lexed p bytes) (same_Some (token_at k p (p + n) ∷ us) ts h) (Lexed.token b (m us refl))

-- what is computed are the tokens
lexed_from : (fuel p : ℕ) (bytes : List ℕ) (found : Piece) (ts : List Token) → Begins bytes found → tokens_from fuel p bytes found ≡ Some ts → Lexed p bytes ts
lexed_from zero p bytes found ts b h = cc
lexed_from (suc fuel) p bytes piece.Ended ts b h = subst (Lexed p bytes) (same_Some (token_at kind.End p p ∷ []) ts h) (Lexed.ended b)
lexed_from (suc fuel) p bytes (piece.Gap n) ts b h = Lexed.gap b (lexed_from fuel (p + n) (drop n bytes) (piece_of (drop n bytes)) ts (sound (drop n bytes)) h)
lexed_from (suc fuel) p bytes (piece.Token k n) ts b h = lexed_more ts (tokens_from fuel (p + n) (drop n bytes) (piece_of (drop n bytes))) b (λ us. lexed_from fuel (p + n) (drop n bytes) (piece_of (drop n bytes)) us (sound (drop n bytes))) h
lexed_from (suc fuel) p bytes (piece.Fault n f) ts b h = cc

pub lexed : (fuel : ℕ) (bytes : List ℕ) (ts : List Token) → tokens_from fuel 0 bytes (piece_of bytes) ≡ Some ts → Lexed 0 bytes ts
lexed fuel bytes ts h = lexed_from fuel 0 bytes (piece_of bytes) ts (sound bytes) h

-- what is found in a table has this text
pub found : {X : Type 0} (text_of : X → List ℕ) (xs : List X) (bytes : List ℕ) (x : X) → find (λ x. bytes_eq (text_of x) bytes) xs ≡ Some x → bytes ≡ text_of x
found text_of [] bytes x h = cc
found text_of (y ∷ ys) bytes x h = ⊎_elim
    (λ e. let same = same_Some y x (sym (rw e refl) ∙ h) in sym ((bytes_eq-Decides (text_of y) bytes).0 e) ∙ ap text_of same)
    (λ e. found text_of ys bytes x (sym (rw e refl) ∙ h))
    (cases_Bool (bytes_eq (text_of y) bytes))

-- the terminal of a token other than a string
abbrev pub terminal_of : List ℕ → TokenKind → Option Terminal
terminal_of bytes kind.Name = Some (name bytes)
terminal_of bytes kind.Word = elim (word_of bytes) [ None ↦ None | Some w ↦ Some (word w) ]
terminal_of bytes kind.Int = Some (int (value bytes))
terminal_of bytes kind.Str = None
terminal_of bytes kind.Symbol = elim (symbol_of bytes) [ None ↦ None | Some m ↦ Some (symbol m) ]
terminal_of bytes kind.End = Some end

word_terminal : (bytes : List ℕ) (o : Option Word) (t : Terminal) → word_of bytes ≡ o → elim o [ None ↦ None | Some w ↦ Some (word w) ] ≡ Some t → IsTerminal bytes kind.Word t
word_terminal bytes None t e h = cc
word_terminal bytes (Some w) t e h = (w, found spelling words bytes w e, sym (same_Some (word w) t h))

symbol_terminal : (bytes : List ℕ) (o : Option Symbol) (t : Terminal) → symbol_of bytes ≡ o → elim o [ None ↦ None | Some m ↦ Some (symbol m) ] ≡ Some t → IsTerminal bytes kind.Symbol t
symbol_terminal bytes None t e h = cc
symbol_terminal bytes (Some m) t e h = (m, found mark marks bytes m e, sym (same_Some (symbol m) t h))

terminal : (bytes : List ℕ) (k : TokenKind) (t : Terminal) → terminal_of bytes k ≡ Some t → IsTerminal bytes k t
terminal bytes kind.Name t h = sym (same_Some (name bytes) t h)
terminal bytes kind.Word t h = word_terminal bytes (word_of bytes) t refl h
terminal bytes kind.Int t h = sym (same_Some (int (value bytes)) t h)
terminal bytes kind.Str t h = cc
terminal bytes kind.Symbol t h = symbol_terminal bytes (symbol_of bytes) t refl h
terminal bytes kind.End t h = sym (same_Some end t h)

abbrev pub toks_from : List ℕ → List Token → Option (List Tok)
toks_from text [] = Some []
toks_from text (t ∷ ts) = elim (terminal_of (slice text t.span) t.kind) [ None ↦ None | Some k ↦ elim (toks_from text ts) [ None ↦ None | Some us ↦ Some (at k t.span ∷ us) ] ]

toks_more : (text : List ℕ) (t : Token) (ts : List Token) (o : Option Terminal) (r : Option (List Tok)) (us : List Tok) → terminal_of (slice text t.span) t.kind ≡ o → ((vs : List Tok) → r ≡ Some vs → ToksOf text ts vs)
    → elim o [ None ↦ None | Some k ↦ elim r [ None ↦ None | Some vs ↦ Some (at k t.span ∷ vs) ] ] ≡ Some us → ToksOf text (t ∷ ts) us
toks_more text t ts None r us e m h = cc
toks_more text t ts (Some k) None us e m h = cc
toks_more text t ts (Some k) (Some vs) us e m h = subst (ToksOf text (t ∷ ts)) (same_Some (at k t.span ∷ vs) us h) (ToksOf.more (terminal (slice text t.span) t.kind k e) (m vs refl))

toks : (text : List ℕ) (ts : List Token) (us : List Tok) → toks_from text ts ≡ Some us → ToksOf text ts us
toks text [] us h = subst (ToksOf text []) (same_Some [] us h) ToksOf.none
toks text (t ∷ ts) us h = toks_more text t ts (terminal_of (slice text t.span) t.kind) (toks_from text ts) us refl (toks text ts) h

-- the terminals of a text without strings
abbrev pub toks_of : List ℕ → Option (List Tok)
toks_of text = elim (tokens_from 1000 0 text (piece_of text)) [ None ↦ None | Some ts ↦ toks_from text ts ]

text_toks : (text : List ℕ) (o : Option (List Token)) (us : List Tok) → tokens_from 1000 0 text (piece_of text) ≡ o → elim o [ None ↦ None | Some ts ↦ toks_from text ts ] ≡ Some us → HasToks text us
text_toks text None us e h = cc
text_toks text (Some ts) us e h = (ts, lexed 1000 text ts e, toks text ts us h)

-- what is computed are the text's terminals
pub has_toks : (text : List ℕ) (us : List Tok) → toks_of text ≡ Some us → HasToks text us
has_toks text us h = text_toks text (tokens_from 1000 0 text (piece_of text)) us refl h
