-- The tokens of a text have one list of terminals.
use Rattle.std.proofs.Common.{◌≡◌, ℕ, List, [], ◌∷◌, ◌++◌, refl, sym, ap, subst, ◌∙◌, arith}
use Rattle.std.proofs.lemmas.List.{append_cancel_right}
use Rattle.std.specs.List.{AllByRecursion}
use Rattle.rp_grammar.specs.declared.Token.{Token}
use Rattle.rp_grammar.specs.declared.TokenKind.{TokenKind}
use Rattle.rp_grammar.specs.declared.TokenKind.TheVariants as kind
use Rattle.rp_grammar.specs.Bytes.{value}
use Rattle.rp_grammar.specs.Pieces.{Shape, Chars}
use Rattle.rp_grammar.specs.Pieces as pieces
use Rattle.rp_grammar.specs.Lexed.{Lexed, Spelled, token_at}
use Rattle.rp_grammar.specs.Terminals.{Terminal, name, word, int, str, symbol, end, Tok, at}
use Rattle.rp_grammar.specs.Toks.{Means, IsTerminal, slice, ToksOf}
use Rattle.rp_grammar.specs.Toks as toks
use Rattle.rp_grammar.specs.Begins.{EndsInEnd}
use Rattle.rp_grammar.specs.Texts.{HasToks}
use Rattle.rp_grammar.proofs.Places.{ends_at, all_spelled}
use Rattle.rp_grammar.proofs.Unique.{one_lexing}
use Rattle.rp_grammar.proofs.Tables.{some_word, some_symbol, spelling_inj, mark_inj}

one_meaning : {bs ms ns : List ℕ} → Means bs ms → Means bs ns → ms ≡ ns
one_meaning toks.Means.none toks.Means.none = refl
one_meaning (toks.Means.plain {b = b} p m) (toks.Means.plain q n) = ap (λ ms. b ∷ ms) (one_meaning m n)
one_meaning (toks.Means.plain p m) (toks.Means.escape q n) = cc
one_meaning (toks.Means.escape p m) (toks.Means.plain q n) = cc
one_meaning (toks.Means.escape {b = b} p m) (toks.Means.escape q n) = ap (λ ms. toks.escaped b ∷ ms) (one_meaning m n)

some_meaning : {bs : List ℕ} → Chars bs → (ms : List ℕ) × Means bs ms
some_meaning pieces.Chars.none = ([], toks.Means.none)
some_meaning (pieces.Chars.plain {b = b} p c) = let (ms, m) = some_meaning c in (b ∷ ms, toks.Means.plain p m)
some_meaning (pieces.Chars.escape {b = b} p c) = let (ms, m) = some_meaning c in (toks.escaped b ∷ ms, toks.Means.escape p m)

inside : (a b : List ℕ) → 34 ∷ (a ++ 34 ∷ []) ≡ 34 ∷ (b ++ 34 ∷ []) → a ≡ b
inside a b h = let e : a ++ 34 ∷ [] ≡ b ++ 34 ∷ [] = cc in append_cancel_right a b (34 ∷ []) e

one_terminal : (bytes : List ℕ) (k : TokenKind) (t u : Terminal) → IsTerminal bytes k t → IsTerminal bytes k u → t ≡ u
one_terminal bytes kind.Name t u h i = h ∙ sym i
one_terminal bytes kind.Word t u (w, g, h) (v, f, i) = h ∙ ap word (spelling_inj w v (sym g ∙ f)) ∙ sym i
one_terminal bytes kind.Int t u h i = h ∙ sym i
one_terminal bytes kind.Str t u (a, ms, g, m, h) (b, ns, f, n, i) = let same = inside a b (sym g ∙ f) in h ∙ ap str (one_meaning (subst (λ a. Means a ms) same m) n) ∙ sym i
one_terminal bytes kind.Symbol t u (m, g, h) (n, f, i) = h ∙ ap symbol (mark_inj m n (sym g ∙ f)) ∙ sym i
one_terminal bytes kind.End t u h i = h ∙ sym i

some_terminal : {bytes : List ℕ} {k : TokenKind} → Shape k bytes → (t : Terminal) × IsTerminal bytes k t
some_terminal {bytes = bytes} (pieces.Shape.name a e n) = (name bytes, refl)
some_terminal {bytes = bytes} (pieces.Shape.word h) = let (w, e) = some_word bytes h in (word w, (w, e, refl))
some_terminal {bytes = bytes} (pieces.Shape.int a e) = (int (value bytes), refl)
some_terminal (pieces.Shape.str body h c) = let (ms, m) = some_meaning c in (str ms, (body, ms, h, m, refl))
some_terminal {bytes = bytes} (pieces.Shape.symbol h) = let (m, e) = some_symbol bytes h in (symbol m, (m, e, refl))

pub one_toks : {text : List ℕ} {ts : List Token} {us vs : List Tok} → ToksOf text ts us → ToksOf text ts vs → us ≡ vs
one_toks toks.ToksOf.none toks.ToksOf.none = refl
one_toks {text = text} (toks.ToksOf.more {t = t} {k = k} {us = us} a m) (toks.ToksOf.more {k = l} {us = vs} b n) =
    ap (λ k. at k t.span ∷ us) (one_terminal (slice text t.span) t.kind k l a b) ∙ ap (λ us. at l t.span ∷ us) (one_toks m n)

by_kind : {bytes : List ℕ} (k : TokenKind) → ((k ≡ kind.End → ⊥) → Shape k bytes) → (t : Terminal) × IsTerminal bytes k t
by_kind kind.Name form = some_terminal (form (λ e. cc))
by_kind kind.Word form = some_terminal (form (λ e. cc))
by_kind kind.Int form = some_terminal (form (λ e. cc))
by_kind kind.Str form = some_terminal (form (λ e. cc))
by_kind kind.Symbol form = some_terminal (form (λ e. cc))
by_kind kind.End form = (end, refl)

token_terminal : (text : List ℕ) (t : Token) → Spelled text t → (k : Terminal) × IsTerminal (slice text t.span) t.kind k
token_terminal text t (low, high, form) = by_kind t.kind form

pub some_toks : (text : List ℕ) (ts : List Token) → AllByRecursion (Spelled text) ts → (us : List Tok) × ToksOf text ts us
some_toks text [] a = ([], toks.ToksOf.none)
some_toks text (t ∷ ts) (s, a) =
    let (k, i) = token_terminal text t s in
    let (us, m) = some_toks text ts a in
    (at k t.span ∷ us, toks.ToksOf.more i m)

toks_append : {text : List ℕ} (ts : List Token) (n : ℕ) {us : List Tok} → ToksOf text (ts ++ token_at kind.End n n ∷ []) us → EndsInEnd us
toks_append [] n (toks.ToksOf.more i toks.ToksOf.none) = ([], _, ap (λ k. at k (token_at kind.End n n).span ∷ []) i)
toks_append (t ∷ ts) n (toks.ToksOf.more {k = k} i m) = let (front, s, h) = toks_append ts n m in (at k t.span ∷ front, s, ap (λ us. at k t.span ∷ us) h)

pub one_text_toks : (bytes : List ℕ) (us vs : List Tok) → HasToks bytes us → HasToks bytes vs → us ≡ vs
one_text_toks bytes us vs (ts, l, m) (rs, k, n) = one_toks m (subst (λ ts. ToksOf bytes ts vs) (one_lexing k l) n)

pub some_text_toks : (bytes : List ℕ) (ts : List Token) → Lexed 0 bytes ts → (us : List Tok) × HasToks bytes us
some_text_toks bytes ts l = let (us, m) = some_toks bytes ts (all_spelled bytes refl (omega arith) l) in (us, (ts, l, m))

pub text_ends_in_end : (bytes : List ℕ) (us : List Tok) → HasToks bytes us → EndsInEnd us
text_ends_in_end bytes us (ts, l, m) =
    let (front, h) = ends_at l in
    toks_append front _ (subst (λ ts. ToksOf bytes ts us) h m)
