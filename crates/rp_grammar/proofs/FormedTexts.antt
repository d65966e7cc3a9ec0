-- The tree of a text is formed as trees of texts are, and its names, numbers and strings are such as a text can have.
use Rattle.std.proofs.Common.{◌≡◌, ℕ, ◌+◌, ◌-◌, ◌≤◌, List, [], ◌∷◌, length, take, drop, map, refl, sym, ap, subst, ◌∙◌, arith, length-drop}
use Rattle.std.proofs.Math.Seq.{take-append_seam}
use Rattle.std.proofs.lemmas.List.{drop-drop}
use Rattle.rp_grammar.specs.declared.Token.{Token}
use Rattle.rp_grammar.specs.declared.TokenKind.{TokenKind}
use Rattle.rp_grammar.specs.declared.TokenKind.TheVariants as kind
use Rattle.rp_grammar.specs.declared.Piece.{Piece}
use Rattle.rp_grammar.specs.declared.Piece.TheVariants as piece
use Rattle.rp_grammar.specs.Bytes.{greatest}
use Rattle.rp_grammar.specs.Pieces.{Shape, InRange, Begins}
use Rattle.rp_grammar.specs.Lexed.{Lexed, token_at}
use Rattle.rp_grammar.specs.Terminals.{Terminal, name, word, int, str, symbol, end, Tok, at, Placed, on, plain}
use Rattle.rp_grammar.specs.Toks.{Means, IsTerminal, slice, ToksOf}
use Rattle.rp_grammar.specs.Trees.{DeclTree}
use Rattle.rp_grammar.specs.Texts.{IsText}
use Rattle.rp_grammar.proofs.Formed.{FormedDecls}
use Rattle.rp_grammar.proofs.Moving.{moves}
use Rattle.rp_grammar.proofs.TextTrees.{Kept, Are, program_of}

-- a name that is no word, a number in its range, bytes that a string may mean
abbrev pub Lexable : Terminal → Type 0
Lexable (name n) = Shape kind.Name n
Lexable (word w) = Unit {0}
Lexable (int n) = n ≤ greatest
Lexable (str bytes) = (body : List ℕ) × Means body bytes
Lexable (symbol m) = Unit {0}
Lexable end = ⊥

-- what is known of the token that stands at the front
abbrev Fronts : List ℕ → Piece → Type 0
Fronts bytes (piece.Token k n) = Shape k (take n bytes) × InRange k (take n bytes)
Fronts bytes piece.Ended = Unit {0}
Fronts bytes (piece.Gap n) = Unit {0}
Fronts bytes (piece.Fault n f) = Unit {0}

fronts : {bytes : List ℕ} {found : Piece} → Begins bytes found → Fronts bytes found
fronts Begins.ended = tt
fronts (Begins.blank h) = tt
fronts (Begins.comment body rest h e l) = tt
fronts (Begins.token {k = k} front rest h s l r) =
    let e = sym (ap (take (length front)) h ∙ take-append_seam front rest) in
    (subst (Shape k) e s, subst (InRange k) e r)
fronts (Begins.number_range front rest h s l g) = tt
fronts (Begins.open_string body rest h c e) = tt
fronts (Begins.bad_in_string body b rest h c s) = tt
fronts (Begins.bad_byte n) = tt

lexable : (k : TokenKind) (bytes : List ℕ) (t : Terminal) → Shape k bytes → InRange k bytes → IsTerminal bytes k t → Kept Lexable t
lexable kind.Name bytes t s r i = subst (Kept Lexable) (sym i) s
lexable kind.Word bytes t s r i = subst (Kept Lexable) (sym i.2) tt
lexable kind.Int bytes t s r i = subst (Kept Lexable) (sym i) (r refl)
lexable kind.Str bytes t s r i = subst (Kept Lexable) (sym i.4) (i.0, i.3)
lexable kind.Symbol bytes t s r i = subst (Kept Lexable) (sym i.2) tt
lexable kind.End bytes t s r i = subst (Kept Lexable) (sym i) tt

abbrev AllLexable : List Tok → Type 0
AllLexable [] = Unit {0}
AllLexable (at t s ∷ us) = Kept Lexable t × AllLexable us

-- the tokens of a text from p on
all_lexable : {p : ℕ} {bytes : List ℕ} {tokens : List Token} (text : List ℕ) {us : List Tok} → bytes ≡ drop p text → p ≤ length text
    → Lexed p bytes tokens → ToksOf text tokens us → AllLexable us
all_lexable text h l (Lexed.ended b) (ToksOf.more i ToksOf.none) = (subst (Kept Lexable) (sym i) tt, tt)
all_lexable {p = p} text h l (Lexed.gap {n = n} b x) m =
    let f = moves b in
    let within : p + n ≤ length text = omega (arith, f.1, ap length h, length-drop p text) in
    all_lexable text (ap (drop n) h ∙ drop-drop n p text) within x m
all_lexable {p = p} text h l (Lexed.token {n = n} {k = k} b x) (ToksOf.more {k = t} i m) =
    let f = moves b in
    let within : p + n ≤ length text = omega (arith, f.1, ap length h, length-drop p text) in
    let size : n ≡ p + n - p = omega arith in
    let g = fronts b in
    let same : take n _ ≡ slice text (token_at k p (p + n)).span = ap (take n) h ∙ ap (λ j. take j (drop p text)) size in (
      lexable k (slice text (token_at k p (p + n)).span) t (subst (Shape k) same g.0) (subst (InRange k) same g.1) i,
      all_lexable text (ap (drop n) h ∙ drop-drop n p text) within x m,
    )

placed_lexable : (ms : List Placed) → AllLexable (map plain ms) → Are Lexable ms
placed_lexable [] h = tt
placed_lexable (on k s d ∷ ms) h = (h.0, placed_lexable ms h.1)

pub text_formed : (bytes : List ℕ) (tree : List DeclTree) → IsText bytes tree → FormedDecls Lexable tree
text_formed bytes tree (toks, (tokens, lexed, m), (ms, e, p)) =
    program_of Lexable p (placed_lexable ms (subst AllLexable (sym e) (all_lexable bytes refl (omega arith) lexed m)))
