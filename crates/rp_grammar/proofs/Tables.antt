-- Words and symbols are told apart by their texts.
use Rattle.std.proofs.Common.{◌≡◌, ℕ, true, List, [], ◌∷◌, map, refl, sym, ap, ◌∙◌, Some, ⊎_elim}
use Rattle.std.specs.Str.{bytes_eq}
use Rattle.std.proofs.lemmas.Slice.Eq.{bytes_eq-Decides}
use Rattle.rp_grammar.specs.Bytes.{is_one_of, reserved, symbols}
use Rattle.rp_grammar.specs.Spelling.{spelling, mark, words, marks, word_of, symbol_of}
use Rattle.rp_grammar.specs.declared.terminal.Word.{Word}
use Rattle.rp_grammar.specs.declared.terminal.Word.TheVariants as word
use Rattle.rp_grammar.specs.declared.terminal.Symbol.{Symbol}
use Rattle.rp_grammar.specs.declared.terminal.Symbol.TheVariants as symbol
use Rattle.std.proofs.lemmas.Bool.{or_cases}
use Rattle.std.proofs.lemmas.Option.{same_Some}

-- a text of the table is the text of something
one_of_map : {X : Type 0} (text_of : X → List ℕ) (xs : List X) (bytes : List ℕ) → is_one_of (map text_of xs) bytes ≡ true → (x : X) × (bytes ≡ text_of x)
one_of_map text_of [] bytes h = cc
one_of_map text_of (x ∷ xs) bytes h = ⊎_elim
    (λ e. (x, sym ((bytes_eq-Decides (text_of x) bytes).0 e)))
    (λ e. one_of_map text_of xs bytes e)
    (or_cases (bytes_eq (text_of x) bytes) (is_one_of (map text_of xs) bytes) h)

pub some_word : (bytes : List ℕ) → is_one_of reserved bytes ≡ true → (w : Word) × (bytes ≡ spelling w)
some_word bytes h = one_of_map spelling words bytes h

pub some_symbol : (bytes : List ℕ) → is_one_of symbols bytes ≡ true → (m : Symbol) × (bytes ≡ mark m)
some_symbol bytes h = one_of_map mark marks bytes h

pub word_of-spelling : (w : Word) → word_of (spelling w) ≡ Some w
word_of-spelling word.IdType = refl
word_of-spelling word.Type = refl
word_of-spelling word.Datatype = refl
word_of-spelling word.Crdt = refl
word_of-spelling word.Query = refl
word_of-spelling word.Invariant = refl
word_of-spelling word.Proc = refl
word_of-spelling word.Var = refl
word_of-spelling word.Atomic = refl
word_of-spelling word.If = refl
word_of-spelling word.Else = refl
word_of-spelling word.Match = refl
word_of-spelling word.Assert = refl
word_of-spelling word.Return = refl
word_of-spelling word.New = refl
word_of-spelling word.Forall = refl
word_of-spelling word.Exists = refl
word_of-spelling word.True = refl
word_of-spelling word.False = refl
word_of-spelling word.None = refl
word_of-spelling word.Some = refl
word_of-spelling word.Call = refl
word_of-spelling word.Invocation = refl
word_of-spelling word.Visible = refl
word_of-spelling word.Before = refl
word_of-spelling word.Same = refl
word_of-spelling word.Op = refl
word_of-spelling word.Origin = refl
word_of-spelling word.Info = refl
word_of-spelling word.Result = refl
word_of-spelling word.Unreturned = refl
word_of-spelling word.Tx = refl
word_of-spelling word.Returned = refl
word_of-spelling word.Bool = refl
word_of-spelling word.Int = refl
word_of-spelling word.String = refl
word_of-spelling word.Maybe = refl
word_of-spelling word.SetAw = refl
word_of-spelling word.SetRw = refl
word_of-spelling word.Reg = refl
word_of-spelling word.MvReg = refl
word_of-spelling word.Counter = refl
word_of-spelling word.MapUw = refl
word_of-spelling word.MapDw = refl
word_of-spelling word.Requires = refl
word_of-spelling word.Abort = refl

pub symbol_of-mark : (m : Symbol) → symbol_of (mark m) ≡ Some m
symbol_of-mark symbol.OpenBrace = refl
symbol_of-mark symbol.CloseBrace = refl
symbol_of-mark symbol.OpenParen = refl
symbol_of-mark symbol.CloseParen = refl
symbol_of-mark symbol.OpenBracket = refl
symbol_of-mark symbol.CloseBracket = refl
symbol_of-mark symbol.Comma = refl
symbol_of-mark symbol.Semicolon = refl
symbol_of-mark symbol.Colon = refl
symbol_of-mark symbol.DoubleColon = refl
symbol_of-mark symbol.Dot = refl
symbol_of-mark symbol.Assign = refl
symbol_of-mark symbol.Equal = refl
symbol_of-mark symbol.NotEqual = refl
symbol_of-mark symbol.Less = refl
symbol_of-mark symbol.AtMost = refl
symbol_of-mark symbol.Greater = refl
symbol_of-mark symbol.AtLeast = refl
symbol_of-mark symbol.Implies = refl
symbol_of-mark symbol.Arrow = refl
symbol_of-mark symbol.And = refl
symbol_of-mark symbol.Or = refl
symbol_of-mark symbol.Not = refl
symbol_of-mark symbol.Plus = refl
symbol_of-mark symbol.Minus = refl
symbol_of-mark symbol.Bar = refl

pub spelling_inj : (w v : Word) → spelling w ≡ spelling v → w ≡ v
spelling_inj w v h = same_Some w v (sym (word_of-spelling w) ∙ ap word_of h ∙ word_of-spelling v)

pub mark_inj : (m n : Symbol) → mark m ≡ mark n → m ≡ n
mark_inj m n h = same_Some m n (sym (symbol_of-mark m) ∙ ap symbol_of h ∙ symbol_of-mark n)

spelling_reserved : (w : Word) → is_one_of reserved (spelling w) ≡ true
spelling_reserved word.IdType = refl
spelling_reserved word.Type = refl
spelling_reserved word.Datatype = refl
spelling_reserved word.Crdt = refl
spelling_reserved word.Query = refl
spelling_reserved word.Invariant = refl
spelling_reserved word.Proc = refl
spelling_reserved word.Var = refl
spelling_reserved word.Atomic = refl
spelling_reserved word.If = refl
spelling_reserved word.Else = refl
spelling_reserved word.Match = refl
spelling_reserved word.Assert = refl
spelling_reserved word.Return = refl
spelling_reserved word.New = refl
spelling_reserved word.Forall = refl
spelling_reserved word.Exists = refl
spelling_reserved word.True = refl
spelling_reserved word.False = refl
spelling_reserved word.None = refl
spelling_reserved word.Some = refl
spelling_reserved word.Call = refl
spelling_reserved word.Invocation = refl
spelling_reserved word.Visible = refl
spelling_reserved word.Before = refl
spelling_reserved word.Same = refl
spelling_reserved word.Op = refl
spelling_reserved word.Origin = refl
spelling_reserved word.Info = refl
spelling_reserved word.Result = refl
spelling_reserved word.Unreturned = refl
spelling_reserved word.Tx = refl
spelling_reserved word.Returned = refl
spelling_reserved word.Bool = refl
spelling_reserved word.Int = refl
spelling_reserved word.String = refl
spelling_reserved word.Maybe = refl
spelling_reserved word.SetAw = refl
spelling_reserved word.SetRw = refl
spelling_reserved word.Reg = refl
spelling_reserved word.MvReg = refl
spelling_reserved word.Counter = refl
spelling_reserved word.MapUw = refl
spelling_reserved word.MapDw = refl
spelling_reserved word.Requires = refl
spelling_reserved word.Abort = refl

mark_in_symbols : (m : Symbol) → is_one_of symbols (mark m) ≡ true
mark_in_symbols symbol.OpenBrace = refl
mark_in_symbols symbol.CloseBrace = refl
mark_in_symbols symbol.OpenParen = refl
mark_in_symbols symbol.CloseParen = refl
mark_in_symbols symbol.OpenBracket = refl
mark_in_symbols symbol.CloseBracket = refl
mark_in_symbols symbol.Comma = refl
mark_in_symbols symbol.Semicolon = refl
mark_in_symbols symbol.Colon = refl
mark_in_symbols symbol.DoubleColon = refl
mark_in_symbols symbol.Dot = refl
mark_in_symbols symbol.Assign = refl
mark_in_symbols symbol.Equal = refl
mark_in_symbols symbol.NotEqual = refl
mark_in_symbols symbol.Less = refl
mark_in_symbols symbol.AtMost = refl
mark_in_symbols symbol.Greater = refl
mark_in_symbols symbol.AtLeast = refl
mark_in_symbols symbol.Implies = refl
mark_in_symbols symbol.Arrow = refl
mark_in_symbols symbol.And = refl
mark_in_symbols symbol.Or = refl
mark_in_symbols symbol.Not = refl
mark_in_symbols symbol.Plus = refl
mark_in_symbols symbol.Minus = refl
mark_in_symbols symbol.Bar = refl

pub is_word : (bytes : List ℕ) (w : Word) → bytes ≡ spelling w → is_one_of reserved bytes ≡ true
is_word bytes w h = ap (is_one_of reserved) h ∙ spelling_reserved w

pub is_symbol : (bytes : List ℕ) (m : Symbol) → bytes ≡ mark m → is_one_of symbols bytes ≡ true
is_symbol bytes m h = ap (is_one_of symbols) h ∙ mark_in_symbols m
