-- The machine on statements and blocks.
use Rattle.std.specs.Prelude.{ℕ, suc, [], refl, Option, Some, None}
use Rattle.rp_span.specs.declared.Span.{Span}
use Rattle.rp_grammar.specs.declared.terminal.Word.{Word}
use Rattle.rp_grammar.specs.declared.terminal.Word.TheVariants as word
use Rattle.rp_grammar.specs.declared.terminal.Symbol.TheVariants as symbol
use Rattle.rp_grammar.specs.Terminals.{Terminal, name, word}
use Rattle.rp_grammar.specs.Trees.{Ident, ident, ExprTree, BlockTree, StmtTree, StmtForm, ElseTree, stmts, block_arms}
use Rattle.rp_grammar.specs.Parts.{join, tree_of, extent_of}
use Rattle.rp_grammar.specs.Stmts.{stmt_span, block_span}
use Rattle.rp_tokens.specs.MachineStates.{ident_span, State, want_symbol, want_name, if_symbol, if_word, want_type, in_access, in_stmts, more_if, in_block_arms, Move, to}
use Rattle.rp_tokens.specs.MachineExprs.{want_expr, want_parens}

-- {stmt} "}" behind the brace at o
abbrev pub in_block : ℕ → Span → (BlockTree → State) → State
in_block d o k = in_stmts (suc d) [] (λ xs. want_symbol symbol.CloseBrace refl d (λ c. k (BlockTree.block (join o c) (stmts xs))))

-- block
abbrev pub want_block : ℕ → (BlockTree → State) → State
want_block d k = want_symbol symbol.OpenBrace refl d (λ o. in_block d o k)

-- expr ";"
abbrev pub want_sentence : ℕ → (ExprTree → Span → State) → State
want_sentence d k = want_expr d (λ e. want_symbol symbol.Semicolon refl d (λ z. k (tree_of e) z))

-- "(" expr ")" block ["else" (block | ifstmt)] behind the word at s
abbrev pub in_if : ℕ → Span → (StmtTree → State) → State
in_if d s k = want_parens d (λ e c. want_block d (λ b. more_if d s (tree_of e) b k))

-- block | ifstmt, behind "else"
abbrev pub want_else : ℕ → Span → ExprTree → BlockTree → (StmtTree → State) → State
want_else d s e b k =
    if_word word.If (suc d)
    (λ t. in_if (suc d) t (λ x. k (StmtTree.node (join s (stmt_span x)) (StmtForm.if_ e b (ElseTree.else_if x)))))
    (want_block d (λ c. k (StmtTree.node (join s (block_span c)) (StmtForm.if_ e b (ElseTree.else_block c)))))

-- without an `else`
abbrev pub alone : Span → ExprTree → BlockTree → StmtTree
alone s e b = StmtTree.node (join s (block_span b)) (StmtForm.if_ e b ElseTree.no_else)

-- (NAME "=") is read, and then "new" NAME ";" | expr ";"
abbrev pub want_value : ℕ → Ident → (StmtTree → State) → State
want_value d n k =
    if_word word.New d
    (λ w. want_name d (λ m. want_symbol symbol.Semicolon refl d (λ z. k (StmtTree.node (join (ident_span n) z) (StmtForm.new n m)))))
    (want_sentence d (λ e z. k (StmtTree.node (join (ident_span n) z) (StmtForm.assign n e))))

-- an access as a statement, but for its root
abbrev pub in_access_stmt : ℕ → Ident → (StmtTree → State) → State
in_access_stmt d n k =
    in_access d n [] (ident_span n) (λ a.
    want_symbol symbol.Semicolon refl d (λ z. k (StmtTree.node (join (extent_of a) z) (StmtForm.access (tree_of a)))))

-- a statement that begins with a name, behind the name
abbrev pub in_named : ℕ → Ident → (StmtTree → State) → State
in_named d n k = if_symbol symbol.Assign d (λ q. want_value d n k) (in_access_stmt d n k)

-- NAME ":" type ["=" expr] ";" behind the word at s
abbrev pub in_var : ℕ → Span → (StmtTree → State) → State
in_var d s k =
    want_name d (λ n. want_symbol symbol.Colon refl d (λ c. want_type d (λ t.
    if_symbol symbol.Assign d
    (λ q. want_sentence d (λ e z. k (StmtTree.node (join s z) (StmtForm.var n t (Some e)))))
    (want_symbol symbol.Semicolon refl d (λ z. k (StmtTree.node (join s z) (StmtForm.var n t None)))))))

-- "(" expr ")" "{" {pattern "=>" block} "}" behind the word at s
abbrev pub in_match : ℕ → Span → (StmtTree → State) → State
in_match d s k =
    want_parens d (λ e c. want_symbol symbol.OpenBrace refl d (λ b. in_block_arms (suc d) [] (λ as_.
    want_symbol symbol.CloseBrace refl d (λ x. k (StmtTree.node (join s x) (StmtForm.match (tree_of e) (block_arms as_)))))))

-- [expr] ";" behind the word at s
abbrev pub in_return : ℕ → Span → (StmtTree → State) → State
in_return d s k =
    if_symbol symbol.Semicolon d
    (λ z. k (StmtTree.node (join s z) (StmtForm.return None)))
    (want_sentence d (λ e z. k (StmtTree.node (join s z) (StmtForm.return (Some e)))))

abbrev pub stmt_word : ℕ → (StmtTree → State) → Word → Span → Option Move
stmt_word d k word.Var s = Some (to d (in_var d s k))
stmt_word d k word.If s = Some (to d (in_if d s k))
stmt_word d k word.Match s = Some (to d (in_match d s k))
stmt_word d k word.Atomic s = Some (to d (want_block d (λ b. k (StmtTree.node (join s (block_span b)) (StmtForm.atomic b)))))
stmt_word d k word.Assert s = Some (to d (want_sentence d (λ e z. k (StmtTree.node (join s z) (StmtForm.assert e)))))
stmt_word d k word.Return s = Some (to d (in_return d s k))
stmt_word d k _ s = None

-- the first token of a statement
abbrev pub stmt_step : ℕ → (StmtTree → State) → Terminal → Span → Option Move
stmt_step d k (name n) s = Some (to d (in_named d (ident n s) k))
stmt_step d k (word w) s = stmt_word d k w s
stmt_step d k _ s = None

-- "=>" block behind a pattern
abbrev pub in_block_arm : ℕ → (BlockTree → State) → State
in_block_arm d k = want_symbol symbol.Arrow refl d (λ a. want_block d k)
