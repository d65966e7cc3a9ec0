-- Where the machine stands inside statements that hold no block.
use Rattle.std.specs.Prelude.{ℕ, refl, Some, None}
use Rattle.rp_span.specs.declared.Span.{Span}
use Rattle.rp_grammar.specs.declared.terminal.Symbol.TheVariants as symbol
use Rattle.rp_grammar.specs.Trees.{Ident, TypeTree, StmtTree, StmtForm}
use Rattle.rp_grammar.specs.Parts.{join}
use Rattle.rp_tokens.specs.MachineStates.{ident_span, State, want_symbol, want_name, if_symbol}
use Rattle.rp_tokens.specs.MachineStmts.{want_sentence}

-- NAME ";" behind (NAME "=" "new")
abbrev pub want_new : ℕ → Ident → (StmtTree → State) → State
want_new d n k = want_name d (λ m. want_symbol symbol.Semicolon refl d (λ z. k (StmtTree.node (join (ident_span n) z) (StmtForm.new n m))))

-- ["=" expr] ";" behind the type of the variable n, whose statement starts at s
abbrev pub in_initial : ℕ → Span → Ident → TypeTree → (StmtTree → State) → State
in_initial d s n t k =
    if_symbol symbol.Assign d
    (λ q. want_sentence d (λ e z. k (StmtTree.node (join s z) (StmtForm.var n t (Some e)))))
    (want_symbol symbol.Semicolon refl d (λ z. k (StmtTree.node (join s z) (StmtForm.var n t None))))
