-- Where the machine stands behind the first token of a statement, and behind an `else`: at the nesting d, the token at s, and k behind the statement.
use Rattle.std.specs.Prelude.{ℕ, suc, ◌<◌}
use Rattle.rp_span.specs.declared.Span.{Span}
use Rattle.rp_grammar.specs.Trees.{ident, ExprTree, BlockTree, StmtTree, StmtForm, ElseTree}
use Rattle.rp_grammar.specs.Parts.{join}
use Rattle.rp_grammar.specs.Stmts.{block_span, stmt_span}
use Rattle.rp_tokens.specs.MachineStates.{State}
use Rattle.rp_tokens.specs.MachineStmts.{want_block, want_sentence, in_if, in_named, in_var, in_match, in_return}
use Rattle.rp_parser.specs.declared.stmt_starts.StmtStart.{StmtStart}
use Rattle.rp_parser.specs.declared.stmt_starts.StmtStart.TheVariants as start
use Rattle.rp_parser.specs.declared.stmt_starts.ElseStart.{ElseStart}
use Rattle.rp_parser.specs.declared.stmt_starts.ElseStart.TheVariants as behind

-- an atomic block behind its word
abbrev pub in_atomic : ℕ → Span → (StmtTree → State) → State
in_atomic d s k = want_block d (λ b. k (StmtTree.node (join s (block_span b)) (StmtForm.atomic b)))

-- an assertion behind its word
abbrev pub in_assert : ℕ → Span → (StmtTree → State) → State
in_assert d s k = want_sentence d (λ e z. k (StmtTree.node (join s z) (StmtForm.assert e)))

abbrev pub stmt_next : ℕ → (StmtTree → State) → Span → StmtStart → State
stmt_next d k s (start.Name bytes) = in_named d (ident bytes.now s) k
stmt_next d k s start.Var = in_var d s k
stmt_next d k s start.If = in_if d s k
stmt_next d k s start.Match = in_match d s k
stmt_next d k s start.Atomic = in_atomic d s k
stmt_next d k s start.Assert = in_assert d s k
stmt_next d k s start.Return = in_return d s k

-- a further `if` behind an `else`, of the `if` at s
abbrev pub in_else_if : ℕ → Span → ExprTree → BlockTree → (StmtTree → State) → Span → State
in_else_if d s e b k t = in_if (suc d) t (λ x. k (StmtTree.node (join s (stmt_span x)) (StmtForm.if_ e b (ElseTree.else_if x))))

-- the block behind an `else`, of the `if` at s
abbrev pub want_else_block : ℕ → Span → ExprTree → BlockTree → (StmtTree → State) → State
want_else_block d s e b k = want_block d (λ c. k (StmtTree.node (join s (block_span c)) (StmtForm.if_ e b (ElseTree.else_block c))))

abbrev pub else_next : ℕ → Span → ExprTree → BlockTree → (StmtTree → State) → ElseStart → State
else_next d s e b k (behind.If t) = in_else_if d s e b k t
else_next d s e b k behind.Block = want_else_block d s e b k

-- an `if` behind an `else` isn't nested too deep
abbrev pub IsWithin : ℕ → ElseStart → Type 0
IsWithin d (behind.If t) = d < 64
IsWithin d behind.Block = Unit {0}
