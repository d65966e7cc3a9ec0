-- Statements and blocks. `Phrase d ts x r`: at the nesting d, the tokens ts are those of a phrase that spells x, and then the tokens r.
use Rattle.std.specs.Prelude.{ℕ, suc, List, [], ◌∷◌, Some, None}
use Rattle.rp_span.specs.declared.Span.{Span}
use Rattle.rp_grammar.specs.declared.terminal.Word.TheVariants as word
use Rattle.rp_grammar.specs.declared.terminal.Symbol.TheVariants as symbol
use Rattle.rp_grammar.specs.Terminals.{name, word, symbol, Placed, on}
use Rattle.rp_grammar.specs.Trees.{ident, TypeTree, PatternTree, ExprTree, AccessTree, BlockTree, StmtTree, StmtForm, ElseTree, BlockArmTree, stmts, block_arms}
use Rattle.rp_grammar.specs.Parts.{join, Part, tree_of, extent_of}
use Rattle.rp_grammar.specs.Types.{TypePhrase}
use Rattle.rp_grammar.specs.Exprs.{Pattern, Expr, Access}

abbrev pub stmt_span : StmtTree → Span
stmt_span (StmtTree.node s f) = s

abbrev pub block_span : BlockTree → Span
block_span (BlockTree.block s es) = s

mutual
  -- block = "{" {stmt} "}"
  pub data Block : ℕ → List Placed → BlockTree → List Placed → Type 0 where
    block : {d : ℕ} {o c : Span} {ts r : List Placed} {xs : List StmtTree}
        → Stmts (suc d) ts xs (on (symbol symbol.CloseBrace) c d ∷ r)
        → Block d (on (symbol symbol.OpenBrace) o d ∷ ts) (BlockTree.block (join o c) (stmts xs)) r

  -- {stmt}
  pub data Stmts : ℕ → List Placed → List StmtTree → List Placed → Type 0 where
    no_stmt : {d : ℕ} {r : List Placed} → Stmts d r [] r
    more_stmts : {d : ℕ} {ts r u : List Placed} {x : StmtTree} {xs : List StmtTree}
        → Stmt d ts x r → Stmts d r xs u
        → Stmts d ts (x ∷ xs) u

  -- stmt = "var" NAME ":" type ["=" expr] ";" | NAME "=" "new" NAME ";" | NAME "=" expr ";" | access ";" | ifstmt
  --      | "match" "(" expr ")" "{" {pattern "=>" block} "}" | "atomic" block | "assert" expr ";" | "return" [expr] ";"
  pub data Stmt : ℕ → List Placed → StmtTree → List Placed → Type 0 where
    var : {d : ℕ} {n : List ℕ} {s v c z : Span} {ts r : List Placed} {t : TypeTree}
        → TypePhrase d ts t (on (symbol symbol.Semicolon) z d ∷ r)
        → Stmt d (on (word word.Var) s d ∷ on (name n) v d ∷ on (symbol symbol.Colon) c d ∷ ts) (StmtTree.node (join s z) (StmtForm.var (ident n v) t None)) r
    var_set : {d : ℕ} {n : List ℕ} {s v c q z : Span} {ts us r : List Placed} {t : TypeTree} {e : Part ExprTree}
        → TypePhrase d ts t (on (symbol symbol.Assign) q d ∷ us) → Expr d us e (on (symbol symbol.Semicolon) z d ∷ r)
        → Stmt d (on (word word.Var) s d ∷ on (name n) v d ∷ on (symbol symbol.Colon) c d ∷ ts) (StmtTree.node (join s z) (StmtForm.var (ident n v) t (Some (tree_of e)))) r
    new : {d : ℕ} {n m : List ℕ} {s q w t z : Span} {r : List Placed}
        → Stmt d (on (name n) s d ∷ on (symbol symbol.Assign) q d ∷ on (word word.New) w d ∷ on (name m) t d ∷ on (symbol symbol.Semicolon) z d ∷ r) (StmtTree.node (join s z) (StmtForm.new (ident n s) (ident m t))) r
    assign : {d : ℕ} {n : List ℕ} {s q z : Span} {ts r : List Placed} {e : Part ExprTree}
        → Expr d ts e (on (symbol symbol.Semicolon) z d ∷ r)
        → Stmt d (on (name n) s d ∷ on (symbol symbol.Assign) q d ∷ ts) (StmtTree.node (join s z) (StmtForm.assign (ident n s) (tree_of e))) r
    access : {d : ℕ} {z : Span} {ts r : List Placed} {a : Part AccessTree}
        → Access d ts a (on (symbol symbol.Semicolon) z d ∷ r)
        → Stmt d ts (StmtTree.node (join (extent_of a) z) (StmtForm.access (tree_of a))) r
    if_ : {d : ℕ} {ts r : List Placed} {x : StmtTree} → IfStmt d ts x r → Stmt d ts x r
    match : {d : ℕ} {s o c b x : Span} {ts us r : List Placed} {e : Part ExprTree} {as_ : List BlockArmTree}
        → Expr (suc d) ts e (on (symbol symbol.CloseParen) c d ∷ on (symbol symbol.OpenBrace) b d ∷ us)
        → BlockArms (suc d) us as_ (on (symbol symbol.CloseBrace) x d ∷ r)
        → Stmt d (on (word word.Match) s d ∷ on (symbol symbol.OpenParen) o d ∷ ts) (StmtTree.node (join s x) (StmtForm.match (tree_of e) (block_arms as_))) r
    atomic : {d : ℕ} {s : Span} {ts r : List Placed} {b : BlockTree}
        → Block d ts b r
        → Stmt d (on (word word.Atomic) s d ∷ ts) (StmtTree.node (join s (block_span b)) (StmtForm.atomic b)) r
    assert : {d : ℕ} {s z : Span} {ts r : List Placed} {e : Part ExprTree}
        → Expr d ts e (on (symbol symbol.Semicolon) z d ∷ r)
        → Stmt d (on (word word.Assert) s d ∷ ts) (StmtTree.node (join s z) (StmtForm.assert (tree_of e))) r
    return : {d : ℕ} {s z : Span} {r : List Placed}
        → Stmt d (on (word word.Return) s d ∷ on (symbol symbol.Semicolon) z d ∷ r) (StmtTree.node (join s z) (StmtForm.return None)) r
    return_value : {d : ℕ} {s z : Span} {ts r : List Placed} {e : Part ExprTree}
        → Expr d ts e (on (symbol symbol.Semicolon) z d ∷ r)
        → Stmt d (on (word word.Return) s d ∷ ts) (StmtTree.node (join s z) (StmtForm.return (Some (tree_of e)))) r

  -- ifstmt = "if" "(" expr ")" block ["else" (block | ifstmt)]
  pub data IfStmt : ℕ → List Placed → StmtTree → List Placed → Type 0 where
    branch : {d : ℕ} {s o c : Span} {ts us r u : List Placed} {e : Part ExprTree} {b : BlockTree} {x : StmtTree}
        → Expr (suc d) ts e (on (symbol symbol.CloseParen) c d ∷ us) → Block d us b r → Else d s (tree_of e) b r x u
        → IfStmt d (on (word word.If) s d ∷ on (symbol symbol.OpenParen) o d ∷ ts) x u

  -- ["else" (block | ifstmt)] behind an `if` that starts at s, its condition and its block; an `if` behind `else` encloses itself
  pub data Else : ℕ → Span → ExprTree → BlockTree → List Placed → StmtTree → List Placed → Type 0 where
    no_else : {d : ℕ} {s : Span} {e : ExprTree} {b : BlockTree} {r : List Placed}
        → Else d s e b r (StmtTree.node (join s (block_span b)) (StmtForm.if_ e b ElseTree.no_else)) r
    else_block : {d : ℕ} {s w : Span} {e : ExprTree} {b c : BlockTree} {ts r : List Placed}
        → Block d ts c r
        → Else d s e b (on (word word.Else) w d ∷ ts) (StmtTree.node (join s (block_span c)) (StmtForm.if_ e b (ElseTree.else_block c))) r
    else_if : {d : ℕ} {s w : Span} {e : ExprTree} {b : BlockTree} {x : StmtTree} {ts r : List Placed}
        → IfStmt (suc d) ts x r
        → Else d s e b (on (word word.Else) w d ∷ ts) (StmtTree.node (join s (stmt_span x)) (StmtForm.if_ e b (ElseTree.else_if x))) r

  -- {pattern "=>" block}
  pub data BlockArms : ℕ → List Placed → List BlockArmTree → List Placed → Type 0 where
    no_arm : {d : ℕ} {r : List Placed} → BlockArms d r [] r
    more_arms : {d : ℕ} {a : Span} {ts us r u : List Placed} {p : PatternTree} {b : BlockTree} {as_ : List BlockArmTree}
        → Pattern d ts p (on (symbol symbol.Arrow) a d ∷ us) → Block d us b r → BlockArms d r as_ u
        → BlockArms d ts (BlockArmTree.arm p b ∷ as_) u
