-- The printed terminals of a statement are those of a phrase that spells the same, spans aside.
use Rattle.std.proofs.Common.{ℕ, suc, List, [], ◌∷◌, ◌++◌, Some, None, refl}
use Rattle.rp_span.specs.declared.Span.{Span}
use Rattle.rp_print.specs.declared.Place.TheVariants as place
use Rattle.rp_grammar.specs.declared.terminal.Word.TheVariants as word
use Rattle.rp_grammar.specs.declared.terminal.Symbol.TheVariants as symbol
use Rattle.rp_grammar.specs.Terminals.{Terminal, name, word, symbol, Placed}
use Rattle.rp_grammar.specs.Trees.{ident, TypeTree, PatternTree, ExprTree, AccessTree, BlockTree, StmtTree, StmtForm, StmtTrees, stmts, ElseTree, BlockArmTree, BlockArmTrees, block_arms}
use Rattle.rp_grammar.specs.Stmts.{Block, Stmts, Stmt, IfStmt, Else, BlockArms}
use Rattle.rp_print.specs.Printed.{expr_terminals, block_terminals, stmts_terminals, stmt_terminals, stmt_form_terminals, else_terminals, block_arms_terminals}
use Rattle.rp_print.specs.Alike.{ExprsAlike, BlocksAlike, ListsAlike, StmtsAlike, BlockArmsAlike}
use Rattle.rp_grammar.proofs.Formed.{FormedBlock, FormedStmts, FormedStmt, FormedStmtForm, FormedElse, FormedBlockArms}
use Rattle.rp_print.proofs.Spells.{Key, key, Then, then_, Empty, empty, Spells, one, none, turned, both, keyed}
use Rattle.rp_print.proofs.BackTypes.{TypeAs, type_back, Enclosed, enclosed_in, Braced, braced}
use Rattle.rp_print.proofs.BackExprs.{PatternAs, pattern_back, Whole, whole_back, AccessAs, access_back}

abbrev pub BlockAs : ℕ → BlockTree → List Placed → List Placed → Type 0
BlockAs d b ms r = (c : BlockTree) × Block d ms c r × BlocksAlike b c

abbrev StmtAs : ℕ → StmtTree → List Placed → List Placed → Type 0
StmtAs d x ms r = (y : StmtTree) × Stmt d ms y r × StmtsAlike x y

abbrev StmtsAs : ℕ → StmtTrees → List Placed → List Placed → Type 0
StmtsAs d xs ms r = (ys : List StmtTree) × Stmts d ms ys r × ListsAlike xs (stmts ys)

abbrev IfAs : ℕ → StmtTree → List Placed → List Placed → Type 0
IfAs d x ms r = (y : StmtTree) × IfStmt d ms y r × StmtsAlike x y

-- what stands behind the condition and the block of an `if`
abbrev ElseAs : ℕ → Span → ExprTree → BlockTree → ElseTree → List Placed → List Placed → Type 0
ElseAs d i e b x ms r = (s : Span) (f : ExprTree) (c : BlockTree) → ExprsAlike e f → BlocksAlike b c → (y : StmtTree) × Else d s f c ms y r × StmtsAlike (StmtTree.node i (StmtForm.if_ e b x)) y

abbrev BlockArmsAs : ℕ → BlockArmTrees → List Placed → List Placed → Type 0
BlockArmsAs d as_ ms r = (bs : List BlockArmTree) × BlockArms d ms bs r × BlockArmsAlike as_ (block_arms bs)

abbrev Ended : ℕ → (List Placed → List Placed → Type 0) → List Placed → List Placed → Type 0
Ended d P = Then P (Key (symbol symbol.Semicolon) d)

ended : {P : List Placed → List Placed → Type 0} {a : List Terminal} (d : ℕ) → Spells P a → Spells (Ended d P) (a ++ symbol symbol.Semicolon ∷ [])
ended d p = both p (one (symbol symbol.Semicolon) d)

block_ : (s : Span) (d : ℕ) (ss : StmtTrees) (ms r : List Placed) → Braced d (StmtsAs (suc d) ss) ms r → BlockAs d (BlockTree.block s ss) ms r
block_ s d ss ms r (then_ key (then_ x key)) = (_, Block.block x.1, x.2)

no_stmts_ : (d : ℕ) (ms r : List Placed) → Empty ms r → StmtsAs d StmtTrees.no_stmts ms r
no_stmts_ d ms r empty = ([], Stmts.no_stmt, tt)

more_stmts_ : (d : ℕ) (x : StmtTree) (xs : StmtTrees) (ms r : List Placed) → Then (StmtAs d x) (StmtsAs d xs) ms r → StmtsAs d (StmtTrees.more_stmts x xs) ms r
more_stmts_ d x xs ms r (then_ y ys) = (_, Stmts.more_stmts y.1 ys.1, (y.2, ys.2))

abbrev Declared : ℕ → List ℕ → (List Placed → List Placed → Type 0) → List Placed → List Placed → Type 0
Declared d n P = Then (Key (word word.Var) d) (Then (Key (name n) d) (Then (Key (symbol symbol.Colon) d) P))

var_ : (s i : Span) (d : ℕ) (n : List ℕ) (t : TypeTree) (ms r : List Placed) → Declared d n (Ended d (TypeAs d t)) ms r → StmtAs d (StmtTree.node s (StmtForm.var (ident n i) t None)) ms r
var_ s i d n t ms r (then_ key (then_ key (then_ key (then_ x key)))) = (_, Stmt.var x.1, (refl, x.2, tt))

var_set_ : (s i : Span) (d : ℕ) (n : List ℕ) (t : TypeTree) (e : ExprTree) (ms r : List Placed) → Declared d n (Then (TypeAs d t) (Then (Key (symbol symbol.Assign) d) (Ended d (Whole d e)))) ms r
    → StmtAs d (StmtTree.node s (StmtForm.var (ident n i) t (Some e))) ms r
var_set_ s i d n t e ms r (then_ key (then_ key (then_ key (then_ x (then_ key (then_ y key)))))) = let z = y refl in (_, Stmt.var_set x.1 z.1, (refl, x.2, z.2))

new_ : (s i j : Span) (d : ℕ) (n m : List ℕ) (ms r : List Placed) → Then (Key (name n) d) (Then (Key (symbol symbol.Assign) d) (Then (Key (word word.New) d) (Then (Key (name m) d) (Key (symbol symbol.Semicolon) d)))) ms r
    → StmtAs d (StmtTree.node s (StmtForm.new (ident n i) (ident m j))) ms r
new_ s i j d n m ms r (then_ key (then_ key (then_ key (then_ key key)))) = (_, Stmt.new, (refl, refl))

assign_ : (s i : Span) (d : ℕ) (n : List ℕ) (e : ExprTree) (ms r : List Placed) → Then (Key (name n) d) (Then (Key (symbol symbol.Assign) d) (Ended d (Whole d e))) ms r → StmtAs d (StmtTree.node s (StmtForm.assign (ident n i) e)) ms r
assign_ s i d n e ms r (then_ key (then_ key (then_ x key))) = let y = x refl in (_, Stmt.assign y.1, (refl, y.2))

access_ : (s : Span) (d : ℕ) (a : AccessTree) (ms r : List Placed) → Ended d (AccessAs d a) ms r → StmtAs d (StmtTree.node s (StmtForm.access a)) ms r
access_ s d a ms r (then_ x key) = (_, Stmt.access x.1, x.2)

abbrev Branch : ℕ → Span → ExprTree → BlockTree → ElseTree → List Placed → List Placed → Type 0
Branch d i e b x = Then (Key (word word.If) d) (Then (Enclosed d (Whole (suc d) e)) (Then (BlockAs d b) (ElseAs d i e b x)))

branch_ : (i : Span) (d : ℕ) (e : ExprTree) (b : BlockTree) (x : ElseTree) (ms r : List Placed) → Branch d i e b x ms r → IfAs d (StmtTree.node i (StmtForm.if_ e b x)) ms r
branch_ i d e b x ms r (then_ (key {s = s}) (then_ (then_ key (then_ y key)) (then_ c z))) =
    let f = y refl in let w = z s _ c.0 f.2 c.2 in (w.0, IfStmt.branch f.1 c.1 w.1, w.2)

branch_of : (i : Span) (d : ℕ) (e : ExprTree) (b : BlockTree) (x : ElseTree) → Spells (Whole (suc d) e) (expr_terminals place.Whole e) → Spells (BlockAs d b) (block_terminals b) → Spells (ElseAs d i e b x) (else_terminals x)
    → Spells (IfAs d (StmtTree.node i (StmtForm.if_ e b x))) (stmt_form_terminals (StmtForm.if_ e b x))
branch_of i d e b x p q r = turned (branch_ i d e b x) (keyed (word word.If) d (both (enclosed_in d p) (both q r)))

if_ : (d : ℕ) (x : StmtTree) (ms r : List Placed) → IfAs d x ms r → StmtAs d x ms r
if_ d x ms r y = (y.0, Stmt.if_ y.1, y.2)

no_else_ : (d : ℕ) (i : Span) (e : ExprTree) (b : BlockTree) (ms r : List Placed) → Empty ms r → ElseAs d i e b ElseTree.no_else ms r
no_else_ d i e b ms r empty s f c h k = (_, Else.no_else, (h, k, tt))

else_block_ : (d : ℕ) (i : Span) (e : ExprTree) (b a : BlockTree) (ms r : List Placed) → Then (Key (word word.Else) d) (BlockAs d a) ms r → ElseAs d i e b (ElseTree.else_block a) ms r
else_block_ d i e b a ms r (then_ key x) s f c h k = (_, Else.else_block x.1, (h, k, x.2))

else_if_ : (d : ℕ) (i : Span) (e : ExprTree) (b : BlockTree) (x : StmtTree) (ms r : List Placed) → Then (Key (word word.Else) d) (IfAs (suc d) x) ms r → ElseAs d i e b (ElseTree.else_if x) ms r
else_if_ d i e b x ms r (then_ key y) s f c h k = (_, Else.else_if y.1, (h, k, y.2))

match_ : (s : Span) (d : ℕ) (e : ExprTree) (as_ : BlockArmTrees) (ms r : List Placed) → Then (Key (word word.Match) d) (Then (Enclosed d (Whole (suc d) e)) (Braced d (BlockArmsAs (suc d) as_))) ms r
    → StmtAs d (StmtTree.node s (StmtForm.match e as_)) ms r
match_ s d e as_ ms r (then_ key (then_ (then_ key (then_ x key)) (then_ key (then_ y key)))) = let z = x refl in (_, Stmt.match z.1 y.1, (z.2, y.2))

atomic_ : (s : Span) (d : ℕ) (b : BlockTree) (ms r : List Placed) → Then (Key (word word.Atomic) d) (BlockAs d b) ms r → StmtAs d (StmtTree.node s (StmtForm.atomic b)) ms r
atomic_ s d b ms r (then_ key x) = (_, Stmt.atomic x.1, x.2)

assert_ : (s : Span) (d : ℕ) (e : ExprTree) (ms r : List Placed) → Then (Key (word word.Assert) d) (Ended d (Whole d e)) ms r → StmtAs d (StmtTree.node s (StmtForm.assert e)) ms r
assert_ s d e ms r (then_ key (then_ x key)) = let y = x refl in (_, Stmt.assert y.1, y.2)

return_ : (s : Span) (d : ℕ) (ms r : List Placed) → Then (Key (word word.Return) d) (Key (symbol symbol.Semicolon) d) ms r → StmtAs d (StmtTree.node s (StmtForm.return None)) ms r
return_ s d ms r (then_ key key) = (_, Stmt.return, tt)

return_value_ : (s : Span) (d : ℕ) (e : ExprTree) (ms r : List Placed) → Then (Key (word word.Return) d) (Ended d (Whole d e)) ms r → StmtAs d (StmtTree.node s (StmtForm.return (Some e))) ms r
return_value_ s d e ms r (then_ key (then_ x key)) = let y = x refl in (_, Stmt.return_value y.1, y.2)

no_arms_ : (d : ℕ) (ms r : List Placed) → Empty ms r → BlockArmsAs d BlockArmTrees.no_block_arms ms r
no_arms_ d ms r empty = ([], BlockArms.no_arm, tt)

more_arms_ : (d : ℕ) (p : PatternTree) (b : BlockTree) (as_ : BlockArmTrees) (ms r : List Placed)
    → Then (Then (PatternAs d p) (Then (Key (symbol symbol.Arrow) d) (BlockAs d b))) (BlockArmsAs d as_) ms r → BlockArmsAs d (BlockArmTrees.more_block_arms (BlockArmTree.arm p b) as_) ms r
more_arms_ d p b as_ ms r (then_ (then_ x (then_ key y)) z) = (_, BlockArms.more_arms x.1 y.1 z.1, ((x.2, y.2), z.2))

module _ (L : Terminal → Type 0) where
  mutual
    pub block_back : (d : ℕ) (b : BlockTree) → FormedBlock L b → Spells (BlockAs d b) (block_terminals b)
    block_back d (BlockTree.block s ss) h = turned (block_ s d ss) (braced d (stmts_back (suc d) ss h))

    stmts_back : (d : ℕ) (ss : StmtTrees) → FormedStmts L ss → Spells (StmtsAs d ss) (stmts_terminals ss)
    stmts_back d StmtTrees.no_stmts h = turned (no_stmts_ d) none
    stmts_back d (StmtTrees.more_stmts x xs) h = turned (more_stmts_ d x xs) (both (stmt_back d x h.0) (stmts_back d xs h.1))

    stmt_back : (d : ℕ) (x : StmtTree) → FormedStmt L x → Spells (StmtAs d x) (stmt_terminals x)
    stmt_back d (StmtTree.node s f) h = stmt_form_back d s f h

    stmt_form_back : (d : ℕ) (s : Span) (f : StmtForm) → FormedStmtForm L f → Spells (StmtAs d (StmtTree.node s f)) (stmt_form_terminals f)
    stmt_form_back d s (StmtForm.var (ident n i) t None) h = turned (var_ s i d n t) (keyed (word word.Var) d (keyed (name n) d (keyed (symbol symbol.Colon) d (ended d (type_back d t)))))
    stmt_form_back d s (StmtForm.var (ident n i) t (Some e)) h =
        turned (var_set_ s i d n t e) (keyed (word word.Var) d (keyed (name n) d (keyed (symbol symbol.Colon) d (both (type_back d t) (keyed (symbol symbol.Assign) d (ended d (whole_back L d e h.2)))))))
    stmt_form_back d s (StmtForm.new (ident n i) (ident m j)) h = turned (new_ s i j d n m) (keyed (name n) d (keyed (symbol symbol.Assign) d (keyed (word word.New) d (keyed (name m) d (one (symbol symbol.Semicolon) d)))))
    stmt_form_back d s (StmtForm.assign (ident n i) e) h = turned (assign_ s i d n e) (keyed (name n) d (keyed (symbol symbol.Assign) d (ended d (whole_back L d e h.1))))
    stmt_form_back d s (StmtForm.access a) h = turned (access_ s d a) (ended d (access_back L d a h))
    stmt_form_back d s (StmtForm.if_ e b x) h = turned (if_ d (StmtTree.node s (StmtForm.if_ e b x))) (branch_of s d e b x (whole_back L (suc d) e h.0) (block_back d b h.1) (else_back d s e b x h.2))
    stmt_form_back d s (StmtForm.match e as_) h = turned (match_ s d e as_) (keyed (word word.Match) d (both (enclosed_in d (whole_back L (suc d) e h.0)) (braced d (arms_back (suc d) as_ h.1))))
    stmt_form_back d s (StmtForm.atomic b) h = turned (atomic_ s d b) (keyed (word word.Atomic) d (block_back d b h))
    stmt_form_back d s (StmtForm.assert e) h = turned (assert_ s d e) (keyed (word word.Assert) d (ended d (whole_back L d e h)))
    stmt_form_back d s (StmtForm.return None) h = turned (return_ s d) (keyed (word word.Return) d (one (symbol symbol.Semicolon) d))
    stmt_form_back d s (StmtForm.return (Some e)) h = turned (return_value_ s d e) (keyed (word word.Return) d (ended d (whole_back L d e h)))

    else_back : (d : ℕ) (i : Span) (e : ExprTree) (b : BlockTree) (x : ElseTree) → FormedElse L x → Spells (ElseAs d i e b x) (else_terminals x)
    else_back d i e b ElseTree.no_else h = turned (no_else_ d i e b) none
    else_back d i e b (ElseTree.else_block a) h = turned (else_block_ d i e b a) (keyed (word word.Else) d (block_back d a h))
    else_back d i e b (ElseTree.else_if (StmtTree.node s (StmtForm.if_ f c x))) h =
        turned (else_if_ d i e b (StmtTree.node s (StmtForm.if_ f c x)))
        (keyed (word word.Else) d (branch_of s (suc d) f c x (whole_back L (suc (suc d)) f h.0) (block_back (suc d) c h.1) (else_back (suc d) s f c x h.2)))
    else_back d i e b (ElseTree.else_if (StmtTree.node s _)) h = absurd h

    arms_back : (d : ℕ) (as_ : BlockArmTrees) → FormedBlockArms L as_ → Spells (BlockArmsAs d as_) (block_arms_terminals as_)
    arms_back d BlockArmTrees.no_block_arms h = turned (no_arms_ d) none
    arms_back d (BlockArmTrees.more_block_arms (BlockArmTree.arm p b) as_) h =
        turned (more_arms_ d p b as_) (both (both (pattern_back d p) (keyed (symbol symbol.Arrow) d (block_back d b h.0.1))) (arms_back d as_ h.1))
