-- What leads on behind the tokens of statements leads on from before them.
use Rattle.std.proofs.Common.{ℕ, suc, List, [], ◌∷◌, ◌++◌, inl, inr, Some, refl, sym, subst, append_assoc, append-nil}
use Rattle.rp_span.specs.declared.Span.{Span}
use Rattle.rp_grammar.specs.declared.terminal.Word.{Word}
use Rattle.rp_grammar.specs.declared.terminal.Word.TheVariants as word
use Rattle.rp_grammar.specs.declared.terminal.Symbol.TheVariants as symbol
use Rattle.rp_grammar.specs.Terminals.{Terminal, name, word, symbol, Placed, on}
use Rattle.rp_grammar.specs.Trees.{ident, PatternTree, ExprTree, BlockTree, StmtTree, StmtForm, ElseTree, BlockArmTree, block_arms, DeclTree}
use Rattle.rp_grammar.specs.Parts.{join, Part, tree_of}
use Rattle.rp_grammar.specs.Exprs.{Pattern, Expr}
use Rattle.rp_grammar.specs.Exprs as exprs
use Rattle.rp_grammar.specs.Stmts.{stmt_span, block_span, Block, Stmts, Stmt, IfStmt, Else, BlockArms}
use Rattle.rp_grammar.specs.Stmts as grammar
use Rattle.rp_tokens.specs.MachineStates.{State, want_symbol, in_stmts, more_if, in_block_arms}
use Rattle.rp_tokens.specs.MachineExprs.{pattern_step}
use Rattle.rp_tokens.specs.MachineStmts.{want_block, want_sentence, in_if, want_else, alone, in_named, in_var, in_match, in_return, stmt_word, stmt_step, in_block_arm}
use Rattle.rp_tokens.proofs.Leads.{next, next_name, accessed, Leads, Through, Back, weaken, then_symbol}
use Rattle.rp_tokens.proofs.LeadsExprs.{pattern_back, expr_back, closed_back}

pub sentence_back : (d : ℕ) (k : ExprTree → Span → State) (ts : List Placed) (t : List DeclTree) → Leads (want_sentence d k) ts t → (e : Part ExprTree) × (z : Span) × (r : List Placed) × Expr d ts e (on (symbol symbol.Semicolon) z d ∷ r) × Leads (k (tree_of e) z) r t
sentence_back d k ts t l = then_symbol (Expr d) symbol.Semicolon refl d (λ e z. k (tree_of e) z) ts t (expr_back d (λ e. want_symbol symbol.Semicolon refl d (λ z. k (tree_of e) z)) ts t l)

pub block_back : (d : ℕ) (k : BlockTree → State) (ts : List Placed) (t : List DeclTree) → Leads (want_block d k) ts t → Through (Block d) k ts t
block_back d k ts t (o, r, next, (xs, u, x, (c, w, next, l))) = (_, w, grammar.block x, l)

if_end : (d : ℕ) (s o c : Span) (e : Part ExprTree) (k : StmtTree → State) (ts us : List Placed) (t : List DeclTree) → Expr (suc d) ts e (on (symbol symbol.CloseParen) c d ∷ us) → Through (Block d) (λ b. more_if d s (tree_of e) b k) us t → Through (IfStmt d) k (on (word word.If) s d ∷ on (symbol symbol.OpenParen) o d ∷ ts) t
if_end d s o c e k ts us t x (b, r, y, (z, u, m, l)) = (z, u, grammar.branch x y m, l)

if_back : (d : ℕ) (s : Span) (k : StmtTree → State) (ts : List Placed) (t : List DeclTree) → Leads (in_if d s k) ts t → Through (IfStmt d) k (on (word word.If) s d ∷ ts) t
if_back d s k ts t (o, r, next, l) =
    let body : Part ExprTree → State = λ e. want_block d (λ b. more_if d s (tree_of e) b k) in
    let (e, c, u, x, a) = closed_back d (λ e c. body e) r t l in
    if_end d s o c e k r u t x (block_back d (λ b. more_if d s (tree_of e) b k) u t a)

pub else_back : (d : ℕ) (s : Span) (e : ExprTree) (b : BlockTree) (k : StmtTree → State) (v : Span) (ts : List Placed) (t : List DeclTree) → Leads (want_else d s e b k) ts t → Leads (more_if d s e b k) (on (word word.Else) v d ∷ ts) t
else_back d s e b k v ts t (inl (w, r, next, l)) =
    let (x, u, y, a) = if_back (suc d) w (λ x. k (StmtTree.node (join s (stmt_span x)) (StmtForm.if_ e b (ElseTree.else_if x)))) r t l in (_, u, grammar.else_if y, a)
else_back d s e b k v ts t (inr l) =
    let (c, u, y, a) = block_back d (λ c. k (StmtTree.node (join s (block_span c)) (StmtForm.if_ e b (ElseTree.else_block c)))) ts t l in (_, u, grammar.else_block y, a)

pub no_else : (d : ℕ) (s : Span) (e : ExprTree) (b : BlockTree) (k : StmtTree → State) (ts : List Placed) (t : List DeclTree) → Leads (k (alone s e b)) ts t → Leads (more_if d s e b k) ts t
no_else d s e b k ts t l = (_, ts, grammar.no_else, l)

named_back : (d : ℕ) (n : List ℕ) (v : Span) (k : StmtTree → State) (ts : List Placed) (t : List DeclTree) → Leads (in_named d (ident n v) k) ts t → Through (Stmt d) k (on (name n) v d ∷ ts) t
named_back d n v k ts t (inl (q, r, next, inl (w, u, next, (m, y, next_name, (z, x, next, l))))) = (_, x, grammar.new, l)
named_back d n v k ts t (inl (q, r, next, inr l)) = let (e, z, u, x, a) = sentence_back d (λ e z. k (StmtTree.node (join v z) (StmtForm.assign (ident n v) e))) r t l in (_, u, grammar.assign x, a)
named_back d n v k ts t (inr (a, r, accessed x y, (z, u, next, l))) = (_, u, grammar.access (exprs.rooted x y), l)

var_back : (d : ℕ) (s : Span) (k : StmtTree → State) (ts : List Placed) (t : List DeclTree) → Leads (in_var d s k) ts t → Through (Stmt d) k (on (word word.Var) s d ∷ ts) t
var_back d s k ts t (n, r, next_name, (c, u, next, (x, w, p, inl (q, y, next, l)))) = let (e, z, b, f, a) = sentence_back d (λ e z. k (StmtTree.node (join s z) (StmtForm.var n x (Some e)))) y t l in (_, b, grammar.var_set p f, a)
var_back d s k ts t (n, r, next_name, (c, u, next, (x, w, p, inr (z, y, next, l)))) = (_, y, grammar.var p, l)

match_end : (d : ℕ) (s o c : Span) (e : Part ExprTree) (k : StmtTree → State) (ts us : List Placed) (t : List DeclTree) → Expr (suc d) ts e (on (symbol symbol.CloseParen) c d ∷ us)
    → Leads (want_symbol symbol.OpenBrace refl d (λ b. in_block_arms (suc d) [] (λ as_. want_symbol symbol.CloseBrace refl d (λ x. k (StmtTree.node (join s x) (StmtForm.match (tree_of e) (block_arms as_))))))) us t
    → Through (Stmt d) k (on (word word.Match) s d ∷ on (symbol symbol.OpenParen) o d ∷ ts) t
match_end d s o c e k ts us t x (b, r, next, (as_, u, m, (z, w, next, l))) = (_, w, grammar.match x m, l)

match_back : (d : ℕ) (s : Span) (k : StmtTree → State) (ts : List Placed) (t : List DeclTree) → Leads (in_match d s k) ts t → Through (Stmt d) k (on (word word.Match) s d ∷ ts) t
match_back d s k ts t (o, r, next, l) =
    let arms : Part ExprTree → State = λ e. want_symbol symbol.OpenBrace refl d (λ b. in_block_arms (suc d) [] (λ as_. want_symbol symbol.CloseBrace refl d (λ x. k (StmtTree.node (join s x) (StmtForm.match (tree_of e) (block_arms as_)))))) in
    let (e, c, u, x, a) = closed_back d (λ e c. arms e) r t l in
    match_end d s o c e k r u t x a

return_back : (d : ℕ) (s : Span) (k : StmtTree → State) (ts : List Placed) (t : List DeclTree) → Leads (in_return d s k) ts t → Through (Stmt d) k (on (word word.Return) s d ∷ ts) t
return_back d s k ts t (inl (z, r, next, l)) = (_, r, grammar.return, l)
return_back d s k ts t (inr l) = let (e, z, u, x, a) = sentence_back d (λ e z. k (StmtTree.node (join s z) (StmtForm.return (Some e)))) ts t l in (_, u, grammar.return_value x, a)

stmt_word_back : (d : ℕ) (k : StmtTree → State) (w : Word) (v : Span) → Back (Through (Stmt d) k) (word w) v (stmt_word d k w v)
stmt_word_back d k word.Var v = var_back d v k
stmt_word_back d k word.If v = λ ts t l. let (x, r, y, a) = if_back d v k ts t l in (x, r, grammar.if_ y, a)
stmt_word_back d k word.Match v = match_back d v k
stmt_word_back d k word.Atomic v = λ ts t l. let (b, r, y, a) = block_back d (λ b. k (StmtTree.node (join v (block_span b)) (StmtForm.atomic b))) ts t l in (_, r, grammar.atomic y, a)
stmt_word_back d k word.Assert v = λ ts t l. let (e, z, r, x, a) = sentence_back d (λ e z. k (StmtTree.node (join v z) (StmtForm.assert e))) ts t l in (_, r, grammar.assert x, a)
stmt_word_back d k word.Return v = return_back d v k
stmt_word_back d k _ v = tt

stmt_back : (d : ℕ) (k : StmtTree → State) (x : Terminal) (v : Span) → Back (Through (Stmt d) k) x v (stmt_step d k x v)
stmt_back d k (name n) v = named_back d n v k
stmt_back d k (word w) v = stmt_word_back d k w v
stmt_back d k _ v = tt

more_stmts : (d : ℕ) (xs : List StmtTree) (k : List StmtTree → State) (ts : List Placed) (t : List DeclTree) → Through (Stmt d) (λ y. in_stmts d (xs ++ y ∷ []) k) ts t → Leads (in_stmts d xs k) ts t
more_stmts d xs k ts t (y, r, x, (ys, u, m, l)) = (y ∷ ys, u, grammar.more_stmts x m, subst (λ all. Leads (k all) u t) (append_assoc xs (y ∷ []) ys) l)

pub stmts_back : (d : ℕ) (xs : List StmtTree) (k : List StmtTree → State) (x : Terminal) (v : Span) → Back (Leads (in_stmts d xs k)) x v (stmt_step d (λ y. in_stmts d (xs ++ y ∷ []) k) x v)
stmts_back d xs k x v =
    let after : StmtTree → State = λ y. in_stmts d (xs ++ y ∷ []) k in
    weaken (Through (Stmt d) after) (Leads (in_stmts d xs k)) x v (stmt_step d after x v) (more_stmts d xs k) (stmt_back d after x v)

pub no_more_stmts : (d : ℕ) (xs : List StmtTree) (k : List StmtTree → State) (ts : List Placed) (t : List DeclTree) → Leads (k xs) ts t → Leads (in_stmts d xs k) ts t
no_more_stmts d xs k ts t l = ([], ts, grammar.no_stmt, subst (λ all. Leads (k all) ts t) (sym (append-nil xs)) l)

arm_end : (d : ℕ) (as_ : List BlockArmTree) (k : List BlockArmTree → State) (p : PatternTree) (a : Span) (ts us : List Placed) (t : List DeclTree) → Pattern d ts p (on (symbol symbol.Arrow) a d ∷ us) → Through (Block d) (λ b. in_block_arms d (as_ ++ BlockArmTree.arm p b ∷ []) k) us t → Leads (in_block_arms d as_ k) ts t
arm_end d as_ k p a ts us t x (b, r, y, (bs, u, m, l)) = (_, u, grammar.more_arms x y m, subst (λ all. Leads (k all) u t) (append_assoc as_ (BlockArmTree.arm p b ∷ []) bs) l)

more_block_arms : (d : ℕ) (as_ : List BlockArmTree) (k : List BlockArmTree → State) (ts : List Placed) (t : List DeclTree) → Through (Pattern d) (λ p. in_block_arm d (λ b. in_block_arms d (as_ ++ BlockArmTree.arm p b ∷ []) k)) ts t → Leads (in_block_arms d as_ k) ts t
more_block_arms d as_ k ts t l =
    let body : PatternTree → State = λ p. want_block d (λ b. in_block_arms d (as_ ++ BlockArmTree.arm p b ∷ []) k) in
    let (p, a, r, x, b) = then_symbol (Pattern d) symbol.Arrow refl d (λ p a. body p) ts t l in
    arm_end d as_ k p a ts r t x (block_back d (λ b. in_block_arms d (as_ ++ BlockArmTree.arm p b ∷ []) k) r t b)

pub block_arms_back : (d : ℕ) (as_ : List BlockArmTree) (k : List BlockArmTree → State) (x : Terminal) (v : Span) → Back (Leads (in_block_arms d as_ k)) x v (pattern_step d (λ p. in_block_arm d (λ b. in_block_arms d (as_ ++ BlockArmTree.arm p b ∷ []) k)) x v)
block_arms_back d as_ k x v =
    let after : PatternTree → State = λ p. in_block_arm d (λ b. in_block_arms d (as_ ++ BlockArmTree.arm p b ∷ []) k) in
    weaken (Through (Pattern d) after) (Leads (in_block_arms d as_ k)) x v (pattern_step d after x v) (more_block_arms d as_ k) (pattern_back d after x v)

pub no_more_block_arms : (d : ℕ) (as_ : List BlockArmTree) (k : List BlockArmTree → State) (ts : List Placed) (t : List DeclTree) → Leads (k as_) ts t → Leads (in_block_arms d as_ k) ts t
no_more_block_arms d as_ k ts t l = ([], ts, grammar.no_arm, subst (λ all. Leads (k all) ts t) (sym (append-nil as_)) l)
