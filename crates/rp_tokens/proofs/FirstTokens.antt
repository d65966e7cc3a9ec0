-- With which tokens phrases begin, and which tokens come behind parts of them.
use Rattle.std.proofs.Common.{◌≡◌, ℕ, ◌<◌, Bool, true, false, not, IsTrue, List, [], ◌∷◌, ◌++◌, Option, Some, refl, sym, ap, ◌∙◌, arith}
use Rattle.rp_span.specs.declared.Span.{Span}
use Rattle.rp_grammar.specs.declared.operator.CompareOp.{CompareOp}
use Rattle.rp_grammar.specs.declared.operator.CallWord.{CallWord}
use Rattle.rp_grammar.specs.declared.terminal.Word.{Word}
use Rattle.rp_grammar.specs.declared.terminal.Word.TheVariants as word
use Rattle.rp_grammar.specs.declared.terminal.Symbol.{Symbol}
use Rattle.rp_grammar.specs.declared.terminal.Symbol.TheVariants as symbol
use Rattle.rp_grammar.specs.Terminals.{Terminal, name, word, Placed, on}
use Rattle.rp_grammar.specs.Trees.{Ident, ident, PatternTree, ExprTree, ExprArmTree, AccessTree, StepTree, BlockTree, StmtTree, StmtForm, ElseTree, BlockArmTree}
use Rattle.rp_grammar.specs.Parts.{join, Part}
use Rattle.rp_grammar.specs.Exprs.{ConName, Pattern, Compares, Calls, Expr, ImpliesMore, Orx, OrMore, Andx, AndMore, Notx, Quant, Cmp, CmpMore, Sum, SumMore, Prim, Exprs, MoreExprs, MoreExprArms, Access, Steps, Step, AccessArgs}
use Rattle.rp_grammar.specs.Exprs as exprs
use Rattle.rp_grammar.specs.Stmts.{block_span, Block, Stmts, Stmt}
use Rattle.rp_grammar.specs.Stmts as stmts
use Rattle.rp_tokens.specs.MachineStates.{State, want_operand, want_prim, want_pattern, more_cmp, more_sum, in_block_arms, Move, to, or_else}
use Rattle.rp_tokens.specs.MachineExprs.{in_pattern, pattern_step, want_call, prim_word, operand_word, comparison_symbol}
use Rattle.rp_tokens.specs.MachineStmts.{want_block, want_else, in_block_arm}
use Rattle.rp_tokens.specs.Machine.{step}
use Rattle.rp_tokens.proofs.Tests.{next_is, next_word, loose}
use Rattle.rp_tokens.proofs.Comes.{Comes, same_step}

-- each tail of a phrase binds tighter than what it leaves behind

pub before_implies : {d : ℕ} {a e : Part ExprTree} {r u : List Placed} → ImpliesMore d a r e u → 6 < loose u → 5 < loose r
before_implies exprs.no_right h = omega arith
before_implies (exprs.right x) h = omega arith

pub before_or : {d : ℕ} {es : List (Part ExprTree)} {r u : List Placed} → OrMore d r es u → 5 < loose u → 4 < loose r
before_or exprs.no_or h = omega arith
before_or (exprs.or_more x m) h = omega arith

pub before_and : {d : ℕ} {es : List (Part ExprTree)} {r u : List Placed} → AndMore d r es u → 4 < loose u → 3 < loose r
before_and exprs.no_and h = omega arith
before_and (exprs.and_more x m) h = omega arith

pub before_cmp : {d : ℕ} {a e : Part ExprTree} {r u : List Placed} → CmpMore d a r e u → 3 < loose u → 2 < loose r
before_cmp exprs.no_cmp h = omega arith
before_cmp (exprs.compared exprs.equal x) h = omega arith
before_cmp (exprs.compared exprs.not_equal x) h = omega arith
before_cmp (exprs.compared exprs.less x) h = omega arith
before_cmp (exprs.compared exprs.at_most x) h = omega arith
before_cmp (exprs.compared exprs.greater x) h = omega arith
before_cmp (exprs.compared exprs.at_least x) h = omega arith

pub before_sum : {d : ℕ} {a e : Part ExprTree} {r u : List Placed} → SumMore d a r e u → 2 < loose u → 1 < loose r
before_sum exprs.no_sum h = omega arith
before_sum (exprs.plus x m) h = omega arith
before_sum (exprs.minus x m) h = omega arith

pub before_exprs : {d : ℕ} {es : List ExprTree} {r u : List Placed} → MoreExprs d r es u → 6 < loose u → 6 < loose r
before_exprs exprs.no_expr h = h
before_exprs (exprs.more_exprs x m) h = omega arith

pub before_arms : {d : ℕ} {as_ : List ExprArmTree} {r u : List Placed} → MoreExprArms d r as_ u → 6 < loose u → 6 < loose r
before_arms exprs.no_arm h = h
before_arms (exprs.more_arms x m) h = omega arith

-- what tokens write

pub compares : {m : Symbol} {c : CompareOp} → Compares m c → comparison_symbol m ≡ Some c
compares exprs.equal = refl
compares exprs.not_equal = refl
compares exprs.less = refl
compares exprs.at_most = refl
compares exprs.greater = refl
compares exprs.at_least = refl

pub calls : {w : Word} {c : CallWord} → Calls w c → (d : ℕ) (k : Part ExprTree → State) (s : Span) → prim_word d k w s ≡ Some (to d (want_call d c s k))
calls exprs.visible d k s = refl
calls exprs.before d k s = refl
calls exprs.same d k s = refl
calls exprs.op d k s = refl
calls exprs.origin d k s = refl
calls exprs.info d k s = refl
calls exprs.result_ d k s = refl

pub con_name : {x : Terminal} {n : List ℕ} → ConName x n → (d : ℕ) (k : PatternTree → State) (s : Span) → pattern_step d k x s ≡ Some (to d (in_pattern d (ident n s) k))
con_name exprs.named d k s = refl
con_name exprs.none d k s = refl
con_name exprs.some d k s = refl
con_name exprs.yes d k s = refl
con_name exprs.no d k s = refl

-- an operand that begins with a prim begins a comparison

first_of_call : {w : Word} {c : CallWord} → Calls w c → (d : ℕ) (k : Part ExprTree → State) (s : Span) → operand_word d k w s ≡ prim_word d (λ a. more_sum d a (λ b. more_cmp d b k)) w s
first_of_call exprs.visible d k s = refl
first_of_call exprs.before d k s = refl
first_of_call exprs.same d k s = refl
first_of_call exprs.op d k s = refl
first_of_call exprs.origin d k s = refl
first_of_call exprs.info d k s = refl
first_of_call exprs.result_ d k s = refl

begins_cmp : {d : ℕ} {ts r : List Placed} {e : Part ExprTree} → Prim d ts e r → (k : Part ExprTree → State) → Comes (want_operand d k) ts (want_prim d (λ a. more_sum d a (λ b. more_cmp d b k))) ts
begins_cmp exprs.number k = same_step _ _ _ _ _ _ refl
begins_cmp exprs.negative k = same_step _ _ _ _ _ _ refl
begins_cmp exprs.text k = same_step _ _ _ _ _ _ refl
begins_cmp exprs.true_ k = same_step _ _ _ _ _ _ refl
begins_cmp exprs.false_ k = same_step _ _ _ _ _ _ refl
begins_cmp exprs.none_ k = same_step _ _ _ _ _ _ refl
begins_cmp (exprs.some_ x) k = same_step _ _ _ _ _ _ refl
begins_cmp exprs.unreturned k = same_step _ _ _ _ _ _ refl
begins_cmp exprs.tx k = same_step _ _ _ _ _ _ refl
begins_cmp (exprs.call {d = d} {s = s} c x) k = same_step _ _ _ _ _ _ (first_of_call c d k s)
begins_cmp (exprs.match x a m) k = same_step _ _ _ _ _ _ refl
begins_cmp (exprs.access (exprs.rooted x a)) k = same_step _ _ _ _ _ _ refl
begins_cmp (exprs.parens x) k = same_step _ _ _ _ _ _ refl

pub begins_with_prim : {d : ℕ} {ts r : List Placed} {e : Part ExprTree} → Sum d ts e r → (k : Part ExprTree → State) → Comes (want_operand d k) ts (want_prim d (λ a. more_sum d a (λ b. more_cmp d b k))) ts
begins_with_prim (exprs.sum x m) k = begins_cmp x k

begins_arm : (d : ℕ) (x : Terminal) (s : Span) (k : PatternTree → State) (next : State) (other : Option Move) → pattern_step d k x s ≡ Some (to d next) → or_else (pattern_step d k x s) other ≡ pattern_step d k x s
begins_arm d x s k next other e = ap (λ m. or_else m other) e ∙ sym e

-- what no expression begins with
pub record Opens (ts : List Placed) : Type 0 where
  pub not_close : next_is symbol.CloseParen ts ≡ false
  pub not_semicolon : next_is symbol.Semicolon ts ≡ false
  pub not_new : next_word word.New ts ≡ false

opens_call : {w : Word} {c : CallWord} → Calls w c → (d : ℕ) (s : Span) (r : List Placed) → Opens (on (word w) s d ∷ r)
opens_call exprs.visible d s r = record { not_close = refl; not_semicolon = refl; not_new = refl }
opens_call exprs.before d s r = record { not_close = refl; not_semicolon = refl; not_new = refl }
opens_call exprs.same d s r = record { not_close = refl; not_semicolon = refl; not_new = refl }
opens_call exprs.op d s r = record { not_close = refl; not_semicolon = refl; not_new = refl }
opens_call exprs.origin d s r = record { not_close = refl; not_semicolon = refl; not_new = refl }
opens_call exprs.info d s r = record { not_close = refl; not_semicolon = refl; not_new = refl }
opens_call exprs.result_ d s r = record { not_close = refl; not_semicolon = refl; not_new = refl }

opens_prim : {d : ℕ} {ts r : List Placed} {e : Part ExprTree} → Prim d ts e r → Opens ts
opens_prim (exprs.call {d = d} {s = s} c x) = opens_call c d s _
opens_prim exprs.number = record { not_close = refl; not_semicolon = refl; not_new = refl }
opens_prim exprs.negative = record { not_close = refl; not_semicolon = refl; not_new = refl }
opens_prim exprs.text = record { not_close = refl; not_semicolon = refl; not_new = refl }
opens_prim exprs.true_ = record { not_close = refl; not_semicolon = refl; not_new = refl }
opens_prim exprs.false_ = record { not_close = refl; not_semicolon = refl; not_new = refl }
opens_prim exprs.none_ = record { not_close = refl; not_semicolon = refl; not_new = refl }
opens_prim (exprs.some_ x) = record { not_close = refl; not_semicolon = refl; not_new = refl }
opens_prim exprs.unreturned = record { not_close = refl; not_semicolon = refl; not_new = refl }
opens_prim exprs.tx = record { not_close = refl; not_semicolon = refl; not_new = refl }
opens_prim (exprs.match x a m) = record { not_close = refl; not_semicolon = refl; not_new = refl }
opens_prim (exprs.access (exprs.rooted x a)) = record { not_close = refl; not_semicolon = refl; not_new = refl }
opens_prim (exprs.parens x) = record { not_close = refl; not_semicolon = refl; not_new = refl }

opens_notx : {d : ℕ} {ts r : List Placed} {e : Part ExprTree} → Notx d ts e r → Opens ts
opens_notx (exprs.negated x) = record { not_close = refl; not_semicolon = refl; not_new = refl }
opens_notx (exprs.quantifier (exprs.for_all x h)) = record { not_close = refl; not_semicolon = refl; not_new = refl }
opens_notx (exprs.quantifier (exprs.for_some x h)) = record { not_close = refl; not_semicolon = refl; not_new = refl }
opens_notx (exprs.comparison (exprs.cmp (exprs.sum x n) m)) = opens_prim x

pub opens : {d : ℕ} {ts r : List Placed} {e : Part ExprTree} → Expr d ts e r → Opens ts
opens (exprs.expr (exprs.or (exprs.and x a) o) m) = opens_notx x

pub opens_exprs : {d : ℕ} {ts r : List Placed} {es : List ExprTree} → Exprs d ts es r → Opens ts
opens_exprs (exprs.some_exprs x m) = opens x

-- an arm of a statement begins with its pattern
pub begins_with_pattern : {d : ℕ} {ts r : List Placed} {p : PatternTree} → Pattern d ts p r → (as_ : List BlockArmTree) (k : List BlockArmTree → State) → Comes (in_block_arms d as_ k) ts (want_pattern d (λ p. in_block_arm d (λ b. in_block_arms d (as_ ++ BlockArmTree.arm p b ∷ []) k))) ts
begins_with_pattern (exprs.bare {d = d} {k = x} {s = s} c) as_ k =
    let arm : PatternTree → State = λ p. in_block_arm d (λ b. in_block_arms d (as_ ++ BlockArmTree.arm p b ∷ []) k) in
    same_step _ _ _ _ _ _ (begins_arm d x s arm _ (step (k as_) x s) (con_name c d arm s))
begins_with_pattern (exprs.binding {d = d} {k = x} {s = s} c m) as_ k =
    let arm : PatternTree → State = λ p. in_block_arm d (λ b. in_block_arms d (as_ ++ BlockArmTree.arm p b ∷ []) k) in
    same_step _ _ _ _ _ _ (begins_arm d x s arm _ (step (k as_) x s) (con_name c d arm s))

-- what comes behind a name that begins an expression, unless it comes behind the expression
pub record Plain (ts : List Placed) : Type 0 where
  pub not_colon : next_is symbol.Colon ts ≡ false
  pub not_assign : next_is symbol.Assign ts ≡ false

plain_args : {d : ℕ} {n : Ident} {xs : List StepTree} {s : Span} {ts r : List Placed} {a : Part AccessTree} → AccessArgs d n xs s ts a r → Plain r → Plain ts
plain_args exprs.not_called h = h
plain_args exprs.no_args h = record { not_colon = refl; not_assign = refl }
plain_args (exprs.some_args x) h = record { not_colon = refl; not_assign = refl }

pub plain_steps : {d e : ℕ} {n : Ident} {xs : List (Part StepTree)} {ys : List StepTree} {s : Span} {ts r u : List Placed} {a : Part AccessTree} → Steps d ts xs r → AccessArgs e n ys s r a u → Plain u → Plain ts
plain_steps exprs.no_step y h = plain_args y h
plain_steps (exprs.more_steps exprs.dot m) y h = record { not_colon = refl; not_assign = refl }
plain_steps (exprs.more_steps exprs.returned m) y h = record { not_colon = refl; not_assign = refl }
plain_steps (exprs.more_steps (exprs.key x) m) y h = record { not_colon = refl; not_assign = refl }

plain_sum : {d : ℕ} {a e : Part ExprTree} {ts r : List Placed} → SumMore d a ts e r → Plain r → Plain ts
plain_sum exprs.no_sum h = h
plain_sum (exprs.plus x m) h = record { not_colon = refl; not_assign = refl }
plain_sum (exprs.minus x m) h = record { not_colon = refl; not_assign = refl }

plain_cmp : {d : ℕ} {a e : Part ExprTree} {ts r : List Placed} → CmpMore d a ts e r → Plain r → Plain ts
plain_cmp exprs.no_cmp h = h
plain_cmp (exprs.compared exprs.equal x) h = record { not_colon = refl; not_assign = refl }
plain_cmp (exprs.compared exprs.not_equal x) h = record { not_colon = refl; not_assign = refl }
plain_cmp (exprs.compared exprs.less x) h = record { not_colon = refl; not_assign = refl }
plain_cmp (exprs.compared exprs.at_most x) h = record { not_colon = refl; not_assign = refl }
plain_cmp (exprs.compared exprs.greater x) h = record { not_colon = refl; not_assign = refl }
plain_cmp (exprs.compared exprs.at_least x) h = record { not_colon = refl; not_assign = refl }

plain_and : {d : ℕ} {es : List (Part ExprTree)} {ts r : List Placed} → AndMore d ts es r → Plain r → Plain ts
plain_and exprs.no_and h = h
plain_and (exprs.and_more x m) h = record { not_colon = refl; not_assign = refl }

plain_or : {d : ℕ} {es : List (Part ExprTree)} {ts r : List Placed} → OrMore d ts es r → Plain r → Plain ts
plain_or exprs.no_or h = h
plain_or (exprs.or_more x m) h = record { not_colon = refl; not_assign = refl }

plain_implies : {d : ℕ} {a e : Part ExprTree} {ts r : List Placed} → ImpliesMore d a ts e r → Plain r → Plain ts
plain_implies exprs.no_right h = h
plain_implies (exprs.right x) h = record { not_colon = refl; not_assign = refl }

-- the tokens don't begin with a name and a colon
abbrev pub unnamed : List Placed → Bool
unnamed (on (name n) s d ∷ ts) = not (next_is symbol.Colon ts)
unnamed _ = true

not_colon_next : (v : Bool) → v ≡ false → IsTrue (not v)
not_colon_next true h = cc
not_colon_next false h = refl

unnamed_prim : {d : ℕ} {e : Part ExprTree} {ts r : List Placed} → Prim d ts e r → Plain r → IsTrue (unnamed ts)
unnamed_prim exprs.number h = refl
unnamed_prim exprs.negative h = refl
unnamed_prim exprs.text h = refl
unnamed_prim exprs.true_ h = refl
unnamed_prim exprs.false_ h = refl
unnamed_prim exprs.none_ h = refl
unnamed_prim (exprs.some_ x) h = refl
unnamed_prim exprs.unreturned h = refl
unnamed_prim exprs.tx h = refl
unnamed_prim (exprs.call c x) h = refl
unnamed_prim (exprs.match x a m) h = refl
unnamed_prim (exprs.access (exprs.rooted {ts = ts} x y)) h = not_colon_next (next_is symbol.Colon ts) (plain_steps x y h).not_colon
unnamed_prim (exprs.parens x) h = refl

unnamed_notx : {d : ℕ} {e : Part ExprTree} {ts r : List Placed} → Notx d ts e r → Plain r → IsTrue (unnamed ts)
unnamed_notx (exprs.negated x) h = refl
unnamed_notx (exprs.quantifier (exprs.for_all x s)) h = refl
unnamed_notx (exprs.quantifier (exprs.for_some x s)) h = refl
unnamed_notx (exprs.comparison (exprs.cmp (exprs.sum x m) c)) h = unnamed_prim x (plain_sum m (plain_cmp c h))

pub unnamed_expr : {d : ℕ} {e : Part ExprTree} {ts r : List Placed} → Expr d ts e r → Plain r → IsTrue (unnamed ts)
unnamed_expr (exprs.expr (exprs.or (exprs.and x a) o) m) h = unnamed_notx x (plain_and a (plain_or o (plain_implies m h)))

-- blocks and statements

pub begins_block : {d : ℕ} {b : BlockTree} {ts r : List Placed} → Block d ts b r → (s : Span) (e : ExprTree) (c : BlockTree) (k : StmtTree → State) → Comes (want_else d s e c k) ts (want_block d (λ x. k (StmtTree.node (join s (block_span x)) (StmtForm.if_ e c (ElseTree.else_block x))))) ts
begins_block (stmts.block x) s e c k = same_step _ _ _ _ _ _ refl

pub block_not_colon : {d : ℕ} {b : BlockTree} {ts r : List Placed} → Block d ts b r → next_is symbol.Colon ts ≡ false
block_not_colon (stmts.block x) = refl

stmt_not_else : {d : ℕ} {x : StmtTree} {ts r : List Placed} → Stmt d ts x r → next_word word.Else ts ≡ false
stmt_not_else (stmts.var t) = refl
stmt_not_else (stmts.var_set t e) = refl
stmt_not_else stmts.new = refl
stmt_not_else (stmts.assign e) = refl
stmt_not_else (stmts.access (exprs.rooted x a)) = refl
stmt_not_else (stmts.if_ (stmts.branch e b x)) = refl
stmt_not_else (stmts.match e a) = refl
stmt_not_else (stmts.atomic b) = refl
stmt_not_else (stmts.assert e) = refl
stmt_not_else stmts.return = refl
stmt_not_else (stmts.return_value e) = refl

pub stmts_not_else : {d : ℕ} {xs : List StmtTree} {ts r : List Placed} → Stmts d ts xs r → next_word word.Else r ≡ false → next_word word.Else ts ≡ false
stmts_not_else stmts.no_stmt h = h
stmts_not_else (stmts.more_stmts x m) h = stmt_not_else x
