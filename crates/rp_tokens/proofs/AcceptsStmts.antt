-- The machine takes every statement and block of the grammar.
use Rattle.std.proofs.Common.{◌≡◌, ℕ, false, List, [], ◌∷◌, ◌++◌, Some, refl, sym, ap, append_assoc, append-nil, arith}
use Rattle.rp_span.specs.declared.Span.{Span}
use Rattle.rp_grammar.specs.declared.terminal.Word.TheVariants as word
use Rattle.rp_grammar.specs.declared.terminal.Symbol.TheVariants as symbol
use Rattle.rp_grammar.specs.Terminals.{word, symbol, Placed, on}
use Rattle.rp_grammar.specs.Trees.{ident, ExprTree, AccessTree, BlockTree, StmtTree, StmtForm, ElseTree, BlockArmTree}
use Rattle.rp_grammar.specs.Parts.{join, Part, tree_of, extent_of}
use Rattle.rp_grammar.specs.Exprs.{Expr, Access}
use Rattle.rp_grammar.specs.Exprs as exprs
use Rattle.rp_grammar.specs.Stmts.{stmt_span, block_span, Block, Stmts, Stmt, IfStmt, Else, BlockArms}
use Rattle.rp_grammar.specs.Stmts as grammar
use Rattle.rp_tokens.specs.MachineStates.{State, want_symbol, in_stmts, more_if, in_block_arms, to}
use Rattle.rp_tokens.specs.MachineStmts.{want_block, want_sentence, in_if, want_else, in_block_arm}
use Rattle.rp_tokens.specs.Machine.{step}
use Rattle.rp_tokens.proofs.Tests.{next_word}
use Rattle.rp_tokens.proofs.Comes.{Comes, then_comes, stays, reads, no_symbol, no_word}
use Rattle.rp_tokens.proofs.FirstTokens.{opens, plain_steps, begins_with_pattern, begins_block, stmts_not_else}
use Rattle.rp_tokens.proofs.AcceptsTypes.{takes_type}
use Rattle.rp_tokens.proofs.AcceptsExprs.{takes_pattern, takes_expr, takes_steps, takes_args}

pub takes_sentence : {d : ℕ} {z : Span} {ts r : List Placed} {e : Part ExprTree} → Expr d ts e (on (symbol symbol.Semicolon) z d ∷ r) → (k : ExprTree → Span → State) → Comes (want_sentence d k) ts (k (tree_of e) z) r
takes_sentence {d = d} x k = then_comes (takes_expr x (omega arith) (λ e. want_symbol symbol.Semicolon refl d (λ z. k (tree_of e) z))) (reads _ _ _ _ _ _ refl)

takes_access_stmt : {d : ℕ} {z : Span} {ts r : List Placed} {a : Part AccessTree} → Access d ts a (on (symbol symbol.Semicolon) z d ∷ r) → (acc : List StmtTree) (k : List StmtTree → State) → Comes (in_stmts d acc k) ts (in_stmts d (acc ++ StmtTree.node (join (extent_of a) z) (StmtForm.access (tree_of a)) ∷ []) k) r
takes_access_stmt (exprs.rooted {d = d} {n = n} {s = s} {ts = ts} x y) acc k =
    let close : Part AccessTree → State = λ a. want_symbol symbol.Semicolon refl d (λ z. in_stmts d (acc ++ StmtTree.node (join (extent_of a) z) (StmtForm.access (tree_of a)) ∷ []) k) in
    then_comes (reads _ _ _ _ _ _ refl)
    (then_comes (no_symbol symbol.Assign ts _ _ _ refl (plain_steps x y (record { not_colon = refl; not_assign = refl })).not_assign (λ x v. refl))
    (then_comes (takes_steps x (ident n s) [] s close) (then_comes (takes_args y (omega arith) close) (reads _ _ _ _ _ _ refl))))

mutual
  pub takes_block : {d : ℕ} {ts r : List Placed} {b : BlockTree} → Block d ts b r → (k : BlockTree → State) → Comes (want_block d k) ts (k b) r
  takes_block (grammar.block x) k = then_comes (reads _ _ _ _ _ _ refl) (then_comes (takes_stmts x refl [] _) (reads _ _ _ _ _ _ refl))

  -- up to where more of them may come
  takes_stmts : {d : ℕ} {ts r : List Placed} {xs : List StmtTree} → Stmts d ts xs r → next_word word.Else r ≡ false → (acc : List StmtTree) (k : List StmtTree → State) → Comes (in_stmts d acc k) ts (in_stmts d (acc ++ xs) k) r
  takes_stmts (grammar.no_stmt {d = d} {r = r}) h acc k = stays _ _ r (ap (λ xs. in_stmts d xs k) (sym (append-nil acc)))
  takes_stmts (grammar.more_stmts {d = d} {u = u} {x = x} {xs = xs} y m) h acc k =
      then_comes (takes_stmt y (stmts_not_else m h) acc k)
      (then_comes (takes_stmts m h (acc ++ x ∷ []) k) (stays _ _ u (ap (λ all. in_stmts d all k) (append_assoc acc (x ∷ []) xs))))

  takes_stmt : {d : ℕ} {ts r : List Placed} {x : StmtTree} → Stmt d ts x r → next_word word.Else r ≡ false → (acc : List StmtTree) (k : List StmtTree → State) → Comes (in_stmts d acc k) ts (in_stmts d (acc ++ x ∷ []) k) r
  takes_stmt (grammar.var t) h acc k =
      then_comes (reads _ _ _ _ _ _ refl) (then_comes (reads _ _ _ _ _ _ refl) (then_comes (reads _ _ _ _ _ _ refl) (then_comes (takes_type t _) (reads _ _ _ _ _ _ refl))))
  takes_stmt (grammar.var_set {d = d} {n = n} {s = s} {v = v} {t = t} x e) h acc k =
      then_comes (reads _ _ _ _ _ _ refl) (then_comes (reads _ _ _ _ _ _ refl) (then_comes (reads _ _ _ _ _ _ refl) (then_comes (takes_type x _) (then_comes (reads _ _ _ _ _ _ refl)
      (takes_sentence e (λ e z. in_stmts d (acc ++ StmtTree.node (join s z) (StmtForm.var (ident n v) t (Some e)) ∷ []) k))))))
  takes_stmt grammar.new h acc k =
      then_comes (reads _ _ _ _ _ _ refl) (then_comes (reads _ _ _ _ _ _ refl) (then_comes (reads _ _ _ _ _ _ refl) (then_comes (reads _ _ _ _ _ _ refl) (reads _ _ _ _ _ _ refl))))
  takes_stmt (grammar.assign {d = d} {n = n} {s = s} {ts = ts} e) h acc k =
      then_comes (reads _ _ _ _ _ _ refl) (then_comes (reads _ _ _ _ _ _ refl) (then_comes (no_word word.New ts _ _ _ refl (opens e).not_new (λ x v. refl))
      (takes_sentence e (λ e z. in_stmts d (acc ++ StmtTree.node (join s z) (StmtForm.assign (ident n s) e) ∷ []) k))))
  takes_stmt (grammar.access a) h acc k = takes_access_stmt a acc k
  takes_stmt (grammar.if_ {d = d} x) h acc k = takes_if x h (in_stmts d acc k) (λ y. in_stmts d (acc ++ y ∷ []) k) (λ s. refl)
  takes_stmt (grammar.match {d = d} {s = s} {e = e} x a) h acc k =
      then_comes (reads _ _ _ _ _ _ refl) (then_comes (reads _ _ _ _ _ _ refl) (then_comes (takes_expr x (omega arith) _)
      (then_comes (reads _ _ _ _ _ _ refl) (then_comes (reads _ _ _ _ _ _ refl) (then_comes (takes_block_arms a [] _) (reads _ _ _ _ _ _ refl))))))
  takes_stmt (grammar.atomic {d = d} {s = s} b) h acc k =
      then_comes (reads _ _ _ _ _ _ refl) (takes_block b (λ b. in_stmts d (acc ++ StmtTree.node (join s (block_span b)) (StmtForm.atomic b) ∷ []) k))
  takes_stmt (grammar.assert {d = d} {s = s} e) h acc k =
      then_comes (reads _ _ _ _ _ _ refl) (takes_sentence e (λ e z. in_stmts d (acc ++ StmtTree.node (join s z) (StmtForm.assert e) ∷ []) k))
  takes_stmt grammar.return h acc k = then_comes (reads _ _ _ _ _ _ refl) (reads _ _ _ _ _ _ refl)
  takes_stmt (grammar.return_value {d = d} {s = s} {ts = ts} e) h acc k =
      then_comes (reads _ _ _ _ _ _ refl) (then_comes (no_symbol symbol.Semicolon ts _ _ _ refl (opens e).not_semicolon (λ x v. refl))
      (takes_sentence e (λ e z. in_stmts d (acc ++ StmtTree.node (join s z) (StmtForm.return (Some e)) ∷ []) k)))

  -- from a state where the word `if` may come
  takes_if : {d : ℕ} {ts r : List Placed} {x : StmtTree} → IfStmt d ts x r → next_word word.Else r ≡ false → (from : State) (k : StmtTree → State) → ((s : Span) → step from (word word.If) s ≡ Some (to d (in_if d s k))) → Comes from ts (k x) r
  takes_if (grammar.branch {d = d} {s = s} {e = e} x b m) h from k i =
      then_comes (reads _ _ _ _ _ _ (i s)) (then_comes (reads _ _ _ _ _ _ refl) (then_comes (takes_expr x (omega arith) _) (then_comes (reads _ _ _ _ _ _ refl)
      (then_comes (takes_block b (λ b. more_if d s (tree_of e) b k)) (takes_else m h k)))))

  takes_else : {d : ℕ} {s : Span} {e : ExprTree} {b : BlockTree} {ts r : List Placed} {x : StmtTree} → Else d s e b ts x r → next_word word.Else r ≡ false → (k : StmtTree → State) → Comes (more_if d s e b k) ts (k x) r
  takes_else (grammar.no_else {r = r}) h k = no_word word.Else r _ _ _ refl h (λ x v. refl)
  takes_else (grammar.else_block {s = s} {e = e} {b = b} c) h k =
      then_comes (reads _ _ _ _ _ _ refl) (then_comes (begins_block c s e b k) (takes_block c (λ x. k (StmtTree.node (join s (block_span x)) (StmtForm.if_ e b (ElseTree.else_block x))))))
  takes_else (grammar.else_if {d = d} {s = s} {e = e} {b = b} y) h k =
      then_comes (reads _ _ _ _ _ _ refl) (takes_if y h (want_else d s e b k) (λ x. k (StmtTree.node (join s (stmt_span x)) (StmtForm.if_ e b (ElseTree.else_if x)))) (λ s. refl))

  takes_block_arms : {d : ℕ} {ts r : List Placed} {as_ : List BlockArmTree} → BlockArms d ts as_ r → (acc : List BlockArmTree) (k : List BlockArmTree → State) → Comes (in_block_arms d acc k) ts (in_block_arms d (acc ++ as_) k) r
  takes_block_arms (grammar.no_arm {d = d} {r = r}) acc k = stays _ _ r (ap (λ all. in_block_arms d all k) (sym (append-nil acc)))
  takes_block_arms (grammar.more_arms {d = d} {u = u} {p = p} {b = b} {as_ = as_} x y m) acc k =
      then_comes (begins_with_pattern x acc k)
      (then_comes (takes_pattern x (omega arith) (λ p. in_block_arm d (λ b. in_block_arms d (acc ++ BlockArmTree.arm p b ∷ []) k)))
      (then_comes (reads _ _ _ _ _ _ refl) (then_comes (takes_block y (λ b. in_block_arms d (acc ++ BlockArmTree.arm p b ∷ []) k))
      (then_comes (takes_block_arms m (acc ++ BlockArmTree.arm p b ∷ []) k) (stays _ _ u (ap (λ all. in_block_arms d all k) (append_assoc acc (BlockArmTree.arm p b ∷ []) as_)))))))
