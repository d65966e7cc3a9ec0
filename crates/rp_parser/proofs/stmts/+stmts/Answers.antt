use Rattle.std.proofs.Common.{List, arith, rules, refl, ap, sym, subst, ◌∙◌, suc, add-one, [], ◌∷◌, ◌++◌, map}
use Rattle.rp_grammar.specs.declared.terminal.Symbol.TheVariants as symbol
use Rattle.rp_grammar.specs.Trees.{ident, PatternTree, ExprTree, BlockTree, StmtTree, StmtForm, ElseTree, BlockArmTree, stmts, block_arms}
use Rattle.rp_grammar.specs.Parts.{tree_of, join}
use Rattle.rp_grammar.specs.Stmts.{block_span, stmt_span}
use Rattle.rp_ast.specs.View.{ident_view, pattern_view, expr_view, stmt_view, block_view, block_arm_view, else_view}
use Rattle.rp_tokens.specs.MachineStates.{want_symbol, in_stmts, more_if, in_block_arms}
use Rattle.rp_tokens.specs.MachineStmts.{in_block, want_block, want_else, in_block_arm, in_named, alone}
use Rattle.rp_tokens.specs.Machine.{bounded}
use Rattle.rp_parser.specs.means.Marks.{toks}
use Rattle.rp_parser.specs.means.Blocks.{in_arm}
use Rattle.rp_parser.specs.means.StmtStarts.{stmt_next, else_next, IsWithin}
use Rattle.rp_parser.proofs.Rests.{stands_failed, stands_left, stands_at, faults_from, ok_at, grown, begun}
use Rattle.rp_parser.proofs.stmts.+stmts.Goals as goal

pub read_block-returns-clause-reads : goal.read_block-returns-clause-reads
read_block-returns-clause-reads t c = λ o d h k is.
    let deeper = ap suc h ∙ sym (add-one c.args.depth) in
    let opening = c.symbol.result.0 in
    let closed = λ (xs : List StmtTree). want_symbol symbol.CloseBrace refl d (λ z. k (BlockTree.block (join opening z) (stmts xs))) in
    let xs = map stmt_view c.read_stmts-stmts.result.0 in
    let close = c.symbol-2.result in
    stands_at close.1 k (BlockTree.block (join opening close.0) (stmts xs)) (block_view c.block.result) o
    (ap (λ v. BlockTree.block v (stmts xs)) (sym c.join-span.ensures) ∙ sym c.block.ensures)
    (c.symbol-2.ensures.reads o d h refl (λ z. k (BlockTree.block (join opening z) (stmts xs)))
    (c.read_stmts-stmts.ensures.reads o (suc d) deeper closed (c.symbol.ensures.reads o d h refl (λ o. in_block d o k) is)))

pub read_stmts-returns-in_default-clause-reads : goal.read_stmts-returns-in_default-clause-reads
read_stmts-returns-in_default-clause-reads t c = λ o d h k is.
    stands_at c.args.rest k [] (map stmt_view c.new-stmts.result) o (sym (ap (map stmt_view) c.new-stmts.ensures)) (c.in_default.ensures.reads o d [] k is)

pub read_stmts-stmts-init : goal.read_stmts-stmts-init
read_stmts-stmts-init t c = record {
  no_longer = omega (arith, c.pushed-behind.ensures.no_longer, c.read_next_stmt-first.ensures.no_longer, c.in-Some.ensures.shorter);
  reads = λ o d h k is.
      begun _ _ stmt_view (λ xs. in_stmts d xs k) c.pushed-behind.new.list c.new-stmts.result c.read_next_stmt-first.result.0 o c.new-stmts.ensures c.pushed-behind.ensures.pushes
      (c.pushed-behind.ensures.reads o _ (c.read_next_stmt-first.ensures.reads o d h (λ y. in_stmts d (y ∷ []) k) (c.in-Some.ensures.reads o d [] k is)));
}

pub read_stmts-stmts-preserved : goal.read_stmts-stmts-preserved
read_stmts-stmts-preserved t c =
    let xs = map stmt_view c.stmts.stmts in
    record {
      no_longer = omega (arith, c.pushed-behind-in-stmts.ensures.no_longer, c.read_next_stmt-stmt.ensures.no_longer, c.in-Some-stmt_sign.ensures.shorter, c.stmts.invariant.no_longer);
      reads = λ o d h k is.
          grown _ _ stmt_view (λ xs. in_stmts d xs k) c.pushed-behind-in-stmts.new.list c.stmts.stmts c.read_next_stmt-stmt.result.0 o c.pushed-behind-in-stmts.ensures.pushes
          (c.pushed-behind-in-stmts.ensures.reads o _ (c.read_next_stmt-stmt.ensures.reads o d h (λ y. in_stmts d (xs ++ y ∷ []) k) (c.in-Some-stmt_sign.ensures.reads o d xs k (c.stmts.invariant.reads o d h k is))));
    }

pub read_stmts-returns-in_default-stmt_sign-clause-reads : goal.read_stmts-returns-in_default-stmt_sign-clause-reads
read_stmts-returns-in_default-stmt_sign-clause-reads t c = λ o d h k is. c.in_default-stmt_sign.ensures.reads o d (map stmt_view c.stmts.stmts) k (c.stmts.invariant.reads o d h k is)

pub read_arms-returns-in_default-clause-reads : goal.read_arms-returns-in_default-clause-reads
read_arms-returns-in_default-clause-reads t c = λ o d h k is.
    stands_at c.args.rest k [] (map block_arm_view c.new-arms.result) o (sym (ap (map block_arm_view) c.new-arms.ensures)) (c.in_default.ensures.reads o d [] k is)

pub read_arms-arms-init : goal.read_arms-arms-init
read_arms-arms-init t c = record {
  no_longer = omega (arith, c.pushed-behind.ensures.no_longer, c.read_next_arm-first.ensures.no_longer, c.in-Some.ensures.shorter);
  reads = λ o d h k is.
      begun _ _ block_arm_view (λ xs. in_block_arms d xs k) c.pushed-behind.new.list c.new-arms.result c.read_next_arm-first.result.0 o c.new-arms.ensures c.pushed-behind.ensures.pushes
      (c.pushed-behind.ensures.reads o _ (c.read_next_arm-first.ensures.reads o d h (λ y. in_block_arms d (y ∷ []) k) (c.in-Some.ensures.reads o d [] k is)));
}

pub read_arms-arms-preserved : goal.read_arms-arms-preserved
read_arms-arms-preserved t c =
    let xs = map block_arm_view c.arms.arms in
    record {
      no_longer = omega (arith, c.pushed-behind-in-arms.ensures.no_longer, c.read_next_arm-arm.ensures.no_longer, c.in-Some-arm_sign.ensures.shorter, c.arms.invariant.no_longer);
      reads = λ o d h k is.
          grown _ _ block_arm_view (λ xs. in_block_arms d xs k) c.pushed-behind-in-arms.new.list c.arms.arms c.read_next_arm-arm.result.0 o c.pushed-behind-in-arms.ensures.pushes
          (c.pushed-behind-in-arms.ensures.reads o _ (c.read_next_arm-arm.ensures.reads o d h (λ y. in_block_arms d (xs ++ y ∷ []) k) (c.in-Some-arm_sign.ensures.reads o d xs k (c.arms.invariant.reads o d h k is))));
    }

pub read_arms-returns-in_default-arm_sign-clause-reads : goal.read_arms-returns-in_default-arm_sign-clause-reads
read_arms-returns-in_default-arm_sign-clause-reads t c = λ o d h k is. c.in_default-arm_sign.ensures.reads o d (map block_arm_view c.arms.arms) k (c.arms.invariant.reads o d h k is)

pub read_next_stmt-returns-then-depth-gt-MAX_DEPTH-clause-reads : goal.read_next_stmt-returns-then-depth-gt-MAX_DEPTH-clause-reads
read_next_stmt-returns-then-depth-gt-MAX_DEPTH-clause-reads t c = λ o d h k enters.
    let (r, is, n) = enters.1 (omega arith) in
    (r, is, omega (arith, n))

pub read_next_arm-returns-then-depth-gt-MAX_DEPTH-clause-reads : goal.read_next_arm-returns-then-depth-gt-MAX_DEPTH-clause-reads
read_next_arm-returns-then-depth-gt-MAX_DEPTH-clause-reads t c = λ o d h k enters.
    let (r, is, n) = enters.1 (omega arith) in
    (r, is, omega (arith, n))

pub read_next_stmt-returns-clause-reads : goal.read_next_stmt-returns-clause-reads
read_next_stmt-returns-clause-reads t c = λ o d h k enters. c.read_stmt.ensures.reads o d h k (enters.0 (omega arith))

pub read_next_arm-returns-clause-reads : goal.read_next_arm-returns-clause-reads
read_next_arm-returns-clause-reads t c = λ o d h k enters.
    let n = ident c.args.con.now c.args.con_span in
    c.read_arm.ensures.reads o d h k
    (c.made-con.ensures.reads o (λ n. in_arm d (ident_view n) k) (in_arm d n k) (ok_at _ ident_view n (λ n. in_arm d n k) c.ident-con.ensures.view) (enters.0 (omega arith)))

pub read_stmt-returns-in-Name-clause-reads : goal.read_stmt-returns-in-Name-clause-reads
read_stmt-returns-in-Name-clause-reads t c = λ o d h k is.
    let n = ident c.in-Name.bytes.now c.args.start_span in
    c.read_named.ensures.reads o d h k
    (c.made-name.ensures.reads o (λ n. in_named d (ident_view n) k) (in_named d n k) (ok_at _ ident_view n (λ n. in_named d n k) c.ident-name.ensures.view) (stands_at c.args.rest (λ x. stmt_next d k c.args.start_span x) _ _ o c.in-Name.is is))

pub read_stmt-returns-in-Var-clause-reads : goal.read_stmt-returns-in-Var-clause-reads
read_stmt-returns-in-Var-clause-reads t c = λ o d h k is. c.read_var.ensures.reads o d h k (stands_at c.args.rest (λ x. stmt_next d k c.args.start_span x) _ _ o c.in-Var.is is)

pub read_stmt-returns-in-If-clause-reads : goal.read_stmt-returns-in-If-clause-reads
read_stmt-returns-in-If-clause-reads t c = λ o d h k is. c.read_if.ensures.reads o d h k (stands_at c.args.rest (λ x. stmt_next d k c.args.start_span x) _ _ o c.in-If.is is)

pub read_stmt-returns-in-Match-clause-reads : goal.read_stmt-returns-in-Match-clause-reads
read_stmt-returns-in-Match-clause-reads t c = λ o d h k is. c.read_match.ensures.reads o d h k (stands_at c.args.rest (λ x. stmt_next d k c.args.start_span x) _ _ o c.in-Match.is is)

pub read_stmt-returns-in-Atomic-clause-reads : goal.read_stmt-returns-in-Atomic-clause-reads
read_stmt-returns-in-Atomic-clause-reads t c = λ o d h k is. c.read_atomic.ensures.reads o d h k (stands_at c.args.rest (λ x. stmt_next d k c.args.start_span x) _ _ o c.in-Atomic.is is)

pub read_stmt-returns-in-Assert-clause-reads : goal.read_stmt-returns-in-Assert-clause-reads
read_stmt-returns-in-Assert-clause-reads t c = λ o d h k is. c.read_assert.ensures.reads o d h k (stands_at c.args.rest (λ x. stmt_next d k c.args.start_span x) _ _ o c.in-Assert.is is)

pub read_stmt-returns-in-Return-clause-reads : goal.read_stmt-returns-in-Return-clause-reads
read_stmt-returns-in-Return-clause-reads t c = λ o d h k is. c.read_return.ensures.reads o d h k (stands_at c.args.rest (λ x. stmt_next d k c.args.start_span x) _ _ o c.in-Return.is is)

pub read_atomic-returns-clause-reads : goal.read_atomic-returns-clause-reads
read_atomic-returns-clause-reads t c = λ o d h k is.
    let body = block_view c.read_block-body.result.0 in
    stands_at c.read_block-body.result.1 k (StmtTree.node (join c.args.start (block_span body)) (StmtForm.atomic body)) (stmt_view c.atomic.result) o
    (ap (λ v. StmtTree.node (join c.args.start v) (StmtForm.atomic body)) (sym c.span_of_block.ensures) ∙ ap (λ v. StmtTree.node v (StmtForm.atomic body)) (sym c.join-span.ensures) ∙ sym c.atomic.ensures)
    (c.read_block-body.ensures.reads o d h (λ b. k (StmtTree.node (join c.args.start (block_span b)) (StmtForm.atomic b))) is)

pub read_if-returns-in_default-clause-reads : goal.read_if-returns-in_default-clause-reads
read_if-returns-in_default-clause-reads t c = λ o d h k is.
    let s = c.args.start in
    let e = expr_view c.read_parens-condition.result.0 in
    let b = block_view c.read_block-body.result.0 in
    let behind = c.read_block-body.ensures.reads o d h (λ b. more_if d s e b k)
    (c.read_parens-condition.ensures.reads o d h (λ e _. want_block d (λ b. more_if d s (tree_of e) b k)) is) in
    stands_at c.read_block-body.result.1 k (alone s e b) (stmt_view c.if_.result) o
    (ap (λ v. StmtTree.node (join c.args.start v) (StmtForm.if_ e b ElseTree.no_else)) (sym c.span_of_block.ensures) ∙ ap (λ v. StmtTree.node v (StmtForm.if_ e b ElseTree.no_else)) (sym c.join-span.ensures) ∙ sym c.if_.ensures)
    (c.in_default.ensures.reads o d h s e b k behind)

pub read_if-returns-clause-reads : goal.read_if-returns-clause-reads
read_if-returns-clause-reads t c = λ o d h k is.
    let s = c.args.start in
    let e = expr_view c.read_parens-condition.result.0 in
    let b = block_view c.read_block-body.result.0 in
    let behind = c.read_block-body.ensures.reads o d h (λ b. more_if d s e b k)
    (c.read_parens-condition.ensures.reads o d h (λ e _. want_block d (λ b. more_if d s (tree_of e) b k)) is) in
    let other = c.read_else-otherwise.result in
    let form = StmtForm.if_ e b (else_view other.0) in
    stands_at other.2 k (StmtTree.node (join s other.1) form) (stmt_view c.if_-2.result) o
    (ap (λ v. StmtTree.node v form) (sym c.join-span-2.ensures) ∙ sym c.if_-2.ensures)
    (c.read_else-otherwise.ensures.reads o d h s e b k (c.in-Some.ensures.reads o d h s e b k behind))

pub read_else-returns-in_default-clause-reads : goal.read_else-returns-in_default-clause-reads
read_else-returns-in_default-clause-reads t c = λ o d h v e b k is. stands_failed _ _ _ _ _ c.in_default.is is

pub read_else-returns-in-If-clause-reads : goal.read_else-returns-in-If-clause-reads
read_else-returns-in-If-clause-reads t c = λ o d h v e b k is.
    c.read_else_if.ensures.reads o d h v e b k
    (stands_left c.args.rest c.in-Left.marks (want_else d v e b k) o c.in-Left.is is ∙ c.in-Ok.ensures.reads d h v e b k ∙ ap (λ x. bounded 64 (else_next d v e b k x) (toks c.in-Ok.after.now)) c.in-If.is)

pub read_else-returns-in-Block-clause-reads : goal.read_else-returns-in-Block-clause-reads
read_else-returns-in-Block-clause-reads t c = λ o d h v e b k is.
    c.read_else_block.ensures.reads o d h v e b k
    (stands_left c.args.rest c.in-Left.marks (want_else d v e b k) o c.in-Left.is is ∙ c.in-Ok.ensures.reads d h v e b k ∙ ap (λ x. bounded 64 (else_next d v e b k x) (toks c.in-Ok.after.now)) c.in-Block.is)

pub read_else-returns-in-Err-clause-reads : goal.read_else-returns-in-Err-clause-reads
read_else-returns-in-Err-clause-reads t c = λ o d h v e b k is. faults_from _ _ _ (stands_left c.args.rest c.in-Left.marks (want_else d v e b k) o c.in-Left.is is) (c.in-Err.ensures.reads d h v e b k)

pub read_else-read_else_if-requires : goal.read_else-read_else_if-requires
read_else-read_else_if-requires t c =
    let w = subst (IsWithin c.args.depth) c.in-If.is c.in-Ok.ensures.within in
    search (rules, w)

pub read_else_if-returns-clause-reads : goal.read_else_if-returns-clause-reads
read_else_if-returns-clause-reads t c = λ o d h v e b k is.
    let deeper = ap suc h ∙ sym (add-one c.args.depth) in
    let branch = stmt_view c.read_if-branch.result.0 in
    let last = c.span_of_stmt-last.result in
    let form = StmtForm.if_ e b in
    c.made-node.ensures.reads o (λ x. k (StmtTree.node (join v last) (form (else_view x)))) (k (StmtTree.node (join v last) (form (ElseTree.else_if branch))))
    (ok_at _ else_view (ElseTree.else_if branch) (λ x. k (StmtTree.node (join v last) (form x))) c.else_if-node.ensures)
    (stands_at c.read_if-branch.result.1 (λ w. k (StmtTree.node (join v w) (form (ElseTree.else_if branch)))) (stmt_span branch) last o (sym c.span_of_stmt-last.ensures)
    (c.read_if-branch.ensures.reads o (suc d) deeper (λ x. k (StmtTree.node (join v (stmt_span x)) (form (ElseTree.else_if x)))) is))

pub read_else_block-returns-clause-reads : goal.read_else_block-returns-clause-reads
read_else_block-returns-clause-reads t c = λ o d h v e b k is.
    let body = block_view c.read_block-body.result.0 in
    let last = c.span_of_block-last.result in
    let form = StmtForm.if_ e b in
    stands_at c.read_block-body.result.1 k (StmtTree.node (join v (block_span body)) (form (ElseTree.else_block body))) (StmtTree.node (join v last) (form (else_view c.else_block.result))) o
    (ap (λ w. StmtTree.node (join v w) (form (ElseTree.else_block body))) (sym c.span_of_block-last.ensures) ∙ ap (λ x. StmtTree.node (join v last) (form x)) (sym c.else_block.ensures))
    (c.read_block-body.ensures.reads o d h (λ x. k (StmtTree.node (join v (block_span x)) (form (ElseTree.else_block x)))) is)

pub read_match-returns-clause-reads : goal.read_match-returns-clause-reads
read_match-returns-clause-reads t c = λ o d h k is.
    let deeper = ap suc h ∙ sym (add-one c.args.depth) in
    let s = c.args.start in
    let closed = λ (e : ExprTree) (as_ : List BlockArmTree). want_symbol symbol.CloseBrace refl d (λ x. k (StmtTree.node (join s x) (StmtForm.match e (block_arms as_)))) in
    let value = expr_view c.read_parens-value.result.0 in
    let arms = map block_arm_view c.read_arms-arms.result.0 in
    let close = c.symbol-2.result in
    stands_at close.1 k (StmtTree.node (join s close.0) (StmtForm.match value (block_arms arms))) (stmt_view c.match_.result) o
    (ap (λ v. StmtTree.node v (StmtForm.match value (block_arms arms))) (sym c.join-span.ensures) ∙ sym c.match_.ensures)
    (c.symbol-2.ensures.reads o d h refl (λ x. k (StmtTree.node (join s x) (StmtForm.match value (block_arms arms))))
    (c.read_arms-arms.ensures.reads o (suc d) deeper (closed value)
    (c.symbol.ensures.reads o d h refl (λ _. in_block_arms (suc d) [] (closed value))
    (c.read_parens-value.ensures.reads o d h (λ e _. want_symbol symbol.OpenBrace refl d (λ _. in_block_arms (suc d) [] (closed (tree_of e)))) is))))

pub read_arm-returns-clause-reads : goal.read_arm-returns-clause-reads
read_arm-returns-clause-reads t c = λ o d h k is.
    let arrowed = λ (p : PatternTree). in_block_arm d (λ b. k (BlockArmTree.arm p b)) in
    let p = pattern_view c.read_variables-pattern.result.0 in
    let body = c.read_block-body.result in
    stands_at body.1 k (BlockArmTree.arm p (block_view body.0)) (block_arm_view c.arm.result) o (sym c.arm.ensures)
    (c.read_block-body.ensures.reads o d h (λ b. k (BlockArmTree.arm p b))
    (c.symbol.ensures.reads o d h refl (λ _. want_block d (λ b. k (BlockArmTree.arm p b))) (c.read_variables-pattern.ensures.reads o d h arrowed is)))
