use Rattle.std.proofs.Common.{◌≡◌, ◌+◌, ◌++◌, List, [], ◌∷◌, None, Some, drop, refl, take, ap, append-nil, sym, ◌∙◌}
use Rattle.rp_ast.specs.declared.stmt.BlockArm.{BlockArm}
use Rattle.rp_ast.specs.declared.stmt.StmtNode.{StmtNode}
use Rattle.rp_ast.specs.declared.stmt.ElseNode.TheViews.{out-Block, out-BlockArm}
use Rattle.rp_ast.specs.View.{block_arm_view, block_arms_view, block_view, else_view, expr_view, maybe_else_view, pattern_view, stmt_form_view, stmt_view, stmts_view}
use Rattle.rp_ast.proofs.StmtViews.{block_arm_view-parts, block_view-parts, stmt_form_view-If, stmt_form_view-Match, stmt_view-parts}
use Rattle.rp_grammar.specs.Trees.{ElseTree, StmtForm, StmtTree}
use Rattle.type_rules.specs.declared.kind.Kind.{Kind}
use Rattle.type_rules.specs.Names.{Names}
use Rattle.type_rules.specs.Kinds.{bool_kind}
use Rattle.type_rules.specs.Accesses.{Var}
use Rattle.type_rules.specs.Matches.{pattern_kinds, pattern_name, pattern_vars}
use Rattle.type_rules.specs.Typing.{type_of}
use Rattle.text_names.specs.Declarations.{names_view}
use Rattle.text_names.proofs.Placed.{on_ok}
use Rattle.text_kinds.specs.Numbered.{with_kinds}
use Rattle.text_kinds.specs.means.Brought.{Seen, behind_pattern, block_arm_brings, block_arms_bring, block_brings, else_brings, expr_brings, seeing, sought, stmt_brings, stmts_behind, stmts_bring, vars_behind}
use Rattle.text_kinds.specs.means.Walked.{seen}
use Rattle.text_kinds.proofs.Bare.{behind_more, bound_more}
use Rattle.text_kinds.proofs.Walks.{both_as, gains_on, goes_on, left_gained, left_sought, rest_is, three_as}
use Rattle.text_kinds.proofs.appearances.Seeker.+stmts.Goals as goal

pub block-returns : goal.block-returns
block-returns t c =
    let start = seen c.args.self.now in
    let n = start.kinds.names in
    let r = c.args.kind in
    let block = c.args.block.now in
    let stmts = stmts_view (out-Block block).stmts in
    let more = behind_more n start.vars stmts in
    let end = seen c.stmts.new.self in
    left_gained start end (seen c.leave.new.self) (stmts_bring n start.vars r stmts) (stmts_behind n start.vars stmts) more.0
    more.1
    (c.in_ok-stmts.ensures
    ∙ ap (λ (ss : List StmtNode). seeing (sought start (stmts_bring n start.vars r (stmts_view ss)))
    (stmts_behind n start.vars (stmts_view ss)))
    c.as_slice.ensures.items)
    (c.leave.ensures ∙ ap (λ len. seeing end (take len end.vars)) c.len-len.ensures)
    ∙ ap (λ b. sought start (block_brings n start.vars r b)) (sym (block_view-parts block))

pub block_arm-returns : goal.block_arm-returns
block_arm-returns t c =
    let start = seen c.args.self.now in
    let n = start.kinds.names in
    let arm = out-BlockArm c.args.arm.now in
    let p = pattern_view arm.pattern in
    let vs = behind_pattern n start.vars c.args.own p in
    let more = bound_more start.vars (pattern_vars p) (pattern_kinds n c.args.own (pattern_name p)) in
    let f : Names → List Var → List Kind = λ m ws. block_brings m ws c.args.kind (block_view arm.body) in
    let end = seen c.block.new.self in
    left_sought start (seen c.bind_all.new.self) end (seen c.leave.new.self) vs more.0 f more.1
    c.in_ok-bind_all.ensures c.in_ok-block.ensures
    (c.leave.ensures ∙ ap (λ len. seeing end (take len end.vars)) c.len-len.ensures)
    ∙ ap (λ a. sought start (block_arm_brings n start.vars c.args.kind c.args.own a)) (sym (block_arm_view-parts c.args.arm.now))

pub block_arms-loop-arm-preserved : goal.block_arms-loop-arm-preserved
block_arms-loop-arm-preserved t c =
    let start = seen c.args.self.now in
    let n = start.kinds.names in
    let arms = c.args.arms.now in
    let i = c.loop-arm.arm-index in
    let x = c.arm-item.result in
    let all : List BlockArm → List Kind = λ xs. block_arms_bring n start.vars c.args.kind c.args.own (block_arms_view xs) in
    let f : Names → List Var → List Kind = λ m vs. block_arm_brings m vs c.args.kind c.args.own (block_arm_view x) in
    goes_on start (seen c.loop-arm.self) (seen c.block_arm.new.self) (all (drop i arms)) (all (drop (i + 1) arms)) (all arms) f
    c.loop-arm.invariant
    (ap all (rest_is arms i x c.loop-arm-test.true c.arm-item.is))
    c.in_ok-block_arm.ensures

pub stmts-loop-stmt-preserved : goal.stmts-loop-stmt-preserved
stmts-loop-stmt-preserved t c =
    let start = seen c.args.self.now in
    let now = seen c.loop-stmt.self in
    let new = seen c.stmt.new.self in
    let n = start.kinds.names in
    let r = c.args.kind in
    let stmts = c.args.stmts.now in
    let i = c.loop-stmt.stmt-index in
    let x = c.stmt-item.result in
    let s = stmt_view x in
    let rest = stmts_view (drop (i + 1) stmts) in
    let gains = c.loop-stmt.invariant in
    let one : drop i stmts ≡ x ∷ drop (i + 1) stmts = rest_is stmts i x c.loop-stmt-test.true c.stmt-item.is in
    let vars : vars_behind n now.vars s ≡ new.vars =
    sym (ap (λ (s : Seen). s.vars) c.in_ok-stmt.ensures ∙ ap (λ m. vars_behind m now.vars s) gains.names) in
    gains_on start now new (stmts_bring n now.vars r (stmts_view (drop i stmts))) (stmt_brings n now.vars r s)
    (stmts_bring n new.vars r rest)
    (stmts_bring n start.vars r (stmts_view stmts)) (stmts_behind n now.vars (stmts_view (drop i stmts)))
    (stmts_behind n new.vars rest)
    (stmts_behind n start.vars (stmts_view stmts)) gains
    (ap (λ (xs : List StmtNode). stmts_bring n now.vars r (stmts_view xs)) one
    ∙ ap (λ vs. stmt_brings n now.vars r s ++ stmts_bring n vs r rest) vars)
    (ap (λ (xs : List StmtNode). stmts_behind n now.vars (stmts_view xs)) one ∙ ap (λ vs. stmts_behind n vs rest) vars)
    (ap (λ (s : Seen). s.kinds) c.in_ok-stmt.ensures ∙ ap (λ m. with_kinds (stmt_brings m now.vars r s) now.kinds) gains.names)

pub stmt-returns-in-Some : goal.stmt-returns-in-Some
stmt-returns-in-Some t c =
    let start = seen c.args.self.now in
    let n = start.kinds.names in
    let vs = start.vars in
    let r = c.args.kind in
    let stmt = c.args.stmt.now in
    let e = expr_view c.in-If.condition in
    let b = block_view c.in-If.body in
    let other = else_view c.in-Some.otherwise in
    let view : stmt_view stmt ≡ StmtTree.node stmt.span (StmtForm.if_ e b other) =
    stmt_view-parts stmt
    ∙ ap (StmtTree.node stmt.span) (ap stmt_form_view c.in-If.is ∙ stmt_form_view-If c.in-If.condition c.in-If.body
    c.in-If.otherwise)
    ∙ ap (λ o. StmtTree.node stmt.span (StmtForm.if_ e b (maybe_else_view o))) c.in-Some.is in
    on_ok c.otherwise.result
    (λ is. three_as start (seen c.expr.new.self) (seen c.block.new.self) (seen c.otherwise.new.self)
    (λ m ws. expr_brings m ws (Some bool_kind) e) (λ m ws. block_brings m ws r b) (λ m ws. else_brings m ws r other) _
    c.in_ok-expr-in-If.ensures c.in_ok-block-in-If.ensures is refl
    ∙ ap (λ s. seeing (sought start (stmt_brings n vs r s)) (vars_behind n vs s)) (sym view))
    c.otherwise.ensures

pub stmt-returns-in-None : goal.stmt-returns-in-None
stmt-returns-in-None t c =
    let start = seen c.args.self.now in
    let n = start.kinds.names in
    let vs = start.vars in
    let r = c.args.kind in
    let stmt = c.args.stmt.now in
    let e = expr_view c.in-If.condition in
    let b = block_view c.in-If.body in
    let view : stmt_view stmt ≡ StmtTree.node stmt.span (StmtForm.if_ e b ElseTree.no_else) =
    stmt_view-parts stmt
    ∙ ap (StmtTree.node stmt.span) (ap stmt_form_view c.in-If.is ∙ stmt_form_view-If c.in-If.condition c.in-If.body
    c.in-If.otherwise)
    ∙ ap (λ o. StmtTree.node stmt.span (StmtForm.if_ e b (maybe_else_view o))) c.in-None.is in
    both_as start (seen c.expr.new.self) (seen c.block.new.self)
    (λ m ws. expr_brings m ws (Some bool_kind) e) (λ m ws. block_brings m ws r b)
    (expr_brings n vs (Some bool_kind) e ++ block_brings n vs r b ++ [])
    c.in_ok-expr-in-If.ensures c.in_ok-block-in-If.ensures
    (append-nil (expr_brings n vs (Some bool_kind) e ++ block_brings n vs r b))
    ∙ ap (λ s. seeing (sought start (stmt_brings n vs r s)) (vars_behind n vs s)) (sym view)

pub stmt-returns-in_ok-expr-in-Match : goal.stmt-returns-in_ok-expr-in-Match
stmt-returns-in_ok-expr-in-Match t c =
    let start = seen c.args.self.now in
    let n = start.kinds.names in
    let vs = start.vars in
    let r = c.args.kind in
    let stmt = c.args.stmt.now in
    let mid = seen c.expr-in-Match.new.self in
    let e = expr_view c.in-Match.term in
    let arms = c.in-Match.arms in
    let own = c.in_ok-own-in-Match.own in
    let kind : own ≡ type_of n vs None e = c.in_ok-own-in-Match.ensures ∙ ap (λ m. type_of (names_view m) vs None e)
    c.names.ensures in
    let view : stmt_view stmt ≡ StmtTree.node stmt.span (StmtForm.match e (block_arms_view arms)) =
    stmt_view-parts stmt ∙ ap (StmtTree.node stmt.span) (ap stmt_form_view c.in-Match.is ∙ stmt_form_view-Match c.in-Match.term
    arms) in
    on_ok c.block_arms.result
    (λ is. both_as start mid (seen c.block_arms.new.self)
    (λ m ws. expr_brings m ws None e) (λ m ws. block_arms_bring m ws r own (block_arms_view arms)) _
    c.in_ok-expr-in-Match.ensures
    (is ∙ ap (λ (xs : List BlockArm). sought mid (block_arms_bring mid.kinds.names mid.vars r own (block_arms_view xs)))
    c.as_slice.ensures.items)
    (ap (λ k. expr_brings n vs None e ++ block_arms_bring n vs r k (block_arms_view arms)) (sym kind))
    ∙ ap (λ s. seeing (sought start (stmt_brings n vs r s)) (vars_behind n vs s)) (sym view))
    c.block_arms.ensures
