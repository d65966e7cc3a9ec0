use Rattle.std.proofs.Common.{◌≡◌, ◌+◌, true, List, [], length, drop, Option, Some, None, IfOk, OnOk, refl, ap, sym, subst, ◌∙◌}
use Rattle.std.proofs.lemmas.Result.{err_from_is_err_and}
use Rattle.rp_grammar.specs.Trees.{BlockArmTree, BlockArmTrees, BlockTree, ElseTree, StmtForm as FormTree, StmtTree, StmtTrees}
use Rattle.rp_ast.specs.declared.stmt.ElseNode.{ElseNode}
use Rattle.rp_ast.specs.declared.stmt.ElseNode.TheViews.{out-Block, out-BlockArm}
use Rattle.rp_ast.specs.View.{access_view, block_arm_view, block_arms_view, block_view, else_view, expr_view, ident_view, maybe_else_view, optional, pattern_view, stmt_form_view, stmt_view, stmts_view, type_view}
use Rattle.rp_ast.proofs.StmtViews.{block_arm_view-parts, block_view-parts, else_view-Block, else_view-If, stmt_form_view-Access, stmt_form_view-Assert, stmt_form_view-Assign, stmt_form_view-Atomic, stmt_form_view-If, stmt_form_view-Match, stmt_form_view-New, stmt_form_view-Return, stmt_form_view-Var, stmt_view-parts}
use Rattle.rp_lang.specs.declared.stmt.StmtArm.{roll-StmtArm}
use Rattle.rp_lang.specs.declared.stmt.StmtKind.TheFolds.{fold-roll-StmtArm}
use Rattle.rp_lang.specs.Stmts.{St, StArms, no_st}
use Rattle.rp_lang.specs.Views as lang
use Rattle.rp_lang.specs.Views.{Placed, StArmView, kind_step, stmt_arm_step, stmt_step}
use Rattle.type_rules.specs.declared.kind.Kind.{Kind}
use Rattle.type_rules.specs.Accesses.{Var}
use Rattle.type_rules.specs.Matches.{pattern_name}
use Rattle.type_rules.specs.Typing.{type_of}
use Rattle.text_names.proofs.Entries.{drop_past}
use Rattle.desugaring.specs.Statements as spec
use Rattle.desugaring.specs.Statements.{Made}
use Rattle.desugaring.specs.Tables.{con_number}
use Rattle.reading.specs.declared.reader.Reader.{Reader}
use Rattle.reading.proofs.Found.{arm_is, next_in}
use Rattle.lower_procs.specs.Writing.{Adds, ArePast, ArmIsPast, ArmsArePast, AsksTerm, Writes, WritesArm, WritesArms, WritesBlock, arms_in, behind, block_in, else_in, sight_in, stmt_in, stmts_at}
use Rattle.lower_procs.proofs.Added.{nothing_added}
use Rattle.lower_procs.proofs.Sights.{vars_seen}
use Rattle.lower_procs.proofs.Simple.{same_some, stopped}
use Rattle.lower_procs.proofs.Ways.{ArmsWay, StmtsWay, arms_begin, arms_end, arms_go_on, arms_past, way_begins, way_goes_on, way_past}
use Rattle.lower_procs.proofs.Written.{InSlots, arm_past, arm_written, arms_pushed, atomic_past, atomic_written, block_written, if_past, if_past_left, if_past_right, if_written, kind_on, match_past, match_past_arms, match_written}
use Rattle.lower_procs.proofs.writer.Writer.+writing.Goals as goal

pub arm-returns-in_err-body-clause-nodes : goal.arm-returns-in_err-body-clause-nodes
arm-returns-in_err-body-clause-nodes t c err =
    let w = c.args.self.now in
    let arm = c.args.arm.now in
    let shape = pattern_view (out-BlockArm arm).pattern in
    let body = block_view (out-BlockArm arm).body in
    let in_ : InSlots w c.args.kind shape c.declare_all.new.self = record { slots = c.in_ok-slots.ensures.slots; maker = c.in_ok-slots.ensures.maker } in
    subst (λ (a : BlockArmTree). ArmIsPast w c.args.frame c.args.kind a) (sym (block_arm_view-parts arm))
    (arm_past c.args.frame body in_ (c.in_err-body.ensures.nodes (stopped (err_from_is_err_and c.from_residual-in_err-body.result c.from_residual-in_err-body.ensures.1) err)))

pub arm-returns-clause-writes : goal.arm-returns-clause-writes
arm-returns-clause-writes t c =
    let w = c.args.self.now in
    let arm = c.args.arm.now in
    let shape = pattern_view (out-BlockArm arm).pattern in
    let body = block_view (out-BlockArm arm).body in
    let in_ : InSlots w c.args.kind shape c.declare_all.new.self = record { slots = c.in_ok-slots.ensures.slots; maker = c.in_ok-slots.ensures.maker } in
    let sts = lang.stmts_view c.in_ok-body.body in
    let made : StArmView = (c.in_ok-con.con, c.in_ok-slots.slots, sts) in
    let new = record c.block.new.self { maker = record c.block.new.self.maker { reader = c.unbind.new.self } } in
    let view : lang.stmt_arm_view (roll-StmtArm (record { con = c.in_ok-con.con; slots = c.in_ok-slots.slots; body = c.in_ok-body.body })) ≡ made =
    fold-roll-StmtArm Placed St StArmView kind_step stmt_step stmt_arm_step (record { con = c.in_ok-con.con; slots = c.in_ok-slots.slots; body = c.in_ok-body.body }) in
    let named : con_number (sight_in w).tables c.args.kind (pattern_name shape) ≡ Some c.in_ok-con.con =
    ap (con_number (sight_in w).tables c.args.kind) (sym c.as_slice.ensures.items) ∙ c.in_ok-con.ensures.found in
    subst (λ (x : StArmView). WritesArm w c.args.frame c.args.kind (block_arm_view arm) new x) (sym view)
    (subst (λ (a : BlockArmTree). WritesArm w c.args.frame c.args.kind a new made) (sym (block_arm_view-parts arm))
    (λ ready con m con_is body_is.
    arm_written {x = made} c.args.frame body c.len-len.result c.unbind.new.self con m ready in_ c.in_ok-body.ensures.writes c.len-len.ensures
    c.unbind.ensures (sym (arm_is (sight_in w).tables c.args.kind shape c.in_ok-con.con named con con_is)) c.in_ok-slots.ensures.numbers refl body_is))

pub arms-loop-arm-init : goal.arms-loop-arm-init
arms-loop-arm-init t c ready m h =
    subst (λ l. ArmsWay c.args.self.now c.args.frame c.args.kind m (block_arms_view c.args.arms.now) c.args.self.now (lang.stmt_arms_view l)) (sym c.new-made.ensures)
    (arms_begin c.args.self.now c.args.frame c.args.kind m (block_arms_view c.args.arms.now) ready h)

pub arms-loop-arm-preserved : goal.arms-loop-arm-preserved
arms-loop-arm-preserved t c ready m h =
    let w = c.args.self.now in
    let f = c.args.frame in
    let k = c.args.kind in
    let arms = c.args.arms.now in
    let i = c.loop-arm.arm-index in
    let arm = c.arm-item.result in
    let shape = pattern_view (out-BlockArm arm).pattern in
    let body = block_view (out-BlockArm arm).body in
    let now = c.loop-arm.self in
    let made = lang.stmt_arms_view c.loop-arm.made in
    let way : ArmsWay w f k m (BlockArmTrees.more_block_arms (BlockArmTree.arm shape body) (block_arms_view (drop (i + 1) arms))) now made =
    subst (λ (a : BlockArmTree). ArmsWay w f k m (BlockArmTrees.more_block_arms a (block_arms_view (drop (i + 1) arms))) now made) (block_arm_view-parts arm)
    (subst (λ (rest : BlockArmTrees). ArmsWay w f k m rest now made) (next_in block_arms_view arms i arm c.loop-arm-test.true c.arm-item.is)
    (c.loop-arm.invariant ready m h)) in
    let writes = subst (λ (a : BlockArmTree). WritesArm now f k a c.arm.new.self (lang.stmt_arm_view c.in_ok-next.next)) (block_arm_view-parts arm) c.in_ok-next.ensures.writes in
    subst (λ (x : StArms). ArmsWay w f k m (block_arms_view (drop (i + 1) arms)) c.arm.new.self x)
    (sym (arms_pushed c.loop-arm.made c.push.new.self c.in_ok-next.next c.in_ok-push.ensures.ok)) (arms_go_on way writes)

pub arms-returns-in_err-next-clause-nodes : goal.arms-returns-in_err-next-clause-nodes
arms-returns-in_err-next-clause-nodes t c err ready m h =
    let w = c.args.self.now in
    let f = c.args.frame in
    let k = c.args.kind in
    let arms = c.args.arms.now in
    let i = c.loop-arm.arm-index in
    let arm = c.arm-item.result in
    let shape = pattern_view (out-BlockArm arm).pattern in
    let body = block_view (out-BlockArm arm).body in
    let now = c.loop-arm.self in
    let made = lang.stmt_arms_view c.loop-arm.made in
    let way : ArmsWay w f k m (BlockArmTrees.more_block_arms (BlockArmTree.arm shape body) (block_arms_view (drop (i + 1) arms))) now made =
    subst (λ (a : BlockArmTree). ArmsWay w f k m (BlockArmTrees.more_block_arms a (block_arms_view (drop (i + 1) arms))) now made) (block_arm_view-parts arm)
    (subst (λ (rest : BlockArmTrees). ArmsWay w f k m rest now made) (next_in block_arms_view arms i arm c.loop-arm-test.true c.arm-item.is)
    (c.loop-arm.invariant ready m h)) in
    arms_past way (subst (λ (a : BlockArmTree). ArmIsPast now f k a) (block_arm_view-parts arm) (c.in_err-next.ensures.nodes (stopped (err_from_is_err_and c.from_residual.result c.from_residual.ensures.1) err)))

pub arms-returns-clause-writes : goal.arms-returns-clause-writes
arms-returns-clause-writes t c ready m h =
    arms_end (subst (λ l. ArmsWay c.args.self.now c.args.frame c.args.kind m (block_arms_view l) c.loop-arm.self (lang.stmt_arms_view c.loop-arm.made))
    (drop_past c.args.arms.now c.loop-arm.arm-index c.loop-arm-test.false) (c.loop-arm.invariant ready m h))

pub atomic-returns-in_err-stmts-clause-nodes : goal.atomic-returns-in_err-stmts-clause-nodes
atomic-returns-in_err-stmts-clause-nodes t c err =
    atomic_past c.args.self.now c.args.frame (record { result = c.args.frame.result; inside_atomic = true }) c.args.at (block_view c.args.body.now) refl
    (c.in_err-stmts.ensures.nodes (stopped (err_from_is_err_and c.from_residual.result c.from_residual.ensures.1) err))

pub atomic-returns-clause-writes : goal.atomic-returns-clause-writes
atomic-returns-clause-writes t c ready m h =
    atomic_written c.args.frame (record { result = c.args.frame.result; inside_atomic = true }) c.args.at (block_view c.args.body.now) m refl ready
    c.in_ok-stmts.ensures.writes c.in_ok-put_atomic.ensures h

pub block-loop-stmt-init : goal.block-loop-stmt-init
block-loop-stmt-init t c ready m h =
    let w = c.args.self.now in
    let f = c.args.frame in
    let items = c.as_slice-stmt-items.result.now in
    subst (λ l. StmtsWay w f m (stmts_view items) w (lang.stmts_view l)) (sym c.new-stmts.ensures) (way_begins w f m (stmts_view items) ready h)

pub block-loop-stmt-preserved : goal.block-loop-stmt-preserved
block-loop-stmt-preserved t c ready m h =
    let w = c.args.self.now in
    let f = c.args.frame in
    let items = c.as_slice-stmt-items.result.now in
    let i = c.loop-stmt.stmt-index in
    let s = c.stmt-item.result in
    let now = c.loop-stmt.self in
    let way : StmtsWay w f m (StmtTrees.more_stmts (stmt_view s) (stmts_view (drop (i + 1) items))) now (lang.stmts_view c.loop-stmt.stmts) =
    subst (λ (rest : StmtTrees). StmtsWay w f m rest now (lang.stmts_view c.loop-stmt.stmts)) (next_in stmts_view items i s c.loop-stmt-test.true c.stmt-item.is)
    (c.loop-stmt.invariant ready m h) in
    way_goes_on way c.in_ok-stmt.ensures.writes

pub block-returns-in_err-stmt-clause-nodes : goal.block-returns-in_err-stmt-clause-nodes
block-returns-in_err-stmt-clause-nodes t c err ready m h0 =
    let w = c.args.self.now in
    let f = c.args.frame in
    let items = c.as_slice-stmt-items.result.now in
    let parts = block_view-parts c.args.block.now ∙ ap (λ l. BlockTree.block (out-Block c.args.block.now).span (stmts_view l)) (sym c.as_slice-stmt-items.ensures.items) in
    let h : stmts_at f w.maker.reader (length w.slots) (stmts_view items) ≡ Some m = subst (λ (b : BlockTree). block_in w f b ≡ Some m) parts h0 in
    let i = c.loop-stmt.stmt-index in
    let s = c.stmt-item.result in
    let now = c.loop-stmt.self in
    let way : StmtsWay w f m (StmtTrees.more_stmts (stmt_view s) (stmts_view (drop (i + 1) items))) now (lang.stmts_view c.loop-stmt.stmts) =
    subst (λ (rest : StmtTrees). StmtsWay w f m rest now (lang.stmts_view c.loop-stmt.stmts)) (next_in stmts_view items i s c.loop-stmt-test.true c.stmt-item.is)
    (c.loop-stmt.invariant ready m h) in
    way_past way (c.in_err-stmt.ensures.nodes (stopped (err_from_is_err_and c.from_residual.result c.from_residual.ensures.1) err))

pub block-returns-clause-writes : goal.block-returns-clause-writes
block-returns-clause-writes t c ready m h0 =
    let w = c.args.self.now in
    let f = c.args.frame in
    let items = c.as_slice-stmt-items.result.now in
    let parts = block_view-parts c.args.block.now ∙ ap (λ l. BlockTree.block (out-Block c.args.block.now).span (stmts_view l)) (sym c.as_slice-stmt-items.ensures.items) in
    let h : stmts_at f w.maker.reader (length w.slots) (stmts_view items) ≡ Some m = subst (λ (b : BlockTree). block_in w f b ≡ Some m) parts h0 in
    let way = subst (λ (rest : StmtTrees). StmtsWay w f m rest c.loop-stmt.self (lang.stmts_view c.loop-stmt.stmts))
    (ap stmts_view (drop_past items c.loop-stmt.stmt-index c.loop-stmt-test.false)) (c.loop-stmt.invariant ready m h) in
    block_written w c.loop-stmt.self c.len-len.result c.unbind.new.self ready c.len-len.ensures c.unbind.ensures way

pub branch-returns-in_err-test-in-If-clause-nodes : goal.branch-returns-in_err-test-in-If-clause-nodes
branch-returns-in_err-test-in-If-clause-nodes t c err =
    let w = c.args.self.now in
    let f = c.args.frame in
    let s = c.args.stmt.now in
    let cond = expr_view c.in-If.condition in
    let body = block_view c.in-If.body in
    let other = maybe_else_view c.in-If.other in
    let shape : stmt_view s ≡ StmtTree.node s.span (FormTree.if_ cond body other) =
    stmt_view-parts s ∙ ap (StmtTree.node s.span) (ap stmt_form_view c.in-If.is ∙ stmt_form_view-If c.in-If.condition c.in-If.body c.in-If.other) in
    subst (λ (x : StmtTree). ArePast w (stmt_in w f x)) (sym shape)
    (if_past w f s.span cond body other (c.in_err-test-in-If.ensures.nodes (stopped (err_from_is_err_and c.from_residual.result c.from_residual.ensures.1) err)))

pub branch-returns-in_err-left-in-If-clause-nodes : goal.branch-returns-in_err-left-in-If-clause-nodes
branch-returns-in_err-left-in-If-clause-nodes t c err =
    let w = c.args.self.now in
    let f = c.args.frame in
    let s = c.args.stmt.now in
    let cond = expr_view c.in-If.condition in
    let body = block_view c.in-If.body in
    let other = maybe_else_view c.in-If.other in
    let shape : stmt_view s ≡ StmtTree.node s.span (FormTree.if_ cond body other) =
    stmt_view-parts s ∙ ap (StmtTree.node s.span) (ap stmt_form_view c.in-If.is ∙ stmt_form_view-If c.in-If.condition c.in-If.body c.in-If.other) in
    subst (λ (x : StmtTree). ArePast w (stmt_in w f x)) (sym shape)
    (if_past_left f s.span cond body other c.in_ok-test-in-If.test c.in_ok-test-in-If.ensures.asks (c.in_err-left-in-If.ensures.nodes (stopped (err_from_is_err_and c.from_residual-in_err-left-in-If.result c.from_residual-in_err-left-in-If.ensures.1) err)))

pub branch-returns-in_err-right-in-If-clause-nodes : goal.branch-returns-in_err-right-in-If-clause-nodes
branch-returns-in_err-right-in-If-clause-nodes t c err =
    let w = c.args.self.now in
    let f = c.args.frame in
    let s = c.args.stmt.now in
    let cond = expr_view c.in-If.condition in
    let body = block_view c.in-If.body in
    let other = maybe_else_view c.in-If.other in
    let shape : stmt_view s ≡ StmtTree.node s.span (FormTree.if_ cond body other) =
    stmt_view-parts s ∙ ap (StmtTree.node s.span) (ap stmt_form_view c.in-If.is ∙ stmt_form_view-If c.in-If.condition c.in-If.body c.in-If.other) in
    subst (λ (x : StmtTree). ArePast w (stmt_in w f x)) (sym shape)
    (if_past_right f s.span cond body other c.in_ok-test-in-If.test c.in_ok-test-in-If.ensures.asks c.in_ok-left-in-If.ensures.writes
    (c.in_err-right-in-If.ensures.nodes (stopped (err_from_is_err_and c.from_residual-in_err-right-in-If.result c.from_residual-in_err-right-in-If.ensures.1) err)))

pub branch-returns-in_ok-put_if-in-If-clause-writes : goal.branch-returns-in_ok-put_if-in-If-clause-writes
branch-returns-in_ok-put_if-in-If-clause-writes t c ready m h =
    let w = c.args.self.now in
    let f = c.args.frame in
    let s = c.args.stmt.now in
    let cond = expr_view c.in-If.condition in
    let body = block_view c.in-If.body in
    let other = maybe_else_view c.in-If.other in
    let shape : stmt_view s ≡ StmtTree.node s.span (FormTree.if_ cond body other) =
    stmt_view-parts s ∙ ap (StmtTree.node s.span) (ap stmt_form_view c.in-If.is ∙ stmt_form_view-If c.in-If.condition c.in-If.body c.in-If.other) in
    if_written f s.span cond body other c.in_ok-test-in-If.test m ready c.in_ok-test-in-If.ensures.asks c.in_ok-left-in-If.ensures.writes
    c.in_ok-right-in-If.ensures.writes c.in_ok-put_if-in-If.ensures (subst (λ (x : StmtTree). stmt_in w f x ≡ Some m) shape h)

pub choose-returns-in_err-on-in-Match-clause-nodes : goal.choose-returns-in_err-on-in-Match-clause-nodes
choose-returns-in_err-on-in-Match-clause-nodes t c err =
    let w = c.args.self.now in
    let f = c.args.frame in
    let s = c.args.stmt.now in
    let r = w.maker.reader in
    let e = expr_view c.in-Match.term in
    let arms = block_arms_view c.in-Match.arms in
    let shape : stmt_view s ≡ StmtTree.node s.span (FormTree.match e arms) =
    stmt_view-parts s ∙ ap (StmtTree.node s.span) (ap stmt_form_view c.in-Match.is ∙ stmt_form_view-Match c.in-Match.term c.in-Match.arms) in
    subst (λ (x : StmtTree). ArePast w (stmt_in w f x)) (sym shape)
    (match_past w f s.span e arms (c.in_err-on-in-Match.ensures.nodes (stopped (err_from_is_err_and c.from_residual-in_err-on-in-Match.result c.from_residual-in_err-on-in-Match.ensures.1) err)))

pub choose-returns-in_err-made-in-Match-clause-nodes : goal.choose-returns-in_err-made-in-Match-clause-nodes
choose-returns-in_err-made-in-Match-clause-nodes t c err ready =
    let w = c.args.self.now in
    let f = c.args.frame in
    let s = c.args.stmt.now in
    let r = w.maker.reader in
    let e = expr_view c.in-Match.term in
    let arms = block_arms_view c.in-Match.arms in
    let shape : stmt_view s ≡ StmtTree.node s.span (FormTree.match e arms) =
    stmt_view-parts s ∙ ap (StmtTree.node s.span) (ap stmt_form_view c.in-Match.is ∙ stmt_form_view-Match c.in-Match.term c.in-Match.arms) in
    let kind : c.in_ok-kind-in-Match.kind ≡ kind_on w e =
    c.in_ok-kind-in-Match.ensures ∙ ap (λ n. type_of n r.vars None e) c.names.ensures
    ∙ ap (λ (vs : List Var). type_of (sight_in w).tables.names vs None e) (sym (vars_seen r ready.kept)) in
    let asks = subst (λ (k : Kind). AsksTerm w f s.span k e (lang.stmts_view c.args.out.now) c.matched_on.new.self (lang.stmts_view c.matched_on.new.out)
    c.in_ok-on-in-Match.on) kind c.in_ok-on-in-Match.ensures.asks in
    let past = subst (λ (k : Kind). ArmsArePast c.matched_on.new.self (arms_in c.matched_on.new.self f k arms)) kind
    (subst (λ l. ArmsArePast c.matched_on.new.self (arms_in c.matched_on.new.self f c.in_ok-kind-in-Match.kind (block_arms_view l))) c.as_slice.ensures.items
    (c.in_err-made-in-Match.ensures.nodes (stopped (err_from_is_err_and c.from_residual-in_err-made-in-Match.result c.from_residual-in_err-made-in-Match.ensures.1) err))) in
    subst (λ (x : StmtTree). ArePast w (stmt_in w f x)) (sym shape) (match_past_arms f s.span e arms c.in_ok-on-in-Match.on asks past) ready

pub choose-returns-in_ok-put_match-in-Match-clause-writes : goal.choose-returns-in_ok-put_match-in-Match-clause-writes
choose-returns-in_ok-put_match-in-Match-clause-writes t c ready m h =
    let w = c.args.self.now in
    let f = c.args.frame in
    let s = c.args.stmt.now in
    let r = w.maker.reader in
    let e = expr_view c.in-Match.term in
    let arms = block_arms_view c.in-Match.arms in
    let shape : stmt_view s ≡ StmtTree.node s.span (FormTree.match e arms) =
    stmt_view-parts s ∙ ap (StmtTree.node s.span) (ap stmt_form_view c.in-Match.is ∙ stmt_form_view-Match c.in-Match.term c.in-Match.arms) in
    let kind : c.in_ok-kind-in-Match.kind ≡ kind_on w e =
    c.in_ok-kind-in-Match.ensures ∙ ap (λ n. type_of n r.vars None e) c.names.ensures
    ∙ ap (λ (vs : List Var). type_of (sight_in w).tables.names vs None e) (sym (vars_seen r ready.kept)) in
    let asks = subst (λ (k : Kind). AsksTerm w f s.span k e (lang.stmts_view c.args.out.now) c.matched_on.new.self (lang.stmts_view c.matched_on.new.out)
    c.in_ok-on-in-Match.on) kind c.in_ok-on-in-Match.ensures.asks in
    let writes = subst (λ (k : Kind). WritesArms c.matched_on.new.self (arms_in c.matched_on.new.self f k arms) c.arms.new.self
    (lang.stmt_arms_view c.in_ok-made-in-Match.made)) kind
    (subst (λ l. WritesArms c.matched_on.new.self (arms_in c.matched_on.new.self f c.in_ok-kind-in-Match.kind (block_arms_view l)) c.arms.new.self
    (lang.stmt_arms_view c.in_ok-made-in-Match.made)) c.as_slice.ensures.items c.in_ok-made-in-Match.ensures.writes) in
    match_written f s.span e arms c.in_ok-on-in-Match.on m ready asks writes c.in_ok-put_match-in-Match.ensures
    (subst (λ (x : StmtTree). stmt_in w f x ≡ Some m) shape h)

pub other-returns-in-Block-clause-writes : goal.other-returns-in-Block-clause-writes
other-returns-in-Block-clause-writes t c =
    let w = c.args.self.now in
    let f = c.args.frame in
    let shape : maybe_else_view c.args.other.now ≡ ElseTree.else_block (block_view c.in-Block.block) =
    ap maybe_else_view c.in-Some.is ∙ ap else_view c.in-Block.is ∙ else_view-Block c.in-Block.block in
    subst (λ (x : ElseTree). IfOk c.block.result (λ stmts. WritesBlock w (else_in w f x) c.block.new.self (lang.stmts_view stmts))) (sym shape) c.block.ensures.writes

pub other-returns-in-Block-clause-nodes : goal.other-returns-in-Block-clause-nodes
other-returns-in-Block-clause-nodes t c err =
    let w = c.args.self.now in
    let f = c.args.frame in
    let shape : maybe_else_view c.args.other.now ≡ ElseTree.else_block (block_view c.in-Block.block) =
    ap maybe_else_view c.in-Some.is ∙ ap else_view c.in-Block.is ∙ else_view-Block c.in-Block.block in
    subst (λ (x : ElseTree). ArePast w (else_in w f x)) (sym shape) (c.block.ensures.nodes err)

pub other-returns-in_err-branch-in-If-clause-nodes : goal.other-returns-in_err-branch-in-If-clause-nodes
other-returns-in_err-branch-in-If-clause-nodes t c err =
    let w = c.args.self.now in
    let f = c.args.frame in
    let shape : maybe_else_view c.args.other.now ≡ ElseTree.else_if (stmt_view c.get.result.now) =
    ap maybe_else_view c.in-Some.is ∙ ap else_view c.in-If.is ∙ else_view-If c.in-If.stmt ∙ ap (λ s. ElseTree.else_if (stmt_view s)) (sym c.get.ensures) in
    subst (λ (x : ElseTree). ArePast w (else_in w f x)) (sym shape) (c.in_err-branch-in-If.ensures.nodes (stopped (err_from_is_err_and c.from_residual.result c.from_residual.ensures.1) err))

pub other-returns-in_ok-branch-in-If-clause-writes : goal.other-returns-in_ok-branch-in-If-clause-writes
other-returns-in_ok-branch-in-If-clause-writes t c =
    let w = c.args.self.now in
    let f = c.args.frame in
    let shape : maybe_else_view c.args.other.now ≡ ElseTree.else_if (stmt_view c.get.result.now) =
    ap maybe_else_view c.in-Some.is ∙ ap else_view c.in-If.is ∙ else_view-If c.in-If.stmt ∙ ap (λ s. ElseTree.else_if (stmt_view s)) (sym c.get.ensures) in
    subst (λ (x : ElseTree). WritesBlock w (else_in w f x) c.branch-self.new.self (lang.stmts_view c.branch-self.new.out)) (sym shape)
    (subst (λ l. Writes w (stmt_in w f (stmt_view c.get.result.now)) w.maker.reader (lang.stmts_view l) c.branch-self.new.self (lang.stmts_view c.branch-self.new.out))
    c.new-stmts.ensures c.in_ok-branch-in-If.ensures.writes)

pub other-returns-in-None-clause-writes : goal.other-returns-in-None-clause-writes
other-returns-in-None-clause-writes t c =
    let w = c.args.self.now in
    subst (λ l. WritesBlock w (else_in w c.args.frame (maybe_else_view c.args.other.now)) w (lang.stmts_view l)) (sym c.new.ensures)
    (subst (λ (o : Option ElseNode). WritesBlock w (else_in w c.args.frame (maybe_else_view o)) w no_st) (sym c.in-None.is)
    (λ ready m h.
    let same : spec.made no_st [] ≡ m = same_some h in
    subst (λ (x : Made). Adds w x w.maker.reader no_st w no_st) same (nothing_added w no_st)))

pub stmt-returns-in-Var-clause-writes : goal.stmt-returns-in-Var-clause-writes
stmt-returns-in-Var-clause-writes t c =
    let w = c.args.self.now in
    let f = c.args.frame in
    let s = c.args.stmt.now in
    let shape : stmt_view s ≡ StmtTree.node s.span (FormTree.var (ident_view c.in-Var.name) (type_view c.in-Var.ty) (optional expr_view c.in-Var.value)) =
    stmt_view-parts s ∙ ap (StmtTree.node s.span) (ap stmt_form_view c.in-Var.is ∙ stmt_form_view-Var c.in-Var.name c.in-Var.ty c.in-Var.value) in
    subst (λ (x : StmtTree). OnOk c.var.result (Writes w (stmt_in w f x) (behind (length w.slots) w.maker.reader x) (lang.stmts_view c.args.out.now) c.var.new.self
    (lang.stmts_view c.var.new.out))) (sym shape) c.var.ensures.writes

pub stmt-returns-in-Var-clause-nodes : goal.stmt-returns-in-Var-clause-nodes
stmt-returns-in-Var-clause-nodes t c err =
    let w = c.args.self.now in
    let f = c.args.frame in
    let s = c.args.stmt.now in
    let shape : stmt_view s ≡ StmtTree.node s.span (FormTree.var (ident_view c.in-Var.name) (type_view c.in-Var.ty) (optional expr_view c.in-Var.value)) =
    stmt_view-parts s ∙ ap (StmtTree.node s.span) (ap stmt_form_view c.in-Var.is ∙ stmt_form_view-Var c.in-Var.name c.in-Var.ty c.in-Var.value) in
    subst (λ (x : StmtTree). ArePast w (stmt_in w f x)) (sym shape) (c.var.ensures.nodes err)

pub stmt-returns-in-Assign-clause-writes : goal.stmt-returns-in-Assign-clause-writes
stmt-returns-in-Assign-clause-writes t c =
    let w = c.args.self.now in
    let f = c.args.frame in
    let s = c.args.stmt.now in
    let shape : stmt_view s ≡ StmtTree.node s.span (FormTree.assign (ident_view c.in-Assign.name) (expr_view c.in-Assign.value)) =
    stmt_view-parts s ∙ ap (StmtTree.node s.span) (ap stmt_form_view c.in-Assign.is ∙ stmt_form_view-Assign c.in-Assign.name c.in-Assign.value) in
    subst (λ (x : StmtTree). OnOk c.assign.result (Writes w (stmt_in w f x) (behind (length w.slots) w.maker.reader x) (lang.stmts_view c.args.out.now) c.assign.new.self
    (lang.stmts_view c.assign.new.out))) (sym shape) c.assign.ensures.writes

pub stmt-returns-in-Assign-clause-nodes : goal.stmt-returns-in-Assign-clause-nodes
stmt-returns-in-Assign-clause-nodes t c err =
    let w = c.args.self.now in
    let f = c.args.frame in
    let s = c.args.stmt.now in
    let shape : stmt_view s ≡ StmtTree.node s.span (FormTree.assign (ident_view c.in-Assign.name) (expr_view c.in-Assign.value)) =
    stmt_view-parts s ∙ ap (StmtTree.node s.span) (ap stmt_form_view c.in-Assign.is ∙ stmt_form_view-Assign c.in-Assign.name c.in-Assign.value) in
    subst (λ (x : StmtTree). ArePast w (stmt_in w f x)) (sym shape) (c.assign.ensures.nodes err)

pub stmt-returns-in-Access-clause-writes : goal.stmt-returns-in-Access-clause-writes
stmt-returns-in-Access-clause-writes t c =
    let w = c.args.self.now in
    let f = c.args.frame in
    let s = c.args.stmt.now in
    let shape : stmt_view s ≡ StmtTree.node s.span (FormTree.access (access_view c.in-Access.access)) =
    stmt_view-parts s ∙ ap (StmtTree.node s.span) (ap stmt_form_view c.in-Access.is ∙ stmt_form_view-Access c.in-Access.access) in
    subst (λ (x : StmtTree). OnOk c.operate.result (Writes w (stmt_in w f x) (behind (length w.slots) w.maker.reader x) (lang.stmts_view c.args.out.now) c.operate.new.self
    (lang.stmts_view c.operate.new.out))) (sym shape) c.operate.ensures.writes

pub stmt-returns-in-Access-clause-nodes : goal.stmt-returns-in-Access-clause-nodes
stmt-returns-in-Access-clause-nodes t c err =
    let w = c.args.self.now in
    let f = c.args.frame in
    let s = c.args.stmt.now in
    let shape : stmt_view s ≡ StmtTree.node s.span (FormTree.access (access_view c.in-Access.access)) =
    stmt_view-parts s ∙ ap (StmtTree.node s.span) (ap stmt_form_view c.in-Access.is ∙ stmt_form_view-Access c.in-Access.access) in
    subst (λ (x : StmtTree). ArePast w (stmt_in w f x)) (sym shape) (c.operate.ensures.nodes err)

pub stmt-returns-in-Atomic-clause-writes : goal.stmt-returns-in-Atomic-clause-writes
stmt-returns-in-Atomic-clause-writes t c =
    let w = c.args.self.now in
    let f = c.args.frame in
    let s = c.args.stmt.now in
    let shape : stmt_view s ≡ StmtTree.node s.span (FormTree.atomic (block_view c.in-Atomic.body)) =
    stmt_view-parts s ∙ ap (StmtTree.node s.span) (ap stmt_form_view c.in-Atomic.is ∙ stmt_form_view-Atomic c.in-Atomic.body) in
    subst (λ (x : StmtTree). OnOk c.atomic.result (Writes w (stmt_in w f x) (behind (length w.slots) w.maker.reader x) (lang.stmts_view c.args.out.now) c.atomic.new.self
    (lang.stmts_view c.atomic.new.out))) (sym shape) c.atomic.ensures.writes

pub stmt-returns-in-Atomic-clause-nodes : goal.stmt-returns-in-Atomic-clause-nodes
stmt-returns-in-Atomic-clause-nodes t c err =
    let w = c.args.self.now in
    let f = c.args.frame in
    let s = c.args.stmt.now in
    let shape : stmt_view s ≡ StmtTree.node s.span (FormTree.atomic (block_view c.in-Atomic.body)) =
    stmt_view-parts s ∙ ap (StmtTree.node s.span) (ap stmt_form_view c.in-Atomic.is ∙ stmt_form_view-Atomic c.in-Atomic.body) in
    subst (λ (x : StmtTree). ArePast w (stmt_in w f x)) (sym shape) (c.atomic.ensures.nodes err)

pub stmt-returns-in-Assert-clause-writes : goal.stmt-returns-in-Assert-clause-writes
stmt-returns-in-Assert-clause-writes t c =
    let w = c.args.self.now in
    let f = c.args.frame in
    let s = c.args.stmt.now in
    let shape : stmt_view s ≡ StmtTree.node s.span (FormTree.assert (expr_view c.in-Assert.condition)) =
    stmt_view-parts s ∙ ap (StmtTree.node s.span) (ap stmt_form_view c.in-Assert.is ∙ stmt_form_view-Assert c.in-Assert.condition) in
    subst (λ (x : StmtTree). OnOk c.assert.result (Writes w (stmt_in w f x) (behind (length w.slots) w.maker.reader x) (lang.stmts_view c.args.out.now) c.assert.new.self
    (lang.stmts_view c.assert.new.out))) (sym shape) c.assert.ensures.writes

pub stmt-returns-in-Assert-clause-nodes : goal.stmt-returns-in-Assert-clause-nodes
stmt-returns-in-Assert-clause-nodes t c err =
    let w = c.args.self.now in
    let f = c.args.frame in
    let s = c.args.stmt.now in
    let shape : stmt_view s ≡ StmtTree.node s.span (FormTree.assert (expr_view c.in-Assert.condition)) =
    stmt_view-parts s ∙ ap (StmtTree.node s.span) (ap stmt_form_view c.in-Assert.is ∙ stmt_form_view-Assert c.in-Assert.condition) in
    subst (λ (x : StmtTree). ArePast w (stmt_in w f x)) (sym shape) (c.assert.ensures.nodes err)

pub stmt-returns-in-Return-clause-writes : goal.stmt-returns-in-Return-clause-writes
stmt-returns-in-Return-clause-writes t c =
    let w = c.args.self.now in
    let f = c.args.frame in
    let s = c.args.stmt.now in
    let shape : stmt_view s ≡ StmtTree.node s.span (FormTree.return (optional expr_view c.in-Return.value)) =
    stmt_view-parts s ∙ ap (StmtTree.node s.span) (ap stmt_form_view c.in-Return.is ∙ stmt_form_view-Return c.in-Return.value) in
    subst (λ (x : StmtTree). OnOk c.leave.result (Writes w (stmt_in w f x) (behind (length w.slots) w.maker.reader x) (lang.stmts_view c.args.out.now) c.leave.new.self
    (lang.stmts_view c.leave.new.out))) (sym shape) c.leave.ensures.writes

pub stmt-returns-in-Return-clause-nodes : goal.stmt-returns-in-Return-clause-nodes
stmt-returns-in-Return-clause-nodes t c err =
    let w = c.args.self.now in
    let f = c.args.frame in
    let s = c.args.stmt.now in
    let shape : stmt_view s ≡ StmtTree.node s.span (FormTree.return (optional expr_view c.in-Return.value)) =
    stmt_view-parts s ∙ ap (StmtTree.node s.span) (ap stmt_form_view c.in-Return.is ∙ stmt_form_view-Return c.in-Return.value) in
    subst (λ (x : StmtTree). ArePast w (stmt_in w f x)) (sym shape) (c.leave.ensures.nodes err)

pub stmt-returns-in-If-clause-writes : goal.stmt-returns-in-If-clause-writes
stmt-returns-in-If-clause-writes t c =
    let w = c.args.self.now in
    let s = c.args.stmt.now in
    let shape : stmt_view s ≡ StmtTree.node s.span (FormTree.if_ (expr_view c.in-If.field-0) (block_view c.in-If.field-1) (maybe_else_view c.in-If.field-2)) =
    stmt_view-parts s ∙ ap (StmtTree.node s.span) (ap stmt_form_view c.in-If.is ∙ stmt_form_view-If c.in-If.field-0 c.in-If.field-1 c.in-If.field-2) in
    subst (λ (r : Reader). OnOk c.branch-self.result (Writes w (stmt_in w c.args.frame (stmt_view s)) r (lang.stmts_view c.args.out.now) c.branch-self.new.self
    (lang.stmts_view c.branch-self.new.out))) (sym (ap (λ (x : StmtTree). behind (length w.slots) w.maker.reader x) shape)) c.branch-self.ensures.writes

pub stmt-returns-in-If-clause-nodes : goal.stmt-returns-in-If-clause-nodes
stmt-returns-in-If-clause-nodes t c err = c.branch-self.ensures.nodes err

pub stmt-returns-in-Match-clause-writes : goal.stmt-returns-in-Match-clause-writes
stmt-returns-in-Match-clause-writes t c =
    let w = c.args.self.now in
    let s = c.args.stmt.now in
    let shape : stmt_view s ≡ StmtTree.node s.span (FormTree.match (expr_view c.in-Match.field-0) (block_arms_view c.in-Match.field-1)) =
    stmt_view-parts s ∙ ap (StmtTree.node s.span) (ap stmt_form_view c.in-Match.is ∙ stmt_form_view-Match c.in-Match.field-0 c.in-Match.field-1) in
    subst (λ (r : Reader). OnOk c.choose.result (Writes w (stmt_in w c.args.frame (stmt_view s)) r (lang.stmts_view c.args.out.now) c.choose.new.self
    (lang.stmts_view c.choose.new.out))) (sym (ap (λ (x : StmtTree). behind (length w.slots) w.maker.reader x) shape)) c.choose.ensures.writes

pub stmt-returns-in-Match-clause-nodes : goal.stmt-returns-in-Match-clause-nodes
stmt-returns-in-Match-clause-nodes t c err = c.choose.ensures.nodes err

pub stmt-returns-in_ok-generate-in-New-clause-writes : goal.stmt-returns-in_ok-generate-in-New-clause-writes
stmt-returns-in_ok-generate-in-New-clause-writes t c =
    let w = c.args.self.now in
    let f = c.args.frame in
    let s = c.args.stmt.now in
    let shape : stmt_view s ≡ StmtTree.node s.span (FormTree.new (ident_view c.in-New.name) (ident_view c.in-New.id)) =
    stmt_view-parts s ∙ ap (StmtTree.node s.span) (ap stmt_form_view c.in-New.is ∙ stmt_form_view-New c.in-New.name c.in-New.id) in
    subst (λ (x : StmtTree). Writes w (stmt_in w f x) (behind (length w.slots) w.maker.reader x) (lang.stmts_view c.args.out.now) w
    (lang.stmts_view c.generate.new.out)) (sym shape) c.in_ok-generate-in-New.ensures
