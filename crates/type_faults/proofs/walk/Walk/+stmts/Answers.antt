use Rattle.std.proofs.Common.{◌≡◌, [], ◌∷◌, ◌++◌, ◌+◌, codes, length, None, take, drop, refl, sym, ap, ap₂, ◌∙◌, subst, append_assoc}
use Rattle.std.proofs.lemmas.List.{length-map}
use Rattle.std.specs.Option.{option_map}
use Rattle.rp_grammar.specs.Trees.{StmtForm, ElseTree}
use Rattle.rp_ast.specs.declared.stmt.ElseNode.TheViews.{out-Block, out-BlockArm}
use Rattle.rp_ast.specs.View as tree
use Rattle.rp_ast.proofs.StmtViews.{block_view-parts, block_arm_view-parts, else_view-Block, else_view-If, stmt_form_view-Var, stmt_form_view-New, stmt_form_view-Assign, stmt_form_view-Access, stmt_form_view-If, stmt_form_view-Match, stmt_form_view-Atomic, stmt_form_view-Assert, stmt_form_view-Return}
use Rattle.type_rules.specs.Sites.{Site}
use Rattle.type_rules.specs.Starts.{word_at}
use Rattle.type_rules.specs.Typing.{type_of}
use Rattle.type_rules.specs.Matches.{cases_of}
use Rattle.type_rules.specs.Flow as flow
use Rattle.type_rules.specs.Flow.{Sight, in_pattern}
use Rattle.type_tables.specs.Counts.{IsCounted}
use Rattle.type_rules.specs.ExprSites.{access_sites, bool_whole, expr_sites, matched}
use Rattle.type_rules.specs.Faults.{judged}
use Rattle.type_rules.specs.StmtSites as spec
use Rattle.type_tables.specs.Tables.{number_in, with_first}
use Rattle.type_terms.specs.Views.{cases_view}
use Rattle.text_names.proofs.Entries.{drop_past, if_ok}
use Rattle.type_faults.specs.Flows.{bare}
use Rattle.type_judges.specs.Places.{want_view}
use Rattle.type_faults.specs.Walks.{Stand, Walks, arm_own_sites, frame_at, names_at, quiet_at, sight_of, stand_of}
use Rattle.type_faults.proofs.Meeting.{ArmsWalked, StmtsWalked, arm_name, arms_alike, arms_ended, arms_next, arms_started, counted_own, last_is, met, stmt_formed, stmts_ended, stmts_next, stmts_started}
use Rattle.type_faults.proofs.Flows.{arm_keeps, block_keeps, both_take, else_begins, left_bare, sight_back}
use Rattle.type_faults.proofs.Lists.{next_in, no_names}
use Rattle.type_faults.proofs.Walked.{both, both_of, follows, here, here_one, quiet, recast, same_names, same_words, then_turned, turned}
use Rattle.type_faults.proofs.walk.Walk.+stmts.Goals as goal

-- # Blocks

pub block-returns : goal.block-returns
block-returns t c = λ later counted words.
    let a = c.args.self.now in
    let n = names_at a in
    let block = c.args.block.now in
    let parts = block_view-parts block in
    let stmts = tree.stmts_view (out-Block block).stmts in
    let fr = frame_at later c.args.frame (stand_of a) in
    let inside = c.in_ok-fault.ensures later counted words in
    recast (λ p. spec.block_sites p.names (frame_at later c.args.frame p) p.sight (tree.block_view block))
    (λ p. flow.after_block p.names p.sight (tree.block_view block))
    (then_turned inside c.back_to.ensures)
    (ap (λ l. spec.stmts_sites n fr (sight_of a) (tree.stmts_view l)) c.as_slice.ensures.items
    ∙ ap (spec.block_sites n fr (sight_of a)) (sym parts))
    (ap₂ (λ k l. record (flow.after_stmts n (sight_of a) (tree.stmts_view l)) { vars = take k (flow.after_stmts n (sight_of a) (tree.stmts_view l)).vars })
    c.len-len.ensures c.as_slice.ensures.items
    ∙ ap (flow.after_block n (sight_of a)) (sym parts))

pub stmts-loop-place-init : goal.stmts-loop-place-init
stmts-loop-place-init t c = λ later counted words. stmts_started (c.in_ok-raise_all.ensures later counted)

pub stmts-loop-place-preserved : goal.stmts-loop-place-preserved
stmts-loop-place-preserved t c = λ later counted words.
    let a = c.args.self.now in
    let stmts = c.args.stmts.now in
    let i = c.loop-place.place in
    let s = c.index-stmts-place.result in
    let rest = tree.stmts_view (drop (i + 1) stmts) in
    let now = subst (λ rest. StmtsWalked later c.args.frame a c.loop-place.self c.loop-place.best rest (tree.stmts_view stmts))
    (next_in tree.stmts_view stmts i s c.loop-place-test.true c.index-stmts-place.is) (c.loop-place.invariant later counted words) in
    let passed = c.pass.ensures (spec.declared_in rest ++ later) (counted_own c.loop-place.self.later (tree.stmt_view s) rest later now.walks.counted) in
    let walk = c.in_ok-stmt.ensures (spec.declared_in rest ++ later) passed.counted (same_words passed ∙ same_words now.walks ∙ words) in
    stmts_next now passed
    (subst (λ last. Walks (spec.declared_in rest ++ later) c.pass.new.self c.stmt.new.self c.in_ok-stmt.field-0
    (λ p. spec.stmt_sites p.names (frame_at (spec.declared_in rest ++ later) c.args.frame p) p.sight last (tree.stmt_view s))
    (λ p. flow.after p.names p.sight (tree.stmt_view s))) (sym (last_is stmts i c.loop-place-test.true)) walk)
    c.sooner-best.ensures

pub stmts-returns : goal.stmts-returns
stmts-returns t c = λ later counted words.
    let stmts = c.args.stmts.now in
    stmts_ended (tree.stmts_view stmts)
    (subst (λ rest. StmtsWalked later c.args.frame c.args.self.now c.loop-place.self c.loop-place.best rest (tree.stmts_view stmts))
    (ap tree.stmts_view (drop_past stmts c.loop-place.place c.loop-place-test.false)) (c.loop-place.invariant later counted words))

pub atomic-returns : goal.atomic-returns
atomic-returns t c = λ later counted words.
    let a = c.args.self.now in
    let n = names_at a in
    let frame = c.args.frame in
    let at = word_at (codes "atomic") c.args.at in
    let own = here_one {later = later} (λ p. Site.opens frame.inside_atomic at)
    (c.judge_opens-here.ensures n ∙ ap (λ at. judged n (Site.opens frame.inside_atomic at)) c.in_ok-word.ensures) refl counted in
    both own (c.in_ok-below.ensures later counted words) c.sooner.ensures

-- # Ways

pub branch-returns : goal.branch-returns
branch-returns t c = λ later counted words.
    let a = c.args.self.now in
    let n = names_at a in
    let condition = tree.expr_view c.args.condition.now in
    let body = tree.block_view c.args.body.now in
    let own = quiet (λ n sc. expr_sites n sc (want_view c.bool_whole.result) condition) words (c.in_ok-here.ensures later counted) in
    let below = c.in_ok-below.ensures later own.counted (same_words own ∙ words) in
    recast (λ p. expr_sites p.names (quiet_at later p) bool_whole condition ++ spec.block_sites p.names (frame_at later c.args.frame p) p.sight body)
    (λ p. flow.after_block p.names p.sight body)
    (both own below c.sooner.ensures)
    (ap (λ w. expr_sites n (quiet_at later (stand_of a)) w condition
    ++ spec.block_sites n (frame_at later c.args.frame (stand_of a)) (sight_of a) body) c.bool_whole.ensures)
    refl

pub otherwise-returns : goal.otherwise-returns
otherwise-returns t c = λ later g counted words was alike.
    let a = c.args.self.now in
    let n = names_at a in
    let p = stand_of a in
    let other = tree.maybe_else_view c.args.otherwise.now in
    let back = c.restore.ensures in
    let start = sight_back c.args.before.now a.vars g was alike in
    let after_names = ap (λ (p : Stand). p.names) back.stands in
    let listed = subst (λ entries. IsCounted entries later) (sym back.later) counted in
    let walk = then_turned (c.in_ok-own.ensures later listed (ap (λ (p : Stand). p.words) back.stands ∙ words)) c.back_to.ensures in
    let end = flow.after_else n g other in
    let len = c.len-len.ensures ∙ ap (λ (p : Stand). length p.sight.vars) back.stands ∙ ap (λ (g : Sight). length g.vars) start in
    let same : length g.vars ≡ length a.vars =
    sym (sym (length-map a.vars _) ∙ ap length alike ∙ length-map g.vars _) in
    follows
    (recast (λ p. spec.else_sites p.names (frame_at later c.args.frame p) g other) (λ p. flow.join p.sight (flow.after_else p.names g other))
    (met g counted was c.in_ok-behind.ensures alike back walk c.join.ensures
    (left_bare c.len-len.result g.vars end.vars len (else_begins n g other)))
    refl
    (ap (λ vs. record { vars = vs; live = (flow.join (sight_of a) end).live }) (both_take c.len-len.result a.vars end.vars (len ∙ same))))
    c.sooner.ensures

pub other-returns-in-Block : goal.other-returns-in-Block
other-returns-in-Block t c = λ later counted words.
    let a = c.args.self.now in
    let n = names_at a in
    let fr = frame_at later c.args.frame (stand_of a) in
    let other = tree.maybe_else_view c.args.otherwise.now in
    let e = ap tree.maybe_else_view c.in-Some.is ∙ ap tree.else_view c.in-Block.is ∙ else_view-Block c.in-Block.block in
    if_ok c.block.result
    (λ f w. recast (λ p. spec.else_sites p.names (frame_at later c.args.frame p) p.sight other) (λ p. flow.after_else p.names p.sight other) w
    (ap (spec.else_sites n fr (sight_of a)) (sym e)) (ap (flow.after_else n (sight_of a)) (sym e)))
    (c.block.ensures later counted words)

pub other-returns-in-If : goal.other-returns-in-If
other-returns-in-If t c = λ later counted words.
    let a = c.args.self.now in
    let n = names_at a in
    let fr = frame_at later c.args.frame (stand_of a) in
    let other = tree.maybe_else_view c.args.otherwise.now in
    let e = ap tree.maybe_else_view c.in-Some.is ∙ ap tree.else_view c.in-If.is ∙ else_view-If c.in-If.stmt
    ∙ ap (λ s. ElseTree.else_if (tree.stmt_view s)) (sym c.get.ensures) in
    if_ok c.stmt.result
    (λ f w. recast (λ p. spec.else_sites p.names (frame_at later c.args.frame p) p.sight other) (λ p. flow.after_else p.names p.sight other) w
    (ap (spec.else_sites n fr (sight_of a)) (sym e)) (ap (flow.after_else n (sight_of a)) (sym e)))
    (c.stmt.ensures later counted words)

pub other-returns-in-None : goal.other-returns-in-None
other-returns-in-None t c = λ later counted words.
    let a = c.args.self.now in
    let n = names_at a in
    let fr = frame_at later c.args.frame (stand_of a) in
    recast (λ p. spec.else_sites p.names (frame_at later c.args.frame p) p.sight (tree.maybe_else_view c.args.otherwise.now))
    (λ p. flow.after_else p.names p.sight (tree.maybe_else_view c.args.otherwise.now))
    (here {later = later} (λ p. []) refl refl counted)
    (ap (λ o. spec.else_sites n fr (sight_of a) (tree.maybe_else_view o)) (sym c.in-None.is))
    (ap (λ o. flow.after_else n (sight_of a) (tree.maybe_else_view o)) (sym c.in-None.is))

-- # Arms

pub block_arms-returns : goal.block_arms-returns
block_arms-returns t c = λ later counted words.
    let a = c.args.self.now in
    let kind = c.args.kind in
    let arms = tree.block_arms_view c.args.arms.now in
    let end = c.end.ensures in
    let listed = subst (λ entries. IsCounted entries later) (sym end.later) counted in
    let silent = ap (λ (p : Stand). p.words) end.stands ∙ words in
    let known = subst (λ n. option_map (cases_view n) c.cases_of-cases.result ≡ cases_of n kind)
    (sym (ap (λ (p : Stand). p.names) end.stands)) c.cases_of-cases.ensures in
    let own = c.in_ok-own.ensures later kind (sight_of a) listed silent known c.in_ok-before.ensures (ap (λ (p : Stand). p.sight) end.stands) in
    follows
    (recast (λ p. spec.arm_sites p.names (frame_at later c.args.frame p) p.sight kind [] arms) (λ p. flow.after_arms p.names p.sight kind arms)
    (both {before = later} (turned {later = later} end counted) own refl) refl refl)
    c.sooner.ensures

pub each_block_arm-loop-arm-init : goal.each_block_arm-loop-arm-init
each_block_arm-loop-arm-init t c = λ later kind g counted words cases was dead.
    arms_started g (tree.block_arms_view c.args.arms.now) (here {later = later} (λ p. []) refl refl counted) (no_names c.new-done.ensures) dead

pub each_block_arm-loop-arm-preserved : goal.each_block_arm-loop-arm-preserved
each_block_arm-loop-arm-preserved t c = λ later kind g counted words cases was dead.
    let a = c.args.self.now in
    let arms = c.args.arms.now in
    let i = c.loop-arm.arm-index in
    let arm = c.arm-item.result in
    let parts = block_arm_view-parts arm in
    let now = subst (λ rest. ArmsWalked later c.args.frame kind g c.loop-arm.done a c.loop-arm.self c.loop-arm.best rest (tree.block_arms_view arms))
    (next_in tree.block_arms_view arms i arm c.loop-arm-test.true c.arm-item.is) (c.loop-arm.invariant later kind g counted words cases was dead) in
    let known = subst (λ n. option_map (cases_view n) c.args.cases ≡ cases_of n kind) (sym (same_names now.walks)) cases in
    arms_next (tree.block_arm_view arm) now
    (c.in_ok-next_arm.ensures later kind now.names g now.walks.counted (same_words now.walks ∙ words) known now.table_is was (arms_alike now))
    c.sooner-best.ensures
    (c.in_ok-add_arm.ensures ∙ ap (λ x. with_first (number_in c.loop-arm.done) (arm_name x) 0) (sym parts))

pub each_block_arm-returns : goal.each_block_arm-returns
each_block_arm-returns t c = λ later kind g counted words cases was dead.
    let arms = c.args.arms.now in
    arms_ended (tree.block_arms_view arms)
    (subst (λ rest. ArmsWalked later c.args.frame kind g c.loop-arm.done c.args.self.now c.loop-arm.self c.loop-arm.best rest (tree.block_arms_view arms))
    (ap tree.block_arms_view (drop_past arms c.loop-arm.arm-index c.loop-arm-test.false))
    (c.loop-arm.invariant later kind g counted words cases was dead))

pub next_arm-returns : goal.next_arm-returns
next_arm-returns t c = λ later kind names g counted words cases table was alike.
    let a = c.args.self.now in
    let n = names_at a in
    let arm = tree.block_arm_view c.args.arm.now in
    let back = c.restore.ensures in
    let listed = subst (λ entries. IsCounted entries later) (sym back.later) counted in
    let silent = ap (λ (p : Stand). p.words) back.stands ∙ words in
    let known = subst (λ n. option_map (cases_view n) c.args.cases ≡ cases_of n kind) (sym (ap (λ (p : Stand). p.names) back.stands)) cases in
    met g counted was c.in_ok-behind.ensures alike back (c.in_ok-fault.ensures later kind names listed silent known table) c.join.ensures
    (arm_keeps n g kind arm)

pub block_arm-returns : goal.block_arm-returns
block_arm-returns t c = λ later kind names counted words cases table.
    let a = c.args.self.now in
    let n = names_at a in
    let p = stand_of a in
    let arm = c.args.arm.now in
    let parts = block_arm_view-parts arm in
    let pattern = tree.pattern_view (out-BlockArm arm).pattern in
    let body = tree.block_view (out-BlockArm arm).body in
    let own = c.in_ok-here.ensures later kind names counted cases table in
    let below = c.in_ok-below.ensures later own.counted (same_words own ∙ words) in
    let inside = in_pattern n (sight_of a) kind pattern in
    recast (λ p. arm_own_sites p.names (frame_at later c.args.frame p) p.sight kind names (tree.block_arm_view arm))
    (λ p. flow.after_arm p.names p.sight kind (tree.block_arm_view arm))
    (then_turned (both own below c.sooner.ensures) c.back_to.ensures)
    (ap (arm_own_sites n (frame_at later c.args.frame p) (sight_of a) kind names) (sym parts))
    (ap (λ k. record (flow.after_block n inside body) { vars = take k (flow.after_block n inside body).vars }) c.len-len.ensures
    ∙ ap (flow.after_arm n (sight_of a) kind) (sym parts))

-- # Forms

pub stmt-returns-in-Var : goal.stmt-returns-in-Var
stmt-returns-in-Var t c = λ later counted words.
    if_ok c.var.result
    (λ f w. stmt_formed c.args.frame c.args.last c.args.stmt.now (ap tree.stmt_form_view c.in-Var.is ∙ stmt_form_view-Var c.in-Var.name c.in-Var.ty c.in-Var.value) w)
    (c.var.ensures later c.args.frame counted words)

pub stmt-returns-in-New : goal.stmt-returns-in-New
stmt-returns-in-New t c = λ later counted words.
    stmt_formed c.args.frame c.args.last c.args.stmt.now (ap tree.stmt_form_view c.in-New.is ∙ stmt_form_view-New c.in-New.name c.in-New.ty)
    (c.make.ensures later c.args.frame counted words)

pub stmt-returns-in-Assign : goal.stmt-returns-in-Assign
stmt-returns-in-Assign t c = λ later counted words.
    if_ok c.assign.result
    (λ f w. stmt_formed c.args.frame c.args.last c.args.stmt.now (ap tree.stmt_form_view c.in-Assign.is ∙ stmt_form_view-Assign c.in-Assign.name c.in-Assign.value) w)
    (c.assign.ensures later c.args.frame counted words)

pub stmt-returns-in-Access : goal.stmt-returns-in-Access
stmt-returns-in-Access t c = λ later counted words.
    let access = tree.access_view c.in-Access.access in
    if_ok c.statement.result
    (λ f w. stmt_formed c.args.frame c.args.last c.args.stmt.now (ap tree.stmt_form_view c.in-Access.is ∙ stmt_form_view-Access c.in-Access.access)
    (quiet (λ n sc. Site.statement sc access ∷ access_sites n sc access) words w))
    (c.statement.ensures later counted)

pub stmt-returns-in_ok-first-in-If : goal.stmt-returns-in_ok-first-in-If
stmt-returns-in_ok-first-in-If t c = λ later counted words.
    let a = c.args.self.now in
    let n = names_at a in
    let frame = c.args.frame in
    let condition = tree.expr_view c.in-If.condition in
    let body = tree.block_view c.in-If.body in
    let other = tree.maybe_else_view c.in-If.otherwise in
    let first = c.in_ok-first-in-If.ensures later counted words in
    let alike = ap (λ (p : Stand). bare p.sight.vars) first.stands ∙ block_keeps n (sight_of a) body in
    if_ok c.otherwise.result
    (λ f w. stmt_formed frame c.args.last c.args.stmt.now
    (ap tree.stmt_form_view c.in-If.is ∙ stmt_form_view-If c.in-If.condition c.in-If.body c.in-If.otherwise)
    (recast (λ p. spec.stmt_form_sites p.names (frame_at later frame p) p.sight c.args.last c.args.stmt.now.span (StmtForm.if_ condition body other))
    (λ p. flow.after_form p.names p.sight (StmtForm.if_ condition body other)) (both_of first w)
    refl refl))
    (c.otherwise.ensures later (sight_of a) first.counted (same_words first ∙ words) c.in_ok-before-in-If.ensures alike)

pub stmt-returns-in_ok-head-in-Match : goal.stmt-returns-in_ok-head-in-Match
stmt-returns-in_ok-head-in-Match t c = λ later counted words.
    let a = c.args.self.now in
    let n = names_at a in
    let frame = c.args.frame in
    let at = c.args.stmt.now.span in
    let term = tree.expr_view c.in-Match.term in
    let arms = tree.block_arms_view c.in-Match.arms in
    let asked = expr_sites n (quiet_at later (stand_of a)) matched term in
    let first = c.in_ok-head-in-Match.ensures later counted words in
    let kind = type_of n a.vars None term in
    let fr = frame_at later frame (stand_of a) in
    if_ok c.block_arms.result
    (λ f w. stmt_formed frame c.args.last c.args.stmt.now
    (ap tree.stmt_form_view c.in-Match.is ∙ stmt_form_view-Match c.in-Match.term c.in-Match.arms)
    (recast (λ p. spec.stmt_form_sites p.names (frame_at later frame p) p.sight c.args.last at (StmtForm.match term arms))
    (λ p. flow.after_form p.names p.sight (StmtForm.match term arms)) (both_of first w)
    (append_assoc asked (Site.arms (word_at (codes "match") at) kind (spec.arm_names (tree.block_arms_view c.as_slice.result.now)) ∷ [])
    (spec.arm_sites n fr (sight_of a) c.in_ok-kind-in-Match.kind [] (tree.block_arms_view c.as_slice-in-Match.result.now))
    ∙ ap₂ (λ l m. asked ++ Site.arms (word_at (codes "match") at) kind (spec.arm_names (tree.block_arms_view l))
    ∷ spec.arm_sites n fr (sight_of a) c.in_ok-kind-in-Match.kind [] (tree.block_arms_view m)) c.as_slice.ensures.items c.as_slice-in-Match.ensures.items
    ∙ ap (λ k. asked ++ Site.arms (word_at (codes "match") at) kind (spec.arm_names arms) ∷ spec.arm_sites n fr (sight_of a) k [] arms)
    c.in_ok-kind-in-Match.ensures)
    (ap₂ (λ k l. flow.after_arms n (sight_of a) k (tree.block_arms_view l)) c.in_ok-kind-in-Match.ensures c.as_slice-in-Match.ensures.items)))
    (c.block_arms.ensures later first.counted (same_words first ∙ words))

pub stmt-returns-in-Assert : goal.stmt-returns-in-Assert
stmt-returns-in-Assert t c = λ later counted words.
    let a = c.args.self.now in
    let condition = tree.expr_view c.in-Assert.condition in
    if_ok c.expr.result
    (λ f w. stmt_formed c.args.frame c.args.last c.args.stmt.now (ap tree.stmt_form_view c.in-Assert.is ∙ stmt_form_view-Assert c.in-Assert.condition)
    (recast (λ p. expr_sites p.names (quiet_at later p) bool_whole condition) (λ p. p.sight)
    (quiet (λ n sc. expr_sites n sc (want_view c.bool_whole.result) condition) words w)
    (ap (λ w. expr_sites (names_at a) (quiet_at later (stand_of a)) w condition) c.bool_whole.ensures) refl))
    (c.expr.ensures later counted)

pub stmt-returns-in-Atomic : goal.stmt-returns-in-Atomic
stmt-returns-in-Atomic t c = λ later counted words.
    if_ok c.atomic.result
    (λ f w. stmt_formed c.args.frame c.args.last c.args.stmt.now (ap tree.stmt_form_view c.in-Atomic.is ∙ stmt_form_view-Atomic c.in-Atomic.body) w)
    (c.atomic.ensures later counted words)

pub stmt-returns-in-Return : goal.stmt-returns-in-Return
stmt-returns-in-Return t c = λ later counted words.
    if_ok c.leave.result
    (λ f w. stmt_formed c.args.frame c.args.last c.args.stmt.now (ap tree.stmt_form_view c.in-Return.is ∙ stmt_form_view-Return c.in-Return.value) w)
    (c.leave.ensures later counted words)
