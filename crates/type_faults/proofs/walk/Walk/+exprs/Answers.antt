use Rattle.std.proofs.Common.{◌≡◌, ◌&&◌, [], ◌∷◌, ◌++◌, ◌+◌, true, false, codes, None, take, drop, refl, sym, ap, ap₂, ◌∙◌, subst}
use Rattle.std.specs.Option.{option_map}
use Rattle.rp_grammar.specs.Trees.{ExprForm}
use Rattle.rp_ast.specs.declared.expr.AccessStep.TheViews.{out-AccessNode}
use Rattle.rp_ast.specs.View as tree
use Rattle.rp_ast.proofs.ExprViews.{access_view-parts, expr_arm_view-parts, expr_view-parts, expr_form_view-Implies, expr_form_view-Or, expr_form_view-And, expr_form_view-Not, expr_form_view-Forall, expr_form_view-Exists, expr_form_view-Compare, expr_form_view-Plus, expr_form_view-Minus, expr_form_view-SomeOf, expr_form_view-Call, expr_form_view-Match, expr_form_view-Access, step_view-Dot, step_view-Returned, step_view-Key}
use Rattle.type_rules.specs.Sites.{Site}
use Rattle.type_rules.specs.Starts.{word_at}
use Rattle.type_rules.specs.Typing.{are_plain, are_plain_args, are_plain_steps, is_plain, is_plain_access, is_plain_form, is_plain_step, type_of}
use Rattle.type_rules.specs.Faults.{judged}
use Rattle.type_tables.specs.Counts.{IsCounted}
use Rattle.type_rules.specs.Accesses.{access_of, args_of}
use Rattle.type_rules.specs.Flow.{in_pattern}
use Rattle.type_rules.specs.Matches.{cases_of, first_kind, pattern_kinds, pattern_name, pattern_vars}
use Rattle.type_rules.specs.Paths.{key_kind}
use Rattle.type_rules.specs.ExprSites as spec
use Rattle.type_tables.specs.Tables.{number_in, with_first}
use Rattle.type_terms.specs.Views.{access_view, cases_view, way_view}
use Rattle.type_judges.specs.Places.{want_view}
use Rattle.text_names.proofs.Entries.{drop_past, if_ok}
use Rattle.type_faults.specs.Walks.{Stand, Walks, names_at, scope_at, seeing, sight_of, stand_of}
use Rattle.type_faults.proofs.Meeting.{ExprArmsWalked, expr_arm_name, expr_arm_own, expr_arms_ended, expr_arms_next, expr_arms_started}
use Rattle.type_faults.proofs.Forms.{arg_next, formed_as, formed_told, pair_formed, step_told, whole_expr}
use Rattle.type_faults.proofs.RightLaws.{leaf_right}
use Rattle.type_faults.proofs.Plain.{plain_ended, plain_next, steps_ended, steps_next}
use Rattle.type_faults.proofs.Lists.{bound_gone, next_in, take_front}
use Rattle.type_faults.proofs.Walked.{both, both_of, ended, follows, here, placed, recast, same_names, started, stepped, then_turned}
use Rattle.type_faults.proofs.walk.Walk.+exprs.Goals as goal

pub term-returns-then-is_right_leaf : goal.term-returns-then-is_right_leaf
term-returns-then-is_right_leaf t c = λ later counted.
    let a = c.args.self.now in
    let want = want_view c.args.want in
    let e = tree.expr_view c.args.e.now in
    let sites = λ (p : Stand). spec.expr_sites p.names (scope_at later p) want e in
    let right = leaf_right (names_at a) (scope_at later (stand_of a)) want e (sym c.is_right_leaf.ensures ∙ c.if-is_right_leaf.true) in (
      subst (λ f. Walks later a a f sites (λ p. p.sight)) (sym c.nothing.ensures.fault)
          (here {later = later} sites right.lawful right.unused counted),
      c.nothing.ensures.plain ∙ sym right.plain,
    )

pub term-returns : goal.term-returns
term-returns t c = λ later counted.
    let a = c.args.self.now in
    let n = names_at a in
    let e = tree.expr_view c.args.e.now in
    let want = want_view c.args.want in
    let marked = c.in_ok-mark_expr.ensures later in
    let below = c.in_ok-below.ensures later (subst (λ entries. IsCounted entries later) (sym marked.later) counted) in
    let stands = below.0.stands ∙ marked.stands in
    let plain = below.1 ∙ ap (λ (p : Stand). is_plain_form p.names p.sight.vars (tree.expr_form_view c.args.e.now.what)) marked.stands
    ∙ sym (ap (is_plain n a.vars) (expr_view-parts c.args.e.now)) in
    let told = plain ∙ sym (ap (λ (p : Stand). is_plain p.names p.sight.vars e) stands) in
    let own = c.in_ok-here.ensures later below.0.counted told
    ∙ ap (λ (p : Stand). judged p.names (Site.place (scope_at later p) want e)) stands in (
      whole_expr want c.args.e.now (placed {later = later} (λ p. Site.place (scope_at later p) want e) own marked refl counted)
          below.0 c.sooner.ensures,
      plain,
    )

pub expr-returns : goal.expr-returns
expr-returns t c = λ later counted. (c.in_ok-told.ensures later counted).0

pub behind-returns : goal.behind-returns
behind-returns t c = λ later counted. follows (c.in_ok-own.ensures later counted) c.sooner.ensures

-- # Lists

pub operands-loop-operand-init : goal.operands-loop-operand-init
operands-loop-operand-init t c = λ later counted. started {later = later} counted

pub operands-loop-operand-preserved : goal.operands-loop-operand-preserved
operands-loop-operand-preserved t c = λ later counted.
    let n = names_at c.args.self.now in
    let sc = scope_at later (stand_of c.args.self.now) in
    let es = c.args.operands.now in
    let i = c.loop-operand.operand-index in
    let e = c.operand-item.result in
    let before = c.loop-operand.invariant later counted in
    let next = spec.operand_sites n sc (tree.exprs_view (drop (i + 1) es)) in
    stepped next before (c.in_ok-expr.ensures later before.walks.counted) c.sooner-best.ensures
    (next_in (λ l. spec.operand_sites n sc (tree.exprs_view l)) es i e c.loop-operand-test.true c.operand-item.is
    ∙ ap (λ w. spec.expr_sites n sc w (tree.expr_view e) ++ next) (sym c.bool_operand.ensures))

pub operands-returns : goal.operands-returns
operands-returns t c = λ later counted.
    let es = c.args.operands.now in
    let n = names_at c.args.self.now in
    let sc = scope_at later (stand_of c.args.self.now) in
    ended (λ p. spec.operand_sites p.names (scope_at later p) (tree.exprs_view es)) (c.loop-operand.invariant later counted)
    (ap (λ l. spec.operand_sites n sc (tree.exprs_view l)) (drop_past es c.loop-operand.operand-index c.loop-operand-test.false))

pub word-loop-place-init : goal.word-loop-place-init
word-loop-place-init t c = λ later counted. (started {later = later} counted, refl)

pub word-loop-place-preserved : goal.word-loop-place-preserved
word-loop-place-preserved t c = λ later counted.
    let a = c.args.self.now in
    let n = names_at a in
    let sc = scope_at later (stand_of a) in
    let es = c.args.args.now in
    let i = c.loop-place.place in
    let kinds = spec.word_args n a.vars c.args.word (tree.exprs_view es) in
    let before = c.loop-place.invariant later counted in
    let walks = before.0.walks in
    let told = c.in_ok-told.ensures later walks.counted in
    let kind = c.in_ok-kind.ensures
    ∙ ap (λ p. first_kind (drop i (spec.word_args p.names p.sight.vars c.args.word (tree.exprs_view es)))) walks.stands in (
      stepped (spec.arg_sites n sc false (drop (i + 1) kinds) (tree.exprs_view (drop (i + 1) es))) before.0 told.0 c.sooner-best.ensures
          (arg_next n sc false kinds es i c.index-args-place.result (want_view c.argument.result) c.in_ok-kind.kind
          c.loop-place-test.true c.index-args-place.is kind c.argument.ensures),
      plain_next n a.vars es i c.index-args-place.result c.loop-place.plain c.loop-place-test.true c.index-args-place.is before.1
          (told.1 ∙ ap (λ (p : Stand). is_plain p.names p.sight.vars (tree.expr_view c.index-args-place.result)) walks.stands) c.both-plain.ensures,
    )

pub word-returns : goal.word-returns
word-returns t c = λ later counted.
    let a = c.args.self.now in
    let n = names_at a in
    let sc = scope_at later (stand_of a) in
    let es = c.args.args.now in
    let i = c.loop-place.place in
    let kinds = spec.word_args n a.vars c.args.word (tree.exprs_view es) in
    let all = c.loop-place.invariant later counted in
    let past = drop_past es i c.loop-place-test.false in (
      ended (λ p. spec.arg_sites p.names (scope_at later p) false (spec.word_args p.names p.sight.vars c.args.word (tree.exprs_view es)) (tree.exprs_view es))
          all.0 (ap (λ l. spec.arg_sites n sc false (drop i kinds) (tree.exprs_view l)) past),
      plain_ended n a.vars es i c.loop-place.plain past all.1 ∙ ap (λ b. b && are_plain n a.vars (tree.exprs_view es)) c.is_plain_word-plain.ensures,
    )

pub args-loop-place-init : goal.args-loop-place-init
args-loop-place-init t c = λ later counted. (started {later = later} counted, refl)

pub args-loop-place-preserved : goal.args-loop-place-preserved
args-loop-place-preserved t c = λ later counted.
    let a = c.args.self.now in
    let n = names_at a in
    let sc = scope_at later (stand_of a) in
    let es = c.args.args.now in
    let i = c.loop-place.place in
    let kinds = args_of n (access_view n c.args.what) in
    let before = c.loop-place.invariant later counted in
    let walks = before.0.walks in
    let told = c.in_ok-told.ensures later walks.counted in
    let kind = c.in_ok-kind.ensures
    ∙ ap (λ n. first_kind (drop i (args_of n (access_view n c.args.what)))) (same_names walks) in (
      stepped (spec.arg_sites n sc true (drop (i + 1) kinds) (tree.exprs_view (drop (i + 1) es))) before.0 told.0 c.sooner-best.ensures
          (arg_next n sc true kinds es i c.index-args-place.result (want_view c.argument.result) c.in_ok-kind.kind
          c.loop-place-test.true c.index-args-place.is kind c.argument.ensures),
      plain_next n a.vars es i c.index-args-place.result c.loop-place.plain c.loop-place-test.true c.index-args-place.is before.1
          (told.1 ∙ ap (λ (p : Stand). is_plain p.names p.sight.vars (tree.expr_view c.index-args-place.result)) walks.stands) c.both-plain.ensures,
    )

pub args-returns : goal.args-returns
args-returns t c = λ later counted.
    let a = c.args.self.now in
    let n = names_at a in
    let sc = scope_at later (stand_of a) in
    let es = c.args.args.now in
    let i = c.loop-place.place in
    let kinds = args_of n (access_view n c.args.what) in
    let all = c.loop-place.invariant later counted in
    let past = drop_past es i c.loop-place-test.false in (
      ended (λ p. spec.arg_sites p.names (scope_at later p) true (args_of p.names (access_view p.names c.args.what)) (tree.exprs_view es))
          all.0 (ap (λ l. spec.arg_sites n sc true (drop i kinds) (tree.exprs_view l)) past),
      plain_ended n a.vars es i c.loop-place.plain past all.1,
    )

pub keys-loop-step-init : goal.keys-loop-step-init
keys-loop-step-init t c = λ later counted. (started {later = later} counted, refl)

pub keys-loop-step-preserved : goal.keys-loop-step-preserved
keys-loop-step-preserved t c = λ later counted.
    let a = c.args.self.now in
    let n = names_at a in
    let sc = scope_at later (stand_of a) in
    let steps = c.args.steps.now in
    let i = c.loop-step.step-index in
    let s = c.step-item.result in
    let way = way_view n c.loop-step.way in
    let before = c.loop-step.invariant later counted in
    let walks = before.0.walks in
    let told = c.in_ok-told.ensures later walks.counted in
    let rest = tree.steps_view (drop (i + 1) steps) in (
      stepped (spec.step_sites n sc (way_view n c.in_ok-way.way) rest) before.0 told.0 c.sooner-best.ensures
          (next_in (λ l. spec.step_sites n sc way (tree.steps_view l)) steps i s c.loop-step-test.true c.step-item.is
          ∙ ap (λ next. spec.key_sites n sc way (tree.step_view s) ++ spec.step_sites n sc next rest) (sym (c.in_ok-way.ensures n))),
      steps_next n a.vars steps i s c.loop-step.plain c.loop-step-test.true c.step-item.is before.1
          (told.1 ∙ ap (λ (p : Stand). is_plain_step p.names p.sight.vars (tree.step_view s)) walks.stands) c.both-plain.ensures,
    )

pub keys-returns : goal.keys-returns
keys-returns t c = λ later counted.
    let a = c.args.self.now in
    let n = names_at a in
    let sc = scope_at later (stand_of a) in
    let steps = c.args.steps.now in
    let i = c.loop-step.step-index in
    let all = c.loop-step.invariant later counted in
    let past = drop_past steps i c.loop-step-test.false in (
      ended (λ p. spec.step_sites p.names (scope_at later p) (way_view p.names c.args.way) (tree.steps_view steps))
          all.0 (ap (λ l. spec.step_sites n sc (way_view n c.loop-step.way) (tree.steps_view l)) past),
      steps_ended n a.vars steps i c.loop-step.plain past all.1,
    )

-- # Parts of an access

pub key-returns-in-Dot : goal.key-returns-in-Dot
key-returns-in-Dot t c = λ later counted.
    step_told (λ p. way_view p.names c.args.way) (ap tree.step_view c.in-Dot.is ∙ step_view-Dot c.in-Dot.field-0)
    (here {later = later} (λ p. []) refl refl counted) c.nothing.ensures.fault c.nothing.ensures.plain refl

pub key-returns-in-Returned : goal.key-returns-in-Returned
key-returns-in-Returned t c = λ later counted.
    step_told (λ p. way_view p.names c.args.way) (ap tree.step_view c.in-Returned.is ∙ step_view-Returned c.in-Returned.field-0)
    (here {later = later} (λ p. []) refl refl counted) c.nothing-in-Returned.ensures.fault c.nothing-in-Returned.ensures.plain refl

pub key-returns-in_ok-kind-in-Key : goal.key-returns-in_ok-kind-in-Key
key-returns-in_ok-kind-in-Key t c = λ later counted.
    let a = c.args.self.now in
    let e = tree.expr_view c.in-Key.key in
    let asked = c.argument.ensures ∙ ap (spec.argument true) c.in_ok-kind-in-Key.ensures in
    if_ok c.term.result
    (λ told w. step_told (λ p. way_view p.names c.args.way) (ap tree.step_view c.in-Key.is ∙ step_view-Key c.in-Key.key)
    (recast (λ p. spec.expr_sites p.names (scope_at later p) (spec.argument true (key_kind p.names (way_view p.names c.args.way))) e)
    (λ p. p.sight) w.0 (ap (λ w. spec.expr_sites (names_at a) (scope_at later (stand_of a)) w e) asked) refl) refl w.1 refl)
    (c.term.ensures later counted)

pub given-returns-in-Some : goal.given-returns-in-Some
given-returns-in-Some t c = λ later counted.
    let a = c.args.self.now in
    let n = names_at a in
    let sc = scope_at later (stand_of a) in
    let kinds = args_of n (access_view n c.args.what) in
    if_ok c.args-in-Some.result
    (λ told w. (
      recast (λ p. spec.given_sites p.names (scope_at later p) (args_of p.names (access_view p.names c.args.what))
          (tree.args_view (out-AccessNode c.args.access.now).args)) (λ p. p.sight) w.0
          (ap (λ es. spec.arg_sites n sc true kinds (tree.exprs_view es)) c.as_slice.ensures.items
          ∙ ap (λ o. spec.given_sites n sc kinds (tree.args_view o)) (sym c.in-Some.is)) refl,
      w.1 ∙ ap (λ es. are_plain n a.vars (tree.exprs_view es)) c.as_slice.ensures.items
          ∙ ap (λ o. are_plain_args n a.vars (tree.args_view o)) (sym c.in-Some.is),
    ))
    (c.args-in-Some.ensures later counted)

pub given-returns-in-None : goal.given-returns-in-None
given-returns-in-None t c = λ later counted.
    let a = c.args.self.now in
    let n = names_at a in
    let sc = scope_at later (stand_of a) in
    let kinds = args_of n (access_view n c.args.what) in
    let sites = λ (p : Stand). spec.given_sites p.names (scope_at later p) (args_of p.names (access_view p.names c.args.what))
    (tree.args_view (out-AccessNode c.args.access.now).args) in (
      subst (λ f. Walks later a a f sites (λ p. p.sight)) (sym c.nothing.ensures.fault)
          (recast sites (λ p. p.sight) (here {later = later} (λ p. []) refl refl counted)
          (ap (λ o. spec.given_sites n sc kinds (tree.args_view o)) (sym c.in-None.is)) refl),
      c.nothing.ensures.plain ∙ ap (λ o. are_plain_args n a.vars (tree.args_view o)) (sym c.in-None.is),
    )

pub access-returns : goal.access-returns
access-returns t c = λ later counted.
    let a = c.args.self.now in
    let n = names_at a in
    let sc = scope_at later (stand_of a) in
    let access = c.args.access.now in
    let parts = access_view-parts access in
    let steps = tree.steps_view (out-AccessNode access).steps in
    let args = tree.args_view (out-AccessNode access).args in
    let keys = c.in_ok-keys.ensures later counted in
    let given = c.in_ok-args.ensures later keys.0.counted in
    let what = c.in_ok-what.ensures ∙ ap (access_of n a.vars) parts in
    let own = c.is_plain_access-own.ensures ∙ ap (is_plain_access n) what in
    let key = keys.1 ∙ ap (λ l. are_plain_steps n a.vars (tree.steps_view l)) c.as_slice.ensures.items in
    let arg = given.1 ∙ ap (λ (p : Stand). are_plain_args p.names p.sight.vars args) keys.0.stands in (
      recast (λ p. spec.access_sites p.names (scope_at later p) (tree.access_view access)) (λ p. p.sight)
          (both keys.0 given.0 c.sooner.ensures)
          (ap (λ l. spec.step_sites n sc (way_view n c.way_from-way.result) (tree.steps_view l)
          ++ spec.given_sites n sc (args_of n (access_view n c.in_ok-what.what)) args) c.as_slice.ensures.items
          ∙ ap₂ (λ way k. spec.step_sites n sc way steps ++ spec.given_sites n sc (args_of n k) args) c.way_from-way.ensures what
          ∙ ap (spec.access_sites n sc) (sym parts))
          refl,
      c.both-2.ensures ∙ ap₂ (λ x y. x && y) (c.both.ensures ∙ ap₂ (λ x y. x && y) own key) arg
          ∙ ap (λ t. is_plain_form n a.vars (ExprForm.access t)) (sym parts),
    )

-- # Variables that come in sight and go

pub quantified-returns : goal.quantified-returns
quantified-returns t c = λ later counted.
    let a = c.args.self.now in
    let n = names_at a in
    let param = tree.param_view c.args.param.now in
    let body = tree.expr_view c.args.body.now in
    let v = spec.quantified_var n param in
    let own = c.in_ok-here.ensures later counted in
    let below = c.in_ok-below.ensures later own.counted in
    recast (λ p. spec.quantified_sites (scope_at later p) param
    ++ spec.expr_sites p.names (spec.with_var (scope_at later p) (spec.quantified_var p.names param)) spec.bool_operand body) (λ p. p.sight)
    (then_turned (both own below c.sooner.ensures) c.back_to.ensures)
    (ap (λ w. spec.quantified_sites (scope_at later (stand_of a)) param
    ++ spec.expr_sites n (spec.with_var (scope_at later (stand_of a)) v) w body) c.bool_operand.ensures)
    (ap (λ vs. record (sight_of a) { vars = vs }) (ap (λ k. take k (a.vars ++ v ∷ [])) c.len-len.ensures ∙ take_front a.vars (v ∷ [])))

pub arm-returns : goal.arm-returns
arm-returns t c = λ later kind names counted cases table.
    let a = c.args.self.now in
    let n = names_at a in
    let pattern = tree.pattern_view c.args.arm.now.pattern in
    let body = tree.expr_view c.args.arm.now.body in
    let own = c.in_ok-here.ensures later kind names counted cases table in
    let below = c.in_ok-below.ensures later own.counted in
    let inside = scope_at later (seeing (stand_of a) (in_pattern n (sight_of a) kind pattern)) in
    let kinds = pattern_kinds n kind (pattern_name pattern) in
    recast (λ p. spec.pattern_sites p.names p.sight.vars kind names pattern
    ++ spec.expr_sites p.names (scope_at later (seeing p (in_pattern p.names p.sight kind pattern))) spec.bool_whole body) (λ p. p.sight)
    (then_turned (both own below c.sooner.ensures) c.back_to.ensures)
    (ap (λ w. spec.pattern_sites n a.vars kind names pattern ++ spec.expr_sites n inside w body) c.bool_whole.ensures)
    (ap (λ vs. record (sight_of a) { vars = vs })
    (ap (λ k. take k (in_pattern n (sight_of a) kind pattern).vars) c.len-len.ensures ∙ bound_gone a.vars (pattern_vars pattern) kinds))

-- # Arms

pub arms-returns : goal.arms-returns
arms-returns t c = λ later counted.
    let kind = c.args.kind in
    let word = c.in_ok-word.ensures later kind counted c.cases_of-cases.ensures in
    let below = c.in_ok-below.ensures later kind counted c.cases_of-cases.ensures in
    follows (both word below c.sooner.ensures) c.sooner-2.ensures

pub each_arm-loop-arm-init : goal.each_arm-loop-arm-init
each_arm-loop-arm-init t c = λ later kind counted cases. expr_arms_started {later = later} counted c.new-before.ensures

pub each_arm-loop-arm-preserved : goal.each_arm-loop-arm-preserved
each_arm-loop-arm-preserved t c = λ later kind counted cases.
    let a = c.args.self.now in
    let arms = c.args.arms.now in
    let i = c.loop-arm.arm-index in
    let arm = c.arm-item.result in
    let parts = expr_arm_view-parts arm in
    let before = c.loop-arm.invariant later kind counted cases in
    let now = subst (λ rest. ExprArmsWalked later kind c.loop-arm.before a c.loop-arm.self c.loop-arm.best rest (tree.expr_arms_view arms))
    (next_in tree.expr_arms_view arms i arm c.loop-arm-test.true c.arm-item.is) before in
    let known = subst (λ n. option_map (cases_view n) c.args.cases ≡ cases_of n kind) (sym (same_names now.walks)) cases in
    let walk = c.in_ok-arm.ensures later kind now.names now.walks.counted known now.table_is in
    expr_arms_next (tree.expr_arm_view arm) now
    (subst (λ x. Walks later c.loop-arm.self c.arm.new.self c.in_ok-arm.field-0 (expr_arm_own later kind now.names x) (λ p. p.sight)) (sym parts) walk)
    c.sooner-best.ensures
    (c.in_ok-add_arm.ensures ∙ ap (λ x. with_first (number_in c.loop-arm.before) (expr_arm_name x) 0) (sym parts))

pub each_arm-returns : goal.each_arm-returns
each_arm-returns t c = λ later kind counted cases.
    let arms = c.args.arms.now in
    expr_arms_ended (tree.expr_arms_view arms) (c.loop-arm.invariant later kind counted cases)
    (ap tree.expr_arms_view (drop_past arms c.loop-arm.arm-index c.loop-arm-test.false))

-- # Forms

pub below-returns-in_ok-last-in-Implies : goal.below-returns-in_ok-last-in-Implies
below-returns-in_ok-last-in-Implies t c = λ later counted.
    let want = want_view c.args.want in
    let at = c.args.e.now.span in
    let first = c.in_ok-first-in-Implies.ensures later counted in
    let last = c.in_ok-last-in-Implies.ensures later first.counted in
    let l = c.get.result.now in
    let r = c.get-in-Implies.result.now in
    formed_told want at
    (ap tree.expr_form_view c.in-Implies.is ∙ expr_form_view-Implies c.in-Implies.left c.in-Implies.right
    ∙ ap₂ (λ l r. ExprForm.implies (tree.expr_view l) (tree.expr_view r)) (sym c.get.ensures) (sym c.get-in-Implies.ensures))
    (pair_formed want at (ExprForm.implies (tree.expr_view l) (tree.expr_view r)) (tree.expr_view l) (tree.expr_view r) (λ n vs. spec.bool_operand) (λ n vs. spec.bool_operand)
    refl (λ n sc. refl) c.bool_operand.ensures c.bool_operand-in-Implies.ensures (both_of first last))
    c.claim.ensures.fault c.claim.ensures.plain refl

pub below-returns-in_ok-last-in-Plus : goal.below-returns-in_ok-last-in-Plus
below-returns-in_ok-last-in-Plus t c = λ later counted.
    let a = c.args.self.now in
    let want = want_view c.args.want in
    let at = c.args.e.now.span in
    let l = tree.expr_view c.get-in-Plus.result.now in
    let r = tree.expr_view c.get-in-Plus-2.result.now in
    let first = c.in_ok-first-in-Plus.ensures later counted in
    let last = c.in_ok-last-in-Plus.ensures later first.0.counted in
    formed_as want at
    (ap tree.expr_form_view c.in-Plus.is ∙ expr_form_view-Plus c.in-Plus.left c.in-Plus.right
    ∙ ap₂ (λ l r. ExprForm.plus (tree.expr_view l) (tree.expr_view r)) (sym c.get-in-Plus.ensures) (sym c.get-in-Plus-2.ensures))
    (pair_formed want at (ExprForm.plus l r) l r (λ n vs. spec.int_operand) (λ n vs. spec.int_operand)
    refl (λ n sc. refl) c.int_operand.ensures c.int_operand-in-Plus.ensures (both first.0 last.0 c.sum.ensures.fault))
    (c.sum.ensures.plain
    ∙ ap₂ (λ x y. x && y) first.1 (last.1 ∙ ap (λ (p : Stand). is_plain p.names p.sight.vars r) first.0.stands))

pub below-returns-in_ok-last-in-Minus : goal.below-returns-in_ok-last-in-Minus
below-returns-in_ok-last-in-Minus t c = λ later counted.
    let a = c.args.self.now in
    let want = want_view c.args.want in
    let at = c.args.e.now.span in
    let l = tree.expr_view c.get-in-Minus.result.now in
    let r = tree.expr_view c.get-in-Minus-2.result.now in
    let first = c.in_ok-first-in-Minus.ensures later counted in
    let last = c.in_ok-last-in-Minus.ensures later first.0.counted in
    formed_as want at
    (ap tree.expr_form_view c.in-Minus.is ∙ expr_form_view-Minus c.in-Minus.left c.in-Minus.right
    ∙ ap₂ (λ l r. ExprForm.minus (tree.expr_view l) (tree.expr_view r)) (sym c.get-in-Minus.ensures) (sym c.get-in-Minus-2.ensures))
    (pair_formed want at (ExprForm.minus l r) l r (λ n vs. spec.int_operand) (λ n vs. spec.int_operand)
    refl (λ n sc. refl) c.int_operand-in-Minus.ensures c.int_operand-in-Minus-2.ensures (both first.0 last.0 c.sum-in-Minus.ensures.fault))
    (c.sum-in-Minus.ensures.plain
    ∙ ap₂ (λ x y. x && y) first.1 (last.1 ∙ ap (λ (p : Stand). is_plain p.names p.sight.vars r) first.0.stands))

pub below-returns-in_ok-last-in-Compare : goal.below-returns-in_ok-last-in-Compare
below-returns-in_ok-last-in-Compare t c = λ later counted.
    let want = want_view c.args.want in
    let a = c.args.self.now in
    let n = names_at a in
    let op = c.in-Compare.op in
    let first = c.in_ok-first-in-Compare.ensures later counted in
    let last = c.in_ok-last-in-Compare.ensures later first.counted in
    let l = c.get-in-Compare-3.result.now in
    let r = c.get-in-Compare-4.result.now in
    let left = c.get-in-Compare.ensures ∙ sym c.get-in-Compare-3.ensures in
    let right = c.get-in-Compare-2.ensures ∙ sym c.get-in-Compare-4.ensures in
    formed_told want c.args.e.now.span
    (ap tree.expr_form_view c.in-Compare.is ∙ expr_form_view-Compare op c.in-Compare.left c.in-Compare.right
    ∙ ap₂ (λ l r. ExprForm.compare op (tree.expr_view l) (tree.expr_view r)) (sym c.get-in-Compare-3.ensures) (sym c.get-in-Compare-4.ensures))
    (pair_formed want c.args.e.now.span (ExprForm.compare op (tree.expr_view l) (tree.expr_view r)) (tree.expr_view l) (tree.expr_view r)
    (λ n vs. spec.left_want n vs op (tree.expr_view l) (tree.expr_view r)) (λ n vs. spec.right_want n vs op (tree.expr_view l) (tree.expr_view r))
    refl (λ n sc. refl)
    (c.in_ok-wants-in-Compare.ensures.left ∙ ap₂ (λ l r. spec.left_want n a.vars op (tree.expr_view l) (tree.expr_view r)) left right)
    (c.in_ok-wants-in-Compare.ensures.right ∙ ap₂ (λ l r. spec.right_want n a.vars op (tree.expr_view l) (tree.expr_view r)) left right)
    (both_of first last))
    c.claim-in-Compare.ensures.fault c.claim-in-Compare.ensures.plain refl

pub below-returns-in_ok-fault-in-Or : goal.below-returns-in_ok-fault-in-Or
below-returns-in_ok-fault-in-Or t c = λ later counted.
    formed_told (want_view c.args.want) c.args.e.now.span
    (ap tree.expr_form_view c.in-Or.is ∙ expr_form_view-Or c.in-Or.operands
    ∙ ap (λ es. ExprForm.or (tree.exprs_view es)) (sym c.as_slice.ensures.items))
    (c.in_ok-fault-in-Or.ensures later counted) c.claim-in-Or.ensures.fault c.claim-in-Or.ensures.plain refl

pub below-returns-in_ok-fault-in-And : goal.below-returns-in_ok-fault-in-And
below-returns-in_ok-fault-in-And t c = λ later counted.
    formed_told (want_view c.args.want) c.args.e.now.span
    (ap tree.expr_form_view c.in-And.is ∙ expr_form_view-And c.in-And.operands
    ∙ ap (λ es. ExprForm.and (tree.exprs_view es)) (sym c.as_slice-in-And.ensures.items))
    (c.in_ok-fault-in-And.ensures later counted) c.claim-in-And.ensures.fault c.claim-in-And.ensures.plain refl

pub below-returns-in_ok-fault-in-Not : goal.below-returns-in_ok-fault-in-Not
below-returns-in_ok-fault-in-Not t c = λ later counted.
    let a = c.args.self.now in
    let e = c.get-in-Not.result.now in
    formed_told (want_view c.args.want) c.args.e.now.span
    (ap tree.expr_form_view c.in-Not.is ∙ expr_form_view-Not c.in-Not.operand ∙ ap (λ e. ExprForm.not (tree.expr_view e)) (sym c.get-in-Not.ensures))
    (recast (λ p. spec.expr_sites p.names (scope_at later p) spec.bool_operand (tree.expr_view e)) (λ p. p.sight) (c.in_ok-fault-in-Not.ensures later counted)
    (ap (λ w. spec.expr_sites (names_at a) (scope_at later (stand_of a)) w (tree.expr_view e)) c.bool_operand-in-Not.ensures) refl)
    c.claim-in-Not.ensures.fault c.claim-in-Not.ensures.plain refl

pub below-returns-in-SomeOf : goal.below-returns-in-SomeOf
below-returns-in-SomeOf t c = λ later counted.
    let a = c.args.self.now in
    let e = c.get-in-SomeOf.result.now in
    if_ok c.term-in-SomeOf.result
    (λ told w. formed_as (want_view c.args.want) c.args.e.now.span
    (ap tree.expr_form_view c.in-SomeOf.is ∙ expr_form_view-SomeOf c.in-SomeOf.inside ∙ ap (λ e. ExprForm.some_of (tree.expr_view e)) (sym c.get-in-SomeOf.ensures))
    (recast (λ p. spec.expr_sites p.names (scope_at later p) (spec.held c.args.want.asked) (tree.expr_view e)) (λ p. p.sight) w.0
    (ap (λ w. spec.expr_sites (names_at a) (scope_at later (stand_of a)) w (tree.expr_view e)) c.held.ensures) refl) w.1)
    (c.term-in-SomeOf.ensures later counted)

pub below-returns-in-Call : goal.below-returns-in-Call
below-returns-in-Call t c = λ later counted.
    if_ok c.word.result
    (λ told w. formed_as (want_view c.args.want) c.args.e.now.span
    (ap tree.expr_form_view c.in-Call.is ∙ expr_form_view-Call c.in-Call.word c.in-Call.args
    ∙ ap (λ es. ExprForm.call c.in-Call.word (tree.exprs_view es)) (sym c.as_slice-in-Call.ensures.items)) w.0 w.1)
    (c.word.ensures later counted)

pub below-returns-in-Access : goal.below-returns-in-Access
below-returns-in-Access t c = λ later counted.
    if_ok c.access.result
    (λ told w. formed_as (want_view c.args.want) c.args.e.now.span
    (ap tree.expr_form_view c.in-Access.is ∙ expr_form_view-Access c.in-Access.access
    ∙ ap (λ a. ExprForm.access (tree.access_view a)) (sym c.get-in-Access.ensures)) w.0 w.1)
    (c.access.ensures later counted)

pub below-returns-in_ok-fault-in-Forall : goal.below-returns-in_ok-fault-in-Forall
below-returns-in_ok-fault-in-Forall t c = λ later counted.
    formed_told (want_view c.args.want) c.args.e.now.span
    (ap tree.expr_form_view c.in-Forall.is ∙ expr_form_view-Forall c.in-Forall.param c.in-Forall.body
    ∙ ap₂ (λ p e. ExprForm.forall (tree.param_view p) (tree.expr_view e)) (sym c.get-in-Forall-2.ensures) (sym c.get-in-Forall.ensures))
    (c.in_ok-fault-in-Forall.ensures later counted) c.claim-in-Forall.ensures.fault c.claim-in-Forall.ensures.plain refl

pub below-returns-in_ok-fault-in-Exists : goal.below-returns-in_ok-fault-in-Exists
below-returns-in_ok-fault-in-Exists t c = λ later counted.
    formed_told (want_view c.args.want) c.args.e.now.span
    (ap tree.expr_form_view c.in-Exists.is ∙ expr_form_view-Exists c.in-Exists.param c.in-Exists.body
    ∙ ap₂ (λ p e. ExprForm.exists (tree.param_view p) (tree.expr_view e)) (sym c.get-in-Exists-2.ensures) (sym c.get-in-Exists.ensures))
    (c.in_ok-fault-in-Exists.ensures later counted) c.claim-in-Exists.ensures.fault c.claim-in-Exists.ensures.plain refl

pub below-returns-in_ok-fault-in-Match : goal.below-returns-in_ok-fault-in-Match
below-returns-in_ok-fault-in-Match t c = λ later counted.
    let a = c.args.self.now in
    let n = names_at a in
    let sc = scope_at later (stand_of a) in
    let e = c.get-in-Match-2.result.now in
    let term = tree.expr_view e in
    let arms = tree.expr_arms_view c.as_slice-in-Match.result.now in
    let at = c.args.e.now.span in
    let first = c.in_ok-first-in-Match.ensures later counted in
    let last = c.in_ok-fault-in-Match.ensures later first.counted in
    let kind = c.in_ok-kind-in-Match.ensures ∙ ap (λ e. type_of n a.vars None (tree.expr_view e)) (c.get-in-Match.ensures ∙ sym c.get-in-Match-2.ensures) in
    formed_told (want_view c.args.want) at
    (ap tree.expr_form_view c.in-Match.is ∙ expr_form_view-Match c.in-Match.term c.in-Match.arms
    ∙ ap₂ (λ e l. ExprForm.match (tree.expr_view e) (tree.expr_arms_view l)) (sym c.get-in-Match-2.ensures) (sym c.as_slice-in-Match.ensures.items))
    (recast (λ p. spec.form_sites p.names (scope_at later p) (want_view c.args.want) at (ExprForm.match term arms)) (λ p. p.sight) (both_of first last)
    (ap₂ (λ w k. spec.expr_sites n sc w term ++ Site.arms (word_at (codes "match") at) k (spec.arm_names arms) ∷ spec.arm_sites n sc k [] arms)
    c.matched.ensures kind) refl)
    c.claim-in-Match.ensures.fault c.claim-in-Match.ensures.plain refl
