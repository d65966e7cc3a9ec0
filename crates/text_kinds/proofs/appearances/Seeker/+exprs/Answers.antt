use Rattle.std.proofs.Common.{◌≡◌, ◌+◌, ◌++◌, List, [], ◌∷◌, None, Some, drop, refl, subst, take, ap, ap₂, sym, ◌∙◌}
use Rattle.rp_ast.specs.declared.expr.AccessStep.{AccessStep}
use Rattle.rp_ast.specs.declared.expr.AccessStep.TheViews.{out-AccessNode}
use Rattle.rp_ast.specs.View as tree
use Rattle.rp_ast.specs.View.{args_view, expr_form_view, ident_view, param_view, pattern_view, step_view, steps_view, type_view}
use Rattle.rp_ast.proofs.ExprViews.{expr_arm_view-parts, expr_form_view-Compare, expr_form_view-Exists, expr_form_view-Forall, expr_form_view-Implies, expr_form_view-Match, expr_form_view-Minus, expr_form_view-Plus, expr_form_view-SomeOf, access_view-parts, expr_view-parts}
use Rattle.rp_grammar.specs.Trees.{AccessTree, ExprForm, ParamTree}
use Rattle.type_rules.specs.Kinds.{int_kind, kind_of}
use Rattle.type_rules.specs.Accesses.{access_of, args_of, find_var}
use Rattle.type_rules.specs.Matches.{bound_var, first_kind, pattern_kinds, pattern_name, pattern_vars}
use Rattle.type_rules.specs.ExprSites.{left_want, quantified_var, right_want, way_from, word_args}
use Rattle.type_rules.specs.Names.{param_type}
use Rattle.type_rules.specs.Typing.{asked_inside, form_type, type_of}
use Rattle.desugaring.specs.Appearances.{parts}
use Rattle.type_terms.specs.Views.{access_view, way_view}
use Rattle.text_kinds.specs.Seen.{kinds_view}
use Rattle.text_kinds.specs.means.Brought.{Seen, access_brings, args_bring, behind_pattern, key_brings, steps_bring}
use Rattle.text_kinds.proofs.Bare.{bound_more}
use Rattle.text_kinds.proofs.Walks.{both_as, form_seen, goes_on, left_sought, other_dropped, rest_is, sought_both}
use Rattle.rp_ast.specs.declared.expr.ExprNode.{ExprNode}
use Rattle.rp_ast.specs.declared.expr.ExprArm.{ExprArm}
use Rattle.rp_ast.specs.View.{expr_arm_view, expr_arms_view, expr_view, exprs_view}
use Rattle.type_rules.specs.declared.kind.Kind.{Kind}
use Rattle.type_rules.specs.Names.{Names}
use Rattle.type_rules.specs.Kinds.{bool_kind}
use Rattle.type_rules.specs.Accesses.{Var}
use Rattle.text_names.specs.Declarations.{names_view}
use Rattle.text_names.proofs.Placed.{on_ok}
use Rattle.text_kinds.specs.means.Brought.{arms_bring, expr_brings, arm_brings, operands_bring, sought}
use Rattle.text_kinds.specs.means.Walked.{seen}
use Rattle.text_kinds.proofs.appearances.Seeker.+exprs.Goals as goal

pub operands-loop-operand-preserved : goal.operands-loop-operand-preserved
operands-loop-operand-preserved t c =
    let start = c.args.self.now in
    let n = names_view start.kinds.names.now in
    let es = c.args.operands.now in
    let i = c.loop-operand.operand-index in
    let x = c.operand-item.result in
    let f : Names → List Var → List Kind = λ m vs. expr_brings m vs (Some bool_kind) (expr_view x) in
    goes_on (seen start) (seen c.loop-operand.self) (seen c.expr.new.self)
    (operands_bring n start.vars (exprs_view (drop i es))) (operands_bring n start.vars (exprs_view (drop (i + 1) es)))
    (operands_bring n start.vars (exprs_view es)) f
    c.loop-operand.invariant
    (ap (λ (xs : List ExprNode). operands_bring n start.vars (exprs_view xs))
    (rest_is es i x c.loop-operand-test.true c.operand-item.is))
    c.in_ok-expr.ensures

pub arms-loop-arm-preserved : goal.arms-loop-arm-preserved
arms-loop-arm-preserved t c =
    let start = c.args.self.now in
    let n = names_view start.kinds.names.now in
    let arms = c.args.arms.now in
    let i = c.loop-arm.arm-index in
    let x = c.arm-item.result in
    let f : Names → List Var → List Kind = λ m vs. arm_brings m vs c.args.kind (expr_arm_view x) in
    goes_on (seen start) (seen c.loop-arm.self) (seen c.arm.new.self)
    (arms_bring n start.vars c.args.kind (expr_arms_view (drop i arms)))
    (arms_bring n start.vars c.args.kind (expr_arms_view (drop (i + 1) arms)))
    (arms_bring n start.vars c.args.kind (expr_arms_view arms)) f c.loop-arm.invariant
    (ap (λ (xs : List ExprArm). arms_bring n start.vars c.args.kind (expr_arms_view xs))
    (rest_is arms i x c.loop-arm-test.true c.arm-item.is))
    c.in_ok-arm.ensures

pub arm-returns : goal.arm-returns
arm-returns t c =
    let start = c.args.self.now in
    let n = names_view start.kinds.names.now in
    let p = pattern_view c.args.arm.now.pattern in
    let vs = behind_pattern n start.vars c.args.kind p in
    let more = bound_more start.vars (pattern_vars p) (pattern_kinds n c.args.kind (pattern_name p)) in
    let f : Names → List Var → List Kind = λ m ws. expr_brings m ws (Some bool_kind) (expr_view c.args.arm.now.body) in
    left_sought (seen start) (seen c.bind_all.new.self) (seen c.expr.new.self) (seen c.leave.new.self) vs more.0 f more.1
    c.in_ok-bind_all.ensures c.in_ok-expr.ensures
    (c.leave.ensures ∙ ap (λ len. record { vars = take len c.expr.new.self.vars; kinds = (seen c.expr.new.self).kinds })
    c.len-len.ensures)
    ∙ ap (λ arm. record (seen start) { kinds = (sought (seen start) (arm_brings n start.vars c.args.kind arm)).kinds })
    (sym (expr_arm_view-parts c.args.arm.now))

pub args-loop-place-preserved : goal.args-loop-place-preserved
args-loop-place-preserved t c =
    let start = c.args.self.now in
    let old = c.loop-place.self in
    let n = names_view start.kinds.names.now in
    let args = c.args.args.now in
    let i = c.loop-place.place in
    let x = c.index-args-place.result in
    let ks : Names → List Kind = λ m. args_of m (access_view m c.args.what) in
    let f : Names → List Var → List Kind = λ m vs. expr_brings m vs (Some (first_kind (drop i (ks m)))) (expr_view x) in
    goes_on (seen start) (seen old) (seen c.expr.new.self)
    (args_bring n start.vars (drop i (ks n)) (exprs_view (drop i args)))
    (args_bring n start.vars (drop (i + 1) (ks n)) (exprs_view (drop (i + 1) args)))
    (args_bring n start.vars (ks n) (exprs_view args)) f c.loop-place.invariant
    (ap (λ (xs : List ExprNode). args_bring n start.vars (drop i (ks n)) (exprs_view xs))
    (rest_is args i x c.loop-place-test.true c.index-args-place.is)
    ∙ ap (λ js. f n start.vars ++ args_bring n start.vars js (exprs_view (drop (i + 1) args))) (other_dropped (ks n) i))
    (c.in_ok-expr.ensures ∙ ap (λ k. sought (seen old) (expr_brings (names_view old.kinds.names.now) old.vars (Some k)
    (expr_view x)))
    (c.in_ok-kind.ensures ∙ ap (λ m. first_kind (drop i (args_of m (access_view m c.args.what))))
    (ap names_view c.names.ensures)))

pub expr-returns-in_ok-expr-in-Implies : goal.expr-returns-in_ok-expr-in-Implies
expr-returns-in_ok-expr-in-Implies t c =
    let start = seen c.args.self.now in
    let mid = seen c.expr.new.self in
    let l = c.in-Implies.left in
    let r = c.in-Implies.right in
    on_ok c.expr-in-Implies.result
    (λ e. both_as start mid (seen c.expr-in-Implies.new.self)
    (λ m vs. expr_brings m vs (Some bool_kind) (expr_view l)) (λ m vs. expr_brings m vs (Some bool_kind) (expr_view r)) _
    (subst (λ (x : ExprNode). mid ≡ sought start (expr_brings start.kinds.names start.vars (Some bool_kind) (expr_view x)))
    c.get.ensures c.in_ok-expr-in-Implies.ensures)
    (subst (λ (x : ExprNode). seen c.expr-in-Implies.new.self
    ≡ sought mid (expr_brings mid.kinds.names mid.vars (Some bool_kind) (expr_view x))) c.get-in-Implies.ensures e)
    (form_seen start.kinds.names start.vars c.args.asked c.args.e.now _
    (ap expr_form_view c.in-Implies.is ∙ expr_form_view-Implies l r)))
    c.expr-in-Implies.ensures

pub expr-returns-in_ok-expr-in-Plus : goal.expr-returns-in_ok-expr-in-Plus
expr-returns-in_ok-expr-in-Plus t c =
    let start = seen c.args.self.now in
    let mid = seen c.expr-in-Plus.new.self in
    let l = c.in-Plus.left in
    let r = c.in-Plus.right in
    on_ok c.expr-in-Plus-2.result
    (λ e. both_as start mid (seen c.expr-in-Plus-2.new.self)
    (λ m vs. expr_brings m vs (Some int_kind) (expr_view l)) (λ m vs. expr_brings m vs (Some int_kind) (expr_view r)) _
    (subst (λ (x : ExprNode). mid ≡ sought start (expr_brings start.kinds.names start.vars (Some int_kind) (expr_view x)))
    c.get-in-Plus.ensures c.in_ok-expr-in-Plus.ensures)
    (subst (λ (x : ExprNode). seen c.expr-in-Plus-2.new.self
    ≡ sought mid (expr_brings mid.kinds.names mid.vars (Some int_kind) (expr_view x))) c.get-in-Plus-2.ensures e)
    (form_seen start.kinds.names start.vars c.args.asked c.args.e.now _
    (ap expr_form_view c.in-Plus.is ∙ expr_form_view-Plus l r)))
    c.expr-in-Plus-2.ensures

pub expr-returns-in_ok-expr-in-Minus : goal.expr-returns-in_ok-expr-in-Minus
expr-returns-in_ok-expr-in-Minus t c =
    let start = seen c.args.self.now in
    let mid = seen c.expr-in-Minus.new.self in
    let l = c.in-Minus.left in
    let r = c.in-Minus.right in
    on_ok c.expr-in-Minus-2.result
    (λ e. both_as start mid (seen c.expr-in-Minus-2.new.self)
    (λ m vs. expr_brings m vs (Some int_kind) (expr_view l)) (λ m vs. expr_brings m vs (Some int_kind) (expr_view r)) _
    (subst (λ (x : ExprNode). mid ≡ sought start (expr_brings start.kinds.names start.vars (Some int_kind) (expr_view x)))
    c.get-in-Minus.ensures c.in_ok-expr-in-Minus.ensures)
    (subst (λ (x : ExprNode). seen c.expr-in-Minus-2.new.self
    ≡ sought mid (expr_brings mid.kinds.names mid.vars (Some int_kind) (expr_view x))) c.get-in-Minus-2.ensures e)
    (form_seen start.kinds.names start.vars c.args.asked c.args.e.now _
    (ap expr_form_view c.in-Minus.is ∙ expr_form_view-Minus l r)))
    c.expr-in-Minus-2.ensures

pub word-loop-place-preserved : goal.word-loop-place-preserved
word-loop-place-preserved t c =
    let start = c.args.self.now in
    let old = c.loop-place.self in
    let n = names_view start.kinds.names.now in
    let args = c.args.args.now in
    let i = c.loop-place.place in
    let x = c.index-args-place.result in
    let ks = word_args n start.vars c.args.word (exprs_view args) in
    let f : Names → List Var → List Kind = λ m vs. expr_brings m vs
    (Some (first_kind (drop i (word_args m vs c.args.word (exprs_view args))))) (expr_view x) in
    goes_on (seen start) (seen old) (seen c.expr.new.self)
    (args_bring n start.vars (drop i ks) (exprs_view (drop i args)))
    (args_bring n start.vars (drop (i + 1) ks) (exprs_view (drop (i + 1) args)))
    (args_bring n start.vars ks (exprs_view args)) f c.loop-place.invariant
    (ap (λ (xs : List ExprNode). args_bring n start.vars (drop i ks) (exprs_view xs))
    (rest_is args i x c.loop-place-test.true c.index-args-place.is)
    ∙ ap (λ js. f n start.vars ++ args_bring n start.vars js (exprs_view (drop (i + 1) args))) (other_dropped ks i))
    (c.in_ok-expr.ensures ∙ ap (λ k. sought (seen old) (expr_brings (names_view old.kinds.names.now) old.vars (Some k)
    (expr_view x)))
    (subst (λ m. c.in_ok-kind.kind ≡ first_kind (drop i (word_args m old.vars c.args.word (exprs_view args))))
    (ap names_view c.names.ensures) c.in_ok-kind.ensures))

pub expr-returns-in-Forall : goal.expr-returns-in-Forall
expr-returns-in-Forall t c =
    let start = seen c.args.self.now in
    let n = start.kinds.names in
    let p = param_view c.in-Forall.param in
    on_ok c.quantified.result
    (λ e. e
    ∙ ap (λ (x : ExprNode). sought start (parts n (kind_of n (param_type p))
    ++ expr_brings n (start.vars ++ quantified_var n p ∷ []) (Some bool_kind) (expr_view x)))
    c.get-in-Forall-2.ensures
    ∙ ap (sought start) (sym (form_seen n start.vars c.args.asked c.args.e.now _
    (ap expr_form_view c.in-Forall.is ∙ expr_form_view-Forall c.in-Forall.param
    c.in-Forall.body))))
    (c.quantified.ensures p (ap param_view (sym c.get-in-Forall.ensures)))

pub expr-returns-in-Exists : goal.expr-returns-in-Exists
expr-returns-in-Exists t c =
    let start = seen c.args.self.now in
    let n = start.kinds.names in
    let p = param_view c.in-Exists.param in
    on_ok c.quantified-in-Exists.result
    (λ e. e
    ∙ ap (λ (x : ExprNode). sought start (parts n (kind_of n (param_type p))
    ++ expr_brings n (start.vars ++ quantified_var n p ∷ []) (Some bool_kind) (expr_view x)))
    c.get-in-Exists-2.ensures
    ∙ ap (sought start) (sym (form_seen n start.vars c.args.asked c.args.e.now _
    (ap expr_form_view c.in-Exists.is ∙ expr_form_view-Exists c.in-Exists.param
    c.in-Exists.body))))
    (c.quantified-in-Exists.ensures p (ap param_view (sym c.get-in-Exists.ensures)))

pub expr-returns-in_ok-expr-in-Compare : goal.expr-returns-in_ok-expr-in-Compare
expr-returns-in_ok-expr-in-Compare t c =
    let start = seen c.args.self.now in
    let n = start.kinds.names in
    let vs = start.vars in
    let mid = seen c.expr-in-Compare.new.self in
    let op = c.in-Compare.op in
    let l = c.in-Compare.left in
    let r = c.in-Compare.right in
    let asked = c.in_ok-first-in-Compare in
    let first : asked.first ≡ (left_want n vs op (expr_view l) (expr_view r)).asked =
    asked.ensures.left
    ∙ ap₂ (λ (x y : ExprNode). (left_want n vs op (expr_view x) (expr_view y)).asked) c.get-in-Compare.ensures
    c.get-in-Compare-2.ensures in
    let second : asked.second ≡ (right_want n vs op (expr_view l) (expr_view r)).asked =
    asked.ensures.right
    ∙ ap₂ (λ (x y : ExprNode). (right_want n vs op (expr_view x) (expr_view y)).asked) c.get-in-Compare.ensures
    c.get-in-Compare-2.ensures in
    on_ok c.expr-in-Compare-2.result
    (λ e. both_as start mid (seen c.expr-in-Compare-2.new.self)
    (λ m ws. expr_brings m ws asked.first (expr_view l)) (λ m ws. expr_brings m ws asked.second (expr_view r)) _
    (subst (λ (x : ExprNode). mid ≡ sought start (expr_brings n vs asked.first (expr_view x))) c.get-in-Compare-3.ensures
    c.in_ok-expr-in-Compare.ensures)
    (subst (λ (x : ExprNode). seen c.expr-in-Compare-2.new.self
    ≡ sought mid (expr_brings mid.kinds.names mid.vars asked.second (expr_view x))) c.get-in-Compare-4.ensures e)
    (form_seen n vs c.args.asked c.args.e.now _
    (ap expr_form_view c.in-Compare.is ∙ expr_form_view-Compare op l r)
    ∙ sym (ap₂ (λ a b. expr_brings n vs a (expr_view l) ++ expr_brings n vs b (expr_view r)) first second)))
    c.expr-in-Compare-2.ensures

pub keys-loop-step-preserved : goal.keys-loop-step-preserved
keys-loop-step-preserved t c =
    let start = c.args.self.now in
    let old = c.loop-step.self in
    let n = names_view start.kinds.names.now in
    let steps = c.args.steps.now in
    let i = c.loop-step.step-index in
    let x = c.step-item.result in
    let way = way_view n c.loop-step.way in
    let f : Names → List Var → List Kind = λ m vs. key_brings m vs (way_view m c.loop-step.way) (step_view x) in
    goes_on (seen start) (seen old) (seen c.key.new.self)
    (steps_bring n start.vars way (steps_view (drop i steps)))
    (steps_bring n start.vars (way_view n c.in_ok-way.way) (steps_view (drop (i + 1) steps)))
    (steps_bring n start.vars (way_view n c.args.way) (steps_view steps)) f c.loop-step.invariant
    (ap (λ (xs : List AccessStep). steps_bring n start.vars way (steps_view xs))
    (rest_is steps i x c.loop-step-test.true c.step-item.is)
    ∙ ap (λ w. f n start.vars ++ steps_bring n start.vars w (steps_view (drop (i + 1) steps))) (sym (c.in_ok-way.ensures n)))
    c.in_ok-key.ensures

pub expr-returns-in_ok-expr-in-Match : goal.expr-returns-in_ok-expr-in-Match
expr-returns-in_ok-expr-in-Match t c =
    let start = seen c.args.self.now in
    let n = start.kinds.names in
    let vs = start.vars in
    let mid = seen c.expr-in-Match.new.self in
    let term = c.in-Match.term in
    let kind : c.in_ok-kind-in-Match.kind ≡ type_of n vs None (expr_view term) =
    c.in_ok-kind-in-Match.ensures
    ∙ ap₂ (λ m (x : ExprNode). type_of m vs None (expr_view x)) (ap names_view c.names-in-Match.ensures) c.get-in-Match.ensures
    in
    on_ok c.arms.result
    (λ e. both_as start mid (seen c.arms.new.self)
    (λ m ws. expr_brings m ws None (expr_view term))
    (λ m ws. arms_bring m ws c.in_ok-kind-in-Match.kind (expr_arms_view c.in-Match.arms)) _
    (subst (λ (x : ExprNode). mid ≡ sought start (expr_brings n vs None (expr_view x))) c.get-in-Match-2.ensures
    c.in_ok-expr-in-Match.ensures)
    (subst (λ (xs : List ExprArm). seen c.arms.new.self ≡ sought mid (arms_bring mid.kinds.names mid.vars
    c.in_ok-kind-in-Match.kind (expr_arms_view xs))) c.as_slice-in-Match.ensures.items e)
    (form_seen n vs c.args.asked c.args.e.now _
    (ap expr_form_view c.in-Match.is ∙ expr_form_view-Match term c.in-Match.arms)
    ∙ ap (λ k. expr_brings n vs None (expr_view term) ++ arms_bring n vs k (expr_arms_view c.in-Match.arms)) (sym kind)))
    c.arms.ensures

pub quantified-returns : goal.quantified-returns
quantified-returns t c = λ p is.
    let start = seen c.args.self.now in
    let n = start.kinds.names in
    let kind = c.in_ok-kind.kind in
    let x = ident_view c.args.param.now.name in
    let f : Names → List Var → List Kind = λ m ws. expr_brings m ws (Some bool_kind) (expr_view c.args.body.now) in
    let own : kind ≡ kind_of n (type_view c.args.param.now.ty) =
    c.in_ok-kind.ensures ∙ ap (λ m. kind_of (names_view m) (type_view c.args.param.now.ty)) c.names.ensures in
    let mid : Seen = record start { kinds = kinds_view c.add.new.self } in
    let vs = start.vars ++ bound_var x kind ∷ [] in
    let added : mid ≡ sought start (parts n kind) = ap (λ table. record start { kinds = table }) c.in_ok-add.ensures in
    left_sought mid (seen c.bind.new.self) (seen c.expr.new.self) (seen c.leave.new.self) vs (bound_var x kind ∷ []) f refl
    c.in_ok-bind.ensures c.in_ok-expr.ensures
    (c.leave.ensures ∙ ap (λ len. record { vars = take len c.expr.new.self.vars; kinds = (seen c.expr.new.self).kinds })
    c.len-len.ensures)
    ∙ ap (λ (s : Seen). sought s (f s.kinds.names vs)) added
    ∙ sym (sought_both start (parts n kind) (f n vs))
    ∙ ap (λ k. sought start (parts n k ++ f n (start.vars ++ bound_var x k ∷ []))) own
    ∙ ap (λ (q : ParamTree). sought start (parts n (kind_of n (param_type q)) ++ f n (start.vars ++ quantified_var n q ∷ [])))
    (sym is)

pub expr-returns-in_ok-add-in-SomeOf : goal.expr-returns-in_ok-add-in-SomeOf
expr-returns-in_ok-add-in-SomeOf t c =
    let start = seen c.args.self.now in
    let n = start.kinds.names in
    let vs = start.vars in
    let asked = c.args.asked in
    let kind = c.in_ok-kind-in-SomeOf.kind in
    let inside = c.in-SomeOf.inside in
    let form : expr_form_view c.args.e.now.what ≡ ExprForm.some_of (expr_view inside) = ap expr_form_view c.in-SomeOf.is
    ∙ expr_form_view-SomeOf inside in
    let own : kind ≡ form_type n vs asked (ExprForm.some_of (expr_view inside)) =
    c.in_ok-kind-in-SomeOf.ensures
    ∙ ap (λ m. type_of (names_view m) vs asked (expr_view c.args.e.now)) c.names.ensures
    ∙ ap (type_of n vs asked) (expr_view-parts c.args.e.now) ∙ ap (form_type n vs asked) form in
    let mid : Seen = record start { kinds = kinds_view c.add.new.self } in
    on_ok c.expr-in-SomeOf.result
    (λ e. both_as start mid (seen c.expr-in-SomeOf.new.self)
    (λ m ws. parts m kind) (λ m ws. expr_brings m ws (asked_inside asked) (expr_view inside)) _
    (ap (λ table. record start { kinds = table }) c.in_ok-add-in-SomeOf.ensures)
    (e ∙ ap₂ (λ o (x : ExprNode). sought mid (expr_brings mid.kinds.names mid.vars o (expr_view x))) c.asked_inside.ensures
    c.get-in-SomeOf.ensures)
    (form_seen n vs asked c.args.e.now _ form
    ∙ ap (λ k. parts n k ++ expr_brings n vs (asked_inside asked) (expr_view inside)) (sym own)))
    c.expr-in-SomeOf.ensures

pub access-returns-in-Some : goal.access-returns-in-Some
access-returns-in-Some t c =
    let start = seen c.args.self.now in
    let n = start.kinds.names in
    let vs = start.vars in
    let access = c.args.access.now in
    let out = out-AccessNode access in
    let root = ident_view out.root in
    let steps = steps_view out.steps in
    let args = exprs_view c.in-Some.args in
    let way = c.way_from-way.result in
    let what = c.in_ok-what.what in
    let mid = seen c.keys.new.self in
    let view : tree.access_view access ≡ AccessTree.path root steps (args_view (Some c.in-Some.args)) =
    access_view-parts access ∙ ap (λ o. AccessTree.path root steps (args_view o)) c.in-Some.is in
    let begun : way_view n way ≡ way_from n (find_var vs out.root.text) root =
    ap (λ m. way_view (names_view m) way) (sym c.names-names.ensures) ∙ c.way_from-way.ensures
    ∙ ap (λ m. way_from (names_view m) (find_var vs out.root.text) root) c.names-names.ensures in
    let named : access_view n what ≡ access_of n vs (AccessTree.path root steps (args_view (Some c.in-Some.args))) =
    ap (λ m. access_view (names_view m) what) (sym c.names-names.ensures) ∙ c.in_ok-what.ensures
    ∙ ap (λ m. access_of (names_view m) vs (tree.access_view access)) c.names-names.ensures ∙ ap (access_of n vs) view in
    on_ok c.args-in-Some.result
    (λ e. both_as start mid (seen c.args-in-Some.new.self)
    (λ m ws. steps_bring m ws (way_view m way) steps) (λ m ws. args_bring m ws (args_of m (access_view m what)) args) _
    (subst (λ (xs : List AccessStep). mid ≡ sought start (steps_bring n vs (way_view n way) (steps_view xs)))
    c.as_slice.ensures.items c.in_ok-keys.ensures)
    (subst (λ (xs : List ExprNode). seen c.args-in-Some.new.self ≡ sought mid (args_bring mid.kinds.names mid.vars
    (args_of mid.kinds.names (access_view mid.kinds.names what)) (exprs_view xs))) c.as_slice-in-Some.ensures.items e)
    (ap (access_brings n vs) view
    ∙ ap₂ (λ w a. steps_bring n vs w steps ++ args_bring n vs (args_of n a) args) (sym begun) (sym named)))
    c.args-in-Some.ensures
