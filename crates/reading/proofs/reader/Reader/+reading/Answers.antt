use Rattle.std.proofs.Common.{◌≡◌, ℕ, ◌+◌, List, [], ◌∷◌, ◌++◌, length, map, drop, Option, Some, None, refl, sym, ap, ap₂, subst, ◌∙◌, append_assoc, append-nil}
use Rattle.std.proofs.lemmas.List.{length-map, map_push}
use Rattle.rp_grammar.specs.Trees.{AccessTree, ArgTrees, ExprArmTrees, ExprForm, ExprTree, StepTree, StepTrees}
use Rattle.rp_ast.specs.declared.expr.AccessStep.TheViews.{out-AccessNode}
use Rattle.rp_ast.specs.View as tree
use Rattle.rp_ast.proofs.ExprViews.{access_view-parts, expr_arm_view-parts, expr_view-parts, expr_form_view-Implies, expr_form_view-Or, expr_form_view-And, expr_form_view-Not, expr_form_view-Forall, expr_form_view-Exists, expr_form_view-Compare, expr_form_view-Plus, expr_form_view-Minus, expr_form_view-Int, expr_form_view-Str, expr_form_view-Truth, expr_form_view-NoneWord, expr_form_view-SomeOf, expr_form_view-Unreturned, expr_form_view-Tx, expr_form_view-Call, expr_form_view-Match, expr_form_view-Access, step_view-Dot, step_view-Returned, step_view-Key}
use Rattle.type_rules.specs.declared.kind.Kind.{Kind}
use Rattle.type_rules.specs.Names.{param_name, param_type, text_of}
use Rattle.type_rules.specs.Kinds.{kind_of}
use Rattle.type_rules.specs.Typing.{form_type, none_kind, type_of}
use Rattle.type_rules.specs.Paths.{Way, key_kind}
use Rattle.type_rules.specs.Accesses.{access_of, args_of, find_var}
use Rattle.type_rules.specs.ExprSites.{left_want, right_want, way_from, word_args}
use Rattle.type_rules.specs.Matches.{bound_var, first_kind, pattern_kinds, pattern_name, pattern_vars}
use Rattle.type_terms.specs.Views.{access_view, way_view}
use Rattle.text_names.proofs.Entries.{drop_past, if_ok}
use Rattle.text_tables.specs.Seen.{tables_view}
use Rattle.desugaring.specs.Tables.{con_number}
use Rattle.desugaring.specs.Callees.{vars_of}
use Rattle.desugaring.specs.Expressions.{word_none, word_some}
use Rattle.query_bodies.specs.Terms.{Cl, Said, Te, no_te}
use Rattle.query_bodies.specs.Views.{arms_of, body_view, claim_arm_view, claim_arms_view, claim_view, claims_view, cls_of, term_view, terms_view, tes_of}
use Rattle.query_laws.specs.Sight.{Says, SaysArgs, SaysArms, SaysClaim, SaysClaims, SaysTerm, SaysTerms, Sight}
use Rattle.query_laws.proofs.Said.{and_says, bool_says, compare_says, exists_says, forall_says, implies_says, int_says, match_says, minus_says, more_arms_say, more_claims_say, no_arms_say, no_claims_say, none_says, not_says, or_says, plus_says, some_says, str_says, tx_says, unreturned_says, word_says}
use Rattle.query_laws.proofs.Accessed.{given_says}
use Rattle.reading.specs.declared.reader.Reader.{Reader}
use Rattle.reading.specs.Args.{AddsKey}
use Rattle.reading.specs.Reads.{IsCalled, back_to, sight_of, under_var}
use Rattle.reading.proofs.Accessing.{access_read}
use Rattle.reading.proofs.Found.{KeysOn, arm_is, args_absent, keys_end, keys_next, next_in, number_is, term_next, terms_end, ty_is}
use Rattle.reading.proofs.Kept.{all_gone, all_kept, all_sight, one_gone, under_kept, under_sight}
use Rattle.reading.proofs.Reading.{Gathered, as_said, ended, formed, here, mapped, none_gathered, paired, said_as, same_rest, started, stepped, then_reads, within}
use Rattle.reading.proofs.reader.Reader.+reading.Goals as goal

pub body-returns-in_ok-right-in-Implies : goal.body-returns-in_ok-right-in-Implies
body-returns-in_ok-right-in-Implies t c =
    let s = sight_of c.args.self.now in
    let asked = c.args.asked in
    let l = tree.expr_view c.get.result.now in
    let r = tree.expr_view c.get-in-Implies.result.now in
    if_ok c.implied.result
    (λ m is. formed (body_view m) c.args.asked c.args.e.now (ap tree.expr_form_view c.in-Implies.is ∙ expr_form_view-Implies c.in-Implies.left c.in-Implies.right
    ∙ ap₂ (λ l r. ExprForm.implies (tree.expr_view l) (tree.expr_view r)) (sym c.get.ensures) (sym c.get-in-Implies.ensures))
    (λ at. paired c.in_ok-left-in-Implies.ensures c.in_ok-right-in-Implies.ensures
    (λ kept p q. said_as s asked (ExprTree.node at (ExprForm.implies l r)) is (implies_says s asked at l r (claim_view c.in_ok-left-in-Implies.left) (claim_view c.in_ok-right-in-Implies.right) p q))))
    c.implied.ensures

pub plain-returns-in_ok-right-in-Plus : goal.plain-returns-in_ok-right-in-Plus
plain-returns-in_ok-right-in-Plus t c =
    let s = sight_of c.args.self.now in
    let asked = c.args.asked in
    let l = tree.expr_view c.get.result.now in
    let r = tree.expr_view c.get-in-Plus.result.now in
    if_ok c.sum.result
    (λ m is. formed (body_view m) c.args.asked c.args.e.now (ap tree.expr_form_view c.in-Plus.is ∙ expr_form_view-Plus c.in-Plus.left c.in-Plus.right
    ∙ ap₂ (λ l r. ExprForm.plus (tree.expr_view l) (tree.expr_view r)) (sym c.get.ensures) (sym c.get-in-Plus.ensures))
    (λ at. paired c.in_ok-left-in-Plus.ensures c.in_ok-right-in-Plus.ensures
    (λ kept p q. said_as s asked (ExprTree.node at (ExprForm.plus l r)) is (plus_says s asked at l r (term_view c.in_ok-left-in-Plus.left) (term_view c.in_ok-right-in-Plus.right) p q))))
    c.sum.ensures

pub plain-returns-in_ok-right-in-Minus : goal.plain-returns-in_ok-right-in-Minus
plain-returns-in_ok-right-in-Minus t c =
    let s = sight_of c.args.self.now in
    let asked = c.args.asked in
    let l = tree.expr_view c.get-in-Minus.result.now in
    let r = tree.expr_view c.get-in-Minus-2.result.now in
    if_ok c.difference.result
    (λ m is. formed (body_view m) c.args.asked c.args.e.now (ap tree.expr_form_view c.in-Minus.is ∙ expr_form_view-Minus c.in-Minus.left c.in-Minus.right
    ∙ ap₂ (λ l r. ExprForm.minus (tree.expr_view l) (tree.expr_view r)) (sym c.get-in-Minus.ensures) (sym c.get-in-Minus-2.ensures))
    (λ at. paired c.in_ok-left-in-Minus.ensures c.in_ok-right-in-Minus.ensures
    (λ kept p q. said_as s asked (ExprTree.node at (ExprForm.minus l r)) is (minus_says s asked at l r (term_view c.in_ok-left-in-Minus.left) (term_view c.in_ok-right-in-Minus.right) p q))))
    c.difference.ensures

pub body-returns-in_ok-claims-in-Or : goal.body-returns-in_ok-claims-in-Or
body-returns-in_ok-claims-in-Or t c =
    let s = sight_of c.args.self.now in
    let asked = c.args.asked in
    let es = tree.exprs_view c.as_slice.result.now in
    if_ok c.one_of.result
    (λ m is. formed (body_view m) c.args.asked c.args.e.now (ap tree.expr_form_view c.in-Or.is ∙ expr_form_view-Or c.in-Or.operands
    ∙ ap (λ es. ExprForm.or (tree.exprs_view es)) (sym c.as_slice.ensures.items))
    (λ at. mapped c.in_ok-claims-in-Or.ensures
    (λ kept p. said_as s asked (ExprTree.node at (ExprForm.or es)) is (or_says s asked at es (claims_view c.in_ok-claims-in-Or.claims) p))))
    c.one_of.ensures

pub body-returns-in_ok-claims-in-And : goal.body-returns-in_ok-claims-in-And
body-returns-in_ok-claims-in-And t c =
    let s = sight_of c.args.self.now in
    let asked = c.args.asked in
    let es = tree.exprs_view c.as_slice-in-And.result.now in
    if_ok c.each_of.result
    (λ m is. formed (body_view m) c.args.asked c.args.e.now (ap tree.expr_form_view c.in-And.is ∙ expr_form_view-And c.in-And.operands
    ∙ ap (λ es. ExprForm.and (tree.exprs_view es)) (sym c.as_slice-in-And.ensures.items))
    (λ at. mapped c.in_ok-claims-in-And.ensures
    (λ kept p. said_as s asked (ExprTree.node at (ExprForm.and es)) is (and_says s asked at es (claims_view c.in_ok-claims-in-And.claims) p))))
    c.each_of.ensures

pub body-returns-in_ok-claim-in-Not : goal.body-returns-in_ok-claim-in-Not
body-returns-in_ok-claim-in-Not t c =
    let s = sight_of c.args.self.now in
    let asked = c.args.asked in
    let a = tree.expr_view c.get-in-Not.result.now in
    if_ok c.negated.result
    (λ m is. formed (body_view m) c.args.asked c.args.e.now (ap tree.expr_form_view c.in-Not.is ∙ expr_form_view-Not c.in-Not.operand
    ∙ ap (λ e. ExprForm.not (tree.expr_view e)) (sym c.get-in-Not.ensures))
    (λ at. mapped c.in_ok-claim-in-Not.ensures
    (λ kept p. said_as s asked (ExprTree.node at (ExprForm.not a)) is (not_says s asked at a (claim_view c.in_ok-claim-in-Not.claim) p))))
    c.negated.ensures

pub body-returns-in_ok-claim-in-Forall : goal.body-returns-in_ok-claim-in-Forall
body-returns-in_ok-claim-in-Forall t c =
    let s = sight_of c.args.self.now in
    let asked = c.args.asked in
    let p = tree.param_view c.get-param.result.now in
    let a = tree.expr_view c.get-in-Forall.result.now in
    if_ok c.for_all.result
    (λ m is. formed (body_view m) c.args.asked c.args.e.now (ap tree.expr_form_view c.in-Forall.is ∙ expr_form_view-Forall c.in-Forall.param c.in-Forall.body
    ∙ ap₂ (λ p e. ExprForm.forall (tree.param_view p) (tree.expr_view e)) (sym c.get-param.ensures) (sym c.get-in-Forall.ensures))
    (λ at. mapped c.in_ok-claim-in-Forall.ensures
    (λ kept q. said_as s asked (ExprTree.node at (ExprForm.forall p a)) is
    (forall_says s asked at p a c.in_ok-ty-in-Forall.ty (claim_view c.in_ok-claim-in-Forall.claim) (ty_is s.tables (kind_of s.tables.names (param_type p)) c.in_ok-ty-in-Forall.ty c.in_ok-ty-in-Forall.ensures) q))))
    c.for_all.ensures

pub body-returns-in_ok-claim-in-Exists : goal.body-returns-in_ok-claim-in-Exists
body-returns-in_ok-claim-in-Exists t c =
    let s = sight_of c.args.self.now in
    let asked = c.args.asked in
    let p = tree.param_view c.get-param-in-Exists.result.now in
    let a = tree.expr_view c.get-in-Exists.result.now in
    if_ok c.for_some.result
    (λ m is. formed (body_view m) c.args.asked c.args.e.now (ap tree.expr_form_view c.in-Exists.is ∙ expr_form_view-Exists c.in-Exists.param c.in-Exists.body
    ∙ ap₂ (λ p e. ExprForm.exists (tree.param_view p) (tree.expr_view e)) (sym c.get-param-in-Exists.ensures) (sym c.get-in-Exists.ensures))
    (λ at. mapped c.in_ok-claim-in-Exists.ensures
    (λ kept q. said_as s asked (ExprTree.node at (ExprForm.exists p a)) is
    (exists_says s asked at p a c.in_ok-ty-in-Exists.ty (claim_view c.in_ok-claim-in-Exists.claim) (ty_is s.tables (kind_of s.tables.names (param_type p)) c.in_ok-ty-in-Exists.ty c.in_ok-ty-in-Exists.ensures) q))))
    c.for_some.ensures

pub body-returns-in_ok-right-in-Compare : goal.body-returns-in_ok-right-in-Compare
body-returns-in_ok-right-in-Compare t c =
    let s = sight_of c.args.self.now in
    let asked = c.args.asked in
    let op = c.in-Compare.op in
    let l = tree.expr_view c.get-first.result.now in
    let r = tree.expr_view c.get-second.result.now in
    let wants = c.in_ok-asked-in-Compare in
    if_ok c.compared.result
    (λ m is. formed (body_view m) c.args.asked c.args.e.now (ap tree.expr_form_view c.in-Compare.is ∙ expr_form_view-Compare op c.in-Compare.left c.in-Compare.right
    ∙ ap₂ (λ l r. ExprForm.compare op (tree.expr_view l) (tree.expr_view r)) (sym c.get-first.ensures) (sym c.get-second.ensures))
    (λ at. paired c.in_ok-left-in-Compare.ensures c.in_ok-right-in-Compare.ensures
    (λ kept p q. said_as s asked (ExprTree.node at (ExprForm.compare op l r)) is
    (compare_says s asked at op l r (term_view c.in_ok-left-in-Compare.left) (term_view c.in_ok-right-in-Compare.right)
    (subst (λ (k : Option Kind). SaysTerm s k l (term_view c.in_ok-left-in-Compare.left)) (wants.ensures.left ∙ ap (λ vs. (left_want s.tables.names vs op l r).asked) (sym kept.rules)) p)
    (subst (λ (k : Option Kind). SaysTerm s k r (term_view c.in_ok-right-in-Compare.right)) (wants.ensures.right ∙ ap (λ vs. (right_want s.tables.names vs op l r).asked) (sym kept.rules)) q)))))
    c.compared.ensures

pub body-returns-in_ok-terms-in-Call : goal.body-returns-in_ok-terms-in-Call
body-returns-in_ok-terms-in-Call t c =
    let s = sight_of c.args.self.now in
    let asked = c.args.asked in
    let w = c.in-Call.word in
    let es = tree.exprs_view c.as_slice-in-Call.result.now in
    if_ok c.word_of.result
    (λ m is. formed (body_view m) c.args.asked c.args.e.now (ap tree.expr_form_view c.in-Call.is ∙ expr_form_view-Call w c.in-Call.args
    ∙ ap (λ es. ExprForm.call w (tree.exprs_view es)) (sym c.as_slice-in-Call.ensures.items))
    (λ at. mapped c.in_ok-terms-in-Call.ensures (λ kept p. word_says s asked at w es (terms_view c.in_ok-terms-in-Call.terms) (body_view m) p is)))
    c.word_of.ensures

pub body-returns-in_ok-made-in-Match : goal.body-returns-in_ok-made-in-Match
body-returns-in_ok-made-in-Match t c =
    let s = sight_of c.args.self.now in
    let asked = c.args.asked in
    let a = tree.expr_view c.get-term.result.now in
    let arms = tree.expr_arms_view c.as_slice-in-Match.result.now in
    let kind = c.in_ok-kind-in-Match in
    if_ok c.matched.result
    (λ m is. formed (body_view m) c.args.asked c.args.e.now (ap tree.expr_form_view c.in-Match.is ∙ expr_form_view-Match c.in-Match.term c.in-Match.arms
    ∙ ap₂ (λ e l. ExprForm.match (tree.expr_view e) (tree.expr_arms_view l)) (sym c.get-term.ensures) (sym c.as_slice-in-Match.ensures.items))
    (λ at. paired c.in_ok-on-in-Match.ensures c.in_ok-made-in-Match.ensures
    (λ kept p q. said_as s asked (ExprTree.node at (ExprForm.match a arms)) is
    (match_says s asked at a arms (term_view c.in_ok-on-in-Match.on) (claim_arms_view c.in_ok-made-in-Match.made) p
    (subst (λ (k : Kind). SaysArms s k arms (claim_arms_view c.in_ok-made-in-Match.made))
    (kind.ensures ∙ ap (λ n. type_of n c.args.self.now.vars None a) c.names.ensures ∙ ap (λ vs. type_of s.tables.names vs None a) (sym kept.rules)) q)))))
    c.matched.ensures

pub body-returns-in-Access : goal.body-returns-in-Access
body-returns-in-Access t c =
    if_ok c.access.result
    (λ m w. formed (body_view m) c.args.asked c.args.e.now (ap tree.expr_form_view c.in-Access.is ∙ expr_form_view-Access c.in-Access.access
    ∙ ap (λ a. ExprForm.access (tree.access_view a)) (sym c.get-in-Access.ensures)) (λ at. w at c.args.asked))
    c.access.ensures

pub plain-returns-in-Int : goal.plain-returns-in-Int
plain-returns-in-Int t c =
    let s = sight_of c.args.self.now in
    let asked = c.args.asked in
    if_ok c.number.result
    (λ m is. formed (body_view m) c.args.asked c.args.e.now (ap tree.expr_form_view c.in-Int.is ∙ expr_form_view-Int c.in-Int.n ∙ ap (λ n. ExprForm.int n) (sym c.get-in-Int.ensures))
    (λ at. here (said_as s asked (ExprTree.node at (ExprForm.int c.get-in-Int.result.now)) is (int_says s asked at c.get-in-Int.result.now))))
    c.number.ensures

pub plain-returns-in-Str : goal.plain-returns-in-Str
plain-returns-in-Str t c =
    let s = sight_of c.args.self.now in
    let asked = c.args.asked in
    if_ok c.text.result
    (λ m is. formed (body_view m) c.args.asked c.args.e.now (ap tree.expr_form_view c.in-Str.is ∙ expr_form_view-Str c.in-Str.bytes ∙ ap (λ b. ExprForm.str b) (sym c.as_slice.ensures.items))
    (λ at. here (said_as s asked (ExprTree.node at (ExprForm.str c.as_slice.result.now)) is (str_says s asked at c.as_slice.result.now))))
    c.text.ensures

pub plain-returns-in-Truth : goal.plain-returns-in-Truth
plain-returns-in-Truth t c =
    let s = sight_of c.args.self.now in
    let asked = c.args.asked in
    if_ok c.truth.result
    (λ m is. formed (body_view m) c.args.asked c.args.e.now (ap tree.expr_form_view c.in-Truth.is ∙ expr_form_view-Truth c.in-Truth.value)
    (λ at. here (said_as s asked (ExprTree.node at (ExprForm.truth c.in-Truth.value)) is (bool_says s asked at c.in-Truth.value))))
    c.truth.ensures

pub plain-returns-in-Unreturned : goal.plain-returns-in-Unreturned
plain-returns-in-Unreturned t c =
    let s = sight_of c.args.self.now in
    let asked = c.args.asked in
    if_ok c.unreturned.result
    (λ m is. formed (body_view m) c.args.asked c.args.e.now (ap tree.expr_form_view c.in-Unreturned.is ∙ expr_form_view-Unreturned)
    (λ at. here (said_as s asked (ExprTree.node at (ExprForm.unreturned)) is (unreturned_says s asked at))))
    c.unreturned.ensures

pub plain-returns-in-Tx : goal.plain-returns-in-Tx
plain-returns-in-Tx t c =
    let s = sight_of c.args.self.now in
    let asked = c.args.asked in
    if_ok c.tx.result
    (λ m is. formed (body_view m) c.args.asked c.args.e.now (ap tree.expr_form_view c.in-Tx.is ∙ expr_form_view-Tx)
    (λ at. here (said_as s asked (ExprTree.node at (ExprForm.tx)) is (tx_says s asked at))))
    c.tx.ensures

pub plain-returns-in_ok-con-in-NoneWord : goal.plain-returns-in_ok-con-in-NoneWord
plain-returns-in_ok-con-in-NoneWord t c =
    let s = sight_of c.args.self.now in
    let asked = c.args.asked in
    let vs = c.args.self.now.vars in
    let form = ap tree.expr_form_view c.in-NoneWord.is ∙ expr_form_view-NoneWord in
    let con = c.in_ok-con-in-NoneWord in
    if_ok c.bare.result
    (λ m is. formed (body_view m) c.args.asked c.args.e.now form
    (λ at. here (said_as s asked (ExprTree.node at ExprForm.none_word) is
    (none_says s asked at con.con (number_is (con_number s.tables (none_kind asked) word_none) con.con
    (ap (λ t. con_number s.tables (type_of s.tables.names vs asked t) word_none)
    (sym (expr_view-parts c.args.e.now ∙ ap (λ f. ExprTree.node c.args.e.now.span f) form)) ∙ con.ensures))))))
    c.bare.ensures

pub plain-returns-in_ok-field-in-SomeOf : goal.plain-returns-in_ok-field-in-SomeOf
plain-returns-in_ok-field-in-SomeOf t c =
    let s = sight_of c.args.self.now in
    let asked = c.args.asked in
    let a = tree.expr_view c.get-inside.result.now in
    let con = c.in_ok-con-in-SomeOf in
    if_ok c.holding.result
    (λ m is. formed (body_view m) c.args.asked c.args.e.now (ap tree.expr_form_view c.in-SomeOf.is ∙ expr_form_view-SomeOf c.in-SomeOf.inside
    ∙ ap (λ e. ExprForm.some_of (tree.expr_view e)) (sym c.get-inside.ensures))
    (λ at. mapped c.in_ok-field-in-SomeOf.ensures
    (λ kept p. said_as s asked (ExprTree.node at (ExprForm.some_of a)) is
    (some_says s asked at a con.con (term_view c.in_ok-field-in-SomeOf.field)
    (number_is (con_number s.tables (form_type s.tables.names (vars_of s.vars) asked (ExprForm.some_of a)) word_some) con.con (ap (λ vs. con_number s.tables (form_type s.tables.names vs asked (ExprForm.some_of a)) word_some) kept.rules ∙ con.ensures))
    (subst (λ (k : Option Kind). SaysTerm s k a (term_view c.in_ok-field-in-SomeOf.field)) c.asked_inside.ensures p)))))
    c.holding.ensures

pub term-returns : goal.term-returns
term-returns t c =
    let s = sight_of c.args.self.now in
    if_ok c.as_term.result
    (λ m is. mapped c.in_ok-body.ensures (λ kept p. subst (λ (said : Said). Says s c.args.asked (tree.expr_view c.args.e.now) said) is p))
    c.as_term.ensures

pub claim-returns : goal.claim-returns
claim-returns t c =
    let s = sight_of c.args.self.now in
    let e = tree.expr_view c.args.e.now in
    if_ok c.as_claim.result
    (λ m is. mapped c.in_ok-body.ensures (λ kept p. subst (λ (f : Cl). SaysClaim s e f) (sym is) (as_said s e (body_view c.in_ok-body.body) p)))
    c.as_claim.ensures

pub quantified-returns : goal.quantified-returns
quantified-returns t c =
    let a = c.args.self.now in
    let p = tree.param_view c.args.param.now in
    let x = param_name p in
    let kind = kind_of (sight_of a).tables.names (param_type p) in
    let under : c.bind_level.new.self ≡ under_var a (bound_var x kind) =
    c.in_ok-bind_level.ensures ∙ ap (λ k. under_var a (bound_var x k)) (c.in_ok-kind.ensures ∙ ap (λ n. kind_of n (param_type p)) c.names.ensures) in
    within under c.in_ok-claim.ensures (under_kept a x kind)
    (λ kept says. subst (λ (s : Sight). SaysClaim s (tree.expr_view c.args.body.now) (claim_view c.in_ok-claim.claim)) (under_sight a x kind kept) says)
    (λ kept is. c.unbind.ensures ∙ ap (back_to c.len-len.result a.binders) is ∙ one_gone a x kind _ _ kept c.len-len.ensures refl)

pub claims-loop-operand-init : goal.claims-loop-operand-init
claims-loop-operand-init t c =
    λ kept. record { same = refl; says = none_gathered (ap (map claim_view) c.new-claims.ensures) }

pub claims-loop-operand-preserved : goal.claims-loop-operand-preserved
claims-loop-operand-preserved t c =
    λ kept.
    let s = sight_of c.args.self.now in
    let es = c.args.operands.now in
    let i = c.loop-operand.operand-index in
    let e = c.operand-item.result in
    let x = claim_view c.in_ok-claim.claim in
    let before = c.loop-operand.invariant kept in
    let read = (then_reads before.same c.in_ok-claim.ensures).left kept in
    record {
      same = read.same;
      says = stepped {B = λ xs. SaysClaims s (tree.exprs_view (drop (i + 1) es)) (cls_of xs)} {x = x}
          (same_rest (λ t xs. SaysClaims s t (cls_of xs)) (next_in tree.exprs_view es i e c.loop-operand-test.true c.operand-item.is) before.says)
          (λ xs rest. more_claims_say s (tree.expr_view e) (tree.exprs_view (drop (i + 1) es)) x (cls_of xs) read.says rest)
          (ap (map claim_view) c.in_ok-push_boxed.ensures ∙ map_push claim_view c.loop-operand.claims c.in_ok-claim.claim);
    }

pub claims-returns : goal.claims-returns
claims-returns t c =
    record {
      left = λ kept.
          let s = sight_of c.args.self.now in
          let es = c.args.operands.now in
          let done = c.loop-operand.invariant kept in
          record {
            same = done.same;
            says = ended (same_rest (λ t xs. SaysClaims s t (cls_of xs))
                (ap tree.exprs_view (drop_past es c.loop-operand.operand-index c.loop-operand-test.false)) done.says) (no_claims_say s);
          };
    }

pub word_args-loop-place-init : goal.word_args-loop-place-init
word_args-loop-place-init t c =
    λ kept. record { same = refl; says = none_gathered (ap (map term_view) c.new-terms.ensures) }

pub word_args-loop-place-preserved : goal.word_args-loop-place-preserved
word_args-loop-place-preserved t c =
    λ kept.
    let a = c.args.self.now in
    let s = sight_of a in
    let es = c.args.args.now in
    let i = c.loop-place.place in
    let e = c.index-args-place.result in
    let kinds = word_args s.tables.names (vars_of s.vars) c.args.word (tree.exprs_view es) in
    let x = term_view c.in_ok-term.term in
    let before = c.loop-place.invariant kept in
    let read = (then_reads before.same c.in_ok-term.ensures).left kept in
    let kind = c.in_ok-kind.ensures
    ∙ ap (λ n. first_kind (drop i (word_args n c.loop-place.self.vars c.args.word (tree.exprs_view es)))) c.names.ensures
    ∙ ap (λ (r : Reader). first_kind (drop i (word_args (tables_view r.tables.now).names r.vars c.args.word (tree.exprs_view es)))) before.same
    ∙ ap (λ vs. first_kind (drop i (word_args s.tables.names vs c.args.word (tree.exprs_view es)))) (sym kept.rules) in
    record {
      same = read.same;
      says = stepped {B = λ xs. SaysTerms s (drop (i + 1) kinds) (tree.exprs_view (drop (i + 1) es)) (tes_of xs)} {x = x}
          (same_rest (λ t xs. SaysTerms s (drop i kinds) t (tes_of xs)) (next_in tree.exprs_view es i e c.loop-place-test.true c.index-args-place.is) before.says)
          (λ xs rest. term_next s kinds i c.in_ok-kind.kind (tree.expr_view e) (tree.exprs_view (drop (i + 1) es)) x (tes_of xs) kind read.says rest)
          (ap (map term_view) c.in_ok-push_boxed.ensures ∙ map_push term_view c.loop-place.terms c.in_ok-term.term);
    }

pub word_args-returns : goal.word_args-returns
word_args-returns t c =
    record {
      left = λ kept.
          let s = sight_of c.args.self.now in
          let es = c.args.args.now in
          let i = c.loop-place.place in
          let kinds = word_args s.tables.names (vars_of s.vars) c.args.word (tree.exprs_view es) in
          let done = c.loop-place.invariant kept in
          record {
            same = done.same;
            says = ended (same_rest (λ t xs. SaysTerms s (drop i kinds) t (tes_of xs))
                (ap tree.exprs_view (drop_past es i c.loop-place-test.false)) done.says) (terms_end s (drop i kinds));
          };
    }

pub args-loop-place-init : goal.args-loop-place-init
args-loop-place-init t c =
    λ kept. record { same = refl; says = ([], sym (append-nil (map term_view c.args.keys)), started) }

pub args-loop-place-preserved : goal.args-loop-place-preserved
args-loop-place-preserved t c =
    λ kept.
    let a = c.args.self.now in
    let s = sight_of a in
    let es = c.args.args.now in
    let i = c.loop-place.place in
    let e = c.index-args-place.result in
    let kinds = args_of s.tables.names (access_view s.tables.names c.args.what) in
    let x = term_view c.in_ok-term.term in
    let before = c.loop-place.invariant kept in
    let read = (then_reads before.same c.in_ok-term.ensures).left kept in
    let kind = c.in_ok-kind.ensures
    ∙ ap (λ n. first_kind (drop i (args_of n (access_view n c.args.what)))) c.names.ensures
    ∙ ap (λ (r : Reader). first_kind (drop i (args_of (tables_view r.tables.now).names (access_view (tables_view r.tables.now).names c.args.what)))) before.same in
    record {
      same = read.same;
      says = (
        before.says.0 ++ x ∷ [],
        ap (map term_view) c.in_ok-push_boxed.ensures ∙ map_push term_view c.loop-place.terms c.in_ok-term.term
            ∙ ap (λ l. l ++ x ∷ []) before.says.1 ∙ append_assoc (map term_view c.args.keys) before.says.0 (x ∷ []),
        stepped {B = λ xs. SaysTerms s (drop (i + 1) kinds) (tree.exprs_view (drop (i + 1) es)) (tes_of xs)} {x = x}
            (same_rest (λ t xs. SaysTerms s (drop i kinds) t (tes_of xs)) (next_in tree.exprs_view es i e c.loop-place-test.true c.index-args-place.is) before.says.2)
            (λ xs rest. term_next s kinds i c.in_ok-kind.kind (tree.expr_view e) (tree.exprs_view (drop (i + 1) es)) x (tes_of xs) kind read.says rest)
            refl,
      );
    }

pub args-returns : goal.args-returns
args-returns t c =
    record {
      left = λ kept.
          let s = sight_of c.args.self.now in
          let es = c.args.args.now in
          let i = c.loop-place.place in
          let kinds = args_of s.tables.names (access_view s.tables.names c.args.what) in
          let done = c.loop-place.invariant kept in
          record {
            same = done.same;
            says = record {
              more = done.says.0;
              behind = done.says.1;
              says = ended (same_rest (λ t xs. SaysTerms s (drop i kinds) t (tes_of xs))
                  (ap tree.exprs_view (drop_past es i c.loop-place-test.false)) done.says.2) (terms_end s (drop i kinds));
            };
          };
    }

pub arms-loop-arm-init : goal.arms-loop-arm-init
arms-loop-arm-init t c =
    λ kept. record { same = refl; says = none_gathered (ap (map claim_arm_view) c.new-made.ensures) }

pub arms-loop-arm-preserved : goal.arms-loop-arm-preserved
arms-loop-arm-preserved t c =
    λ kept.
    let a = c.args.self.now in
    let s = sight_of a in
    let kind = c.args.kind in
    let arms = c.args.arms.now in
    let i = c.loop-arm.arm-index in
    let arm = c.arm-item.result in
    let p = tree.pattern_view arm.pattern in
    let con = c.in_ok-con.con in
    let body = claim_view c.in_ok-body.body in
    let before = c.loop-arm.invariant kept in
    let read = (then_reads before.same c.in_ok-body.ensures).left kept in
    let named : con_number s.tables kind (pattern_name p) ≡ Some con =
    ap (λ (r : Reader). con_number (tables_view r.tables.now) kind (pattern_name p)) (sym before.same)
    ∙ ap (λ (x : List ℕ). con_number (tables_view c.loop-arm.self.tables.now) kind x) (sym c.as_slice.ensures.items) ∙ c.in_ok-con.ensures.found in
    let binds : c.count.result ≡ length (pattern_vars p) = c.count.ensures.length ∙ sym (length-map arm.pattern.vars tree.ident_view) in
    record {
      same = read.same;
      says = stepped {B = λ xs. SaysArms s kind (tree.expr_arms_view (drop (i + 1) arms)) (arms_of xs)} {x = ((con, c.count.result), body)}
          (same_rest (λ t xs. SaysArms s kind t (arms_of xs))
          (next_in tree.expr_arms_view arms i arm c.loop-arm-test.true c.arm-item.is
          ∙ ap (λ t. ExprArmTrees.more_expr_arms t (tree.expr_arms_view (drop (i + 1) arms))) (expr_arm_view-parts arm)) before.says)
          (λ xs rest. more_arms_say s kind p (tree.expr_view arm.body) (tree.expr_arms_view (drop (i + 1) arms)) con c.count.result body (arms_of xs)
          (arm_is s.tables kind p con named) binds read.says rest)
          c.in_ok-push_arm.ensures;
    }

pub arms-returns : goal.arms-returns
arms-returns t c =
    record {
      left = λ kept.
          let s = sight_of c.args.self.now in
          let arms = c.args.arms.now in
          let done = c.loop-arm.invariant kept in
          record {
            same = done.same;
            says = ended (same_rest (λ t xs. SaysArms s c.args.kind t (arms_of xs))
                (ap tree.expr_arms_view (drop_past arms c.loop-arm.arm-index c.loop-arm-test.false)) done.says) (no_arms_say s c.args.kind);
          };
    }

pub arm_body-returns : goal.arm_body-returns
arm_body-returns t c =
    let a = c.args.self.now in
    let p = tree.pattern_view c.args.arm.now.pattern in
    let kinds = pattern_kinds (sight_of a).tables.names c.args.kind (pattern_name p) in
    within c.in_ok-bind_all.ensures c.in_ok-claim.ensures (all_kept a (pattern_vars p) kinds)
    (λ kept says. subst (λ (s : Sight). SaysClaim s (tree.expr_view c.args.arm.now.body) (claim_view c.in_ok-claim.claim)) (all_sight a (pattern_vars p) kinds kept) says)
    (λ kept is. c.unbind.ensures ∙ ap (back_to c.len-len.result a.binders) is ∙ all_gone a (pattern_vars p) kinds _ _ kept c.len-len.ensures refl)

pub keys-loop-step-init : goal.keys-loop-step-init
keys-loop-step-init t c =
    λ kept. record { same = refl; says = none_gathered (ap (map term_view) c.new-terms.ensures) }

pub keys-loop-step-preserved : goal.keys-loop-step-preserved
keys-loop-step-preserved t c =
    λ kept.
    let s = sight_of c.args.self.now in
    let n = s.tables.names in
    let steps = c.args.steps.now in
    let i = c.loop-step.step-index in
    let st = c.step-item.result in
    let before = c.loop-step.invariant kept in
    let read = (then_reads before.same c.in_ok-key.ensures).left kept in
    let rest = tree.steps_view (drop (i + 1) steps) in
    record {
      same = read.same;
      says = subst (λ (w : Way). Gathered {X = Te} (λ xs. KeysOn s w rest xs) (λ xs. KeysOn s (way_view n c.args.way) (tree.steps_view steps) xs) (map term_view c.key.new.terms))
          (sym (c.in_ok-way.ensures n))
          (keys_next s (way_view n c.loop-step.way) (tree.step_view st) rest (map term_view c.loop-step.terms) (map term_view c.key.new.terms)
          (same_rest (λ t xs. KeysOn s (way_view n c.loop-step.way) t xs) (next_in tree.steps_view steps i st c.loop-step-test.true c.step-item.is) before.says)
          read.says);
    }

pub keys-returns : goal.keys-returns
keys-returns t c =
    record {
      left = λ kept.
          let s = sight_of c.args.self.now in
          let n = s.tables.names in
          let steps = c.args.steps.now in
          let done = c.loop-step.invariant kept in
          record {
            same = done.same;
            says = ended (same_rest (λ t xs. KeysOn s (way_view n c.loop-step.way) t xs)
                (ap tree.steps_view (drop_past steps c.loop-step.step-index c.loop-step-test.false)) done.says) (keys_end s (way_view n c.loop-step.way));
          };
    }

pub key-returns-in-Dot : goal.key-returns-in-Dot
key-returns-in-Dot t c =
    let s = sight_of c.args.self.now in
    here (subst (λ (st : StepTree). AddsKey s (way_view s.tables.names c.args.way) st (map term_view c.args.terms.now) (map term_view c.args.terms.now))
    (sym (ap tree.step_view c.in-Dot.is ∙ step_view-Dot c.in-Dot.field-0)) refl)

pub key-returns-in-Returned : goal.key-returns-in-Returned
key-returns-in-Returned t c =
    let s = sight_of c.args.self.now in
    here (subst (λ (st : StepTree). AddsKey s (way_view s.tables.names c.args.way) st (map term_view c.args.terms.now) (map term_view c.args.terms.now))
    (sym (ap tree.step_view c.in-Returned.is ∙ step_view-Returned c.in-Returned.field-0)) refl)

pub key-returns-in_ok-term-in-Key : goal.key-returns-in_ok-term-in-Key
key-returns-in_ok-term-in-Key t c =
    let a = c.args.self.now in
    let s = sight_of a in
    let x = term_view c.in_ok-term-in-Key.term in
    let e = tree.expr_view c.in-Key.key in
    if_ok c.push_boxed.result
    (λ u is. mapped c.in_ok-term-in-Key.ensures (λ kept says.
    subst (λ (st : StepTree). AddsKey s (way_view s.tables.names c.args.way) st (map term_view c.args.terms.now) (map term_view c.push_boxed.new.list))
    (sym (ap tree.step_view c.in-Key.is ∙ step_view-Key c.in-Key.key)) (
      x,
      ap (map term_view) is ∙ map_push term_view c.args.terms.now c.in_ok-term-in-Key.term,
      subst (λ (k : Kind). SaysTerm s (Some k) e x) (c.in_ok-kind-in-Key.ensures ∙ ap (λ n. key_kind n (way_view n c.args.way)) c.names.ensures) says,
    )))
    c.push_boxed.ensures

pub given-returns-in-Some : goal.given-returns-in-Some
given-returns-in-Some t c =
    let a = c.args.self.now in
    let s = sight_of a in
    let kinds = args_of s.tables.names (access_view s.tables.names c.args.what) in
    if_ok c.args-in-Some.result
    (λ m w. mapped w (λ kept added. record {
      more = added.more;
      behind = added.behind;
      says = subst (λ (args : ArgTrees). SaysArgs s kinds args (tes_of added.more))
          (ap (λ es. ArgTrees.given (tree.exprs_view es)) c.as_slice.ensures.items ∙ ap tree.args_view (sym c.in-Some.is))
          (given_says s kinds _ (tes_of added.more) added.says);
    }))
    c.args-in-Some.ensures

pub given-returns-in-None : goal.given-returns-in-None
given-returns-in-None t c =
    let s = sight_of c.args.self.now in
    let kinds = args_of s.tables.names (access_view s.tables.names c.args.what) in
    here (record {
      more = [];
      behind = sym (append-nil (map term_view c.args.keys));
      says = subst (λ (args : ArgTrees). SaysArgs s kinds args no_te) (ap tree.args_view (sym c.in-None.is)) (args_absent s kinds);
    })

pub access-returns : goal.access-returns
access-returns t c =
    let a = c.args.self.now in
    let s = sight_of a in
    let access = c.args.access.now in
    let parts = access_view-parts access in
    let x = tree.ident_view (out-AccessNode access).root in
    let steps = tree.steps_view (out-AccessNode access).steps in
    let args = tree.args_view (out-AccessNode access).args in
    if_ok c.called.result
    (λ m is at asked. record {
      left = λ kept.
          let keys = c.in_ok-keys.ensures.left kept in
          let given = (then_reads keys.same c.in_ok-terms.ensures).left kept in
          let steps_are : tree.steps_view c.as_slice.result.now ≡ steps = ap tree.steps_view c.as_slice.ensures.items in
          let w = c.way_from-way.result in
          let n = s.tables.names in
          let acc = access_view n c.in_ok-what.what in
          let begins : way_view n w ≡ way_from n (find_var a.vars (text_of x)) x =
          sym (ap (λ n. way_view n w) c.names-2.ensures) ∙ c.way_from-way.ensures
          ∙ ap (λ n. way_from n (find_var a.vars (text_of x)) x) c.names-2.ensures in
          let what : acc ≡ access_of n a.vars (tree.access_view access) =
          sym (ap (λ n. access_view n c.in_ok-what.what) c.names.ensures) ∙ c.in_ok-what.ensures
          ∙ ap (λ n. access_of n a.vars (tree.access_view access)) c.names.ensures in
          record {
            same = given.same;
            says = subst (λ (t : AccessTree). Says s asked (ExprTree.node at (ExprForm.access t)) (body_view m)) (sym parts)
                (access_read a kept asked at x steps args (map term_view c.in_ok-keys.keys) (map term_view c.in_ok-terms.terms) (way_view n w) acc (body_view m)
                begins (what ∙ ap (access_of n a.vars) parts)
                (subst (λ (st : StepTrees). KeysOn s (way_view n w) st (map term_view c.in_ok-keys.keys)) steps_are keys.says)
                given.says
                (subst (λ (t : AccessTree). IsCalled a acc t (terms_view c.in_ok-terms.terms) (body_view m)) parts
                (subst (λ (r : Reader). IsCalled r (access_view (sight_of r).tables.names c.in_ok-what.what) (tree.access_view access) (terms_view c.in_ok-terms.terms) (body_view m)) given.same is)));
          };
    })
    c.called.ensures

pub body-returns-in_default : goal.body-returns-in_default
body-returns-in_default t c = c.plain.ensures
