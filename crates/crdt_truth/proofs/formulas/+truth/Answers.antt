use Rattle.std.proofs.Common.{◌≡◌, ℕ, Bool, ◌<◌, ◌∷◌, ◌&&◌, ◌||◌, not, List, ap, sym, subst, ◌∙◌, arith}
use Rattle.std.specs.Prelude.{IfOk}
use Rattle.std.proofs.lemmas.Bool.{eq-eqb, ne_eqb}
use Rattle.rp_value.specs.declared.value.Value.{Value}
use Rattle.rp_value.specs.Values.{Val}
use Rattle.rp_value.specs.ValueView.{value_view, values_view}
use Rattle.rp_lang.specs.declared.formula.Formula.{Formula}
use Rattle.rp_lang.specs.declared.formula.Arm.{Arm}
use Rattle.rp_lang.specs.Formulas as fo
use Rattle.rp_lang.specs.Sizes.{fo_nodes, fos_nodes, arms_nodes}
use Rattle.rp_lang.specs.Views.{formula_view, formulas_view, arms_view}
use Rattle.rp_lang.proofs.FormulaViews.{formula_view-And, formula_view-Or, formula_view-Not, formula_view-Implies, formula_view-All, formula_view-Any, formula_view-Holds, formula_view-Equal, formula_view-Less, formula_view-AtMost, formula_view-Visible, formula_view-Before, formula_view-Same, formula_view-Match}
use Rattle.rp_value.proofs.ValueViews.{value_view-Int, value_view-Str, value_view-Atom, value_view-Con, value_view-Call, value_view-Inv}
use Rattle.crdt_defs.specs.Counting.{all_below, any_below}
use Rattle.crdt_defs.specs.Parts.{bound, is_in_range, member}
use Rattle.crdt_defs.specs.Truths as spec
use Rattle.crdt_defs.specs.Truths.{is_built, bind, bind_fields}
use Rattle.crdt_defs.proofs.BelowLemmas.{any_found}
use Rattle.crdt_truth.specs.Open.{binders_view}
use Rattle.crdt_truth.specs.Readings.{parts_view, reading_view}
use Rattle.crdt_truth.specs.Within.{FoWithin, FosWithin, EachWithin, ArmWithin}
use Rattle.crdt_truth.proofs.ListValues.{fo_nodes_at, fo_within_at, arm_nodes_at, arms_from, arm_taken, arm_passed, unbuilt}
use Rattle.crdt_truth.proofs.OpenViews.{binders_view-One, binders_view-Fields}
use Rattle.crdt_truth.proofs.RangeLemmas.{all_failed}
use Rattle.crdt_truth.proofs.formulas.+truth.Goals as goal

pub truth-all_true-requires : goal.truth-all_true-requires
truth-all_true-requires t c =
    let r = reading_view c.args.r.now in
    let b = binders_view c.args.binders.now in
    let view = ap formula_view c.in-And.is ∙ formula_view-And c.in-And.parts in
    let parts = subst (FoWithin r b) view c.requires.within in
    let nodes = ap fo_nodes view in
    let same = ap (λ (x : List Formula). fos_nodes (formulas_view x)) c.as_slice.ensures.items in
    (omega (arith, nodes, same), (c.requires.ready, subst (λ (x : List Formula). FosWithin r b (formulas_view x)) (sym c.as_slice.ensures.items) parts))

pub truth-any_true-requires : goal.truth-any_true-requires
truth-any_true-requires t c =
    let r = reading_view c.args.r.now in
    let b = binders_view c.args.binders.now in
    let view = ap formula_view c.in-Or.is ∙ formula_view-Or c.in-Or.parts in
    let parts = subst (FoWithin r b) view c.requires.within in
    let nodes = ap fo_nodes view in
    let same = ap (λ (x : List Formula). fos_nodes (formulas_view x)) c.as_slice-in-Or.ensures.items in
    (omega (arith, nodes, same), (c.requires.ready, subst (λ (x : List Formula). FosWithin r b (formulas_view x)) (sym c.as_slice-in-Or.ensures.items) parts))

pub truth-truth-requires : goal.truth-truth-requires
truth-truth-requires t c =
    let r = reading_view c.args.r.now in
    let b = binders_view c.args.binders.now in
    let view = ap formula_view c.in-Not.is ∙ formula_view-Not c.in-Not.part in
    let parts = subst (FoWithin r b) view c.requires.within in
    let nodes = ap fo_nodes view in
    let same = ap (λ (x : Formula). fo_nodes (formula_view x)) c.get.ensures in
    (omega (arith, nodes, same), (c.requires.ready, subst (λ (x : Formula). FoWithin r b (formula_view x)) (sym c.get.ensures) parts))

pub truth-truth-requires-in-Implies : goal.truth-truth-requires-in-Implies
truth-truth-requires-in-Implies t c =
    let r = reading_view c.args.r.now in
    let b = binders_view c.args.binders.now in
    let view = ap formula_view c.in-Implies.is ∙ formula_view-Implies c.in-Implies.a c.in-Implies.b in
    let parts = subst (FoWithin r b) view c.requires.within in
    let nodes = ap fo_nodes view in
    let same = ap (λ (x : Formula). fo_nodes (formula_view x)) c.get-in-Implies.ensures in
    (omega (arith, nodes, same), (c.requires.ready, subst (λ (x : Formula). FoWithin r b (formula_view x)) (sym c.get-in-Implies.ensures) parts.0))

pub truth-truth-requires-in-Implies-2 : goal.truth-truth-requires-in-Implies-2
truth-truth-requires-in-Implies-2 t c =
    let r = reading_view c.args.r.now in
    let b = binders_view c.args.binders.now in
    let view = ap formula_view c.in-Implies.is ∙ formula_view-Implies c.in-Implies.a c.in-Implies.b in
    let parts = subst (FoWithin r b) view c.requires.within in
    let nodes = ap fo_nodes view in
    let same = ap (λ (x : Formula). fo_nodes (formula_view x)) c.get-in-Implies-2.ensures in
    (omega (arith, nodes, same), (c.requires.ready, subst (λ (x : Formula). FoWithin r b (formula_view x)) (sym c.get-in-Implies-2.ensures) parts.1))

pub truth-each_true-requires : goal.truth-each_true-requires
truth-each_true-requires t c =
    let r = reading_view c.args.r.now in
    let b = binders_view c.args.binders.now in
    let view = ap formula_view c.in-All.is ∙ formula_view-All c.in-All.over c.in-All.body in
    let parts = subst (FoWithin r b) view c.requires.within in
    let nodes = ap fo_nodes view in
    let same = ap (λ (x : Formula). fo_nodes (formula_view x)) c.get-in-All.ensures in
    (omega (arith, nodes, same), (c.requires.ready, subst (λ (x : Formula). EachWithin r b c.in-All.over (formula_view x)) (sym c.get-in-All.ensures) parts))

pub truth-some_true-requires : goal.truth-some_true-requires
truth-some_true-requires t c =
    let r = reading_view c.args.r.now in
    let b = binders_view c.args.binders.now in
    let view = ap formula_view c.in-Any.is ∙ formula_view-Any c.in-Any.over c.in-Any.body in
    let parts = subst (FoWithin r b) view c.requires.within in
    let nodes = ap fo_nodes view in
    let same = ap (λ (x : Formula). fo_nodes (formula_view x)) c.get-in-Any.ensures in
    (omega (arith, nodes, same), (c.requires.ready, subst (λ (x : Formula). EachWithin r b c.in-Any.over (formula_view x)) (sym c.get-in-Any.ensures) parts))

pub truth-holds-requires : goal.truth-holds-requires
truth-holds-requires t c =
    let r = reading_view c.args.r.now in
    let b = binders_view c.args.binders.now in
    let view = ap formula_view c.in-Holds.is ∙ formula_view-Holds c.in-Holds.e in
    let parts = subst (FoWithin r b) view c.requires.within in
    parts

pub truth-sees-requires : goal.truth-sees-requires
truth-sees-requires t c =
    let r = reading_view c.args.r.now in
    let b = binders_view c.args.binders.now in
    let view = ap formula_view c.in-Visible.is ∙ formula_view-Visible c.in-Visible.call in
    let parts = subst (FoWithin r b) view c.requires.within in
    parts

pub truth-are_equal-requires-clause-left : goal.truth-are_equal-requires-clause-left
truth-are_equal-requires-clause-left t c =
    let r = reading_view c.args.r.now in
    let b = binders_view c.args.binders.now in
    let view = ap formula_view c.in-Equal.is ∙ formula_view-Equal c.in-Equal.a c.in-Equal.b in
    let parts = subst (FoWithin r b) view c.requires.within in
    parts.0

pub truth-are_equal-requires-clause-right : goal.truth-are_equal-requires-clause-right
truth-are_equal-requires-clause-right t c =
    let r = reading_view c.args.r.now in
    let b = binders_view c.args.binders.now in
    let view = ap formula_view c.in-Equal.is ∙ formula_view-Equal c.in-Equal.a c.in-Equal.b in
    let parts = subst (FoWithin r b) view c.requires.within in
    parts.1

pub truth-is_less-requires-clause-left : goal.truth-is_less-requires-clause-left
truth-is_less-requires-clause-left t c =
    let r = reading_view c.args.r.now in
    let b = binders_view c.args.binders.now in
    let view = ap formula_view c.in-Less.is ∙ formula_view-Less c.in-Less.a c.in-Less.b in
    let parts = subst (FoWithin r b) view c.requires.within in
    parts.0

pub truth-is_less-requires-clause-right : goal.truth-is_less-requires-clause-right
truth-is_less-requires-clause-right t c =
    let r = reading_view c.args.r.now in
    let b = binders_view c.args.binders.now in
    let view = ap formula_view c.in-Less.is ∙ formula_view-Less c.in-Less.a c.in-Less.b in
    let parts = subst (FoWithin r b) view c.requires.within in
    parts.1

pub truth-is_at_most-requires-clause-left : goal.truth-is_at_most-requires-clause-left
truth-is_at_most-requires-clause-left t c =
    let r = reading_view c.args.r.now in
    let b = binders_view c.args.binders.now in
    let view = ap formula_view c.in-AtMost.is ∙ formula_view-AtMost c.in-AtMost.a c.in-AtMost.b in
    let parts = subst (FoWithin r b) view c.requires.within in
    parts.0

pub truth-is_at_most-requires-clause-right : goal.truth-is_at_most-requires-clause-right
truth-is_at_most-requires-clause-right t c =
    let r = reading_view c.args.r.now in
    let b = binders_view c.args.binders.now in
    let view = ap formula_view c.in-AtMost.is ∙ formula_view-AtMost c.in-AtMost.a c.in-AtMost.b in
    let parts = subst (FoWithin r b) view c.requires.within in
    parts.1

pub truth-comes_before-requires-clause-left : goal.truth-comes_before-requires-clause-left
truth-comes_before-requires-clause-left t c =
    let r = reading_view c.args.r.now in
    let b = binders_view c.args.binders.now in
    let view = ap formula_view c.in-Before.is ∙ formula_view-Before c.in-Before.a c.in-Before.b in
    let parts = subst (FoWithin r b) view c.requires.within in
    parts.0

pub truth-comes_before-requires-clause-right : goal.truth-comes_before-requires-clause-right
truth-comes_before-requires-clause-right t c =
    let r = reading_view c.args.r.now in
    let b = binders_view c.args.binders.now in
    let view = ap formula_view c.in-Before.is ∙ formula_view-Before c.in-Before.a c.in-Before.b in
    let parts = subst (FoWithin r b) view c.requires.within in
    parts.1

pub truth-are_of_one-requires-clause-left : goal.truth-are_of_one-requires-clause-left
truth-are_of_one-requires-clause-left t c =
    let r = reading_view c.args.r.now in
    let b = binders_view c.args.binders.now in
    let view = ap formula_view c.in-Same.is ∙ formula_view-Same c.in-Same.a c.in-Same.b in
    let parts = subst (FoWithin r b) view c.requires.within in
    parts.0

pub truth-are_of_one-requires-clause-right : goal.truth-are_of_one-requires-clause-right
truth-are_of_one-requires-clause-right t c =
    let r = reading_view c.args.r.now in
    let b = binders_view c.args.binders.now in
    let view = ap formula_view c.in-Same.is ∙ formula_view-Same c.in-Same.a c.in-Same.b in
    let parts = subst (FoWithin r b) view c.requires.within in
    parts.1

pub truth-value-requires : goal.truth-value-requires
truth-value-requires t c =
    let r = reading_view c.args.r.now in
    let b = binders_view c.args.binders.now in
    let view = ap formula_view c.in-Match.is ∙ formula_view-Match c.in-Match.on c.in-Match.arms in
    let parts = subst (FoWithin r b) view c.requires.within in
    parts.0

pub truth-arm_true-requires : goal.truth-arm_true-requires
truth-arm_true-requires t c =
    let r = reading_view c.args.r.now in
    let b = binders_view c.args.binders.now in
    let view = ap formula_view c.in-Match.is ∙ formula_view-Match c.in-Match.on c.in-Match.arms in
    let parts = subst (FoWithin r b) view c.requires.within in
    let nodes = ap fo_nodes view in
    let same = ap (λ (x : List Arm). arms_nodes (arms_view x)) c.as_slice-in-Match.ensures.items in
    let of_value = subst (λ (v : Val). ArmWithin r b v (arms_view c.in-Match.arms)) (sym c.in_ok-on-in-Match.ensures) parts.1 in
    (omega (arith, nodes, same), (c.requires.ready, subst (λ (x : List Arm). ArmWithin r b (value_view c.in_ok-on-in-Match.on) (arms_view x)) (sym c.as_slice-in-Match.ensures.items) of_value))

pub all_true-truth-requires : goal.all_true-truth-requires
all_true-truth-requires t c =
    let less = fo_nodes_at c.args.parts.now c.loop-part.part-index c.part-item.result c.loop-part-test.true c.part-item.is in
    (omega (arith, less), (c.requires.ready, fo_within_at (reading_view c.args.r.now) (binders_view c.args.binders.now) c.args.parts.now c.loop-part.part-index c.part-item.result c.requires.within c.loop-part-test.true c.part-item.is))

pub any_true-truth-requires : goal.any_true-truth-requires
any_true-truth-requires t c =
    let less = fo_nodes_at c.args.parts.now c.loop-part.part-index c.part-item.result c.loop-part-test.true c.part-item.is in
    (omega (arith, less), (c.requires.ready, fo_within_at (reading_view c.args.r.now) (binders_view c.args.binders.now) c.args.parts.now c.loop-part.part-index c.part-item.result c.requires.within c.loop-part-test.true c.part-item.is))

pub each_true-is_kept-requires : goal.each_true-is_kept-requires
each_true-is_kept-requires t c =
    let lt : c.loop-n.n < bound (parts_view c.args.r.now) c.args.over = omega (arith, c.bound-n-end.ensures) in
    (omega arith, (c.requires.ready, c.requires.within c.loop-n.n lt))

pub some_true-is_met-requires : goal.some_true-is_met-requires
some_true-is_met-requires t c =
    let lt : c.loop-n.n < bound (parts_view c.args.r.now) c.args.over = omega (arith, c.bound-n-end.ensures) in
    (omega arith, (c.requires.ready, c.requires.within c.loop-n.n lt))

pub arm_true-truth-requires : goal.arm_true-truth-requires
arm_true-truth-requires t c =
    let r = reading_view c.args.r.now in
    let b = binders_view c.args.binders.now in
    let v = value_view c.args.on.now in
    let arm = c.arm-item.result in
    let seen = ap value_view c.in-Con.is ∙ value_view-Con c.in-Con.con c.in-Con.args in
    let split = arms_from c.args.arms.now c.loop-arm.arm-index arm c.loop-arm-test.true c.arm-item.is in
    let parts = subst (ArmWithin r b v) split c.loop-arm.invariant.within in
    let built = ap (is_built arm.con) seen ∙ eq-eqb c.in-Con.con arm.con (sym c.if-arm-con.true) in
    let bound = ap (λ (x : Val). bind_fields x b) seen ∙ ap (λ (x : List Value). bind (values_view x) b) (sym c.as_slice.ensures.items) ∙ sym (binders_view-Fields c.as_slice.result c.args.binders) in
    let less = arm_nodes_at c.args.arms.now c.loop-arm.arm-index arm c.loop-arm-test.true c.arm-item.is in
    (omega (arith, less), (c.requires.ready, subst (λ (bs : List Val). FoWithin r bs (formula_view arm.body)) bound (parts.0 built)))

pub arm_true-returns-then-arm-con : goal.arm_true-returns-then-arm-con
arm_true-returns-then-arm-con t c =
    let r = reading_view c.args.r.now in
    let b = binders_view c.args.binders.now in
    let v = value_view c.args.on.now in
    let arm = c.arm-item.result in
    let seen = ap value_view c.in-Con.is ∙ value_view-Con c.in-Con.con c.in-Con.args in
    let split = arms_from c.args.arms.now c.loop-arm.arm-index arm c.loop-arm-test.true c.arm-item.is in
    let built = ap (is_built arm.con) seen ∙ eq-eqb c.in-Con.con arm.con (sym c.if-arm-con.true) in
    let bound = ap (λ (x : Val). bind_fields x b) seen ∙ ap (λ (x : List Value). bind (values_view x) b) (sym c.as_slice.ensures.items) ∙ sym (binders_view-Fields c.as_slice.result c.args.binders) in
    let whole =
    c.loop-arm.invariant.same
    ∙ ap (spec.arm_true r b v) split
    ∙ arm_taken r b v arm.con (formula_view arm.body) _ built
    ∙ ap (λ (bs : List Val). spec.truth r bs (formula_view arm.body)) bound in
    subst (λ (x : Bool). IfOk c.truth.result (λ y. y ≡ x)) (sym whole) c.truth.ensures

pub arm_true-loop-arm-preserved : goal.arm_true-loop-arm-preserved
arm_true-loop-arm-preserved t c =
    let r = reading_view c.args.r.now in
    let b = binders_view c.args.binders.now in
    let v = value_view c.args.on.now in
    let arm = c.arm-item.result in
    let seen = ap value_view c.in-Con.is ∙ value_view-Con c.in-Con.con c.in-Con.args in
    let split = arms_from c.args.arms.now c.loop-arm.arm-index arm c.loop-arm-test.true c.arm-item.is in
    let parts = subst (ArmWithin r b v) split c.loop-arm.invariant.within in
    let other = ap (is_built arm.con) seen ∙ ne_eqb c.in-Con.con arm.con (λ e. c.if-arm-con.false (sym e)) in
    record {
      same = c.loop-arm.invariant.same ∙ ap (spec.arm_true r b v) split ∙ arm_passed r b v arm.con (formula_view arm.body) _ other;
      within = parts.1 other;
    }

pub is_kept-truth-requires : goal.is_kept-truth-requires
is_kept-truth-requires t c =
    let r = reading_view c.args.r.now in
    let b = binders_view c.args.binders.now in
    let body = formula_view c.args.body.now in
    let one = subst (λ (x : Val). FoWithin r (x ∷ b) body) (sym c.member-one.ensures) (c.requires.within (sym c.if-not-is_in_range.ensures)) in
    (omega arith, (c.requires.ready, subst (λ (bs : List Val). FoWithin r bs body) (sym (binders_view-One _ _)) one))

pub is_met-truth-requires : goal.is_met-truth-requires
is_met-truth-requires t c =
    let r = reading_view c.args.r.now in
    let b = binders_view c.args.binders.now in
    let body = formula_view c.args.body.now in
    let one = subst (λ (x : Val). FoWithin r (x ∷ b) body) (sym c.member-one.ensures) (c.requires.within (sym c.if-not-is_in_range.ensures)) in
    (omega arith, (c.requires.ready, subst (λ (bs : List Val). FoWithin r bs body) (sym (binders_view-One _ _)) one))

pub each_true-returns-then-not-branch : goal.each_true-returns-then-not-branch
each_true-returns-then-not-branch t c =
    let r = reading_view c.args.r.now in
    let s = parts_view c.args.r.now in
    let b = binders_view c.args.binders.now in
    let over = c.args.over in
    let body = formula_view c.args.body.now in
    let lt : c.loop-n.n < bound s over = omega (arith, c.bound-n-end.ensures) in
    sym (all_failed (λ n. not (is_in_range s over n) || spec.truth r (member over n ∷ b) body) (bound s over) c.loop-n.n lt (sym c.in_ok-is_kept.ensures ∙ c.if-not-branch.true))

pub each_true-returns : goal.each_true-returns
each_true-returns t c =
    let r = reading_view c.args.r.now in
    let s = parts_view c.args.r.now in
    let b = binders_view c.args.binders.now in
    let over = c.args.over in
    let body = formula_view c.args.body.now in
    let all : c.loop-n.n ≡ bound s over = omega (arith, c.bound-n-end.ensures) in
    sym (sym (ap (λ (k : ℕ). all_below (λ n. not (is_in_range s over n) || spec.truth r (member over n ∷ b) body) k) all) ∙ c.loop-n.invariant)

pub some_true-returns-then-branch : goal.some_true-returns-then-branch
some_true-returns-then-branch t c =
    let r = reading_view c.args.r.now in
    let s = parts_view c.args.r.now in
    let b = binders_view c.args.binders.now in
    let over = c.args.over in
    let body = formula_view c.args.body.now in
    let lt : c.loop-n.n < bound s over = omega (arith, c.bound-n-end.ensures) in
    sym (any_found (λ n. is_in_range s over n && spec.truth r (member over n ∷ b) body) (bound s over) c.loop-n.n lt (sym c.in_ok-is_met.ensures ∙ c.if-branch.true))

pub some_true-returns : goal.some_true-returns
some_true-returns t c =
    let r = reading_view c.args.r.now in
    let s = parts_view c.args.r.now in
    let b = binders_view c.args.binders.now in
    let over = c.args.over in
    let body = formula_view c.args.body.now in
    let all : c.loop-n.n ≡ bound s over = omega (arith, c.bound-n-end.ensures) in
    sym (sym (ap (λ (k : ℕ). any_below (λ n. is_in_range s over n && spec.truth r (member over n ∷ b) body) k) all) ∙ c.loop-n.invariant)

pub arm_true-returns-in-Int : goal.arm_true-returns-in-Int
arm_true-returns-in-Int t c =
    let seen = ap value_view c.in-Int.is ∙ value_view-Int _ in
    sym (unbuilt (reading_view c.args.r.now) (binders_view c.args.binders.now) (value_view c.args.on.now) (λ con. ap (is_built con) seen) (arms_view c.args.arms.now))

pub arm_true-returns-in-Str : goal.arm_true-returns-in-Str
arm_true-returns-in-Str t c =
    let seen = ap value_view c.in-Str.is ∙ value_view-Str _ in
    sym (unbuilt (reading_view c.args.r.now) (binders_view c.args.binders.now) (value_view c.args.on.now) (λ con. ap (is_built con) seen) (arms_view c.args.arms.now))

pub arm_true-returns-in-Atom : goal.arm_true-returns-in-Atom
arm_true-returns-in-Atom t c =
    let seen = ap value_view c.in-Atom.is ∙ value_view-Atom _ _ in
    sym (unbuilt (reading_view c.args.r.now) (binders_view c.args.binders.now) (value_view c.args.on.now) (λ con. ap (is_built con) seen) (arms_view c.args.arms.now))

pub arm_true-returns-in-Call : goal.arm_true-returns-in-Call
arm_true-returns-in-Call t c =
    let seen = ap value_view c.in-Call.is ∙ value_view-Call _ in
    sym (unbuilt (reading_view c.args.r.now) (binders_view c.args.binders.now) (value_view c.args.on.now) (λ con. ap (is_built con) seen) (arms_view c.args.arms.now))

pub arm_true-returns-in-Inv : goal.arm_true-returns-in-Inv
arm_true-returns-in-Inv t c =
    let seen = ap value_view c.in-Inv.is ∙ value_view-Inv _ in
    sym (unbuilt (reading_view c.args.r.now) (binders_view c.args.binders.now) (value_view c.args.on.now) (λ con. ap (is_built con) seen) (arms_view c.args.arms.now))

pub truth-returns-in-All : goal.truth-returns-in-All
truth-returns-in-All t c =
    let r = reading_view c.args.r.now in
    let b = binders_view c.args.binders.now in
    let view = ap formula_view c.in-All.is ∙ formula_view-All c.in-All.over c.in-All.body in
    let whole = ap (spec.truth r b) view ∙ ap (λ (x : Formula). spec.truth r b (fo.All c.in-All.over (formula_view x))) (sym c.get-in-All.ensures) in
    subst (λ (x : Bool). IfOk c.each_true.result (λ y. y ≡ x)) (sym whole) c.each_true.ensures

pub truth-returns-in-Any : goal.truth-returns-in-Any
truth-returns-in-Any t c =
    let r = reading_view c.args.r.now in
    let b = binders_view c.args.binders.now in
    let view = ap formula_view c.in-Any.is ∙ formula_view-Any c.in-Any.over c.in-Any.body in
    let whole = ap (spec.truth r b) view ∙ ap (λ (x : Formula). spec.truth r b (fo.Any c.in-Any.over (formula_view x))) (sym c.get-in-Any.ensures) in
    subst (λ (x : Bool). IfOk c.some_true.result (λ y. y ≡ x)) (sym whole) c.some_true.ensures
