use Rattle.std.proofs.Common.{◌≡◌, IfOk, false, List, [], ◌∷◌, map, reverse, ap, sym, subst, ◌∙◌, arith, rules}
use Rattle.std.proofs.lemmas.List.{take_all, reverse-append}
use Rattle.rp_lang.specs.ProgramView.{program_view}
use Rattle.rp_lang.specs.Sizes.{fo_nodes, fos_nodes, arms_nodes}
use Rattle.rp_lang.specs.Typing.{is_among}
use Rattle.rp_lang.specs.Views as lang
use Rattle.rp_lang.specs.declared.formula.Formula.{Formula}
use Rattle.rp_lang.specs.declared.formula.Arm.{Arm}
use Rattle.rp_lang.proofs.FormulaViews.{formula_view-And, formula_view-Or, formula_view-Not, formula_view-Implies, formula_view-All, formula_view-Any, formula_view-Before, formula_view-Match}
use Rattle.rp_logic.specs.Views.{term_view, formula_view, fms_of}
use Rattle.crdt_enc.specs.FormulaFormulas.{formula_of}
use Rattle.formula_enc.specs.means.Signs.{signed}
use Rattle.formula_enc.specs.Settings.{place_view, around_view}
use Rattle.formula_enc.proofs.Arms.{parts_seen, new_arm, arms_done, part_nodes, arm_nodes}
use Rattle.formula_enc.proofs.formulas.+formula_of.Goals as goal

pub formula_of-formulas_of-requires : goal.formula_of-formulas_of-requires
formula_of-formulas_of-requires t c =
    let nodes = ap fo_nodes (ap lang.formula_view c.in-And.is ∙ formula_view-And c.in-And.parts) in
    let same = ap (λ (x : List Formula). fos_nodes (lang.formulas_view x)) c.as_slice.ensures.items in
    omega (arith, nodes, same)

pub formula_of-formulas_of-requires-in-Or : goal.formula_of-formulas_of-requires-in-Or
formula_of-formulas_of-requires-in-Or t c =
    let nodes = ap fo_nodes (ap lang.formula_view c.in-Or.is ∙ formula_view-Or c.in-Or.parts) in
    let same = ap (λ (x : List Formula). fos_nodes (lang.formulas_view x)) c.as_slice-in-Or.ensures.items in
    omega (arith, nodes, same)

pub formula_of-formula_of-requires : goal.formula_of-formula_of-requires
formula_of-formula_of-requires t c =
    let nodes = ap fo_nodes (ap lang.formula_view c.in-Not.is ∙ formula_view-Not c.in-Not.part) in
    let same = ap (λ (x : Formula). fo_nodes (lang.formula_view x)) c.get.ensures in
    omega (arith, nodes, same)

pub formula_of-formula_of-requires-in-Implies : goal.formula_of-formula_of-requires-in-Implies
formula_of-formula_of-requires-in-Implies t c =
    let nodes = ap fo_nodes (ap lang.formula_view c.in-Implies.is ∙ formula_view-Implies c.in-Implies.a c.in-Implies.b) in
    let same = ap (λ (x : Formula). fo_nodes (lang.formula_view x)) c.get-in-Implies.ensures in
    omega (arith, nodes, same)

pub formula_of-formula_of-requires-in-Implies-2 : goal.formula_of-formula_of-requires-in-Implies-2
formula_of-formula_of-requires-in-Implies-2 t c =
    let nodes = ap fo_nodes (ap lang.formula_view c.in-Implies.is ∙ formula_view-Implies c.in-Implies.a c.in-Implies.b) in
    let same = ap (λ (x : Formula). fo_nodes (lang.formula_view x)) c.get-in-Implies-2.ensures in
    omega (arith, nodes, same)

pub formula_of-formula_of-requires-in-All : goal.formula_of-formula_of-requires-in-All
formula_of-formula_of-requires-in-All t c =
    let nodes = ap fo_nodes (ap lang.formula_view c.in-All.is ∙ formula_view-All c.in-All.over c.in-All.body) in
    let same = ap (λ (x : Formula). fo_nodes (lang.formula_view x)) c.get-in-All.ensures in
    omega (arith, nodes, same)

pub formula_of-formula_of-requires-in-Any : goal.formula_of-formula_of-requires-in-Any
formula_of-formula_of-requires-in-Any t c =
    let nodes = ap fo_nodes (ap lang.formula_view c.in-Any.is ∙ formula_view-Any c.in-Any.over c.in-Any.body) in
    let same = ap (λ (x : Formula). fo_nodes (lang.formula_view x)) c.get-in-Any.ensures in
    omega (arith, nodes, same)

pub formula_of-arms_of-requires : goal.formula_of-arms_of-requires
formula_of-arms_of-requires t c =
    let nodes = ap fo_nodes (ap lang.formula_view c.in-Match.is ∙ formula_view-Match c.in-Match.on c.in-Match.arms) in
    let same = ap (λ (x : List Arm). arms_nodes (lang.arms_view x)) c.as_slice-in-Match.ensures.items in
    omega (arith, nodes, same)

pub formulas_of-formula_of-requires : goal.formulas_of-formula_of-requires
formulas_of-formula_of-requires t c =
    let below = part_nodes c.args.parts.now c.loop-part.part-index c.part-item.result c.loop-part-test.true c.part-item.is in
    omega (arith, below)

pub arms_of-push_arm-requires : goal.arms_of-push_arm-requires
arms_of-push_arm-requires t c =
    let below = arm_nodes c.args.arms.now c.loop-arm.arm-index c.arm-item.result c.loop-arm-test.true c.arm-item.is in
    omega (arith, below)

pub formula_of-returns-in-Before : goal.formula_of-returns-in-Before
formula_of-returns-in-Before t c =
    subst (λ x. IfOk c.precedes.result (λ g. formula_view g ≡ signed c.args.sign (formula_of (program_view c.args.s.now.program.now) (place_view c.args.s.now.at) (around_view c.args.s.now c.args.bounds.now) x))) (sym (ap lang.formula_view c.in-Before.is ∙ formula_view-Before c.in-Before.a c.in-Before.b)) c.precedes.ensures

pub formulas_of-returns : goal.formulas_of-returns
formulas_of-returns t c =
    ap fms_of (c.loop-part.invariant ∙ ap (λ fs. map (λ f. signed c.args.sign (formula_of (program_view c.args.s.now.program.now) (place_view c.args.s.now.at) (around_view c.args.s.now c.args.bounds.now) (lang.formula_view f))) fs) (take_all c.loop-part.part-index c.args.parts.now c.loop-part-test.false))
    ∙ parts_seen c.args.sign (program_view c.args.s.now.program.now) (place_view c.args.s.now.at) (around_view c.args.s.now c.args.bounds.now) c.args.parts.now

pub arms_of-returns : goal.arms_of-returns
arms_of-returns t c = arms_done c.args.sign (program_view c.args.s.now.program.now) (place_view c.args.s.now.at) (around_view c.args.s.now c.args.bounds.now) (term_view c.args.on.now) (reverse c.loop-arm.seen) c.args.arms.now c.loop-arm.arm-index _ _ c.loop-arm-test.false c.loop-arm.invariant

pub push_arm-returns : goal.push_arm-returns
push_arm-returns t c =
    let unseen : is_among c.args.arm.now.con (reverse c.args.seen.now) ≡ false = search (rules, c.if-is_seen.ensures, c.if-is_seen.false, c.is_seen.ensures, c.as_slice.ensures.items) in
    let more : reverse c.push-2.new.self ≡ c.args.arm.now.con ∷ reverse c.args.seen.now = ap reverse c.in_ok-push-2.ensures.ok ∙ reverse-append c.args.seen.now (c.args.arm.now.con ∷ []) in
    new_arm c.args.sign (program_view c.args.s.now.program.now) (place_view c.args.s.now.at) (around_view c.args.s.now c.args.bounds.now) (term_view c.args.on.now) (reverse c.args.seen.now) (reverse c.push-2.new.self) c.args.arm.now.con (lang.formula_view c.args.arm.now.body) c.push.new.self c.args.made.now c.in_ok-arm_of.field-0 unseen more c.in_ok-push.ensures.ok c.in_ok-arm_of.ensures
