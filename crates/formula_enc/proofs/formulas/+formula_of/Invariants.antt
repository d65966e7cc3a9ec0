use Rattle.std.proofs.Common.{◌≡◌, ◌+◌, ◌*◌, [], map, take, drop, reverse}
use Rattle.rp_lang.specs.ProgramView.{program_view}
use Rattle.rp_lang.specs.Sizes.{fo_nodes, fos_nodes, arms_nodes}
use Rattle.rp_lang.specs.Views as lang
use Rattle.rp_logic.specs.Views.{term_view, formula_view, formulas_view}
use Rattle.reshape.specs.Joined.{joined}
use Rattle.crdt_enc.specs.FormulaFormulas.{formula_of, arms_of}
use Rattle.formula_enc.specs.means.Signs.{signed, signed_all}
use Rattle.formula_enc.specs.Settings.{place_view, around_view}
use Rattle.formula_enc.proofs.formulas.+formula_of.Given as goal

abbrev pub invariant-formulas_of-loop-part : goal.invariant-formulas_of-loop-part
invariant-formulas_of-loop-part l = map formula_view l.made ≡ map (λ f. signed l.sign (formula_of (program_view l.s.program.now) (place_view l.s.at) (around_view l.s l.bounds) (lang.formula_view f))) (take l.part-index l.parts)

abbrev pub invariant-arms_of-loop-arm : goal.invariant-arms_of-loop-arm
invariant-arms_of-loop-arm l = joined (formulas_view l.made) (signed_all l.sign (arms_of (program_view l.s.program.now) (place_view l.s.at) (around_view l.s l.bounds) (term_view l.on) (reverse l.seen) (lang.arms_view (drop l.arm-index l.arms)))) ≡ signed_all l.sign (arms_of (program_view l.s.program.now) (place_view l.s.at) (around_view l.s l.bounds) (term_view l.on) [] (lang.arms_view l.arms))

abbrev pub decreases-formula_of : goal.decreases-formula_of
decreases-formula_of l = 4 * fo_nodes (lang.formula_view l.f.now)

abbrev pub decreases-formulas_of : goal.decreases-formulas_of
decreases-formulas_of l = 4 * fos_nodes (lang.formulas_view l.parts.now) + 1

abbrev pub decreases-arm_of : goal.decreases-arm_of
decreases-arm_of l = 4 * fo_nodes (lang.formula_view l.body.now) + 1

abbrev pub decreases-push_arm : goal.decreases-push_arm
decreases-push_arm l = 4 * fo_nodes (lang.formula_view l.arm.now.body) + 2

abbrev pub decreases-arms_of : goal.decreases-arms_of
decreases-arms_of l = 4 * arms_nodes (lang.arms_view l.arms.now) + 3
