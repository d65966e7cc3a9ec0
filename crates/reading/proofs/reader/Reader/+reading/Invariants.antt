use Rattle.std.proofs.Common.{◌≡◌, List, ◌++◌, drop, map}
use Rattle.rp_ast.specs.View.{expr_arms_view, exprs_view, steps_view}
use Rattle.type_rules.specs.Accesses.{args_of}
use Rattle.type_rules.specs.ExprSites.{word_args}
use Rattle.type_terms.specs.Views.{access_view, way_view}
use Rattle.desugaring.specs.Callees.{vars_of}
use Rattle.query_bodies.specs.Terms.{Cl, Te}
use Rattle.query_bodies.specs.Views.{ArmView, arms_of, claim_arm_view, claim_view, cls_of, term_view, tes_of}
use Rattle.query_laws.specs.Sight.{SaysArms, SaysClaims, SaysTerms}
use Rattle.reading.specs.Reads.{IsKept, Leaves, sight_of}
use Rattle.reading.proofs.Found.{KeysOn}
use Rattle.reading.proofs.Reading.{Gathered}
use Rattle.reading.proofs.reader.Reader.+reading.Given as goal

abbrev pub invariant-claims-loop-operand : goal.invariant-claims-loop-operand
invariant-claims-loop-operand l =
    let s = sight_of l.fn.self in
    IsKept l.fn.self → Leaves l.fn.self l.self (Gathered {X = Cl} (λ xs. SaysClaims s (exprs_view (drop l.operand-index l.operands)) (cls_of xs))
    (λ xs. SaysClaims s (exprs_view l.operands) (cls_of xs)) (map claim_view l.claims))

abbrev pub invariant-word_args-loop-place : goal.invariant-word_args-loop-place
invariant-word_args-loop-place l =
    let s = sight_of l.fn.self in
    let kinds = word_args s.tables.names (vars_of s.vars) l.word (exprs_view l.args) in
    IsKept l.fn.self → Leaves l.fn.self l.self (Gathered {X = Te} (λ xs. SaysTerms s (drop l.place kinds) (exprs_view (drop l.place l.args)) (tes_of xs))
    (λ xs. SaysTerms s kinds (exprs_view l.args) (tes_of xs)) (map term_view l.terms))

abbrev pub invariant-arms-loop-arm : goal.invariant-arms-loop-arm
invariant-arms-loop-arm l =
    let s = sight_of l.fn.self in
    IsKept l.fn.self → Leaves l.fn.self l.self (Gathered {X = ArmView} (λ xs. SaysArms s l.kind (expr_arms_view (drop l.arm-index l.arms)) (arms_of xs))
    (λ xs. SaysArms s l.kind (expr_arms_view l.arms) (arms_of xs)) (map claim_arm_view l.made))

abbrev pub invariant-keys-loop-step : goal.invariant-keys-loop-step
invariant-keys-loop-step l =
    let s = sight_of l.fn.self in
    IsKept l.fn.self → Leaves l.fn.self l.self (Gathered {X = Te}
    (λ xs. KeysOn s (way_view s.tables.names l.way) (steps_view (drop l.step-index l.steps)) xs)
    (λ xs. KeysOn s (way_view s.tables.names l.fn.way) (steps_view l.steps) xs) (map term_view l.terms))

abbrev pub invariant-args-loop-place : goal.invariant-args-loop-place
invariant-args-loop-place l =
    let s = sight_of l.fn.self in
    let kinds = args_of s.tables.names (access_view s.tables.names l.what) in
    IsKept l.fn.self → Leaves l.fn.self l.self ((made : List Te) × (map term_view l.terms ≡ map term_view l.fn.keys ++ made)
    × Gathered {X = Te} (λ xs. SaysTerms s (drop l.place kinds) (exprs_view (drop l.place l.args)) (tes_of xs))
    (λ xs. SaysTerms s kinds (exprs_view l.args) (tes_of xs)) made)
