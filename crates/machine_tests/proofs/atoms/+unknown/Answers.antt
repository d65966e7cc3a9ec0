use Rattle.std.proofs.Common.{◌&&◌, Bool, List, map, not, ap, sym, ◌∙◌, arith}
use Rattle.std.specs.Prelude.{find}
use Rattle.std.specs.List.{list_any}
use Rattle.rp_value.specs.Values.{Val}
use Rattle.rp_value.specs.ValueView.{value_view, values_view}
use Rattle.rp_lang.specs.ProgramView.{program_view}
use Rattle.crdt_defs.specs.Fitting as spec
use Rattle.crdt_defs.specs.SameValues.{same_val}
use Rattle.rp_value.specs.declared.value.Value.{Value}
use Rattle.rp_value.proofs.ValueViews.{value_view-Con}
use Rattle.machine_tests.proofs.FittingLemmas.{weight, weights, weight_at}
use Rattle.machine_tests.proofs.AtomLemmas.{atoms_listed, first_here, first_behind, first_nowhere}
use Rattle.machine_tests.proofs.atoms.+unknown.Goals as goal

pub unknown-returns-in-Some : goal.unknown-returns-in-Some
unknown-returns-in-Some t c =
    first_here (λ v. spec.is_id (program_view c.args.p.now) v && not (list_any (same_val v) (map value_view c.args.known.now))) c.args.values.now c.loop-value.value-index _ (value_view c.in-Some.found.now) (omega arith) c.value-item.is c.in-Some.ensures c.loop-value.invariant

pub unknown-loop-value-preserved : goal.unknown-loop-value-preserved
unknown-loop-value-preserved t c =
    first_behind (λ v. spec.is_id (program_view c.args.p.now) v && not (list_any (same_val v) (map value_view c.args.known.now))) c.args.values.now c.loop-value.value-index _ (omega arith) c.value-item.is c.in-None.ensures c.loop-value.invariant

pub unknown-returns : goal.unknown-returns
unknown-returns t c = first_nowhere (λ v. spec.is_id (program_view c.args.p.now) v && not (list_any (same_val v) (map value_view c.args.known.now))) c.args.values.now c.loop-value.value-index (omega arith) c.loop-value.invariant

pub unknown_in-unknown-requires : goal.unknown_in-unknown-requires
unknown_in-unknown-requires t c =
    let whole = ap weight (ap value_view c.in-Con.is ∙ value_view-Con c.in-Con.con c.in-Con.args) in
    let same = ap (λ (xs : List Value). weights (values_view xs)) c.as_slice.ensures.items in
    omega (arith, whole, same)

pub unknown-unknown_in-requires : goal.unknown-unknown_in-requires
unknown-unknown_in-requires t c = let low = weight_at c.args.values.now c.loop-value.value-index _ (omega arith) c.value-item.is in omega (arith, low)

pub unknown_in-returns-in-Con : goal.unknown_in-returns-in-Con
unknown_in-returns-in-Con t c =
    let test : Val → Bool = λ v. spec.is_id (program_view c.args.p.now) v && not (list_any (same_val v) (map value_view c.args.known.now)) in
    let view = ap value_view c.in-Con.is ∙ value_view-Con c.in-Con.con c.in-Con.args in
    c.unknown.ensures
    ∙ ap (λ (xs : List Value). find test (spec.all_atoms (map value_view xs))) c.as_slice.ensures.items
    ∙ sym (ap (find test) (atoms_listed c.in-Con.args))
    ∙ sym (ap (λ v. find test (spec.atoms v)) view)
