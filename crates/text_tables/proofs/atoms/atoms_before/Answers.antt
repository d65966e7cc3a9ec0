use Rattle.std.proofs.Common.{◌+◌, ◌<◌, ◌∷◌, [], length, sym, ap, subst, ◌∙◌, arith}
use Rattle.std.specs.List.{slice_get}
use Rattle.std.proofs.lemmas.List.{length-append}
use Rattle.text_names.specs.Declarations.{names_view}
use Rattle.text_tables.specs.means.Kept.{AreAtoms}
use Rattle.text_tables.proofs.AtomsLaw.{atoms_end, atoms_more, atoms_next, few_more}
use Rattle.text_tables.proofs.atoms.atoms_before.Goals as goal

pub with_one-count-requires : goal.with_one-count-requires
with_one-count-requires c =
    let few = c.loop-number.invariant.few in
    omega (arith, few, c.loop-number-test.true)

pub loop-number-preserved : goal.loop-number-preserved
loop-number-preserved c =
    let n = names_view c.args.names.now in
    let i = c.loop-number.number in
    let inv = c.loop-number.invariant in
    let numbers = c.loop-number.numbers in
    let count = c.loop-number.count in
    let lt : i < length n.types = omega (arith, c.loop-number-test.true, c.type_count-number-end.ensures) in
    record {
      long = ap length c.in_ok-push.ensures.ok ∙ length-append numbers (count ∷ []) ∙ ap (λ k. k + 1) inv.long;
      are = λ k less. ap (λ xs. slice_get xs k) c.in_ok-push.ensures.ok ∙ atoms_more n numbers i count inv.long inv.counted inv.are k less;
      counted = c.with_one-count.ensures ∙ atoms_next n i count c.is_atom.result lt inv.counted c.is_atom.ensures;
      few = let few = inv.few in few_more count c.with_one-count.result i c.is_atom.result few c.with_one-count.ensures;
    }

pub returns : goal.returns
returns c =
    let n = names_view c.args.names.now in
    let inv = c.loop-number.invariant in
    subst (AreAtoms n) (sym c.in_ok-push-2.ensures.ok)
    (atoms_end n c.loop-number.numbers c.loop-number.number c.loop-number.count inv.long inv.counted
    (omega (arith, c.loop-number-test.false, c.type_count-number-end.ensures)) inv.are)
