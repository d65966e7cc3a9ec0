use Rattle.std.proofs.Common.{ℕ, ◌++◌, List, Contains, sym, ap, subst, ◌∙◌}
use Rattle.rp_value.specs.ValueView.{value_view}
use Rattle.crdt_defs.specs.Atoms as spec
use Rattle.crdt_lib.proofs.atoms.atoms_of.Goals as goal

pub returns-clause-all : goal.returns-clause-all
returns-clause-all c = λ n.
    let found = c.in_ok-add_atoms.ensures ∙ ap (λ xs. xs ++ spec.atoms_in c.args.ty (value_view c.args.value.now)) c.new-found.ensures.items in
    let same = c.in_ok-atoms.ensures.same n in
    let has : List ℕ → Type 0 = λ xs. Contains xs n in (
      λ here. subst has found (same.0 (subst has c.from_vec.ensures here)),
      λ here. subst has (sym c.from_vec.ensures) (same.1 (subst has (sym found) here)),
    )
