use Rattle.std.proofs.Common.{eqb, ap, sym, ◌∙◌}
use Rattle.std.proofs.lemmas.List.{length-map}
use Rattle.rp_logic.specs.Views.{atom_view}
use Rattle.refute_branch.proofs.shape.no_atoms.Goals as goal

pub returns : goal.returns
returns c = ap (λ n. eqb n 0) (c.len.ensures.length ∙ sym (length-map c.args.u.now.atoms atom_view))
