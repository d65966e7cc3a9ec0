use Rattle.std.proofs.Common.{eqb, ap, sym, ◌∙◌}
use Rattle.std.proofs.lemmas.List.{length-map}
use Rattle.rp_logic.specs.Views.{term_view}
use Rattle.refute_branch.proofs.shape.no_terms.Goals as goal

pub returns : goal.returns
returns c = ap (λ n. eqb n 0) (c.len.ensures.length ∙ sym (length-map c.args.u.now.terms term_view))
