use Rattle.std.proofs.Common.{ap, ap₂, sym, ◌∙◌, max, map}
use Rattle.rp_logic.specs.Views.{terms_view, atom_view}
use Rattle.refute_defs.specs.Views.{use_view}
use Rattle.spent_tests.specs.Views.{ranked_view}
use Rattle.spent_tests.specs.means.NamedRanks.{rank_of_places, rank_of_terms, rank_of_atoms}
use Rattle.spent_tests.proofs.NamedRanks.{named_rank_is}
use Rattle.spent_tests.proofs.ranks.named_rank.Goals as goal

pub returns : goal.returns
returns c =
    let b = ranked_view c.args.b.now in
    c.greater.ensures
    ∙ ap₂ max (c.places_rank.ensures ∙ ap (rank_of_places b) c.as_slice-3.ensures.items)
    (c.greater-terms.ensures
    ∙ ap₂ max (c.terms_rank.ensures ∙ ap (λ ts. rank_of_terms b (terms_view ts)) c.as_slice.ensures.items)
    (c.atoms_rank.ensures ∙ ap (λ ats. rank_of_atoms b (map atom_view ats)) c.as_slice-2.ensures.items))
    ∙ sym (named_rank_is b (use_view c.args.u.now))
