use Rattle.std.proofs.Common.{◌++◌, map, ap, ◌∙◌}
use Rattle.rp_logic.specs.Views.{term_view}
use Rattle.crdt_enc.specs.Builders.{selectors}
use Rattle.axiom_forms.proofs.Built.{built_is}
use Rattle.place_axioms.proofs.spots.built.Goals as goal

pub returns : goal.returns
returns c =
    let t = term_view c.args.t.now in
    built_is c.args.con c.args.places t _
    (c.in_ok-push_selectors.ensures ∙ ap (λ ps. map term_view ps ++ selectors c.args.con 0 c.args.places t) c.new-parts.ensures)
