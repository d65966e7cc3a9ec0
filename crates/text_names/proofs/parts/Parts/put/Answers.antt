use Rattle.std.proofs.Common.{ap, sym, ◌∙◌, subst}
use Rattle.std.specs.List.{slice_get}
use Rattle.rp_ast.specs.View.{crdt_view}
use Rattle.text_names.specs.declared.parts.PartItem.{PartItem}
use Rattle.text_names.specs.Parts.{ArePlaced, trees_of}
use Rattle.text_names.proofs.Placed.{either, last_there, placed_push}
use Rattle.text_names.proofs.parts.Parts.put.Goals as goal

pub invariant_of-self : goal.invariant_of-self
invariant_of-self c =
    let item : PartItem = record { crdt = c.args.crdt; inside = c.args.inside } in
    record {
      placed = either c.push.result c.push.ensures.ok c.push.ensures.err
          (λ e. subst ArePlaced (sym e) (placed_push c.args.self.now.items item c.args.self.now.placed c.requires))
          (λ e. subst ArePlaced (sym e) c.args.self.now.placed);
    }

pub returns-clause-placed : goal.returns-clause-placed
returns-clause-placed c =
    let item : PartItem = record { crdt = c.args.crdt; inside = c.args.inside } in
    ap (λ items. slice_get (trees_of items) c.count-place.result) c.in_ok-push.ensures.ok
    ∙ last_there (λ (i : PartItem). crdt_view i.crdt.now) c.args.self.now.items item c.count-place.result
    c.count-place.ensures.length
