use Rattle.std.proofs.Common.{◌∙◌, ap, map, slice_get}
use Rattle.rp_value.specs.ValueView.{value_view}
use Rattle.rp_lang.specs.Paths.{root_crdt}
use Rattle.rp_lang.specs.Views.{root_view}
use Rattle.crdt_defs.specs.Calls.{calls_view}
use Rattle.crdt_defs.specs.Queries as spec
use Rattle.crdt_lib.proofs.query.answer_in_rows.Goals as goal

pub returns : goal.returns
returns g c =
    let query = c.args.query.now in
    c.ask_root.ensures
    ∙ ap (λ set. spec.ask c.args.ops.now (calls_view c.args.h.now) query.kind (root_crdt (slice_get (map root_view c.args.roots.now) query.root)) query.path 0 set (map value_view c.args.args.now)) c.mark.ensures
