use Rattle.std.proofs.Common.{◌∙◌, ap}
use Rattle.rp_value.specs.ValueView.{value_view}
use Rattle.rp_lang.specs.declared.op.OpKind.TheVariants.{Assign}
use Rattle.crdt_defs.specs.Calls.{calls_view}
use Rattle.crdt_defs.specs.Snapshots.{bit}
use Rattle.crdt_defs.specs.Doing as spec
use Rattle.crdt_defs.specs.Meaning.{among, one_stays}
use Rattle.crdt_lib.proofs.answer.has_value.Goals as goal

pub returns : goal.returns
returns c =
    let h = calls_view c.args.h.now in
    c.any_stays.ensures ∙ ap (λ those. one_stays h (among h (bit c.args.counted.now) (spec.does c.args.ops.now Assign (value_view c.args.x.now))) those) c.pick_kind-count.ensures.picked
