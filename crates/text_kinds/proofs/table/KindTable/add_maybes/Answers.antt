use Rattle.std.proofs.Common.{◌+◌, refl}
use Rattle.text_kinds.specs.Seen.{kinds_view}
use Rattle.text_kinds.proofs.KindsAdded.{adds_maybe}
use Rattle.text_kinds.proofs.table.KindTable.add_maybes.Goals as goal

pub loop-held-preserved : goal.loop-held-preserved
loop-held-preserved c =
    adds_maybe c.args.base c.loop-held.held (c.loop-held.held + 1) (kinds_view c.args.self.now) (kinds_view c.loop-held.self)
    (kinds_view c.add_maybe.new.self) refl c.loop-held.invariant c.in_ok-add_maybe.ensures
