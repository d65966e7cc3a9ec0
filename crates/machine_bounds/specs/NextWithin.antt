-- What the next action of an invocation evaluates stays within 128 bits.
use Rattle.std.specs.Prelude.{[], Some, None}
use Rattle.crdt_defs.specs.Truths.{Reading}
use Rattle.crdt_truth.specs.Within.{ExWithin, ExsWithin, FoWithin}
use Rattle.event_machine.specs.Code as left
use Rattle.event_machine.specs.Code.{Code}

abbrev pub NextWithin : Reading → Code → Type 0
NextWithin r (left.Put slot e next) = ExWithin r [] e
NextWithin r (left.Decide slot f next) = FoWithin r [] f
NextWithin r (left.New slot of next) = Unit
NextWithin r (left.Operate op args next) = ExsWithin r [] args
NextWithin r (left.Assert at f next) = FoWithin r [] f
NextWithin r (left.Choose f then_ else_) = FoWithin r [] f
NextWithin r (left.Match on arms) = ExWithin r [] on
NextWithin r (left.Begin next) = Unit
NextWithin r (left.End at next) = Unit
NextWithin r (left.Return at None) = Unit
NextWithin r (left.Return at (Some e)) = ExWithin r [] e
