use Rattle.std.proofs.Common.{◌≡◌, false, List, nat_eq, subst}
use Rattle.std.specs.List.{list_any}
use Rattle.std.proofs.lemmas.Bool.{ltb-true}
use Rattle.crdt_defs.specs.declared.call.CallRec.{CallRec}
use Rattle.crdt_defs.specs.Calls.{calls_view}
use Rattle.machine_tests.proofs.indexed.IndexedHistory.is_above_all.Goals as goal

pub returns : goal.returns
returns c = λ above.
    subst (λ (calls : List CallRec). list_any (λ call. nat_eq call.stamp c.args.stamp) (calls_view calls) ≡ false) c.self.view_is (c.self.invariant.stamps c.args.stamp (ltb-true c.self.inside.top c.args.stamp above))
