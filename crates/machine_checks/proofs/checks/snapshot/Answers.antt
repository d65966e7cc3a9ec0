use Rattle.std.proofs.Common.{List, [], map, ap, ◌∙◌}
use Rattle.rp_lang.specs.ProgramView.{program_view}
use Rattle.crdt_defs.specs.declared.call.CallRec.{CallRec}
use Rattle.crdt_defs.specs.Calls.{calls_view}
use Rattle.crdt_defs.specs.Parts.{Parts}
use Rattle.crdt_truth.specs.Readings.{info_view, seen_in}
use Rattle.machine_checks.proofs.SnapshotLemmas.{lent_is}
use Rattle.machine_checks.proofs.checks.snapshot.Goals as goal

pub returns-clause-is : goal.returns-clause-is
returns-clause-is c =
    let committed = c.as_slice.result.now in
    let infos = c.as_slice-2.result.now in
    let lent = ap (λ (calls : List CallRec). record { universe = c.args.s.now.universe; calls = calls_view calls; committed = committed; infos = map info_view infos }) c.history.ensures in
    ap (λ (q : Parts). record { program = program_view c.args.p.now; parts = q; visible = seen_in c.args.view.now; slots = [] })
    (lent ∙ lent_is c.args.p.now c.args.s.now committed infos c.requires c.as_slice.ensures.items c.as_slice-2.ensures.items)
