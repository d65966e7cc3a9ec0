use Rattle.std.proofs.Common.{List, ap, ◌∙◌, slice_set}
use Rattle.crdt_truth.specs.declared.reading.Info.{Info}
use Rattle.machine_state.specs.declared.state.Run.{Run}
use Rattle.machine_state.specs.declared.state.State.{State}
use Rattle.machine_returns.proofs.returning.give.Goals as goal

pub returns : goal.returns
returns c = λ info run at_info at_run.
    let s : State = c.args.s.now in
    ap (λ (is : List Info). record s { infos = is; runs = c.stand.new.self }) (c.end.ensures info at_info)
    ∙ ap (λ (rs : List Run). record s { infos = slice_set s.infos c.args.i (record info { outcome = c.args.outcome }); runs = rs }) (c.stand.ensures run at_run)
