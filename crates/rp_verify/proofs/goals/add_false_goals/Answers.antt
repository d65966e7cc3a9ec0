use Rattle.std.proofs.Common.{◌≡◌, ◌+◌, ◌++◌, [], ◌∙◌, List, length, map, ap}
use Rattle.rp_lang.specs.Views.{proc_view}
use Rattle.event_machine.specs.Checks.{Done, stmts_checks}
use Rattle.event_machine.specs.Goals.{proc_goals}
use Rattle.event_machine.specs.Tests.{all_values}
use Rattle.rp_verify.specs.declared.verdict.Unproved.{Unproved}
use Rattle.rp_verify.specs.means.Counted.{proc_assertions}
use Rattle.rp_verify.specs.means.Found.{found_in}
use Rattle.rp_verify.specs.Verdicts.{unproved_from}
use Rattle.rp_verify.proofs.RowLemmas.{OnOk-implies}
use Rattle.rp_verify.proofs.PadLemmas.{padded}
use Rattle.rp_verify.proofs.ProcLemmas.{found-proc}
use Rattle.rp_verify.proofs.goals.add_false_goals.Goals as goal

pub returns : goal.returns
returns c =
    let q = proc_view c.args.proc.now in
    let walk = c.args.walk.now in
    let rows : c.as_slice.result.now ≡ map padded (all_values (length q.params)) =
    c.as_slice.ensures.value ∙ (c.in_ok-rows.ensures ∙ ap (λ n. map padded (all_values n)) c.len.ensures.length) in
    let found : found_in c.args.number walk.path walk.next c.as_slice.result.now (stmts_checks q.body Done) ≡ unproved_from walk.next (proc_goals c.args.number q) =
    ap (λ path. found_in c.args.number path walk.next c.as_slice.result.now (stmts_checks q.body Done)) c.requires.at_start
    ∙ (ap (λ rows. found_in c.args.number [] walk.next rows (stmts_checks q.body Done)) rows
    ∙ found-proc c.args.number walk.next q) in
    let with_list = λ (list : List Unproved). record walk { proc = c.args.number; next = walk.next + proc_assertions q; list = walk.list ++ list } in
    OnOk-implies c.follow_body.result (λ e. e ∙ ap with_list found) c.follow_body.ensures
