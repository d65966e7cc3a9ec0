use Rattle.std.proofs.Common.{rules, ◌≡◌, OnOk, subst}
use Rattle.rp_lang.specs.ProgramView.{program_view}
use Rattle.rp_logic.specs.Terms as tm
use Rattle.rp_logic.specs.Views.{formulas_view}
use Rattle.crdt_enc.specs.QueryFormulas as spec
use Rattle.query_enc.specs.WayView.{way_view}
use Rattle.query_enc.proofs.Stays.{stays-Root, stays-AtKey}
use Rattle.query_enc.proofs.staying.+push_stays.Goals as goal

pub returns-in-Root : goal.returns-in-Root
returns-in-Root t c = stays-Root (program_view c.args.p.now) _ _ _ _ _ c.in-Root.is

pub returns-in_ok-push_stays-in-AtKey-2 : goal.returns-in_ok-push_stays-in-AtKey-2
returns-in_ok-push_stays-in-AtKey-2 t c =
    let kept : formulas_view c.as_slice.result.now ≡ spec.stays (program_view c.args.p.now) c.args.view c.in_ok-plus-in-AtKey.field-0 (way_view c.in-AtKey.before.now) (tm.Var 0) = search (rules, c.as_slice.ensures.items, c.in_ok-push_stays-in-AtKey-2.ensures, c.new-kept.ensures) in
    subst (λ x. OnOk c.push_deletes.result (formulas_view c.push_deletes.new.out ≡ x)) (stays-AtKey (program_view c.args.p.now) _ _ _ _ _ _ _ _ _ _ c.in-AtKey.is c.in_ok-push_stays-in-AtKey.ensures c.in_ok-plus-in-AtKey.ensures kept) c.push_deletes.ensures
