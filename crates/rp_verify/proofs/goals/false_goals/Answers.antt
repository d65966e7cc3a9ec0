use Rattle.std.proofs.Common.{◌∙◌, ◌++◌, ◌≤◌, List, length, map, All, refl, ap, sym, subst, arith}
use Rattle.rp_lang.specs.declared.proc.ProcDecl.{ProcDecl}
use Rattle.rp_lang.specs.Views.{proc_view}
use Rattle.event_machine.specs.Goals.{goals_from}
use Rattle.rp_verify.specs.declared.walk.Walk.{Walk}
use Rattle.rp_verify.specs.Verdicts.{unproved_from}
use Rattle.rp_verify.proofs.FirstFormLemmas.{HasFewParams, few_params}
use Rattle.rp_verify.proofs.ProcLemmas.{length-goals_from, sum_split, room_more, found_more, found_all}
use Rattle.rp_verify.proofs.goals.false_goals.Goals as goal

pub loop-i-init : goal.loop-i-init
loop-i-init c = record {
  at_start = c.new.ensures;
  room = refl;
  told = ap (λ list. list ++ unproved_from 1 (goals_from 0 (map proc_view c.as_slice-procs.result.now))) c.new-2.ensures;
}

pub add_false_goals-requires-clause-room : goal.add_false_goals-requires-clause-room
add_false_goals-requires-clause-room c =
    let procs = c.as_slice-procs.result.now in
    let few : length (goals_from 0 (map proc_view procs)) ≤ 2048 =
    subst (λ (procs : List ProcDecl). length (goals_from 0 (map proc_view procs)) ≤ 2048) (sym c.as_slice-procs.ensures.items) c.requires.few in
    let whole = length-goals_from 0 (map proc_view procs) in
    let split = sum_split procs c.loop-i.i c.index-procs-i.result (omega arith) c.index-procs-i.is in
    omega arith

pub add_false_goals-requires-clause-eight : goal.add_false_goals-requires-clause-eight
add_false_goals-requires-clause-eight c =
    let q = c.index-procs-i.result in
    let few : All HasFewParams c.as_slice-procs.result.now =
    subst (All HasFewParams) (sym c.as_slice-procs.ensures.items) (few_params c.args.program.now.procs c.requires.first_form.procs) in
    subst HasFewParams (sym c.index-procs-i.is) (few c.loop-i.i q (omega arith))

pub loop-i-preserved : goal.loop-i-preserved
loop-i-preserved c =
    let procs = c.as_slice-procs.result.now in
    let q = c.index-procs-i.result in
    let old = c.loop-i.walk in
    let new = c.add_false_goals.new.walk in
    let moved = c.in_ok-add_false_goals.ensures in
    let next = ap (λ (w : Walk). w.next) moved in
    record {
      at_start = ap (λ (w : Walk). w.path) moved ∙ c.loop-i.invariant.at_start;
      room = room_more procs c.loop-i.i q old.next new.next _ (omega arith) c.index-procs-i.is next c.loop-i.invariant.room;
      told =
          found_more procs c.loop-i.i q old.next new.next old.list new.list _ (omega arith) c.index-procs-i.is next (ap (λ (w : Walk). w.list) moved)
          c.loop-i.invariant.told;
    }

pub returns : goal.returns
returns c =
    found_all c.as_slice-procs.result.now c.loop-i.i c.loop-i.walk.next c.loop-i.walk.list _ (omega arith) c.loop-i.invariant.told
    ∙ ap (λ (procs : List ProcDecl). unproved_from 1 (goals_from 0 (map proc_view procs))) c.as_slice-procs.ensures.items
