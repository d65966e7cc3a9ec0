use Rattle.std.proofs.Common.{◌≡◌, ℕ, ◌<◌, ◌≤◌, [], true, false, List, Some, None, map, length, slice_get, slice_set, ap, ◌∙◌, refl, sym, subst, arith}
use Rattle.std.specs.List.{list_all}
use Rattle.rp_value.specs.declared.value.Value.{Value}
use Rattle.rp_value.specs.ValueView.{value_view}
use Rattle.rp_lang.specs.ProgramView.{program_view}
use Rattle.rp_lang.specs.Views.{exprs_view}
use Rattle.rp_lang.specs.declared.event.Event.TheVariants as event
use Rattle.crdt_defs.specs.declared.call.CallRec.{CallRec}
use Rattle.crdt_defs.specs.Atoms.{ints_fit}
use Rattle.crdt_defs.specs.Calls.{call_view, calls_view}
use Rattle.crdt_defs.specs.Truths.{values}
use Rattle.crdt_lib.proofs.HistoryLemmas.{seen_length}
use Rattle.event_machine.specs.Code as left
use Rattle.event_machine.specs.Code.{Code}
use Rattle.event_machine.specs.Machine as spec
use Rattle.event_machine.specs.States as seen
use Rattle.machine_bounds.specs.NextWithin.{NextWithin}
use Rattle.machine_effects.specs.Steps.{Does}
use Rattle.machine_effects.proofs.EffectLemmas.{past_low}
use Rattle.machine_operate.proofs.OperateLemmas.{op_limit, calls_limit, operation_some, operate_nothing, operate_alone, operate_does, args_are}
use Rattle.machine_reads.specs.Reads.{read_at}
use Rattle.machine_state.specs.declared.state.Run.{Run}
use Rattle.machine_state.specs.declared.state.State.{State}
use Rattle.machine_state.specs.StateView.{inv_view, left_of}
use Rattle.machine_state.proofs.StateLemmas.{one_found, viewed}
use Rattle.machine_operate.proofs.operation.operate.Goals as goal

pub returns-then-len-ge-MOST-clause-err : goal.returns-then-len-ge-MOST-clause-err
returns-then-len-ge-MOST-clause-err c =
    let s : State = c.args.s.now in
    let full : 16384 ≤ length s.history = omega (arith, c.if-len-ge-MOST.true, c.len.ensures.length) in
    (refl, calls_limit c.args.p.now s c.args.i c.args.stamp full)

pub returns-in_default-clause-ok : goal.returns-in_default-clause-ok
returns-in_default-clause-ok c =
    let s : State = c.args.s.now in
    let same : length s.infos ≡ length s.runs = c.requires.fits.kept.runs in
    let within : c.args.i < length s.runs = omega (arith, c.requires.within) in
    let room : length s.history < 16384 = omega (arith, c.if-len-ge-MOST.false, c.len.ensures.length) in
    let it = viewed (program_view c.args.p.now) s c.args.i same within in
    operate_nothing c.args.p.now s c.args.i c.args.stamp _ c.requires.fits room it.is (sym (c.in_default.ensures _ it.is))

pub values_at-requires-clause-bounded : goal.values_at-requires-clause-bounded
values_at-requires-clause-bounded c = λ inv at.
    let p = c.args.p.now in
    let s : State = c.args.s.now in
    let next = left_of (slice_get (program_view p).procs inv.proc) c.in-Some.at in
    let operates = operation_some inv.left (c.in-Some.op, exprs_view c.in-Some.exprs.now, next) (sym (c.in-Some.ensures inv at)) in
    subst (λ (code : Code). NextWithin (read_at p s inv) code) operates (c.next_is_within.ensures inv at)

pub returns-then-not-all_ints_fit-clause-err : goal.returns-then-not-all_ints_fit-clause-err
returns-then-not-all_ints_fit-clause-err c =
    let p = c.args.p.now in
    let v = program_view p in
    let s : State = c.args.s.now in
    let same : length s.infos ≡ length s.runs = c.requires.fits.kept.runs in
    let within : c.args.i < length s.runs = omega (arith, c.requires.within) in
    let room : length s.history < 16384 = omega (arith, c.if-len-ge-MOST.false, c.len.ensures.length) in
    let it = viewed v s c.args.i same within in
    let inv = inv_view v (calls_view s.history) it.info it.run in
    let next = left_of (slice_get v.procs it.info.proc) c.in-Some.at in
    let operates = operation_some inv.left (c.in-Some.op, exprs_view c.in-Some.exprs.now, next) (sym (c.in-Some.ensures inv it.is)) in
    let args : List Value = c.in_ok-args.args in
    let wide : list_all ints_fit (map value_view args) ≡ false = ap (λ (xs : List Value). list_all ints_fit (map value_view xs)) (sym c.as_slice.ensures.items) ∙ sym c.if-not-all_ints_fit.ensures in
    let vals = args_are args (values (read_at p s inv) [] (exprs_view c.in-Some.exprs.now)) (c.in_ok-args.ensures.values inv it.is) in
    (refl, op_limit p s c.args.i c.args.stamp inv (left.Operate c.in-Some.op (exprs_view c.in-Some.exprs.now) next) false room it.is operates (ap (list_all ints_fit) (sym vals) ∙ wide))

pub returns-in_default-tx-clause-ok : goal.returns-in_default-tx-clause-ok
returns-in_default-tx-clause-ok c =
    let p = c.args.p.now in
    let v = program_view p in
    let s : State = c.args.s.now in
    let same : length s.infos ≡ length s.runs = c.requires.fits.kept.runs in
    let within : c.args.i < length s.runs = omega (arith, c.requires.within) in
    let room : length s.history < 16384 = omega (arith, c.if-len-ge-MOST.false, c.len.ensures.length) in
    let it = viewed v s c.args.i same within in
    let inv = inv_view v (calls_view s.history) it.info it.run in
    let next = left_of (slice_get v.procs it.info.proc) c.in-Some.at in
    let operates = operation_some inv.left (c.in-Some.op, exprs_view c.in-Some.exprs.now, next) (sym (c.in-Some.ensures inv it.is)) in
    let args : List Value = c.in_ok-args.args in
    let fit : list_all ints_fit (map value_view args) ≡ true = ap (λ (xs : List Value). list_all ints_fit (map value_view xs)) (sym c.as_slice.ensures.items) ∙ sym c.if-not-all_ints_fit.ensures in
    let vals = args_are args (values (read_at p s inv) [] (exprs_view c.in-Some.exprs.now)) (c.in_ok-args.ensures.values inv it.is) in
    let alone : it.run.tx ≡ None = ap (λ (run : Run). run.tx) (one_found (slice_get s.runs c.args.i) it.run c.get.result.now it.is_run c.get.ensures) ∙ c.in_default-tx.is in
    operate_alone p s c.args.i c.args.stamp inv (left.Operate c.in-Some.op (exprs_view c.in-Some.exprs.now) next) c.requires.fits room it.is operates alone (ap (list_all ints_fit) (sym vals) ∙ fit)

pub push-requires : goal.push-requires
push-requires c =
    let p = c.args.p.now in
    let v = program_view p in
    let s : State = c.args.s.now in
    let calls = calls_view s.history in
    let same : length s.infos ≡ length s.runs = c.requires.fits.kept.runs in
    let within : c.args.i < length s.runs = omega (arith, c.requires.within) in
    let room : length s.history < 16384 = omega (arith, c.if-len-ge-MOST.false, c.len.ensures.length) in
    let it = viewed v s c.args.i same within in
    record {
      room = room;
      earlier = past_low _ (spec.reading_set calls (inv_view v calls it.info it.run)) (length calls) (length s.history) (c.in_ok-past.ensures.calls it.run it.is_run) (seen_length s.history);
      ascending = c.in_ok-past.ensures.ascending;
      ints = ap (λ (xs : List Value). list_all ints_fit (map value_view xs)) (sym c.as_slice.ensures.items) ∙ sym c.if-not-all_ints_fit.ensures;
    }

pub returns-clause-ok : goal.returns-clause-ok
returns-clause-ok c =
    let p = c.args.p.now in
    let v = program_view p in
    let s : State = c.args.s.now in
    let i = c.args.i in
    let stamp = c.args.stamp in
    let calls = calls_view s.history in
    let same : length s.infos ≡ length s.runs = c.requires.fits.kept.runs in
    let within : i < length s.runs = omega (arith, c.requires.within) in
    let room : length s.history < 16384 = omega (arith, c.if-len-ge-MOST.false, c.len.ensures.length) in
    let it = viewed v s i same within in
    let run : Run = it.run in
    let inv = inv_view v calls it.info run in
    let op = c.in-Some.op in
    let at = c.in-Some.at in
    let tx = c.in-Some-tx.tx in
    let exprs = exprs_view c.in-Some.exprs.now in
    let next = left_of (slice_get v.procs it.info.proc) at in
    let operates = operation_some inv.left (op, exprs, next) (sym (c.in-Some.ensures inv it.is)) in
    let own : run.tx ≡ Some tx = ap (λ (run : Run). run.tx) (one_found (slice_get s.runs i) run c.get.result.now it.is_run c.get.ensures) ∙ c.in-Some-tx.is in
    let args : List Value = c.in_ok-args.args in
    let vals = args_are args (values (read_at p s inv) [] exprs) (c.in_ok-args.ensures.values inv it.is) in
    let fit : list_all ints_fit (map value_view args) ≡ true = ap (λ (xs : List Value). list_all ints_fit (map value_view xs)) (sym c.as_slice.ensures.items) ∙ sym c.if-not-all_ints_fit.ensures in
    let call : CallRec = record { op = op; args = args; inv = i; tx = tx; stamp = stamp; past = c.in_ok-past.past } in
    let is_call = ap (λ (xs : List ℕ). call_view (record call { past = xs })) (c.in_ok-past.ensures.calls run it.is_run) in
    subst (λ (rs : List Run). Does p s (seen.Op i stamp) (record s { history = c.push.new.self; runs = rs }) event.Moved) (sym (c.go_on.ensures run it.is_run))
    (subst (λ (h : List CallRec). Does p s (seen.Op i stamp) (record s { history = h; runs = slice_set s.runs i (record run { at = at }) }) event.Moved) (sym c.in_ok-push.ensures.ok)
    (operate_does p s i stamp tx op at exprs (map value_view args) it.info run call next c.requires.fits it.is_info it.is_run room own operates refl vals fit is_call))
