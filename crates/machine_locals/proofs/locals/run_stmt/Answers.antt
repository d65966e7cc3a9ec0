use Rattle.std.proofs.Common.{◌≡◌, ℕ, ◌+◌, ◌≤◌, List, slice_get, ap, ◌∙◌, sym, arith}
use Rattle.rp_lang.specs.ProgramView.{program_view}
use Rattle.rp_lang.specs.Stmts.{St, If}
use Rattle.rp_lang.specs.declared.stmt.StmtArm.{StmtArm}
use Rattle.rp_lang.specs.Views.{expr_view, formula_view, stmt_view, stmts_view, kind_view, stmt_arms_view}
use Rattle.rp_lang.proofs.StmtViews.{stmt_view-what, kind_view-Put, kind_view-Decide, kind_view-New, kind_view-Operate, kind_view-If, kind_view-Match, kind_view-Atomic, kind_view-Assert}
use Rattle.code_points.specs.Points.{inner, size, arms_size, arms_from, does_at}
use Rattle.event_machine.specs.Code.{Code, Choose, Match}
use Rattle.event_machine.specs.Machine as spec
use Rattle.event_machine.specs.States as seen
use Rattle.machine_locals.proofs.LocalLemmas.{local_nothing, quiet_return}
use Rattle.machine_locals.proofs.PartLemmas.{then_told, arms_told}
use Rattle.machine_state.specs.StateView.{left_of}
use Rattle.machine_locals.proofs.locals.run_stmt.Goals as goal

pub put-requires-clause-next : goal.put-requires-clause-next
put-requires-clause-next c = λ inv at.
    c.requires.next inv at
    ∙ ap (λ (s : St). does_at (left_of (slice_get (program_view c.args.p.now).procs inv.proc)) c.args.at s)
    (stmt_view-what c.args.stmt.now ∙ ap (λ k. kind_view k c.args.stmt.now.at) c.in-Put.is ∙ kind_view-Put _ _ _)

pub decide-requires-clause-next : goal.decide-requires-clause-next
decide-requires-clause-next c = λ inv at.
    c.requires.next inv at
    ∙ ap (λ (s : St). does_at (left_of (slice_get (program_view c.args.p.now).procs inv.proc)) c.args.at s)
    (stmt_view-what c.args.stmt.now ∙ ap (λ k. kind_view k c.args.stmt.now.at) c.in-Decide.is ∙ kind_view-Decide _ _ _)

pub overflow_add-other-in-If : goal.overflow_add-other-in-If
overflow_add-other-in-If c =
    let is : stmt_view c.args.stmt.now ≡ If c.args.stmt.now.at (formula_view c.in-If.f) (stmts_view c.in-If._then) (stmts_view c.in-If._else) =
    stmt_view-what c.args.stmt.now ∙ ap (λ k. kind_view k c.args.stmt.now.at) c.in-If.is ∙ kind_view-If _ _ _ _ in
    let found : c.rest_at.result ≡ size (stmts_view c.in-If._then) = then_told c.args.p.now c.args.s.now c.args.i c.args.at _ c.args.stmt.now.at (formula_view c.in-If.f) (stmts_view c.in-If._then) (stmts_view c.in-If._else) c.rest_at.result
    c.requires.fits c.requires.within is c.requires.told c.rest_at.ensures in
    let points : inner (stmt_view c.args.stmt.now) ≡ size (stmts_view c.in-If._then) + 1 + (size (stmts_view c.in-If._else) + 1) = ap inner is in
    let room : c.args.at + inner (stmt_view c.args.stmt.now) + 1 ≤ 18446744073709551614 = c.requires.room in
    omega arith

pub overflow_add-other-in-If-2 : goal.overflow_add-other-in-If-2
overflow_add-other-in-If-2 c =
    let is : stmt_view c.args.stmt.now ≡ If c.args.stmt.now.at (formula_view c.in-If.f) (stmts_view c.in-If._then) (stmts_view c.in-If._else) =
    stmt_view-what c.args.stmt.now ∙ ap (λ k. kind_view k c.args.stmt.now.at) c.in-If.is ∙ kind_view-If _ _ _ _ in
    let found : c.rest_at.result ≡ size (stmts_view c.in-If._then) = then_told c.args.p.now c.args.s.now c.args.i c.args.at _ c.args.stmt.now.at (formula_view c.in-If.f) (stmts_view c.in-If._then) (stmts_view c.in-If._else) c.rest_at.result
    c.requires.fits c.requires.within is c.requires.told c.rest_at.ensures in
    let points : inner (stmt_view c.args.stmt.now) ≡ size (stmts_view c.in-If._then) + 1 + (size (stmts_view c.in-If._else) + 1) = ap inner is in
    let room : c.args.at + inner (stmt_view c.args.stmt.now) + 1 ≤ 18446744073709551614 = c.requires.room in
    omega arith

pub choose-requires-clause-next : goal.choose-requires-clause-next
choose-requires-clause-next c = λ inv at.
    let from : ℕ → Code = left_of (slice_get (program_view c.args.p.now).procs inv.proc) in
    let n = c.args.at in
    let then_ = stmts_view c.in-If._then in
    let else_ = stmts_view c.in-If._else in
    let is : stmt_view c.args.stmt.now ≡ If c.args.stmt.now.at (formula_view c.in-If.f) then_ else_ =
    stmt_view-what c.args.stmt.now ∙ ap (λ k. kind_view k c.args.stmt.now.at) c.in-If.is ∙ kind_view-If _ _ _ _ in
    let found : c.rest_at.result ≡ size then_ = then_told c.args.p.now c.args.s.now c.args.i n _ c.args.stmt.now.at (formula_view c.in-If.f) then_ else_ c.rest_at.result
    c.requires.fits c.requires.within is c.requires.told c.rest_at.ensures in
    c.requires.next inv at
    ∙ ap (λ (s : St). does_at from n s) is
    ∙ ap (λ m. Choose (formula_view c.in-If.f) (from (n + 1)) (from (n + 1 + (m + 1)))) (sym found)

pub enter-requires-clause-next : goal.enter-requires-clause-next
enter-requires-clause-next c = λ inv at.
    let from : ℕ → Code = left_of (slice_get (program_view c.args.p.now).procs inv.proc) in
    c.requires.next inv at
    ∙ ap (λ (s : St). does_at from c.args.at s) (stmt_view-what c.args.stmt.now ∙ ap (λ k. kind_view k c.args.stmt.now.at) c.in-Match.is ∙ kind_view-Match _ _ _)
    ∙ ap (λ (xs : List StmtArm). Match (expr_view c.in-Match.on) (arms_from from (stmt_arms_view xs) (c.args.at + 1))) (sym c.as_slice.ensures.items)

pub enter-requires-clause-room : goal.enter-requires-clause-room
enter-requires-clause-room c =
    let points : inner (stmt_view c.args.stmt.now) ≡ arms_size (stmt_arms_view c.in-Match.arms) =
    ap inner (stmt_view-what c.args.stmt.now ∙ ap (λ k. kind_view k c.args.stmt.now.at) c.in-Match.is ∙ kind_view-Match _ _ _) in
    let same : arms_size (stmt_arms_view c.as_slice.result.now) ≡ arms_size (stmt_arms_view c.in-Match.arms) =
    ap (λ (xs : List StmtArm). arms_size (stmt_arms_view xs)) c.as_slice.ensures.items in
    let room : c.args.at + inner (stmt_view c.args.stmt.now) + 1 ≤ 18446744073709551614 = c.requires.room in
    omega arith

pub enter-requires-clause-told : goal.enter-requires-clause-told
enter-requires-clause-told c =
    arms_told c.args.s.now c.args.i c.args.at _ c.args.stmt.now.at (expr_view c.in-Match.on) (stmt_arms_view c.in-Match.arms) _
    (stmt_view-what c.args.stmt.now ∙ ap (λ k. kind_view k c.args.stmt.now.at) c.in-Match.is ∙ kind_view-Match _ _ _)
    (ap stmt_arms_view c.as_slice.ensures.items) c.requires.told

pub test-requires-clause-next : goal.test-requires-clause-next
test-requires-clause-next c = λ inv at.
    c.requires.next inv at
    ∙ ap (λ (s : St). does_at (left_of (slice_get (program_view c.args.p.now).procs inv.proc)) c.args.at s)
    (stmt_view-what c.args.stmt.now ∙ ap (λ k. kind_view k c.args.stmt.now.at) c.in-Assert.is ∙ kind_view-Assert _ _)

pub returns-in-New-clause-ok : goal.returns-in-New-clause-ok
returns-in-New-clause-ok c =
    local_nothing c.args.p.now c.args.s.now c.args.i c.requires.fits c.requires.within
    (λ inv at. ap (λ code. spec.is_same seen.ToLocal (spec.next_action code)) (c.requires.next inv at)
    ∙ ap (λ (s : St). spec.is_same seen.ToLocal (spec.next_action (does_at (left_of (slice_get (program_view c.args.p.now).procs inv.proc)) c.args.at s)))
    (stmt_view-what c.args.stmt.now ∙ ap (λ k. kind_view k c.args.stmt.now.at) c.in-New.is ∙ kind_view-New _ _ _))

pub returns-in-Operate-clause-ok : goal.returns-in-Operate-clause-ok
returns-in-Operate-clause-ok c =
    local_nothing c.args.p.now c.args.s.now c.args.i c.requires.fits c.requires.within
    (λ inv at. ap (λ code. spec.is_same seen.ToLocal (spec.next_action code)) (c.requires.next inv at)
    ∙ ap (λ (s : St). spec.is_same seen.ToLocal (spec.next_action (does_at (left_of (slice_get (program_view c.args.p.now).procs inv.proc)) c.args.at s)))
    (stmt_view-what c.args.stmt.now ∙ ap (λ k. kind_view k c.args.stmt.now.at) c.in-Operate.is ∙ kind_view-Operate _ _ _))

pub returns-in-Atomic-clause-ok : goal.returns-in-Atomic-clause-ok
returns-in-Atomic-clause-ok c =
    local_nothing c.args.p.now c.args.s.now c.args.i c.requires.fits c.requires.within
    (λ inv at. ap (λ code. spec.is_same seen.ToLocal (spec.next_action code)) (c.requires.next inv at)
    ∙ ap (λ (s : St). spec.is_same seen.ToLocal (spec.next_action (does_at (left_of (slice_get (program_view c.args.p.now).procs inv.proc)) c.args.at s)))
    (stmt_view-what c.args.stmt.now ∙ ap (λ k. kind_view k c.args.stmt.now.at) c.in-Atomic.is ∙ kind_view-Atomic _ _))

pub returns-in-Return-clause-ok : goal.returns-in-Return-clause-ok
returns-in-Return-clause-ok c =
    local_nothing c.args.p.now c.args.s.now c.args.i c.requires.fits c.requires.within
    (λ inv at.
    let from : ℕ → Code = left_of (slice_get (program_view c.args.p.now).procs inv.proc) in
    ap (λ code. spec.is_same seen.ToLocal (spec.next_action code)) (c.requires.next inv at)
    ∙ ap (λ (s : St). spec.is_same seen.ToLocal (spec.next_action (does_at from c.args.at s))) (stmt_view-what c.args.stmt.now ∙ ap (λ k. kind_view k c.args.stmt.now.at) c.in-Return.is)
    ∙ quiet_return from c.args.at c.args.stmt.now.at c.in-Return._e)
