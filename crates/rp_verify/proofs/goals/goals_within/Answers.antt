use Rattle.std.proofs.Common.{◌≡◌, ◌∙◌, ◌<◌, ◌≤◌, List, min, map, All, length, ap, subst, arith}
use Rattle.rp_lang.specs.declared.proc.ProcDecl.{ProcDecl}
use Rattle.rp_lang.specs.Views.{proc_view, stmts_view}
use Rattle.event_machine.specs.Checks.{Done, stmts_checks, paths}
use Rattle.event_machine.specs.Goals.{goals_from}
use Rattle.rp_verify.specs.means.Counted.{assertions, proc_assertions}
use Rattle.rp_verify.specs.Verdicts.{proc_paths, HasFewPaths, IsFirstPast}
use Rattle.rp_verify.proofs.ProcLemmas.{few_more, counted_more, few_all, counted_all, first_past}
use Rattle.rp_verify.proofs.goals.goals_within.Goals as goal

pub returns-then-counts-gt-MOST_PATHS-clause-past : goal.returns-then-counts-gt-MOST_PATHS-clause-past
returns-then-counts-gt-MOST_PATHS-clause-past c =
    let q = c.index-procs-i.result in
    let counted : c.body_counts-counts.result.paths ≡ min (proc_paths (proc_view q)) 1025 =
    c.body_counts-counts.ensures.of_paths ∙ ap (λ body. min (paths (stmts_checks (stmts_view body) Done)) 1025) c.as_slice.ensures.items in
    subst (λ (procs : List ProcDecl). IsFirstPast (map proc_view procs) c.loop-i.i) c.as_slice-procs.ensures.items
    (first_past c.as_slice-procs.result.now c.loop-i.i q (omega arith) c.index-procs-i.is (omega arith) c.loop-i.invariant.few)

pub loop-i-preserved : goal.loop-i-preserved
loop-i-preserved c =
    let procs = c.as_slice-procs.result.now in
    let q = c.index-procs-i.result in
    let counts = c.body_counts-counts.result in
    let paths_counted : counts.paths ≡ min (proc_paths (proc_view q)) 1025 =
    c.body_counts-counts.ensures.of_paths ∙ ap (λ body. min (paths (stmts_checks (stmts_view body) Done)) 1025) c.as_slice.ensures.items in
    let goals_counted : counts.goals ≡ min (proc_assertions (proc_view q)) 2049 =
    c.body_counts-counts.ensures.of_goals ∙ ap (λ body. min (assertions (stmts_checks (stmts_view body) Done)) 2049) c.as_slice.ensures.items in
    let few : HasFewPaths (proc_view q) = omega arith in
    record {
      few = few_more procs c.loop-i.i q (omega arith) c.index-procs-i.is few c.loop-i.invariant.few;
      counted =
          counted_more procs c.loop-i.i q c.loop-i.goals counts.goals c.min-goals.result (omega arith) c.index-procs-i.is c.loop-i.invariant.counted goals_counted
          (omega arith);
    }

pub returns-then-goals-gt-MOST_GOALS-clause-past : goal.returns-then-goals-gt-MOST_GOALS-clause-past
returns-then-goals-gt-MOST_GOALS-clause-past c =
    let procs = c.as_slice-procs.result.now in
    let counted = counted_all procs c.loop-i.i c.loop-i.goals (omega arith) c.loop-i.invariant.counted in
    subst (λ (procs : List ProcDecl). All HasFewPaths (map proc_view procs) × (2048 < length (goals_from 0 (map proc_view procs)))) c.as_slice-procs.ensures.items
    (few_all procs c.loop-i.i (omega arith) c.loop-i.invariant.few, omega arith)

pub returns-clause-within : goal.returns-clause-within
returns-clause-within c =
    let procs = c.as_slice-procs.result.now in
    let counted = counted_all procs c.loop-i.i c.loop-i.goals (omega arith) c.loop-i.invariant.counted in
    record {
      few_paths =
          subst (λ (procs : List ProcDecl). All HasFewPaths (map proc_view procs)) c.as_slice-procs.ensures.items
          (few_all procs c.loop-i.i (omega arith) c.loop-i.invariant.few);
      few_goals = subst (λ (procs : List ProcDecl). length (goals_from 0 (map proc_view procs)) ≤ 2048) c.as_slice-procs.ensures.items (omega arith);
    }

pub returns-clause-counted : goal.returns-clause-counted
returns-clause-counted c =
    let procs = c.as_slice-procs.result.now in
    let counted = counted_all procs c.loop-i.i c.loop-i.goals (omega arith) c.loop-i.invariant.counted in
    subst (λ (procs : List ProcDecl). c.loop-i.goals ≡ length (goals_from 0 (map proc_view procs))) c.as_slice-procs.ensures.items (omega arith)
