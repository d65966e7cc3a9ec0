use Rattle.std.proofs.Common.{◌≡◌, ◌∙◌, ◌∷◌, suc, map, drop, Bool, true, Err, refl, rules, arith}
use Rattle.rp_logic.specs.SigView.{sig_view}
use Rattle.refute_defs.specs.Views.{node_view}
use Rattle.refute_defs.specs.Verdicts.{verdict_from}
use Rattle.refute_branch.specs.Views.{branch_view}
use Rattle.refute_check.specs.means.Waits.{open_branches}
use Rattle.refute_check.proofs.Walks.{too_many, walked, next_node, refused}
use Rattle.refute_check.proofs.walk.walk.Goals as goal

pub returns-then-not-is_open : goal.returns-then-not-is_open
returns-then-not-is_open c =
    c.loop-n.invariant.same
    ∙ too_many (sig_view c.args.sig.now) c.loop-n.n c.loop-n.is_open (branch_view c.loop-n.b)
    c.loop-n.waiting c.args.nodes.now c.if-not-is_open.true (omega arith)

pub returns-in_err-is_open : goal.returns-in_err-is_open
returns-in_err-is_open c =
    let S = sig_view c.args.sig.now in
    let e = c.in_err-is_open.field-0.0 in
    let same : c.from_residual-in_err-is_open.result ≡ Err e =
    search (rules, c.from_residual-in_err-is_open.ensures) in
    let first = open_branches true (branch_view c.loop-n.b) c.loop-n.waiting in
    rw same
    (refused {A = Bool} (Err e) e _
    (λ rest. verdict_from S c.loop-n.n first (node_view c.get.result.now ∷ rest))
    (map node_view (drop (suc c.loop-n.n) c.args.nodes.now)) refl
    c.in_err-is_open.ensures.bad
    (c.loop-n.invariant.same
    ∙ walked S c.loop-n.n c.loop-n.is_open (branch_view c.loop-n.b) c.loop-n.waiting
    c.args.nodes.now c.get.result.now
    (verdict_from S c.loop-n.n first
    (node_view c.get.result.now ∷ map node_view (drop (suc c.loop-n.n) c.args.nodes.now)))
    c.if-not-is_open.false c.get.ensures refl))

pub loop-n-preserved : goal.loop-n-preserved
loop-n-preserved c =
    let S = sig_view c.args.sig.now in
    let after = open_branches c.in_ok-is_open.is_open (branch_view c.visit.new.b)
    c.visit.new.waiting in
    record {
      same = c.loop-n.invariant.same
          ∙ walked S c.loop-n.n c.loop-n.is_open (branch_view c.loop-n.b) c.loop-n.waiting
          c.args.nodes.now c.get.result.now
          (verdict_from S (suc c.loop-n.n) after
          (map node_view (drop (suc c.loop-n.n) c.args.nodes.now)))
          c.if-not-is_open.false c.get.ensures
          (c.in_ok-is_open.ensures.goes_on (map node_view (drop (suc c.loop-n.n) c.args.nodes.now)))
          ∙ next_node S c.loop-n.n after c.args.nodes.now;
      within = c.in_ok-is_open.ensures.within;
      marked = c.in_ok-is_open.ensures.marked;
    }
