use Rattle.std.proofs.Common.{◌∙◌, Some, ap, sym}
use Rattle.rp_lang.specs.declared.formula.Formula.{Formula}
use Rattle.rp_lang.specs.Views.{formula_view}
use Rattle.desugaring.specs.Values.{formula}
use Rattle.query_bodies.specs.Expanded.{uses_of}
use Rattle.query_bodies.specs.Expanding.{uses_before}
use Rattle.query_bodies.specs.Terms.{said_claim}
use Rattle.query_bodies.specs.Views.{claim_view}
use Rattle.lower_exprs.proofs.Notes.{claim_made, value_past}
use Rattle.lower_exprs.proofs.values.Maker.build_claim.Goals as goal

pub returns-then-is_small_fo-clause-made : goal.returns-then-is_small_fo-clause-made
returns-then-is_small_fo-clause-made c =
    claim_made (uses_before c.new-expansion.result) (uses_of c.args.self.now.work.bodies.now) (claim_view c.args.claim.now)
    (formula_view c.in_ok-f.f) c.new-expansion.ensures
    (c.in_ok-claim.ensures ∙ ap (λ (x : Formula). Some (formula_view x)) (sym c.in_ok-f.ensures))

pub returns-else-is_small_fo-clause-nodes : goal.returns-else-is_small_fo-clause-nodes
returns-else-is_small_fo-clause-nodes c is v h =
    let w = c.args.self.now.work in
    let f = claim_view c.args.claim.now in
    let made = claim_made (uses_before c.new-expansion.result) (uses_of w.bodies.now) f (formula_view c.in_ok-f.f)
    c.new-expansion.ensures (c.in_ok-claim.ensures ∙ ap (λ (x : Formula). Some (formula_view x)) (sym c.in_ok-f.ensures)) in
    value_past w (said_claim f) (formula (formula_view c.in_ok-f.f)) v made
    (rw (← c.get.ensures) (sym c.is_small_fo.ensures ∙ c.if-is_small_fo.false)) h
