use Rattle.std.proofs.Common.{sym, ◌∙◌}
use Rattle.std.proofs.lemmas.Bool.{eqb-true, eq-eqb, not-true, true≢false, not_from_false}
use Rattle.crdt_lib.proofs.BlockLemmas.{no_splits}
use Rattle.crdt_lib.proofs.MemberLemmas.{snapshot_counted, counted_snapshot, no_snapshot}
use Rattle.crdt_lib.proofs.snapshot.is_snapshot.Goals as goal

pub returns-then-members-size : goal.returns-then-members-size
returns-then-members-size g c = (
  λ t. snapshot_counted _ _ _ _ c.in-Some.ensures (c.if-members-size.true ∙ c.size.ensures) (sym c.splits_one.ensures ∙ not-true c.splits_one.result t),
  λ snap. not_from_false c.splits_one.result (c.splits_one.ensures ∙ no_splits _ _ _ snap _),
)

pub returns-else-members-size : goal.returns-else-members-size
returns-else-members-size g c = (
  λ t. absurd (c.if-members-size.false (eqb-true _ _ t)),
  λ snap. eq-eqb _ _ (counted_snapshot _ _ _ _ c.in-Some.ensures snap ∙ sym c.size.ensures),
)

pub returns-in-None : goal.returns-in-None
returns-in-None g c =
    let open_member = c.in-None.ensures in
    (λ f. absurd (true≢false (sym f)), λ snap. absurd (no_snapshot _ _ _ open_member.0 open_member.1 open_member.2 snap))
