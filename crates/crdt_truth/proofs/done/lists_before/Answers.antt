use Rattle.std.proofs.Common.{◌&&◌, ◌||◌, not, length, sym, ap, ◌∙◌}
use Rattle.std.proofs.lemmas.Bool.{and_left, and_right, eqb-true, eqb-false}
use Rattle.crdt_defs.specs.Calls.{calls_view}
use Rattle.crdt_defs.specs.Counting.{all_below, any_below}
use Rattle.crdt_defs.specs.Histories.{before}
use Rattle.crdt_truth.proofs.DoneLemmas.{nobody, somebody, ordered}
use Rattle.crdt_truth.proofs.done.lists_before.Goals as goal

pub returns-then-is_empty : goal.returns-then-is_empty
returns-then-is_empty c = λ p q n h k.
    let none = nobody p n c.args.early.now h (eqb-true (length c.args.early.now) 0 (sym c.if-is_empty.ensures)) in
    sym (and_left _ _ (and_left _ _ none))

pub returns-then-is_empty-2 : goal.returns-then-is_empty-2
returns-then-is_empty-2 c = λ p q n h k.
    let none = nobody q n c.args.late.now k (eqb-true (length c.args.late.now) 0 (sym c.if-is_empty-2.ensures)) in
    sym (and_left _ _ (and_right _ _ none))

pub returns : goal.returns
returns c = λ p q n h k.
    let calls = calls_view c.args.r.now.history.now in
    let some_early = somebody p n c.args.early.now h (eqb-false (length c.args.early.now) 0 (sym c.if-is_empty.ensures)) in
    let some_late = somebody q n c.args.late.now k (eqb-false (length c.args.late.now) 0 (sym c.if-is_empty-2.ensures)) in
    let all = all_below (λ e. not (p e) || all_below (λ d. not (q d) || before calls e d) n) n in
    c.are_all_before.ensures
    ∙ ordered (before calls) p q n c.args.early.now c.args.late.now h k
    ∙ sym (ap (λ b. (b && any_below q n) && all) some_early ∙ ap (λ b. b && all) some_late)
