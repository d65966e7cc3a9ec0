use Rattle.std.proofs.Common.{◌<◌, ◌≤◌, List, ℕ, Some, length, ◌∙◌, ap, arith}
use Rattle.machine_tests.specs.means.Indexed.{listed_at}
use Rattle.machine_tests.proofs.IndexLemmas.{taken_back, at_place, noted_here, not_there}
use Rattle.machine_tests.proofs.lists.take_back.Goals as goal

pub returns-then-place-len : goal.returns-then-place-len
returns-then-place-len c = λ before x old n.
    let lists : List (List ℕ) = c.args.lists.now.items in
    let place = c.args.place in
    let lt : place < length lists = omega (arith, c.len.ensures) in
    let new = c.take_last.ensures (before place) x (at_place lists place lt ∙ ap (λ (xs : List ℕ). Some xs) (noted_here lists before place x old)) in
    ap (λ (ls : List (List ℕ)). listed_at ls n) new ∙ taken_back lists before place x lt old n

pub returns-else-place-len : goal.returns-else-place-len
returns-else-place-len c = λ before x old n.
    let lists : List (List ℕ) = c.args.lists.now.items in
    let past : length lists ≤ c.args.place = omega (arith, c.len.ensures) in
    absurd (not_there lists c.args.place (before c.args.place) x past (noted_here lists before c.args.place x old))
