use Rattle.std.proofs.Common.{◌≡◌, ◌+◌, ◌*◌, ◌%◌, nat_lt, sym, ◌∙◌, lt-ltb, arith}
use Rattle.std.proofs.lemmas.Bool.Decides.{nat_tests}
use Rattle.type_tables.proofs.Bits.{one_ones, ones_below}
use Rattle.type_tables.proofs.flags.mask_of.Goals as goal

pub returns-then-at-whole : goal.returns-then-at-whole
returns-then-at-whole c = λ i h. one_ones 64 i ∙ lt-ltb i 64 h ∙ sym (lt-ltb (64 * c.args.at + i) c.args.len (omega arith))

pub returns-then-at-whole-2 : goal.returns-then-at-whole-2
returns-then-at-whole-2 c = λ i h.
    let same : nat_lt i (c.args.len % 64) ≡ nat_lt (64 * c.args.at + i) c.args.len = grind (arith, nat_tests) in
    ones_below (c.args.len % 64) i (omega arith) ∙ same
