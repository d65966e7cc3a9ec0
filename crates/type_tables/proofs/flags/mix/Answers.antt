use Rattle.std.proofs.Common.{ap, ◌∙◌, length, get_or, arith}
use Rattle.type_tables.specs.Flags.{mixed, one_at, truth_at}
use Rattle.type_tables.proofs.Rows.{mix_word, all_mixed}
use Rattle.type_tables.proofs.flags.mix.Goals as goal

pub loop-at-preserved : goal.loop-at-preserved
loop-at-preserved c = λ j.
    mix_word c.args.both c.args.own.now c.args.other.now c.loop-at.own c.loop-at.at c.args.len c.mixed_word.result j (omega arith)
    c.loop-at.invariant
    (λ i h. c.mixed_word.ensures i h
    ∙ ap
    (λ there. mixed c.args.both there (one_at (get_or c.loop-at.own c.loop-at.at 0) i) (one_at (get_or c.args.other.now c.loop-at.at 0) i))
    (c.mask_of.ensures i h))

pub returns-clause-each : goal.returns-clause-each
returns-clause-each c = λ j h.
    c.loop-at.invariant j
    ∙ ap (λ there. mixed c.args.both there (truth_at c.args.own.now j) (truth_at c.args.other.now j))
    (all_mixed j c.loop-at.at c.args.len (length c.args.own.now) (length c.args.other.now) (omega arith) h c.requires)
