use Rattle.std.proofs.Common.{◌+◌, ◌<◌, ◌∷◌, [], false, length, refl, ap, sym, ◌∙◌, length-append, arith}
use Rattle.type_tables.specs.Flags.{flag_at, with_flag}
use Rattle.type_tables.proofs.Rows.{length_flags, flag_more, flag_set}
use Rattle.type_tables.proofs.flags.Flags.mark.Goals as goal

pub loop-len-init : goal.loop-len-init
loop-len-init c =
    (ap length (sym c.self.view_is) ∙ length_flags c.self.inside.words.items 0 c.self.inside.len, refl)

pub loop-len-preserved : goal.loop-len-preserved
loop-len-preserved c =
    let pushed = c.in_ok-push.ensures.ok in (
      ap length pushed ∙ length-append c.loop-len.self (false ∷ []) ∙ ap (λ n. n + 1) c.loop-len.invariant.0,
      ap flag_at pushed ∙ (λ i k. flag_more c.loop-len.self k i) ∙ c.loop-len.invariant.1,
    )

pub returns : goal.returns
returns c =
    let long : c.args.number < length c.loop-len.self = omega (arith, c.loop-len.invariant.0, c.loop-len-test.false) in
    ap flag_at c.put.ensures ∙ (λ i k. flag_set c.loop-len.self c.args.number k long i)
    ∙ ap (λ flags. with_flag flags c.args.number) c.loop-len.invariant.1
