use Rattle.std.proofs.Common.{subst, sym, ap, Err}
use Rattle.rp_span.specs.Places.{place_of}
use Rattle.repliss_cli.specs.Refusals.{IsBrokenText, IsPastLimit, past_program}
use Rattle.repliss_cli.proofs.Readings.{text_of}
use Rattle.repliss_cli.proofs.Refused.{program_text, broken_text, limit_text}
use Rattle.repliss_cli.proofs.texts.program_of_tree.Goals as goal

pub resolve-requires : goal.resolve-requires
resolve-requires c = (_, text_of c.requires.read)

pub returns-in-Ok-clause-ok : goal.returns-in-Ok-clause-ok
returns-in-Ok-clause-ok c = program_text c.requires.short c.requires.read c.in-Ok.ensures.program

pub returns-in-Err-Rule-clause-err : goal.returns-in-Err-Rule-clause-err
returns-in-Err-Rule-clause-err c =
    let text = c.args.text.now in
    let rule = c.in-Err-Rule.rule in
    let broken = broken_text c.requires.short c.requires.read (c.in-Err-Rule.ensures.rule rule c.in-Err-Rule.span (ap (λ e. Err e) c.in-Err-Rule.field-0-is)) in
    let placed = subst (λ span. IsBrokenText text rule (place_of text span.from)) (sym c.in-Err-Rule.span-is) broken in
    subst (λ rule. IsBrokenText text rule c.place_in.result) (sym c.in-Err-Rule.rule-is)
    (subst (IsBrokenText text rule) (sym c.place_in.ensures) placed)

pub returns-in-Err-Limit-clause-err : goal.returns-in-Err-Limit-clause-err
returns-in-Err-Limit-clause-err c =
    subst (IsPastLimit c.args.text.now) (sym c.in-Err-Limit.limit-is)
    (past_program (limit_text c.requires.short c.requires.read (c.in-Err-Limit.ensures.limit c.in-Err-Limit.limit (ap (λ e. Err e) c.in-Err-Limit.field-0-is))))
