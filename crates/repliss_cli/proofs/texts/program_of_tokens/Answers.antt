use Rattle.std.proofs.Common.{◌≡◌, ◌<◌, Some, slice_get, length, subst, sym}
use Rattle.repliss_cli.specs.Refusals.{IsSyntaxFault, past_nesting}
use Rattle.repliss_cli.proofs.Refused.{bad_token, deep_token, syntax_fault, too_deep_text, within_tokens}
use Rattle.repliss_cli.proofs.texts.program_of_tokens.Goals as goal

pub index-requires : goal.index-requires
index-requires c =
    subst (λ k. k < length c.args.tokens.now) (sym c.in-Err-Syntax.token-is)
    (within_tokens c.requires.lexed (bad_token c.bytes.ensures.bytes c.in-Err-Syntax.field-0-is c.in-Err-Syntax.ensures.fault))

pub returns-in-Err-Syntax-clause-err : goal.returns-in-Err-Syntax-clause-err
returns-in-Err-Syntax-clause-err c =
    let found = subst (λ k. slice_get c.args.tokens.now k ≡ Some c.index.result.now) c.in-Err-Syntax.token-is c.index.ensures in
    subst (IsSyntaxFault c.args.text.now) (sym c.place_in.ensures)
    (syntax_fault c.requires.short c.requires.lexed (bad_token c.bytes.ensures.bytes c.in-Err-Syntax.field-0-is c.in-Err-Syntax.ensures.fault) found)

pub returns-in-Err-TooDeep-clause-err : goal.returns-in-Err-TooDeep-clause-err
returns-in-Err-TooDeep-clause-err c =
    past_nesting (too_deep_text c.requires.short (deep_token c.bytes.ensures.bytes c.in-Err-TooDeep.field-0-is c.in-Err-TooDeep.ensures.fault))
