use Rattle.std.proofs.Common.{List, ℕ, ◌+◌, drop, ap, sym, ◌∙◌}
use Rattle.std.specs.Prelude.{option_map}
use Rattle.std.specs.List.{position_from}
use Rattle.schedule_fmt.specs.means.Reading.{is_newline}
use Rattle.schedule_fmt.proofs.FirstNewline.{first_is}
use Rattle.schedule_fmt.proofs.bytes.newline.Goals as goal

pub returns-in-Some-clause-is : goal.returns-in-Some-clause-is
returns-in-Some-clause-is c =
    sym (ap (λ (xs : List ℕ). position_from is_newline c.args.from xs) (sym c.rest.ensures)
    ∙ first_is c.rest.result.now c.args.from c.memchr.result c.memchr.ensures
    ∙ ap (option_map (λ k. c.args.from + k)) c.in-Some.is)

pub returns-in-None-clause-is : goal.returns-in-None-clause-is
returns-in-None-clause-is c =
    sym (ap (λ (xs : List ℕ). position_from is_newline c.args.from xs) (sym c.rest.ensures)
    ∙ first_is c.rest.result.now c.args.from c.memchr.result c.memchr.ensures
    ∙ ap (option_map (λ k. c.args.from + k)) c.in-None.is)
