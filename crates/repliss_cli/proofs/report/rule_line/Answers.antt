use Rattle.std.proofs.Common.{rules, ◌≡◌, ◌++◌, codes, decimal, string_bytes, subst}
use Rattle.repliss_cli.specs.Texts.{place_text}
use Rattle.repliss_cli.proofs.report.rule_line.Goals as goal

pub returns : goal.returns
returns c =
    subst (λ zero. string_bytes c.in_ok-format.field-0 ≡ codes "refused: type T" ++ (zero ++ (decimal c.args.rule ++ place_text c.args.at.now)))
    c.zero_before-zero.ensures (search rules)
