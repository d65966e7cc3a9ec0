use Rattle.std.proofs.Common.{rules, ◌≡◌, ◌++◌, codes, decimal, string_bytes, subst}
use Rattle.rp_lang.specs.Limits.{limit_text}
use Rattle.repliss_cli.proofs.report.limit_line.Goals as goal

pub returns : goal.returns
returns c =
    let line = string_bytes c.in_ok-format.field-0 in
    subst (λ number. line ≡ codes "refused: limit " ++ (limit_text c.args.limit ++ (codes " " ++ (decimal number ++ codes "\n"))))
    c.number-number.ensures
    (subst (λ name. line ≡ codes "refused: limit " ++ (name ++ (codes " " ++ (decimal c.number-number.result ++ codes "\n"))))
    c.name-name.ensures (search rules))
