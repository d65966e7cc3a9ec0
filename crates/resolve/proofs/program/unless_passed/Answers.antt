use Rattle.std.proofs.Common.{◌≡◌, Some, ap, sym, ◌∙◌}
use Rattle.rp_lang.specs.declared.limit.LimitName.{LimitName}
use Rattle.resolve.proofs.Firsts.{last_limit}
use Rattle.resolve.proofs.program.unless_passed.Goals as goal

pub returns-in-Some-clause-limit : goal.returns-in-Some-clause-limit
returns-in-Some-clause-limit c p l h adds is =
    let same : c.in-Some.limit ≡ l = cc in
    last_limit p (Some c.in-Some.limit) (sym c.in-Some.is ∙ c.in_ok-found.ensures p h adds)
    ∙ ap (λ (x : LimitName). Some x) same
