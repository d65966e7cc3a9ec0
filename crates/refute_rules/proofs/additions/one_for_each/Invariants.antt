use Rattle.std.proofs.Common.{◌≡◌, take, map}
use Rattle.rp_logic.specs.Views.{formula_view}
use Rattle.refute_defs.specs.Branches.{formula_alone}
use Rattle.refute_rules.specs.Added.{addition_view}
use Rattle.refute_rules.proofs.additions.one_for_each.Given as goal

abbrev pub invariant-loop-f : goal.invariant-loop-f
invariant-loop-f l = map addition_view l.adds ≡ map
    (λ f. formula_alone (formula_view f)) (take l.f-index l.parts)
