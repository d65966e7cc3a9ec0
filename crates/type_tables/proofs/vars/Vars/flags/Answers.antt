use Rattle.std.proofs.Common.{◌≡◌, List, Bool, ap, ◌∙◌, subst}
use Rattle.std.specs.Prelude.{IfOk}
use Rattle.type_tables.specs.Variables.{set_flags}
use Rattle.type_tables.proofs.Seen.{flags_seen}
use Rattle.type_tables.proofs.vars.Vars.flags.Goals as goal

pub returns : goal.returns
returns c =
    subst (λ (bs : List Bool). IfOk c.copy.result (λ flags. flags ≡ bs))
    (flags_seen c.self.inside.items.items c.self.inside.set c.self.invariant.long ∙ ap set_flags c.self.view_is)
    c.copy.ensures
