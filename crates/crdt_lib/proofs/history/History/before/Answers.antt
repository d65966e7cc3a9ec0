use Rattle.std.proofs.Common.{sym, ◌∙◌, ap, subst, nat_eq}
use Rattle.std.specs.List.{list_any}
use Rattle.std.specs.List.Sorted.{IsStrictlyIncreasing}
use Rattle.crdt_defs.specs.Histories.{meets}
use Rattle.crdt_lib.proofs.history.History.before.Goals as goal

pub is_listed-requires : goal.is_listed-requires
is_listed-requires c = subst IsStrictlyIncreasing (sym c.as_slice.ensures.items) c.call.ensures.ascending

pub returns : goal.returns
returns c =
    c.is_listed.ensures
    ∙ ap (list_any (λ b. nat_eq b c.args.c)) c.as_slice.ensures.items
    ∙ ap (λ o. meets (λ call. list_any (λ b. nat_eq b c.args.c) call.past) o) (sym c.call.ensures.seen)
