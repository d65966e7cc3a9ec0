use Rattle.std.proofs.Common.{sym, ◌∙◌, ap, subst, nat_eq}
use Rattle.std.specs.List.{list_any}
use Rattle.std.specs.List.Sorted.{IsStrictlyIncreasing}
use Rattle.std.specs.FinSet as set
use Rattle.crdt_lib.proofs.view.ListViewView.has.Goals as goal

pub is_listed-requires : goal.is_listed-requires
is_listed-requires c = subst IsStrictlyIncreasing (sym c.as_slice.ensures.items) c.self.invariant

pub returns : goal.returns
returns c =
    rw (← c.self.view_is)
    (c.is_listed.ensures
    ∙ ap (list_any (λ b. nat_eq b c.args.c)) c.as_slice.ensures.items
    ∙ sym (set.contains-from_list_nat c.self.inside.calls c.args.c))
