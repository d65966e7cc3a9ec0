use Rattle.std.proofs.Common.{true, ap, ◌∙◌, length}
use Rattle.type_tables.specs.Variables.{vars_seen, and_flags}
use Rattle.type_tables.proofs.Seen.{join_seen, length_merged}
use Rattle.type_tables.proofs.vars.Vars.join.Goals as goal

pub invariant_of-self : goal.invariant_of-self
invariant_of-self c = record {
  found = c.self.invariant.found;
  long = ap length c.merge.ensures ∙ length_merged true c.self.inside.set c.args.flags.now ∙ c.self.invariant.long;
  few = c.self.invariant.few;
}

pub returns : goal.returns
returns c =
    let items = c.self.inside.items.items in
    ap (vars_seen items) c.merge.ensures ∙ join_seen items c.self.inside.set c.args.flags.now
    ∙ ap (λ vs. and_flags vs c.args.flags.now) c.self.view_is
