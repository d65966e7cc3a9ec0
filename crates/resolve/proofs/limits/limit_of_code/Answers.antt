use Rattle.std.proofs.Common.{ap, length, ◌∙◌}
use Rattle.std.specs.List.{list_any}
use Rattle.rp_lang.specs.declared.limit.LimitName.TheVariants.{Procedures, Invariants, Statements, Quantifiers}
use Rattle.rp_lang.specs.Programs.{Proc}
use Rattle.rp_lang.specs.Sizes.{sts_count}
use Rattle.desugaring.specs.Limits.{binds_much, is_past, some_expression}
use Rattle.resolve.proofs.Blank.{told_binds, told_invs, told_long, told_procs}
use Rattle.resolve.proofs.Counted.{some_long}
use Rattle.resolve.proofs.Firsts.{four_in}
use Rattle.resolve.proofs.limits.limit_of_code.Goals as goal

pub returns : goal.returns
returns c w p cons adds =
    let blank = c.args.blank.now in
    four_in c.args.found c.or_limit-found.result c.or_limit-found-2.result c.or_limit-found-3.result c.or_limit.result
    Procedures Invariants Statements Quantifiers
    c.is_past-many_procs.result c.is_past-many_invs.result c.has_long_procedure-long.result c.is_past-many_binders.result
    (is_past Procedures (length p.procs)) (is_past Invariants (length p.invs))
    (list_any (λ (q : Proc). is_past Statements (sts_count q.body)) p.procs) (some_expression (binds_much p) p)
    c.or_limit-found.ensures c.or_limit-found-2.ensures c.or_limit-found-3.ensures c.or_limit.ensures
    (c.is_past-many_procs.ensures ∙ ap (is_past Procedures) c.len.ensures.length ∙ told_procs w p blank adds)
    (c.is_past-many_invs.ensures ∙ ap (is_past Invariants) c.len-2.ensures.length ∙ told_invs w p blank adds)
    (c.has_long_procedure-long.ensures ∙ ap some_long c.as_slice.ensures.items ∙ told_long w p blank adds)
    (c.is_past-many_binders.ensures ∙ told_binds w p blank cons adds)
