use Rattle.std.proofs.Common.{ap, length, ◌-◌, ◌∙◌}
use Rattle.rp_lang.specs.declared.limit.LimitName.TheVariants.{Roots, Operations, PathDepth}
use Rattle.desugaring.specs.Limits.{has_long_path, is_past}
use Rattle.text_tables.specs.Seen.{tables_view}
use Rattle.resolve.proofs.Firsts.{three_in}
use Rattle.resolve.proofs.Objects.{told_ops, told_paths, told_roots}
use Rattle.resolve.proofs.limits.limit_of_objects.Goals as goal

pub returns : goal.returns
returns c p tables names =
    let t = tables_view c.args.tables.now in
    three_in c.args.found c.or_limit-found.result c.or_limit-found-2.result c.or_limit.result Roots Operations PathDepth
    c.is_past-many_roots.result c.is_past-many_ops.result c.in_ok-long_path.long_path
    (is_past Roots (length p.roots)) (is_past Operations (length p.ops - 1)) (has_long_path p)
    c.or_limit-found.ensures c.or_limit-found-2.ensures c.or_limit.ensures
    (c.is_past-many_roots.ensures ∙ ap (is_past Roots) c.root_count.ensures ∙ told_roots t p tables)
    (c.is_past-many_ops.ensures ∙ ap (is_past Operations) c.op_count.ensures ∙ told_ops t p tables)
    (c.in_ok-long_path.ensures t.names names ∙ told_paths t p tables)
