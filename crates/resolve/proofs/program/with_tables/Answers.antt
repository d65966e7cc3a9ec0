use Rattle.rp_lang.specs.Views.{parts_view}
use Rattle.text_tables.specs.Seen.{tables_view}
use Rattle.resolve.proofs.Whole.{made_view, made_well}
use Rattle.resolve.proofs.program.with_tables.Goals as goal

pub invariant_of-result : goal.invariant_of-result
invariant_of-result c =
    let h = c.requires.well_formed in
    let made = c.in_ok-ops.field-0 in
    record {
      well_formed =
          made_well h.0
          (parts_view c.in_ok-types.types c.args.cons c.in_ok-roots.roots made.ops made.queries c.args.declared.invs c.args.declared.procs)
          (made_view (tables_view c.args.tables.now) h.0 c.in_ok-types.types c.args.cons c.in_ok-roots.roots made.ops made.queries
          c.args.declared h.1 c.in_ok-types.ensures h.2 c.in_ok-roots.ensures c.in_ok-ops.ensures.ops c.in_ok-ops.ensures.queries h.3)
          h.4;
    }
