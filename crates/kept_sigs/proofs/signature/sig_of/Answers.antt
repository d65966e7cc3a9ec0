use Rattle.rp_lang.specs.ProgramView.{program_view}
use Rattle.kept_sigs.proofs.Kept.{parts_kept}
use Rattle.kept_sigs.proofs.signature.sig_of.Goals as goal

pub invariant_of-result : goal.invariant_of-result
invariant_of-result c = record {
  kept =
      parts_kept c.signatures_are_kept.ensures (program_view c.args.p.now) c.args.views c.saturating_sub-begins.result c.in_ok-sorts.sorts c.in_ok-consts.consts c.in_ok-fns.fns
      c.in_ok-rels.rels c.in_ok-cons.cons c.args.p.now.well_formed c.saturating_sub-begins.ensures c.in_ok-sorts.ensures c.in_ok-consts.ensures c.in_ok-fns.ensures c.in_ok-rels.ensures c.in_ok-cons.ensures;
}
