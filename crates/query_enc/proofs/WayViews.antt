-- What each variant of a way is seen as.
use Rattle.std.proofs.Common.{◌≡◌, ℕ, ap, ◌∙◌}
use Rattle.std.specs.Borrow.{Bor}
use Rattle.rp_logic.specs.declared.term.Term.{Term}
use Rattle.rp_logic.specs.Terms.{Tm}
use Rattle.rp_logic.specs.Views.{term_view}
use Rattle.crdt_defs.specs.declared.asked.Winner.{Winner}
use Rattle.crdt_enc.specs.Ways as ways
use Rattle.query_enc.specs.declared.ways.Way.{Way}
use Rattle.query_enc.specs.declared.ways.Way.TheVariants.{Root, AtField, AtKey, outs-Root, outs-AtField, outs-AtKey}
use Rattle.query_enc.specs.declared.ways.Way.TheFolds.{fold_out-Way, map-Way}
use Rattle.query_enc.specs.WayView.{way_step, way_view}

pub way_view-Root : (root : ℕ) → way_view (Root root) ≡ ways.Root root
way_view-Root root = fold_out-Way (ways.Way Tm) way_step (Root root) ∙ ap (λ l. way_step (map-Way Way (ways.Way Tm) way_view l)) (outs-Root root)

pub way_view-AtField : (n : ℕ) (before : Bor Way) → way_view (AtField n before) ≡ ways.AtField n (way_view before.now)
way_view-AtField n before = fold_out-Way (ways.Way Tm) way_step (AtField n before) ∙ ap (λ l. way_step (map-Way Way (ways.Way Tm) way_view l)) (outs-AtField n before)

pub way_view-AtKey : (winner : Winner) (key : Bor Term) (before : Bor Way) → way_view (AtKey winner key before) ≡ ways.AtKey winner (term_view key.now) (way_view before.now)
way_view-AtKey winner key before = fold_out-Way (ways.Way Tm) way_step (AtKey winner key before) ∙ ap (λ l. way_step (map-Way Way (ways.Way Tm) way_view l)) (outs-AtKey winner key before)

pub ruleset way_views = (way_view-Root, way_view-AtField, way_view-AtKey)
