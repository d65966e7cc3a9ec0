-- The way that definitions speak of, of a way of the code.
use Rattle.rp_logic.specs.Terms.{Tm}
use Rattle.rp_logic.specs.Views.{term_view}
use Rattle.crdt_enc.specs.Ways as ways
use Rattle.query_enc.specs.declared.ways.Way.{Way}
use Rattle.query_enc.specs.declared.ways.Way.TheOpen.{Way-F, Root, AtField, AtKey}
use Rattle.query_enc.specs.declared.ways.Way.TheFolds.{fold-Way}

abbrev pub way_step : Way-F (ways.Way Tm) → ways.Way Tm
way_step (Root root) = ways.Root root
way_step (AtField n before) = ways.AtField n before.now
way_step (AtKey winner key before) = ways.AtKey winner (term_view key.now) before.now

abbrev pub way_view : Way → ways.Way Tm
way_view = fold-Way (ways.Way Tm) way_step
