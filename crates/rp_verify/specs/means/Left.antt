-- What is left behind some statements, as checks.
use Rattle.event_machine.specs.Checks.{Checks, Done, stmts_checks}
use Rattle.rp_lang.specs.Views.{stmts_view}
use Rattle.rp_verify.specs.declared.left.Left.{Left}
use Rattle.rp_verify.specs.declared.left.Left.TheOpen.{Left-F, Nothing, Then}
use Rattle.rp_verify.specs.declared.left.Left.TheFolds.{fold-Left}

abbrev pub left_step : Left-F Checks → Checks
left_step Nothing = Done
left_step (Then stmts behind) = stmts_checks (stmts_view stmts.now) behind.now

abbrev pub left_checks : Left → Checks
left_checks = fold-Left Checks left_step
