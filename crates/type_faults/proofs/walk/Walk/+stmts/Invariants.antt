use Rattle.std.proofs.Common.{◌≡◌, List, drop, false}
use Rattle.std.specs.Option.{option_map}
use Rattle.rp_ast.specs.View.{block_arms_view, stmts_view}
use Rattle.type_rules.specs.declared.kind.Kind.{Kind}
use Rattle.type_rules.specs.Names.{Name}
use Rattle.type_rules.specs.Flow.{Sight, dead}
use Rattle.type_rules.specs.Matches.{cases_of}
use Rattle.type_tables.specs.Counts.{IsCounted}
use Rattle.type_terms.specs.Views.{cases_view}
use Rattle.type_faults.specs.Flows.{IsFlowOf}
use Rattle.type_faults.specs.Walks.{names_at, sight_of}
use Rattle.type_faults.proofs.Meeting.{ArmsWalked, StmtsWalked}
use Rattle.type_faults.proofs.walk.Walk.+stmts.Given as goal

abbrev pub invariant-each_block_arm-loop-arm : goal.invariant-each_block_arm-loop-arm
invariant-each_block_arm-loop-arm l =
    (later : List Name) (kind : Kind) (g : Sight) → IsCounted l.fn.self.later later → l.fn.self.words ≡ false
    → option_map (cases_view (names_at l.fn.self)) l.cases ≡ cases_of (names_at l.fn.self) kind
    → IsFlowOf l.before g → sight_of l.fn.self ≡ dead g
    → ArmsWalked later l.frame kind g l.done l.fn.self l.self l.best (block_arms_view (drop l.arm-index l.arms)) (block_arms_view l.arms)

abbrev pub invariant-stmts-loop-place : goal.invariant-stmts-loop-place
invariant-stmts-loop-place l =
    (later : List Name) → IsCounted l.fn.self.later later → l.fn.self.words ≡ false
    → StmtsWalked later l.frame l.fn.self l.self l.best (stmts_view (drop l.place l.stmts)) (stmts_view l.stmts)
