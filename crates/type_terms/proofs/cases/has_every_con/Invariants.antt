use Rattle.std.proofs.Common.{◌≡◌, List, drop, map}
use Rattle.rp_ast.specs.View.{con_view}
use Rattle.type_rules.specs.Names.{Name, Names}
use Rattle.type_rules.specs.Matches.{con_case}
use Rattle.type_rules.specs.Rules.{has_every_case}
use Rattle.type_terms.specs.Views.{IsTableOf}
use Rattle.type_terms.proofs.cases.has_every_con.Given as goal

abbrev pub invariant-loop-con : goal.invariant-loop-con
invariant-loop-con l =
    (n : Names) (names : List Name) → IsTableOf l.arms names
    → has_every_case names (map (con_case n) (map con_view (drop l.con-index l.cons)))
    ≡ has_every_case names (map (con_case n) (map con_view l.cons))
