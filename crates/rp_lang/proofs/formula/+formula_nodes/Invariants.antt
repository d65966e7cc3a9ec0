use Rattle.std.proofs.Common.{◌≡◌, ◌+◌, ◌≤◌, min, drop}
use Rattle.rp_lang.specs.Sizes.{fos_nodes, arms_nodes}
use Rattle.rp_lang.specs.Views.{formulas_view, arms_view}
use Rattle.rp_lang.proofs.formula.+formula_nodes.Given as goal

abbrev pub invariant-formulas_nodes-loop-part : goal.invariant-formulas_nodes-loop-part
invariant-formulas_nodes-loop-part l = record {
  all : min (fos_nodes (formulas_view l.parts)) 18446744073709551615 ≡ min (l.nodes + fos_nodes (formulas_view (drop l.part-index l.parts))) 18446744073709551615;
  fits : l.nodes ≤ 18446744073709551615;
}

abbrev pub invariant-arms_nodes-loop-arm : goal.invariant-arms_nodes-loop-arm
invariant-arms_nodes-loop-arm l = record {
  all : min (arms_nodes (arms_view l.arms)) 18446744073709551615 ≡ min (l.nodes + arms_nodes (arms_view (drop l.arm-index l.arms))) 18446744073709551615;
  fits : l.nodes ≤ 18446744073709551615;
}
