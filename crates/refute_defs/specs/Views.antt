-- What definitions speak of, of the trees of the code.
use Rattle.std.specs.Prelude.{List, map}
use Rattle.rp_logic.specs.declared.formula.Fml.{Fml}
use Rattle.rp_logic.specs.Formulas.{Fm}
use Rattle.rp_logic.specs.Views.{term_view, atom_view, formula_view}
use Rattle.refute_defs.specs.declared.tree.RuleUse.{RuleUse}
use Rattle.refute_defs.specs.declared.tree.Node.{Node}
use Rattle.refute_defs.specs.declared.tree.Node.TheVariants as node
use Rattle.refute_defs.specs.declared.tree.Tree.{Tree}
use Rattle.refute_defs.specs.Uses.{Use, Nd, Rule, Unvisited, Current}

abbrev pub use_view : RuleUse → Use
use_view u = record {
  rule = u.rule;
  places = u.places;
  terms = map term_view u.terms;
  atoms = map atom_view u.atoms;
  pick = u.pick;
}

abbrev pub node_view : Node → Nd
node_view (node.Rule u) = Rule (use_view u)
node_view node.Unvisited = Unvisited
node_view node.Current = Current

abbrev pub nodes_view : Tree → List Nd
nodes_view tree = map node_view tree.nodes

abbrev pub given_view : List Fml → List Fm
given_view given = map formula_view given
