use Rattle.std.proofs.Common.{◌≤◌, List, map}
use Rattle.rp_grammar.specs.Trees.{ConTree}
use Rattle.rp_ast.specs.View.{con_view}
use Rattle.rp_tokens.specs.MachineStates.{State, more_cons}
use Rattle.rp_tokens.specs.MachineDecls.{want_cons}
use Rattle.rp_tokens.specs.Machine.{Bounded}
use Rattle.rp_parser.specs.means.Reading.{Stands, left}
use Rattle.rp_parser.proofs.decls.read_cons.Given as goal

abbrev pub invariant-cons : goal.invariant-cons
invariant-cons l = record {
  no_longer : left l.behind ≤ left l.fn.rest;
  reads : (o : Bounded) (k : List ConTree → State) → Stands l.fn.rest (want_cons k) o → Stands l.behind (more_cons (map con_view l.cons) k) o;
}

abbrev pub decreases-cons : goal.decreases-cons
decreases-cons l = left l.behind
