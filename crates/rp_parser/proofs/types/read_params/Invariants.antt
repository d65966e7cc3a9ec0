use Rattle.std.proofs.Common.{◌≡◌, ℕ, ◌≤◌, List, map}
use Rattle.rp_grammar.specs.Trees.{ParamTree}
use Rattle.rp_ast.specs.View.{param_view}
use Rattle.rp_tokens.specs.MachineStates.{State, more_params}
use Rattle.rp_tokens.specs.MachineTypes.{want_params}
use Rattle.rp_tokens.specs.Machine.{Bounded}
use Rattle.rp_parser.specs.means.Reading.{Stands, Within, left}
use Rattle.rp_parser.proofs.types.read_params.Given as goal

abbrev pub invariant-params : goal.invariant-params
invariant-params l = record {
  within : Within l.depth l.rest;
  no_longer : left l.rest ≤ left l.fn.marks;
  reads : (o : Bounded) (d : ℕ) → d ≡ l.depth → (k : List ParamTree → State) → Stands l.fn.marks (want_params d k) o → Stands l.rest (more_params d (map param_view l.params) k) o;
}

abbrev pub decreases-params : goal.decreases-params
decreases-params l = left l.rest
