-- What stands in front of a procedure's block.
use Rattle.std.specs.Prelude.{◌≡◌, false, Option, Some, option_map}
use Rattle.rp_grammar.specs.Trees.{ProcTree}
use Rattle.type_rules.specs.Accesses.{proc_params, proc_result}
use Rattle.type_rules.specs.Kinds.{kind_of, param_kinds}
use Rattle.desugaring.specs.Parts.{each}
use Rattle.desugaring.specs.Programs.{result_ty}
use Rattle.desugaring.specs.Tables.{Tables, proc_name, ty_of}
use Rattle.lower_procs.specs.declared.procs.Head.{Head}
use Rattle.lower_procs.specs.Writing.{place_view}

-- its name, the types of its parameters and of its result, and the place of the block
pub record IsHead (t : Tables) (p : ProcTree) (head : Head) : Type 0 where
  pub name : head.name ≡ proc_name p
  pub params : each (ty_of t) (param_kinds t.names (proc_params p)) ≡ Some head.params
  pub result : result_ty t (proc_result p) ≡ Some head.result
  pub place : place_view head.frame ≡ record { result = option_map (kind_of t.names) (proc_result p); inside_atomic = false }
