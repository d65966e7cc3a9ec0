-- Which variables have values, taken out of what is in sight and put back into it.
use Rattle.std.specs.Prelude.{◌≡◌, ◌||◌, List, false, map}
use Rattle.type_rules.specs.Accesses.{Var}
use Rattle.type_rules.specs.Flow.{Sight}
use Rattle.type_tables.specs.Variables.{set_flags, with_flags, and_flags}
use Rattle.type_faults.specs.declared.blocks.Flow as code_flow

-- it is what is in sight, without the variables
pub record IsFlowOf (f : code_flow.Flow) (g : Sight) : Type 0 where
  pub set : f.set ≡ set_flags g.vars
  pub live : f.live ≡ g.live

-- those of its flags have values
abbrev pub restored : code_flow.Flow → Sight → Sight
restored f g = record { vars = with_flags g.vars f.set; live = f.live }

-- what has a value on both ways has one, and some path goes on where one of them does
abbrev pub joined : code_flow.Flow → Sight → Sight
joined f g = record { vars = and_flags g.vars f.set; live = g.live || f.live }

-- # Variables, whatever their values

abbrev pub bare_var : Var → Var
bare_var v = record v { set = false }

abbrev pub bare : List Var → List Var
bare vs = map bare_var vs
