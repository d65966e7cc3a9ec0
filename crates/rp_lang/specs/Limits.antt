-- The texts and the numbers of limits.
use Rattle.std.specs.Prelude.{ℕ, List, codes}
use Rattle.rp_lang.specs.declared.limit.LimitName.{LimitName}
use Rattle.rp_lang.specs.declared.limit.LimitName.TheVariants.{ProgramBytes, Depth, Types, ValueParts, Roots, Operations, PathDepth, Procedures, Invariants, Statements, Quantifiers, Nodes, Paths, Goals, ScheduleBytes, Universe, Steps, Calls, Invocations, Breadth, Integer}

abbrev pub limit_text : LimitName → List ℕ
limit_text ProgramBytes = codes "program bytes"
limit_text Depth = codes "depth"
limit_text Types = codes "types"
limit_text ValueParts = codes "value parts"
limit_text Roots = codes "roots"
limit_text Operations = codes "operations"
limit_text PathDepth = codes "path depth"
limit_text Procedures = codes "procedures"
limit_text Invariants = codes "invariants"
limit_text Statements = codes "statements"
limit_text Quantifiers = codes "quantifiers"
limit_text Nodes = codes "nodes"
limit_text Paths = codes "paths"
limit_text Goals = codes "goals"
limit_text ScheduleBytes = codes "schedule bytes"
limit_text Universe = codes "universe"
limit_text Steps = codes "steps"
limit_text Calls = codes "calls"
limit_text Invocations = codes "invocations"
limit_text Breadth = codes "breadth"
limit_text Integer = codes "integer"

abbrev pub limit_number : LimitName → ℕ
limit_number ProgramBytes = 262144
limit_number Depth = 64
limit_number Types = 64
limit_number ValueParts = 1000
limit_number Roots = 64
limit_number Operations = 256
limit_number PathDepth = 6
limit_number Procedures = 64
limit_number Invariants = 64
limit_number Statements = 200
limit_number Quantifiers = 16
limit_number Nodes = 100000
limit_number Paths = 1024
limit_number Goals = 2048
limit_number ScheduleBytes = 4194304
limit_number Universe = 64
limit_number Steps = 100000
limit_number Calls = 16384
limit_number Invocations = 16384
limit_number Breadth = 50000000
limit_number Integer = 9223372036854775807
