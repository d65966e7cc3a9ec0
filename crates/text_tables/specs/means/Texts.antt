-- Datatypes with their names and the numbers of their constructors.
use Rattle.std.specs.Prelude.{ℕ, zero, suc, List, [], ◌++◌}
use Rattle.rp_value.specs.declared.tables.DataDecl.{DataDecl}
use Rattle.type_rules.specs.declared.kind.Kind.{Kind}
use Rattle.type_rules.specs.Names.{Names}
use Rattle.desugaring.specs.Tables.{kind_text, up_from}

-- whose constructors are so many, from this one on
abbrev pub decl_of : Names → Kind → ℕ → ℕ → DataDecl
decl_of n k next many = record { name = kind_text n k; cons = up_from next many }

-- the text so many times, one behind the other
abbrev pub repeated : List ℕ → ℕ → List ℕ
repeated text zero = []
repeated text (suc m) = repeated text m ++ text
