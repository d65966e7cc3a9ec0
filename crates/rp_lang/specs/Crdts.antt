-- Replicated data types of a program as definitions speak of them.
use Rattle.std.specs.Prelude.{ℕ, List}
use Rattle.rp_value.specs.declared.tables.Ty.{Ty}

mutual
  pub data Cr : Type 0 where
    SetAw : (elements : Ty) → Cr
    SetRw : (elements : Ty) → Cr
    Reg : (values : Ty) → Cr
    MvReg : (values : Ty) → Cr
    Counter : Cr
    MapUw : (keys : Ty) (at_each : Cr) → Cr
    MapDw : (keys : Ty) (at_each : Cr) → Cr
    Struct : (fields : CrFields) → Cr

  pub data CrFields : Type 0 where
    no_field : CrFields
    also_field : (name : List ℕ) (crdt : Cr) (rest : CrFields) → CrFields
