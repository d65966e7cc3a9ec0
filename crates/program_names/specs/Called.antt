-- The names of a program's parts, and what names mean.
use Rattle.std.specs.Prelude.{ℕ, Bool, ◌&&◌, ◌==◌, List, [], Option, Some, None, slice_get}
use Rattle.std.specs.List.{position_from}
use Rattle.std.specs.Option.{option_or}
use Rattle.std.specs.Str.{bytes_eq}
use Rattle.rp_value.specs.declared.tables.AtomType.{AtomType}
use Rattle.rp_value.specs.declared.tables.ConDecl.{ConDecl}
use Rattle.rp_value.specs.declared.tables.Ty.{Ty}
use Rattle.rp_value.specs.declared.tables.Ty.TheVariants.{Datatype}
use Rattle.rp_lang.specs.Programs.{Proc, Prog}

-- # Names of numbers

abbrev pub atom_name_in : Option AtomType → List ℕ
atom_name_in None = []
atom_name_in (Some atom) = atom.name

abbrev pub con_name_in : Option ConDecl → List ℕ
con_name_in None = []
con_name_in (Some con) = con.name

abbrev pub proc_name_in : Option Proc → List ℕ
proc_name_in None = []
proc_name_in (Some proc) = proc.name

abbrev pub atom_name : Prog → ℕ → List ℕ
atom_name p ty = atom_name_in (slice_get p.types.atoms ty)

abbrev pub con_name : Prog → ℕ → List ℕ
con_name p con = con_name_in (slice_get p.cons.cons con)

abbrev pub proc_name : Prog → ℕ → List ℕ
proc_name p proc = proc_name_in (slice_get p.procs proc)

-- # What names mean

abbrev pub atom_is_called : List ℕ → AtomType → Bool
atom_is_called name atom = bytes_eq atom.name name

abbrev pub con_is_called : List ℕ → ConDecl → Bool
con_is_called name con = bytes_eq con.name name

abbrev pub proc_is_called : List ℕ → Proc → Bool
proc_is_called name proc = bytes_eq proc.name name

-- the first id or opaque type, the first constructor and the first procedure of a name

abbrev pub atom_called : Prog → List ℕ → Option ℕ
atom_called p name = position_from (atom_is_called name) 0 p.types.atoms

abbrev pub con_called : Prog → List ℕ → Option ℕ
con_called p name = position_from (con_is_called name) 0 p.cons.cons

abbrev pub proc_called : Prog → List ℕ → Option ℕ
proc_called p name = position_from (proc_is_called name) 0 p.procs

abbrev pub con_makes : ℕ → List ℕ → ConDecl → Bool
con_makes d name con = con.of == d && con_is_called name con

-- the constructor of a name that makes this type
abbrev pub con_making : Prog → Option Ty → List ℕ → Option ℕ
con_making p (Some (Datatype d)) name = position_from (con_makes d name) 0 p.cons.cons
con_making p _ name = None

-- The constructor that a name means at a place that asks this type, if it asks one: that of the type, else the first
-- one of the name. So `none` and `some` are those of the type that is asked, else of the first `Maybe` type.
abbrev pub con_meant : Prog → Option Ty → List ℕ → Option ℕ
con_meant p asked name = option_or (con_making p asked name) (con_called p name)
