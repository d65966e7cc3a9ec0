-- Types of a program, its datatypes and their constructors.
use Rattle.std.specs.Prelude.{ℕ, suc, ◌+◌, Bool, true, false, ◌&&◌, not, ◌==◌, nat_eq, nat_lt, nat_le, List, [], ◌∷◌, length, sum_by, count_by, codes, Option, Some, None, slice_get}
use Rattle.std.specs.Cmp.Lexicographic.{pointwise}
use Rattle.std.specs.List.{list_all}
use Rattle.rp_value.specs.declared.tables.Ty.{Ty}
use Rattle.rp_value.specs.declared.tables.Ty.TheVariants.{Int, Str, Atom, Datatype, Call, Inv, Operation, Info, Outcome}
use Rattle.rp_value.specs.declared.tables.AtomType.{AtomType}
use Rattle.rp_value.specs.declared.tables.DataDecl.{DataDecl}
use Rattle.rp_value.specs.declared.tables.ConDecl.{ConDecl}
use Rattle.rp_value.specs.declared.tables.TypeTable.{TypeTable}
use Rattle.rp_value.specs.declared.tables.ConTable.{ConTable}

-- # Types

abbrev pub same_ty : Ty → Ty → Bool
same_ty Int Int = true
same_ty Str Str = true
same_ty (Atom a) (Atom b) = a == b
same_ty (Datatype a) (Datatype b) = a == b
same_ty Call Call = true
same_ty Inv Inv = true
same_ty Operation Operation = true
same_ty Info Info = true
same_ty Outcome Outcome = true
same_ty _ _ = false

-- this one type
abbrev pub is_one : Ty → List Ty → Bool
is_one ty (arg ∷ []) = same_ty arg ty
is_one ty _ = false

-- no type
abbrev pub is_nothing : List Ty → Bool
is_nothing [] = true
is_nothing _ = false

-- there is a type, and it is this one
abbrev pub is_ty : Option Ty → Ty → Bool
is_ty None ty = false
is_ty (Some found) ty = same_ty found ty

-- both have a type, and it is one
abbrev pub agree : Option Ty → Option Ty → Bool
agree left None = false
agree left (Some ty) = is_ty left ty

abbrev pub bool_ty : Ty
bool_ty = Datatype 0

-- a type of data, with its number in range: that of slots, fields, keys and elements
abbrev pub is_ordinary : TypeTable → Ty → Bool
is_ordinary types Int = true
is_ordinary types Str = true
is_ordinary types (Atom n) = nat_lt n (length types.atoms)
is_ordinary types (Datatype n) = nat_lt n (length types.datatypes)
is_ordinary types _ = false

abbrev pub are_ordinary : TypeTable → List Ty → Bool
are_ordinary types tys = list_all (is_ordinary types) tys

abbrev pub is_id_type : Option AtomType → Bool
is_id_type None = false
is_id_type (Some atom) = atom.is_id

-- # Constructors

abbrev pub fields_in : Option ConDecl → List Ty
fields_in None = []
fields_in (Some con) = con.fields

-- the types of a constructor's fields
abbrev pub fields_of : ConTable → ℕ → List Ty
fields_of cons con = fields_in (slice_get cons.cons con)

abbrev pub datatype_in : Option ConDecl → Option Ty
datatype_in None = None
datatype_in (Some con) = Some (Datatype con.of)

-- the datatype that a constructor makes
abbrev pub datatype_of : ConTable → ℕ → Option Ty
datatype_of cons con = datatype_in (slice_get cons.cons con)

abbrev pub cons_in : Option DataDecl → List ℕ
cons_in None = []
cons_in (Some decl) = decl.cons

-- the constructors of a datatype
abbrev pub cons_of : TypeTable → ℕ → List ℕ
cons_of types n = cons_in (slice_get types.datatypes n)

-- there is a constructor of this name without fields
abbrev pub is_bare_con : List ℕ → Option ConDecl → Bool
is_bare_con name None = false
is_bare_con name (Some con) = pointwise nat_eq con.name name && is_nothing con.fields

-- there is a constructor of this name with one field of the type
abbrev pub is_con_with : List ℕ → Ty → Option ConDecl → Bool
is_con_with name ty None = false
is_con_with name ty (Some con) = pointwise nat_eq con.name name && is_one ty con.fields

-- # Datatypes

-- the numbers go up from `next` one by one, and their constructors are of datatype `n`
abbrev pub is_run : ConTable → (n next : ℕ) → List ℕ → Bool
is_run cons n next [] = true
is_run cons n next (con ∷ others) = con == next && is_ty (datatype_of cons con) (Datatype n) && is_run cons n (next + 1) others

-- one constructor or more, and they are the next ones
abbrev pub has_next : ConTable → (n next : ℕ) → List ℕ → Bool
has_next cons n next list = nat_lt 0 (length list) && is_run cons n next list

-- the datatypes from number `n` on have all constructors from `next` on, in order, each once
abbrev pub are_numbered : ConTable → (n next : ℕ) → List DataDecl → Bool
are_numbered cons n next [] = next == length cons.cons
are_numbered cons n next (decl ∷ decls) =
    has_next cons n next decl.cons && are_numbered cons (n + 1) (next + length decl.cons) decls

abbrev pub is_bool_decl : Option DataDecl → Bool
is_bool_decl None = false
is_bool_decl (Some decl) = pointwise nat_eq decl.name (codes "Bool") && pointwise nat_eq decl.cons (0 ∷ 1 ∷ [])

-- datatype 0 is `Bool`, with the constructors `false` and `true`
abbrev pub has_bool : TypeTable → ConTable → Bool
has_bool types cons =
    is_bool_decl (slice_get types.datatypes 0)
    && is_bare_con (codes "false") (slice_get cons.cons 0)
    && is_bare_con (codes "true") (slice_get cons.cons 1)

abbrev pub are_ordinary_fields : TypeTable → ConTable → Bool
are_ordinary_fields types cons = list_all (λ con. are_ordinary types con.fields) cons.cons

-- The parts of a type, as far as so many datatypes inside one another: itself, and those of all fields of its
-- constructors. A datatype that leads back to itself has more parts the further one goes.
abbrev pub parts : TypeTable → ConTable → ℕ → Ty → ℕ
parts types cons (suc depth) (Datatype n) = 1 + sum_by (λ con. sum_by (parts types cons depth) (fields_of cons con)) (cons_of types n)
parts types cons _ _ = 1

-- # `Maybe`

abbrev pub are_none_and_some : ConTable → Ty → List ℕ → Bool
are_none_and_some cons ty (none ∷ some ∷ []) = is_bare_con (codes "none") (slice_get cons.cons none) && is_con_with (codes "some") ty (slice_get cons.cons some)
are_none_and_some cons ty _ = false

-- the second type is `Maybe` of the first
abbrev pub is_maybe_of : TypeTable → ConTable → Ty → Ty → Bool
is_maybe_of types cons ty (Datatype n) = are_none_and_some cons ty (cons_of types n)
is_maybe_of types cons ty _ = false

abbrev pub is_called_none : Option ConDecl → Bool
is_called_none None = false
is_called_none (Some con) = pointwise nat_eq con.name (codes "none")

abbrev pub first_con : ConTable → List ℕ → Option ConDecl
first_con cons [] = None
first_con cons (con ∷ others) = slice_get cons.cons con

-- a datatype that the text declares; `none` is a word, and no name of a declared constructor
abbrev pub is_declared : ConTable → DataDecl → Bool
is_declared cons decl = not (is_called_none (first_con cons decl.cons))

-- # All of it

-- id and opaque types are at most 64, and so are the declared datatypes, `Bool` among them
abbrev pub has_few_types : TypeTable → ConTable → Bool
has_few_types types cons = nat_le (length types.atoms) 64 && nat_le (count_by (is_declared cons) types.datatypes) 64

abbrev pub has_few_parts : TypeTable → ConTable → ℕ → Bool
has_few_parts types cons n = nat_le (parts types cons 1000 (Datatype n)) 1000

-- the datatypes from number `n` on have at most 1,000 parts each, so that none is recursive
abbrev pub are_within_parts : TypeTable → ConTable → (n : ℕ) → List DataDecl → Bool
are_within_parts types cons n [] = true
are_within_parts types cons n (decl ∷ decls) = has_few_parts types cons n && are_within_parts types cons (n + 1) decls

abbrev pub are_tables : TypeTable → ConTable → Bool
are_tables types cons =
    are_numbered cons 0 0 types.datatypes
    && has_bool types cons
    && are_ordinary_fields types cons
    && has_few_types types cons
    && are_within_parts types cons 0 types.datatypes
