-- Which values fit a type, and the identifiers and opaque values inside them.
use Rattle.std.specs.Prelude.{ℕ, Bool, true, false, ◌&&◌, nat_eq, nat_lt, List, [], ◌∷◌, ◌++◌, Option, Some, None, slice_get}
use Rattle.rp_value.specs.declared.tables.Ty.{Ty}
use Rattle.rp_value.specs.declared.tables.Ty.TheVariants as ty
use Rattle.rp_value.specs.declared.tables.AtomType.{AtomType}
use Rattle.rp_value.specs.declared.tables.ConDecl.{ConDecl}
use Rattle.rp_value.specs.Values.{Val, Int, Str, Atom, Con, Vals, no_val, also_val}
use Rattle.rp_lang.specs.Programs.{Prog}

abbrev pub cons_to : ℕ → Option ConDecl → Bool
cons_to d None = false
cons_to d (Some decl) = nat_eq decl.of d

abbrev pub fields_of : Option ConDecl → List Ty
fields_of None = []
fields_of (Some decl) = decl.fields

-- the value is of the type; a call or an invocation is of none
abbrev mutual
  pub fits : Prog → Ty → Val → Bool
  fits p ty.Int (Int n) = true
  fits p ty.Str (Str bytes) = true
  fits p (ty.Atom atoms) (Atom of n) = nat_eq of atoms
  fits p (ty.Datatype d) (Con con args) = cons_to d (slice_get p.cons.cons con) && fields_fit p (fields_of (slice_get p.cons.cons con)) args
  fits p _ _ = false

  pub fields_fit : Prog → List Ty → Vals → Bool
  fields_fit p [] no_val = true
  fields_fit p (ty ∷ types) (also_val v vs) = fits p ty v && fields_fit p types vs
  fields_fit p _ _ = false

abbrev pub all_fit : Prog → List Ty → List Val → Bool
all_fit p [] [] = true
all_fit p (ty ∷ types) (v ∷ vs) = fits p ty v && all_fit p types vs
all_fit p _ _ = false

-- the identifiers and opaque values inside, in their order
abbrev mutual
  pub atoms : Val → List Val
  atoms (Atom of n) = Atom of n ∷ []
  atoms (Con con args) = atoms_in_fields args
  atoms _ = []

  pub atoms_in_fields : Vals → List Val
  atoms_in_fields no_val = []
  atoms_in_fields (also_val v vs) = atoms v ++ atoms_in_fields vs

abbrev pub all_atoms : List Val → List Val
all_atoms [] = []
all_atoms (v ∷ vs) = atoms v ++ all_atoms vs

abbrev pub names_ids : Option AtomType → Bool
names_ids None = false
names_ids (Some ty) = ty.is_id

-- an identifier, and no opaque value
abbrev pub is_id : Prog → Val → Bool
is_id p (Atom of n) = names_ids (slice_get p.types.atoms of)
is_id p _ = false

abbrev pub is_below : ℕ → Val → Bool
is_below universe (Atom of n) = nat_lt n universe
is_below universe _ = true
