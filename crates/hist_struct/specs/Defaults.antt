-- A value of each type, and an element of each sort that isn't empty.
use Rattle.std.specs.Prelude.{ℕ, zero, suc, pos, List, [], ◌∷◌, ◌++◌, map}
use Rattle.rp_value.specs.declared.tables.Ty.{Ty}
use Rattle.rp_value.specs.declared.tables.Ty.TheVariants as ty
use Rattle.rp_value.specs.declared.tables.AtomType.{AtomType}
use Rattle.rp_value.specs.declared.tables.DataDecl.{DataDecl}
use Rattle.rp_value.specs.Values.{Val, Int, Str, Atom, Con, Call, Inv, Vals, no_val, also_val}
use Rattle.rp_lang.specs.Types.{cons_of, fields_of}
use Rattle.rp_lang.specs.Programs.{Prog, Proc}
use Rattle.rp_logic.specs.Elements.{Elem, Whole, Text, Made, no_elem, junk}
use Rattle.rp_symbols.specs.Numbers.{op_con, info_con, unreturned_con}
use Rattle.crdt_enc.specs.Elements.{elem_of, elems_in}

-- # Values

abbrev pub first_of : List ℕ → ℕ
first_of [] = 0
first_of (con ∷ others) = con

-- a value of each of these types
abbrev pub each_by : (Ty → Val) → List Ty → Vals
each_by f [] = no_val
each_by f (ty ∷ tys) = also_val (f ty) (each_by f tys)

-- of a datatype its first constructor, over values of its fields
abbrev pub default_in : Prog → (Ty → Val) → Ty → Val
default_in p rec ty.Int = Int (pos 0)
default_in p rec ty.Str = Str []
default_in p rec (ty.Atom n) = Atom n 0
default_in p rec (ty.Datatype d) = let con = first_of (cons_of p.types d) in Con con (each_by rec (fields_of p.cons con))
default_in p rec ty.Inv = Inv 0
default_in p rec _ = Call 0

-- where so many datatypes may stand inside one another
abbrev pub default_at : Prog → ℕ → Ty → Val
default_at p zero ty = default_in p (λ ty. Call 0) ty
default_at p (suc n) ty = default_in p (default_at p n) ty

-- a datatype has at most so many parts, so that no more stand inside one another
unfoldable pub most_parts : ℕ
most_parts = 1000

abbrev pub default_val : Prog → Ty → Val
default_val p ty = default_at p most_parts ty

-- # Elements, in the order of the sorts

-- of each of these datatypes, the first of number d
abbrev pub data_defaults : Prog → ℕ → List DataDecl → List Elem
data_defaults p d [] = []
data_defaults p d (decl ∷ decls) = elem_of (default_val p (ty.Datatype d)) ∷ data_defaults p (suc d) decls

-- of the first procedure, where there is one
abbrev pub info_default : Prog → List Proc → Elem
info_default p [] = junk
info_default p (q ∷ procs) = Made (info_con p 0) (elems_in (each_by (default_val p) q.params))

-- the operation that opens transactions, a procedure with arguments, and no outcome yet
abbrev pub record_defaults : Prog → List Elem
record_defaults p = Made (op_con p 0) no_elem ∷ info_default p p.procs ∷ Made (unreturned_con p) no_elem ∷ []

abbrev pub defaults_of : Prog → List Elem
defaults_of p =
    junk ∷ junk
    ∷ (map (λ (atom : AtomType). junk) p.types.atoms ++ (Whole (pos 0) ∷ Text [] ∷ (data_defaults p 0 p.types.datatypes ++ record_defaults p)))
