-- Names of a program that have to differ.
use Rattle.std.specs.Prelude.{ℕ, Bool, true, ◌&&◌, ◌||◌, not, nat_eq, List, [], ◌∷◌, map, codes}
use Rattle.std.specs.Cmp.Lexicographic.{pointwise}
use Rattle.std.specs.List.{list_all, list_any}
use Rattle.rp_value.specs.declared.tables.AtomType.{AtomType}
use Rattle.rp_value.specs.declared.tables.DataDecl.{DataDecl}
use Rattle.rp_value.specs.declared.tables.ConDecl.{ConDecl}
use Rattle.rp_value.specs.declared.tables.ConTable.{ConTable}
use Rattle.rp_lang.specs.Programs.{Rt, Inv, Prog}
use Rattle.rp_lang.specs.FirstForm.{are_distinct, names}
use Rattle.rp_lang.specs.Types.{is_declared}

abbrev pub is_name : List ℕ → List (List ℕ) → Bool
is_name name names = list_any (pointwise nat_eq name) names

-- none of the names is one of the others
abbrev pub are_apart : List (List ℕ) → List (List ℕ) → Bool
are_apart names others = list_all (λ name. not (is_name name others)) names

abbrev pub atom_names : List AtomType → List (List ℕ)
atom_names atoms = map (λ atom. atom.name) atoms

abbrev pub root_names : List Rt → List (List ℕ)
root_names roots = map (λ root. root.name) roots

abbrev pub inv_names : List Inv → List (List ℕ)
inv_names invs = map (λ inv. inv.name) invs

-- # Datatypes that the text declares

abbrev pub is_data_named : ConTable → DataDecl → List ℕ → Bool
is_data_named cons decl name = is_declared cons decl && pointwise nat_eq name decl.name

abbrev pub is_data_name : ConTable → List ℕ → List DataDecl → Bool
is_data_name cons name decls = list_any (λ decl. is_data_named cons decl name) decls

abbrev pub are_distinct_data : ConTable → List DataDecl → Bool
are_distinct_data cons [] = true
are_distinct_data cons (decl ∷ decls) =
    not (is_declared cons decl && is_data_name cons decl.name decls) && are_distinct_data cons decls

-- # Constructors that the text declares

-- words, which name the constructors of `Bool` and of each `Maybe` type, and nothing that is declared
abbrev pub is_word : List ℕ → Bool
is_word name =
    pointwise nat_eq name (codes "true") || pointwise nat_eq name (codes "false")
    || pointwise nat_eq name (codes "none") || pointwise nat_eq name (codes "some")

abbrev pub is_con_named : ConDecl → List ℕ → Bool
is_con_named con name = not (is_word con.name) && pointwise nat_eq name con.name

abbrev pub is_con_name : List ℕ → List ConDecl → Bool
is_con_name name cons = list_any (λ con. is_con_named con name) cons

abbrev pub are_distinct_cons : List ConDecl → Bool
are_distinct_cons [] = true
are_distinct_cons (con ∷ cons) = not (is_con_name con.name cons) && are_distinct_cons cons

-- none of the names is that of a constructor
abbrev pub are_no_cons : List (List ℕ) → List ConDecl → Bool
are_no_cons names cons = list_all (λ name. not (is_con_name name cons)) names

-- # All of them

abbrev pub are_type_names : Prog → Bool
are_type_names p =
    are_distinct (atom_names p.types.atoms)
    && are_distinct_data p.cons p.types.datatypes
    && list_all (λ atom. not (is_data_name p.cons atom.name p.types.datatypes)) p.types.atoms

-- roots, procedures and constructors together
abbrev pub are_value_names : Prog → Bool
are_value_names p =
    are_distinct (root_names p.roots)
    && are_distinct (names p.procs)
    && are_distinct_cons p.cons.cons
    && are_apart (root_names p.roots) (names p.procs)
    && are_no_cons (root_names p.roots) p.cons.cons
    && are_no_cons (names p.procs) p.cons.cons

-- types have different names, so have roots, procedures and constructors together, and so have invariants
abbrev pub have_names : Prog → Bool
have_names p = are_type_names p && are_value_names p && are_distinct (inv_names p.invs)
