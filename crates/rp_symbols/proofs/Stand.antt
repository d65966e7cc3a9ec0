-- Where the sorts and constructors of a program's signature stand.
use Rattle.std.proofs.Common.{◌≡◌, ℕ, zero, suc, ◌+◌, ◌<◌, refl, List, [], ◌∷◌, ◌++◌, length, map, Some, slice_get, ap, ◌∙◌, arith}
use Rattle.std.proofs.lemmas.List.{length-map}
use Rattle.rp_value.specs.declared.tables.AtomType.{AtomType}
use Rattle.rp_value.specs.declared.tables.ConDecl.{ConDecl}
use Rattle.rp_value.specs.declared.tables.DataDecl.{DataDecl}
use Rattle.rp_lang.specs.declared.op.OpDecl.{OpDecl}
use Rattle.rp_lang.specs.Programs.{Prog, Proc}
use Rattle.rp_logic.specs.declared.sort.Sort.TheVariants as sort
use Rattle.rp_logic.specs.declared.sort.LogicCon.{LogicCon}
use Rattle.rp_symbols.specs.Numbers.{atom_sort, int_sort, str_sort, data_sort, op_sort, info_sort, outcome_sort, op_con, info_con, unreturned_con, outcome_con}
use Rattle.rp_symbols.specs.Signatures.{sort_of, from, atom_sorts, data_sorts, record_sorts, sorts_of, con_of, result_list, con_decls}
use Rattle.rp_symbols.proofs.LookUps.{get-front, get-behind, get-mapped}

-- # Sorts

late : (p : Prog) (n : ℕ) → slice_get (sorts_of p) (suc (suc (length p.types.atoms + n))) ≡ slice_get (sort.Int ∷ sort.Str ∷ (data_sorts p.types.datatypes ++ record_sorts p)) n
late p n = get-behind (atom_sorts p.types.atoms) _ (length p.types.atoms) n (length-map p.types.atoms _)

all-plain : (atoms : List AtomType) (ty : ℕ) → ty < length atoms → slice_get (atom_sorts atoms) ty ≡ Some sort.Plain
all-plain [] ty l = absurd (omega arith)
all-plain (atom ∷ atoms) zero l = refl
all-plain (atom ∷ atoms) (suc ty) l = all-plain atoms ty (omega arith)

pub atoms-stand : (p : Prog) (ty : ℕ) → ty < length p.types.atoms → slice_get (sorts_of p) (atom_sort ty) ≡ Some sort.Plain
atoms-stand p ty l =
    ap (slice_get (sorts_of p)) (let e : 2 + ty ≡ suc (suc ty) = omega arith in e)
    ∙ get-front (atom_sorts p.types.atoms) _ ty sort.Plain (all-plain p.types.atoms ty l)

pub ints-stand : (p : Prog) → slice_get (sorts_of p) (int_sort p) ≡ Some sort.Int
ints-stand p = ap (slice_get (sorts_of p)) (let e : int_sort p ≡ suc (suc (length p.types.atoms + 0)) = omega arith in e) ∙ late p 0

pub strings-stand : (p : Prog) → slice_get (sorts_of p) (str_sort p) ≡ Some sort.Str
strings-stand p = ap (slice_get (sorts_of p)) (let e : str_sort p ≡ suc (suc (length p.types.atoms + 1)) = omega arith in e) ∙ late p 1

pub datatypes-stand : (p : Prog) (d : ℕ) (decl : DataDecl) → slice_get p.types.datatypes d ≡ Some decl → slice_get (sorts_of p) (data_sort p d) ≡ Some (sort.Datatype decl.cons)
datatypes-stand p d decl at =
    ap (slice_get (sorts_of p)) (let e : data_sort p d ≡ suc (suc (length p.types.atoms + suc (suc d))) = omega arith in e)
    ∙ (late p (suc (suc d))
    ∙ get-front (data_sorts p.types.datatypes) (record_sorts p) d (sort.Datatype decl.cons) (get-mapped (λ (decl : DataDecl). sort.Datatype decl.cons) p.types.datatypes d decl at))

-- the last three
last : (p : Prog) (n : ℕ) → slice_get (sorts_of p) (suc (suc (length p.types.atoms + suc (suc (length p.types.datatypes + n))))) ≡ slice_get (record_sorts p) n
last p n = late p (suc (suc (length p.types.datatypes + n))) ∙ get-behind (data_sorts p.types.datatypes) (record_sorts p) (length p.types.datatypes) n (length-map p.types.datatypes _)

pub operations-sort : (p : Prog) → slice_get (sorts_of p) (op_sort p) ≡ Some (sort.Datatype (from (op_con p 0) (length p.ops)))
operations-sort p =
    ap (slice_get (sorts_of p)) (let e : op_sort p ≡ suc (suc (length p.types.atoms + suc (suc (length p.types.datatypes + 0)))) = omega arith in e) ∙ last p 0

pub records-sort : (p : Prog) → slice_get (sorts_of p) (info_sort p) ≡ Some (sort.Datatype (from (info_con p 0) (length p.procs)))
records-sort p =
    ap (slice_get (sorts_of p)) (let e : info_sort p ≡ suc (suc (length p.types.atoms + suc (suc (length p.types.datatypes + 1)))) = omega arith in e) ∙ last p 1

pub outcomes-sort : (p : Prog) → slice_get (sorts_of p) (outcome_sort p) ≡ Some (sort.Datatype (unreturned_con p ∷ from (outcome_con p 0) (length p.procs)))
outcomes-sort p =
    ap (slice_get (sorts_of p)) (let e : outcome_sort p ≡ suc (suc (length p.types.atoms + suc (suc (length p.types.datatypes + 2)))) = omega arith in e) ∙ last p 2

-- # Constructors

abbrev of-data : Prog → ConDecl → LogicCon
of-data p decl = con_of (data_sort p decl.of) (map (sort_of p) decl.fields)

abbrev of-op : Prog → OpDecl → LogicCon
of-op p decl = con_of (op_sort p) (map (sort_of p) decl.args)

abbrev of-record : Prog → Proc → LogicCon
of-record p q = con_of (info_sort p) (map (sort_of p) q.params)

abbrev of-outcome : Prog → Proc → LogicCon
of-outcome p q = con_of (outcome_sort p) (map (sort_of p) (result_list q.result))

-- behind the program's own, behind operations, behind records
behind-own : (p : Prog) (n : ℕ)
    → slice_get (con_decls p) (length p.cons.cons + n) ≡ slice_get (map (of-op p) p.ops ++ (map (of-record p) p.procs ++ (con_of (outcome_sort p) [] ∷ map (of-outcome p) p.procs))) n
behind-own p n = get-behind (map (of-data p) p.cons.cons) _ (length p.cons.cons) n (length-map p.cons.cons (of-data p))

behind-ops : (p : Prog) (n : ℕ)
    → slice_get (con_decls p) (length p.cons.cons + (length p.ops + n)) ≡ slice_get (map (of-record p) p.procs ++ (con_of (outcome_sort p) [] ∷ map (of-outcome p) p.procs)) n
behind-ops p n = behind-own p (length p.ops + n) ∙ get-behind (map (of-op p) p.ops) _ (length p.ops) n (length-map p.ops (of-op p))

behind-records : (p : Prog) (n : ℕ)
    → slice_get (con_decls p) (length p.cons.cons + (length p.ops + (length p.procs + n))) ≡ slice_get (con_of (outcome_sort p) [] ∷ map (of-outcome p) p.procs) n
behind-records p n = behind-ops p (length p.procs + n) ∙ get-behind (map (of-record p) p.procs) _ (length p.procs) n (length-map p.procs (of-record p))

pub own-stand : (p : Prog) (con : ℕ) (decl : ConDecl) → slice_get p.cons.cons con ≡ Some decl
    → slice_get (con_decls p) con ≡ Some (con_of (data_sort p decl.of) (map (sort_of p) decl.fields))
own-stand p con decl at = get-front (map (of-data p) p.cons.cons) _ con (of-data p decl) (get-mapped (of-data p) p.cons.cons con decl at)

pub operations-stand : (p : Prog) (op : ℕ) (decl : OpDecl) → slice_get p.ops op ≡ Some decl
    → slice_get (con_decls p) (op_con p op) ≡ Some (con_of (op_sort p) (map (sort_of p) decl.args))
operations-stand p op decl at =
    behind-own p op ∙ get-front (map (of-op p) p.ops) _ op (of-op p decl) (get-mapped (of-op p) p.ops op decl at)

pub records-stand : (p : Prog) (proc : ℕ) (q : Proc) → slice_get p.procs proc ≡ Some q
    → slice_get (con_decls p) (info_con p proc) ≡ Some (con_of (info_sort p) (map (sort_of p) q.params))
records-stand p proc q at =
    ap (slice_get (con_decls p)) (let e : info_con p proc ≡ length p.cons.cons + (length p.ops + proc) = omega arith in e)
    ∙ (behind-ops p proc ∙ get-front (map (of-record p) p.procs) _ proc (of-record p q) (get-mapped (of-record p) p.procs proc q at))

pub unreturned-stands : (p : Prog) → slice_get (con_decls p) (unreturned_con p) ≡ Some (con_of (outcome_sort p) [])
unreturned-stands p =
    ap (slice_get (con_decls p)) (let e : unreturned_con p ≡ length p.cons.cons + (length p.ops + (length p.procs + 0)) = omega arith in e) ∙ behind-records p 0

pub outcomes-stand : (p : Prog) (proc : ℕ) (q : Proc) → slice_get p.procs proc ≡ Some q
    → slice_get (con_decls p) (outcome_con p proc) ≡ Some (con_of (outcome_sort p) (map (sort_of p) (result_list q.result)))
outcomes-stand p proc q at =
    ap (slice_get (con_decls p)) (let e : outcome_con p proc ≡ length p.cons.cons + (length p.ops + (length p.procs + suc proc)) = omega arith in e)
    ∙ (behind-records p (suc proc) ∙ get-mapped (of-outcome p) p.procs proc q at)
