-- Fields of constructors, slots and results of a lawful text's program are of types of data.
use Rattle.std.proofs.Common.{◌≡◌, ℕ, zero, suc, Bool, true, false, ◌&&◌, ◌==◌, cond, List, [], ◌∷◌, map, Option, Some, None, refl, subst}
use Rattle.std.specs.Prelude.{flat_map, slice_get, unwrap_or}
use Rattle.std.specs.List.{AllByRecursion}
use Rattle.std.proofs.lemmas.Bool.{and_from}
use Rattle.rp_value.specs.declared.tables.Ty.{Ty}
use Rattle.rp_value.specs.declared.tables.ConDecl.{ConDecl}
use Rattle.rp_grammar.specs.Trees.{ConTree, DeclTree}
use Rattle.rp_lang.specs.Programs.{Prog}
use Rattle.rp_lang.specs.Types.{are_ordinary, are_ordinary_fields}
use Rattle.type_rules.specs.declared.kind.Kind.{Kind}
use Rattle.type_rules.specs.declared.kind.Base.{Base}
use Rattle.type_rules.specs.declared.kind.Base.TheVariants as base
use Rattle.type_rules.specs.Names.{Names, TypeEntry, TypeSort, con_fields}
use Rattle.type_rules.specs.Kinds.{is_open, param_kinds}
use Rattle.type_rules.specs.Matches.{Case, cases_of, con_case, declared_cases, maybe_cases, sort_cases}
use Rattle.desugaring.specs.Appearances.{field_kinds}
use Rattle.desugaring.specs.Parts.{each}
use Rattle.desugaring.specs.Tables.{Con, Tables, con_decl, cons, cons_of, tables_of, ty_of, type_table}
use Rattle.desugaring.specs.Programs.{IsProgramOf}
use Rattle.desugaring.proofs.Options.{both_there, each_there}
use Rattle.desugaring.proofs.Fields.{table_there}
use Rattle.lawful.proofs.Cons.{con_in, decl_parts}
use Rattle.lawful.proofs.Crdts.{kind_ordinary}
use Rattle.lawful.proofs.Distinct.{at_place}
use Rattle.lawful.proofs.Forms.{one}
use Rattle.lawful.proofs.Ordinary.{AllData, EntryData, IsData, TypesData, datatypes_data, declared_data}
use Rattle.lawful.proofs.Places.{all_both, all_parts}
use Rattle.lawful.proofs.Results.{pointwise_all}

-- # Fields of constructors

abbrev CaseData : Case → Type 0
CaseData c = AllData c.fields

abbrev ConData : Con → Type 0
ConData c = AllData c.fields

declared_fields : (n : Names) (cons : List ConTree) → AllData (field_kinds n cons) → AllByRecursion CaseData (map (con_case n) cons)
declared_fields n [] all = tt
declared_fields n (c ∷ cons) all =
    let parts = all_parts IsData (param_kinds n (con_fields c)) (field_kinds n cons) all in (parts.0, declared_fields n cons parts.1)

cases_data : (n : Names) → TypesData n → (b : Base) (m : ℕ) → IsData (record { base = b; maybes = m }) → (cs : List Case)
    → cases_of n (record { base = b; maybes = m }) ≡ Some cs → AllByRecursion CaseData cs
cases_data n all b (suc m) data_ cs e = of_maybe (record { base = b; maybes = m }) (is_open b && m == 0) cs data_ e where
  of_maybe : (k : Kind) (none : Bool) (cs : List Case) → IsData k → cond none None (Some (maybe_cases k)) ≡ Some cs → AllByRecursion CaseData cs
  of_maybe k true cs data_ e = absurd cc
  of_maybe k false cs data_ e = subst (AllByRecursion CaseData) (one e) (tt, ((data_, tt), tt))
cases_data n all base.Bool zero data_ cs e = subst (AllByRecursion CaseData) (one e) (tt, (tt, tt))
cases_data n all (base.Declared type) zero data_ cs e = by_entry n type (slice_get n.types type) refl cs all e where
  by_sort : (n : Names) (sort : TypeSort) (cs : List Case) (entry : TypeEntry) → entry.sort ≡ sort → EntryData n entry → sort_cases n sort ≡ Some cs → AllByRecursion CaseData cs
  by_sort n TypeSort.id_type cs entry is told e = absurd cc
  by_sort n TypeSort.opaque cs entry is told e = absurd cc
  by_sort n (TypeSort.datatype cons) cs entry is told e =
      subst (AllByRecursion CaseData) (one e) (declared_fields n cons (told_of n cons entry is told)) where
        told_of : (n : Names) (cons : List ConTree) (entry : TypeEntry) → entry.sort ≡ TypeSort.datatype cons → EntryData n entry → AllData (field_kinds n cons)
        told_of n cons entry is told = subst (λ s. EntryData n (record entry { sort = s })) is told

  by_entry : (n : Names) (type : ℕ) (o : Option TypeEntry) → slice_get n.types type ≡ o → (cs : List Case) → TypesData n → declared_cases n o ≡ Some cs
      → AllByRecursion CaseData cs
  by_entry n type None is cs all e = absurd cc
  by_entry n type (Some entry) is cs all e = by_sort n entry.sort cs entry refl (at_place (EntryData n) n.types type entry all is) e
cases_data n all base.Int zero data_ cs e = absurd cc
cases_data n all base.Text zero data_ cs e = absurd cc
cases_data n all base.Call zero data_ cs e = absurd cc
cases_data n all base.Invocation zero data_ cs e = absurd cc
cases_data n all base.Operation zero data_ cs e = absurd cc
cases_data n all base.Info zero data_ cs e = absurd cc
cases_data n all base.Outcome zero data_ cs e = absurd cc
cases_data n all base.Unknown zero data_ cs e = absurd cc
cases_data n all base.Open zero data_ cs e = absurd cc

cons_there : (k : Kind) (cs : List Case) → AllByRecursion CaseData cs → AllByRecursion ConData (map (con_in k) cs)
cons_there k [] all = tt
cons_there k (c ∷ cs) all = (all.0, cons_there k cs all.1)

type_cons : (n : Names) → TypesData n → (k : Kind) → IsData k → AllByRecursion ConData (cons_of n k)
type_cons n all k data_ = by_cases n all k data_ (cases_of n k) refl where
  by_cases : (n : Names) → TypesData n → (k : Kind) → IsData k → (o : Option (List Case)) → cases_of n k ≡ o → AllByRecursion ConData (map (con_in k) (unwrap_or o []))
  by_cases n all k data_ None is = tt
  by_cases n all k data_ (Some cs) is = cons_there k cs (cases_data n all k.base k.maybes data_ cs is)

all_cons : (n : Names) → TypesData n → (ks : List Kind) → AllData ks → AllByRecursion ConData (flat_map (cons_of n) ks)
all_cons n all [] data_ = tt
all_cons n all (k ∷ ks) data_ = all_both ConData (cons_of n k) (flat_map (cons_of n) ks) (type_cons n all k data_.0) (all_cons n all ks data_.1)

-- types of data in the program's numbers
pub tys_ordinary : (t : Tables) (p : Prog) → p.types ≡ type_table t → (ks : List Kind) (tys : List Ty) → AllData ks → each (ty_of t) ks ≡ Some tys
    → are_ordinary p.types tys ≡ true
tys_ordinary t p types [] tys all e = subst (λ z. are_ordinary p.types z ≡ true) (one e) refl
tys_ordinary t p types (k ∷ ks) tys all e =
    both_there (λ z. are_ordinary p.types z ≡ true) ◌∷◌ (ty_of t k) (each (ty_of t) ks) tys e
    (λ of ofs i j. and_from _ _ (kind_ordinary t p types k.base k.maybes of all.0 i) (tys_ordinary t p types ks ofs all.1 j))

pub fields_ordinary : (tree : List DeclTree) (p : Prog) → IsProgramOf tree p → are_ordinary_fields p.types p.cons ≡ true
fields_ordinary tree p is =
    let t = tables_of tree in
    let all = all_cons t.names (declared_data tree is.0) t.datatypes (datatypes_data tree is.0) in
    let made = each_there (λ (c : Con) (d : ConDecl). con_decl t c ≡ Some d) (con_decl t) (λ c d e. e) (cons t) p.cons.cons (table_there t p.cons is.1.cons) in
    pointwise_all (λ (c : Con) (d : ConDecl). con_decl t c ≡ Some d) ConData (λ (d : ConDecl). are_ordinary p.types d.fields) (cons t) p.cons.cons made all
    (λ c d told e. tys_ordinary t p is.1.types c.fields d.fields told (decl_parts t c d e).1)
