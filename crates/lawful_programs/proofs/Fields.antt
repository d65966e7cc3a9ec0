-- The variables of a pattern for a type that has a number have types that have numbers.
use Rattle.std.proofs.Common.{◌≡◌, ◌==◌, ◌&&◌, ℕ, zero, suc, Bool, true, false, cond, List, [], ◌∷◌, map, Option, Some, None, refl}
use Rattle.std.specs.Prelude.{slice_get}
use Rattle.std.specs.List.{AllByRecursion}
use Rattle.rp_grammar.specs.Trees.{ConTree}
use Rattle.type_rules.specs.declared.kind.Kind.{Kind}
use Rattle.type_rules.specs.declared.kind.Base.{Base}
use Rattle.type_rules.specs.declared.kind.Base.TheVariants as base
use Rattle.type_rules.specs.Names.{Name, TypeSort, TypeEntry, same_name, con_fields}
use Rattle.type_rules.specs.Kinds.{is_open, param_kinds}
use Rattle.type_rules.specs.Matches.{Case, case_fields, case_named, cases_of, con_case, declared_cases, find_case, maybe_cases, pattern_kinds, sort_cases}
use Rattle.desugaring.specs.Appearances.{field_kinds}
use Rattle.desugaring.specs.Tables.{Tables}
use Rattle.lawful.proofs.Distinct.{at_place}
use Rattle.lawful.proofs.Places.{all_parts}
use Rattle.lawful_programs.specs.Valued.{IsWhole, AllWhole}
use Rattle.lawful_programs.proofs.Wholes.{less_whole}
use Rattle.lawful_programs.proofs.Bases.{Numbered, EntryBased, TypesBased, declared_whole}

abbrev pub CaseWhole : Tables → Case → Type 0
CaseWhole t c = AllWhole t c.fields

abbrev pub CasesWhole : Tables → Option (List Case) → Type 0
CasesWhole t None = Unit {0}
CasesWhole t (Some cs) = AllByRecursion (CaseWhole t) cs

pub cons_whole : (t : Tables) (cons : List ConTree) → AllWhole t (field_kinds t.names cons) → AllByRecursion (CaseWhole t) (map (con_case t.names) cons)
cons_whole t [] all = tt
cons_whole t (c ∷ cons) all =
    let p = all_parts (IsWhole t) (param_kinds t.names (con_fields c)) (field_kinds t.names cons) all in (p.0, cons_whole t cons p.1)

sort_whole : (t : Tables) → Numbered t → (type : ℕ) (entry : TypeEntry) (sort : TypeSort) → slice_get t.names.types type ≡ Some entry → entry.sort ≡ sort
    → EntryBased t.names entry → CasesWhole t (sort_cases t.names sort)
sort_whole t numbered type entry TypeSort.id_type at sorted based = tt
sort_whole t numbered type entry TypeSort.opaque at sorted based = tt
sort_whole t numbered type entry (TypeSort.datatype cons) at sorted based =
    cons_whole t cons (declared_whole t numbered type entry cons at sorted based)

entry_whole : (t : Tables) → Numbered t → TypesBased t.names → (type : ℕ) (o : Option TypeEntry) → slice_get t.names.types type ≡ o
    → CasesWhole t (declared_cases t.names o)
entry_whole t numbered based type None at = tt
entry_whole t numbered based type (Some entry) at =
    sort_whole t numbered type entry entry.sort at refl (at_place (EntryBased t.names) t.names.types type entry based at)

pub cases_whole : (t : Tables) → Numbered t → TypesBased t.names → (b : Base) (m : ℕ) → IsWhole t (record { base = b; maybes = m })
    → CasesWhole t (cases_of t.names (record { base = b; maybes = m }))
cases_whole t numbered based b (suc m) whole = by_test t (record { base = b; maybes = m }) (is_open b && m == 0) (less_whole t b m whole) where
  by_test : (t : Tables) (k : Kind) (none : Bool) → IsWhole t k → CasesWhole t (cond none None (Some (maybe_cases k)))
  by_test t k true whole = tt
  by_test t k false whole = (tt, ((whole, tt), tt))
cases_whole t numbered based base.Bool zero whole = (tt, (tt, tt))
cases_whole t numbered based (base.Declared type) zero whole = entry_whole t numbered based type (slice_get t.names.types type) refl
cases_whole t numbered based base.Int zero whole = tt
cases_whole t numbered based base.Text zero whole = tt
cases_whole t numbered based base.Call zero whole = tt
cases_whole t numbered based base.Invocation zero whole = tt
cases_whole t numbered based base.Operation zero whole = tt
cases_whole t numbered based base.Info zero whole = tt
cases_whole t numbered based base.Outcome zero whole = tt
cases_whole t numbered based base.Unknown zero whole = tt
cases_whole t numbered based base.Open zero whole = tt

found_whole : (t : Tables) (cs : List Case) (x : Name) → AllByRecursion (CaseWhole t) cs → AllWhole t (case_fields (find_case cs x))
found_whole t [] x all = tt
found_whole t (c ∷ cs) x all = by_name t c cs x (same_name c.name x) all.0 (found_whole t cs x all.1) where
  by_name : (t : Tables) (c : Case) (cs : List Case) (x : Name) (same : Bool) → CaseWhole t c → AllWhole t (case_fields (find_case cs x))
      → AllWhole t (case_fields (cond same (Some c) (find_case cs x)))
  by_name t c cs x true here rest = here
  by_name t c cs x false here rest = rest

pub fields_whole : (t : Tables) → Numbered t → TypesBased t.names → (k : Kind) (x : Name) → IsWhole t k → AllWhole t (pattern_kinds t.names k x)
fields_whole t numbered based k x whole = by_cases t x (cases_of t.names k) (cases_whole t numbered based k.base k.maybes whole) where
  by_cases : (t : Tables) (x : Name) (o : Option (List Case)) → CasesWhole t o → AllWhole t (case_fields (case_named o x))
  by_cases t x None all = tt
  by_cases t x (Some cs) all = found_whole t cs x all
