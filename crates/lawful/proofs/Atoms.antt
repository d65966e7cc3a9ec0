-- Id and opaque types have numbers in the program's table.
use Rattle.std.proofs.Common.{◌≡◌, ◌+◌, ◌<◌, ℕ, zero, suc, Bool, true, false, cond, List, [], ◌∷◌, length, take, Option, Some, None, refl, subst, sym, ◌∙◌, arith}
use Rattle.std.specs.Prelude.{slice_get, nat_lt, option_and_then}
use Rattle.std.specs.List.{cons_option}
use Rattle.std.proofs.lemmas.Bool.{lt-ltb, true≢false}
use Rattle.rp_value.specs.declared.tables.Ty.{Ty}
use Rattle.rp_value.specs.declared.tables.Ty.TheVariants as ty
use Rattle.rp_value.specs.declared.tables.AtomType.{AtomType}
use Rattle.rp_lang.specs.Programs.{Prog}
use Rattle.rp_lang.specs.Types.{is_id_type}
use Rattle.rp_lang.specs.Typing.{Frame, is_range}
use Rattle.type_rules.specs.Names.{Name, TypeEntry, TypeSort, same_name, type_number, type_number_from, type_named, first_type}
use Rattle.type_rules.specs.Kinds.{named_kind}
use Rattle.type_rules.specs.Rules.{is_datatype}
use Rattle.type_rules.specs.Rules as rules
use Rattle.desugaring.specs.Tables.{Tables, atom_in, atoms, atom_number, sort_ty, type_table, ty_of}
use Rattle.desugaring.specs.Statements.{id_named, id_number}
use Rattle.lawful.proofs.Forms.{one}

-- the type of a name, by its number and itself
pub record Finds (es : List TypeEntry) (x : Name) (from type : ℕ) : Type 0 where
  pub place : ℕ
  pub entry : TypeEntry
  pub number : type ≡ from + place
  pub there : slice_get es place ≡ Some entry
  pub named : first_type es x ≡ Some entry

pub finds : (es : List TypeEntry) (x : Name) (from type : ℕ) → type_number_from from es x ≡ Some type → Finds es x from type
finds [] x from type e = absurd cc
finds (entry ∷ es) x from type e = by_name entry es x from type (same_name entry.name x) refl e (finds es x (from + 1) type) where
  by_name : (entry : TypeEntry) (es : List TypeEntry) (x : Name) (from type : ℕ) (same : Bool) → same_name entry.name x ≡ same
      → cond same (Some from) (type_number_from (from + 1) es x) ≡ Some type
      → (type_number_from (from + 1) es x ≡ Some type → Finds es x (from + 1) type) → Finds (entry ∷ es) x from type
  by_name entry es x from type true is e rest =
      let same : from ≡ type = one e in
      record { place = 0; entry = entry; number = omega (arith, same); there = refl; named = rw is refl }
  by_name entry es x from type false is e rest =
      let r = rest e in
      record { place = suc r.place; entry = r.entry; number = omega (arith, r.number); there = r.there; named = rw is r.named }

-- so many atoms are before an atom
fewer : (es : List TypeEntry) (i : ℕ) (entry : TypeEntry) (atom : AtomType) → slice_get es i ≡ Some entry → atom_in entry ≡ Some atom
    → length (atoms (take i es)) < length (atoms es)
fewer [] i entry atom is made = absurd cc
fewer (e ∷ es) zero entry atom is made =
    subst (λ o. 0 < length (cons_option o (atoms es))) (sym (subst (λ z. atom_in z ≡ Some atom) (sym (one is)) made)) (omega arith)
fewer (e ∷ es) (suc i) entry atom is made = by_atom es i (atom_in e) (fewer es i entry atom is made) where
  by_atom : (es : List TypeEntry) (i : ℕ) (o : Option AtomType) → length (atoms (take i es)) < length (atoms es)
      → length (cons_option o (atoms (take i es))) < length (cons_option o (atoms es))
  by_atom es i None lt = lt
  by_atom es i (Some a) lt = omega (arith, lt)

-- what the type of a name is
abbrev pub Range : Prog → Ty → Type 0
Range p of = (f : Frame) → is_range p f of ≡ true

pub atom_sort : (t : Tables) (p : Prog) → p.types ≡ type_table t → (type : ℕ) (entry : TypeEntry) → slice_get t.names.types type ≡ Some entry
    → is_datatype (Some entry) ≡ false → (of : Ty) → sort_ty t type entry.sort ≡ Some of → Range p of
atom_sort t p types type entry is bare of e = by_sort t p types type entry entry.sort refl is bare of e where
  ranges : (t : Tables) (p : Prog) → p.types ≡ type_table t → (type : ℕ) (entry : TypeEntry) (atom : AtomType) → slice_get t.names.types type ≡ Some entry
      → atom_in entry ≡ Some atom → Range p (ty.Atom (atom_number t.names type))
  ranges t p types type entry atom is made f =
      subst (λ z. nat_lt (atom_number t.names type) (length z.atoms) ≡ true) (sym types)
      (lt-ltb _ _ (fewer t.names.types type entry atom is made))

  by_sort : (t : Tables) (p : Prog) → p.types ≡ type_table t → (type : ℕ) (entry : TypeEntry) (sort : TypeSort) → entry.sort ≡ sort
      → slice_get t.names.types type ≡ Some entry → is_datatype (Some entry) ≡ false → (of : Ty) → sort_ty t type sort ≡ Some of → Range p of
  by_sort t p types type entry TypeSort.id_type sorted is bare of e =
      subst (Range p) (one e) (ranges t p types type entry (record { name = entry.name; is_id = true }) is (rw sorted refl))
  by_sort t p types type entry TypeSort.opaque sorted is bare of e =
      subst (Range p) (one e) (ranges t p types type entry (record { name = entry.name; is_id = false }) is (rw sorted refl))
  by_sort t p types type entry (TypeSort.datatype cons) sorted is bare of e = absurd (true≢false (sym (rw sorted refl) ∙ bare))

pub atom_is : (t : Tables) (p : Prog) → p.types ≡ type_table t → (x : Name) (of : Ty) → is_datatype (type_named t.names x) ≡ false
    → ty_of t (named_kind (type_number t.names x)) ≡ Some of → Range p of
atom_is t p types x of bare e = by_number t p types x of (type_number t.names x) refl bare e where
  by_number : (t : Tables) (p : Prog) → p.types ≡ type_table t → (x : Name) (of : Ty) (o : Option ℕ) → type_number t.names x ≡ o
      → is_datatype (type_named t.names x) ≡ false → ty_of t (named_kind o) ≡ Some of → Range p of
  by_number t p types x of None is bare e = absurd cc
  by_number t p types x of (Some type) is bare e =
      let f = finds t.names.types x 0 type is in
      let place : f.place ≡ type = omega (arith, f.number) in
      let there : slice_get t.names.types type ≡ Some f.entry = subst (λ i. slice_get t.names.types i ≡ Some f.entry) place f.there in
      atom_sort t p types type f.entry there (subst (λ o. is_datatype o ≡ false) f.named bare) of
      (subst (λ o. option_and_then (λ entry. sort_ty t type entry.sort) o ≡ Some of) there e)

-- the atom of a type stands behind those before it
atom_at : (es : List TypeEntry) (i : ℕ) (entry : TypeEntry) (atom : AtomType) → slice_get es i ≡ Some entry → atom_in entry ≡ Some atom
    → slice_get (atoms es) (length (atoms (take i es))) ≡ Some atom
atom_at [] i entry atom is made = absurd cc
atom_at (e ∷ es) zero entry atom is made =
    subst (λ o. slice_get (cons_option o (atoms es)) 0 ≡ Some atom) (sym (subst (λ z. atom_in z ≡ Some atom) (sym (one is)) made)) refl
atom_at (e ∷ es) (suc i) entry atom is made = by_atom es i atom (atom_in e) (atom_at es i entry atom is made) where
  by_atom : (es : List TypeEntry) (i : ℕ) (atom : AtomType) (o : Option AtomType) → slice_get (atoms es) (length (atoms (take i es))) ≡ Some atom
      → slice_get (cons_option o (atoms es)) (length (cons_option o (atoms (take i es)))) ≡ Some atom
  by_atom es i atom None h = h
  by_atom es i atom (Some a) h = h

-- an id type of that name is one of the program's
pub ids_fit : (t : Tables) (p : Prog) → p.types ≡ type_table t → (x : Name) (n : ℕ) → id_named t x ≡ Some n
    → rules.is_id_type (type_named t.names x) ≡ true → is_id_type (slice_get p.types.atoms n) ≡ true
ids_fit t p types x n is sort = by_number t p types x n (type_number t.names x) refl is sort where
  by_sort : (t : Tables) (p : Prog) → p.types ≡ type_table t → (type n : ℕ) (entry : TypeEntry) (sort : TypeSort) → entry.sort ≡ sort
      → slice_get t.names.types type ≡ Some entry → option_and_then id_number (sort_ty t type sort) ≡ Some n → rules.is_id_sort sort ≡ true
      → is_id_type (slice_get p.types.atoms n) ≡ true
  by_sort t p types type n entry TypeSort.id_type sorted is e sort =
      let atom : AtomType = record { name = entry.name; is_id = true } in
      let at = atom_at t.names.types type entry atom is (rw sorted refl) in
      subst (λ z. is_id_type (slice_get z.atoms n) ≡ true) (sym types)
      (subst (λ m. is_id_type (slice_get (atoms t.names.types) m) ≡ true) (one e) (subst (λ o. is_id_type o ≡ true) (sym at) refl))
  by_sort t p types type n entry TypeSort.opaque sorted is e sort = absurd cc
  by_sort t p types type n entry (TypeSort.datatype cons) sorted is e sort = absurd cc

  by_number : (t : Tables) (p : Prog) → p.types ≡ type_table t → (x : Name) (n : ℕ) (o : Option ℕ) → type_number t.names x ≡ o
      → option_and_then id_number (ty_of t (named_kind o)) ≡ Some n → rules.is_id_type (type_named t.names x) ≡ true
      → is_id_type (slice_get p.types.atoms n) ≡ true
  by_number t p types x n None is e sort = absurd cc
  by_number t p types x n (Some type) is e sort =
      let f = finds t.names.types x 0 type is in
      let place : f.place ≡ type = omega (arith, f.number) in
      let there : slice_get t.names.types type ≡ Some f.entry = subst (λ i. slice_get t.names.types i ≡ Some f.entry) place f.there in
      by_sort t p types type n f.entry f.entry.sort refl there
      (subst (λ o. option_and_then id_number (option_and_then (λ (z : TypeEntry). sort_ty t type z.sort) o) ≡ Some n) there e)
      (subst (λ o. rules.is_id_type o ≡ true) f.named sort)
