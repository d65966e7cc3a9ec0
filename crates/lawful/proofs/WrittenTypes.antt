-- A type that a lawful text writes is a type of its program.
use Rattle.std.proofs.Common.{◌≡◌, ◌+◌, ◌==◌, ℕ, zero, suc, Bool, true, false, cond, List, [], ◌∷◌, length, Option, Some, None, refl, ap, subst, sym, ◌∙◌, arith, inl, inr}
use Rattle.std.specs.Prelude.{reverse, slice_get, flat_map, option_map}
use Rattle.std.proofs.lemmas.Bool.{and_from, eq-eqb, ne_eqb, not-false, true≢false}
use Rattle.std.proofs.lemmas.Grind.{reverse_onto}
use Rattle.std.proofs.lemmas.List.{length-reverse, reverse-reverse}
use Rattle.std.proofs.lemmas.Option.{slice_get_within}
use Rattle.rp_span.specs.declared.Span.{Span}
use Rattle.rp_value.specs.declared.tables.Ty.{Ty}
use Rattle.rp_value.specs.declared.tables.Ty.TheVariants as ty
use Rattle.rp_grammar.specs.Trees.{TypeTree, TypeForm, ConTree, DeclForm, DeclTree}
use Rattle.type_rules.specs.declared.kind.Kind.{Kind}
use Rattle.type_rules.specs.declared.kind.Base.{Base}
use Rattle.type_rules.specs.declared.kind.Base.TheVariants as base
use Rattle.type_rules.specs.Names.{Name, Names, TypeSort, TypeEntry, same_name, types_in, type_number, type_number_from, first_type}
use Rattle.type_rules.specs.Kinds.{plain_kind, bool_kind, same_base, named_kind, kind_of, form_kind, innermost, innermost_form}
use Rattle.type_rules.specs.Queries.{names_of}
use Rattle.type_rules.specs.Rules.{is_before, type_is_before, late_type}
use Rattle.type_rules.specs.Faults.{IsOneOf}
use Rattle.desugaring.specs.Appearances.{same_kind, maybes_of, field_kinds, sort_parts, base_parts, with_maybes, parts, decl_kinds, kinds_from}
use Rattle.desugaring.specs.Tables.{Tables, tables_of, datatype_ty, base_ty, sort_ty, atom_number}
use Rattle.desugaring.proofs.Options.{then_is}
use Rattle.lawful.specs.Typed.{IsKnown}
use Rattle.lawful.proofs.Basics.{when_not}
use Rattle.lawful.proofs.Forms.{one}
use Rattle.lawful.proofs.Atoms.{finds}
use Rattle.lawful.proofs.Blocks.{either_at}
use Rattle.lawful.proofs.Behind.{form_in}
use Rattle.lawful.proofs.Listed.{in_left, in_right, in_once, position_there}

-- # The base of a written type is known

abbrev pub IsBase : Names → Base → Type 0
IsBase n base.Unknown = ⊥
IsBase n base.Open = ⊥
IsBase n (base.Declared type) = (entry : TypeEntry) × (slice_get n.types type ≡ Some entry)
IsBase n _ = Unit {0}

no_type : (es : List TypeEntry) (x : Name) (from : ℕ) → type_number_from from es x ≡ None → first_type es x ≡ None
no_type [] x from e = refl
no_type (entry ∷ es) x from e = by_name entry es x from (same_name entry.name x) e (no_type es x (from + 1)) where
  by_name : (entry : TypeEntry) (es : List TypeEntry) (x : Name) (from : ℕ) (same : Bool)
      → cond same (Some from) (type_number_from (from + 1) es x) ≡ None
      → (type_number_from (from + 1) es x ≡ None → first_type es x ≡ None) → cond same (Some entry) (first_type es x) ≡ None
  by_name entry es x from true e rest = absurd cc
  by_name entry es x from false e rest = rest e

named_base : (n : Names) (k : ℕ) (x : Name) → type_is_before n k x ≡ true → IsBase n (named_kind (type_number n x)).base
named_base n k x e = by_number n k x (type_number n x) refl e where
  by_number : (n : Names) (k : ℕ) (x : Name) (o : Option ℕ) → type_number n x ≡ o → type_is_before n k x ≡ true → IsBase n (named_kind o).base
  by_number n k x None is e = absurd (true≢false (sym e ∙ ap (is_before k) (no_type n.types x 0 is)))
  by_number n k x (Some type) is e =
      let f = finds n.types x 0 type is in
      let place : f.place ≡ type = omega (arith, f.number) in
      (f.entry, subst (λ i. slice_get n.types i ≡ Some f.entry) place f.there)

mutual
  pub written_base : (n : Names) (k : ℕ) (t : TypeTree) → late_type n k (innermost t) ≡ None → IsBase n (kind_of n t).base
  written_base n k (TypeTree.node at form) e = form_base n k at form e

  form_base : (n : Names) (k : ℕ) (at : Span) (form : TypeForm) → late_type n k (innermost_form at form) ≡ None → IsBase n (form_kind n form).base
  form_base n k at (TypeForm.named x) e = named_base n k x (not-false _ (when_not _ _ e))
  form_base n k at TypeForm.bool e = tt
  form_base n k at TypeForm.int e = tt
  form_base n k at TypeForm.text e = tt
  form_base n k at (TypeForm.maybe t) e = written_base n k t e
  form_base n k at TypeForm.call e = tt
  form_base n k at TypeForm.invocation e = tt

same_self_base : (n : Names) (b : Base) → IsBase n b → same_base b b ≡ true
same_self_base n base.Unknown is = absurd is
same_self_base n base.Open is = absurd is
same_self_base n (base.Declared type) is = eq-eqb type type refl
same_self_base n _ is = refl

same_self : (n : Names) (k : Kind) → IsBase n k.base → same_kind k k ≡ true
same_self n k is = and_from (same_base k.base k.base) (k.maybes == k.maybes) (same_self_base n k.base is) (eq-eqb k.maybes k.maybes refl)

-- # A declared datatype is a part of itself

own_parts : (n : Names) (before : List TypeEntry) (e : TypeEntry) (type : ℕ) (cons : List ConTree) → type ≡ length before
    → e.sort ≡ TypeSort.datatype cons → IsOneOf (plain_kind (base.Declared type)) (base_parts n (e ∷ before) (base.Declared type))
own_parts n before e type cons last sorted =
    let own = plain_kind (base.Declared type) in
    let inner = base_parts n before in
    let is : (type == length before) ≡ true = eq-eqb type (length before) last in
    let same : plain_kind (base.Declared (length before)) ≡ own = ap (λ z. plain_kind (base.Declared z)) (sym last) in
    subst (λ b. IsOneOf own (cond b (sort_parts n inner (length before) e.sort) (inner (base.Declared type)))) (sym is)
    (subst (λ s. IsOneOf own (sort_parts n inner (length before) s)) (sym sorted)
    (in_right own (flat_map (with_maybes inner) (field_kinds n cons)) (plain_kind (base.Declared (length before)) ∷ []) (inl same)))

pub parts_there : (n : Names) (late : List TypeEntry) (type : ℕ) (entry : TypeEntry) (cons : List ConTree) → slice_get (reverse late) type ≡ Some entry
    → entry.sort ≡ TypeSort.datatype cons → IsOneOf (plain_kind (base.Declared type)) (base_parts n late (base.Declared type))
parts_there n [] type entry cons at sorted = absurd cc
parts_there n (e ∷ before) type entry cons at sorted =
    let own = plain_kind (base.Declared type) in
    let inner = base_parts n before in
    elim (either_at (reverse before) (e ∷ []) type entry (subst (λ xs. slice_get xs type ≡ Some entry) (reverse_onto before e []) at)) [
      | inl h ↦
          let less = slice_get_within (reverse before) type entry h in
          let other : (type == length before) ≡ false = ne_eqb type (length before) (λ s. omega (arith, less, s, length-reverse before)) in
          subst (λ b. IsOneOf own (cond b (sort_parts n inner (length before) e.sort) (inner (base.Declared type)))) (sym other)
          (parts_there n before type entry cons h sorted)
      | inr h ↦ at_last n before e type entry cons h.0 h.1 h.2 sorted
    ] where
      at_last : (n : Names) (before : List TypeEntry) (e : TypeEntry) (type : ℕ) (entry : TypeEntry) (cons : List ConTree) (d : ℕ)
          → type ≡ length (reverse before) + d → slice_get (e ∷ []) d ≡ Some entry → entry.sort ≡ TypeSort.datatype cons
          → IsOneOf (plain_kind (base.Declared type)) (base_parts n (e ∷ before) (base.Declared type))
      at_last n before e type entry cons zero place at sorted =
          let last : type ≡ length before = omega (arith, place, length-reverse before) in
          own_parts n before e type cons last (ap (λ z. z.sort) (one at) ∙ sorted)
      at_last n before e type entry cons (suc d) place at sorted = absurd cc

-- # A kind of a known base is known where its parts are among the datatypes

pub data_known : (t : Tables) (k : Kind) → same_kind k k ≡ true → IsOneOf k t.datatypes → (of : Ty) × (datatype_ty t k ≡ Some of)
data_known t k same at = let r = position_there (same_kind k) k t.datatypes same at in (ty.Datatype r.0, ap (option_map ty.Datatype) r.1)

pub sort_known : (t : Tables) (type : ℕ) (sort : TypeSort) → ((cons : List ConTree) → sort ≡ TypeSort.datatype cons → IsOneOf (plain_kind (base.Declared type)) t.datatypes)
    → (of : Ty) × (sort_ty t type sort ≡ Some of)
sort_known t type TypeSort.id_type within = (ty.Atom (atom_number t.names type), refl)
sort_known t type TypeSort.opaque within = (ty.Atom (atom_number t.names type), refl)
sort_known t type (TypeSort.datatype cons) within =
    data_known t (plain_kind (base.Declared type)) (and_from (type == type) (0 == 0) (eq-eqb type type refl) refl) (within cons refl)

abbrev pub PartsWithin : Tables → Kind → Type 0
PartsWithin t k = (c : Kind) → IsOneOf c (parts t.names k) → IsOneOf c t.datatypes

pub base_known : (t : Tables) (b : Base) → IsBase t.names b → PartsWithin t (plain_kind b) → IsOneOf bool_kind t.datatypes → IsKnown t (plain_kind b)
base_known t base.Bool is within bool = data_known t bool_kind refl bool
base_known t base.Int is within bool = (ty.Int, refl)
base_known t base.Text is within bool = (ty.Str, refl)
base_known t (base.Declared type) is within bool =
    let n = t.names in
    let own = plain_kind (base.Declared type) in
    let r = sort_known t type is.0.sort (λ cons sorted. within own (in_left own (base_parts n (reverse n.types) (base.Declared type)) []
    (parts_there n (reverse n.types) type is.0 cons (subst (λ xs. slice_get xs type ≡ Some is.0) (sym (reverse-reverse n.types)) is.1) sorted))) in
    (r.0, then_is (λ entry. sort_ty t type entry.sort) (slice_get n.types type) is.0 r.0 is.1 r.1)
base_known t base.Call is within bool = (ty.Call, refl)
base_known t base.Invocation is within bool = (ty.Inv, refl)
base_known t base.Operation is within bool = (ty.Operation, refl)
base_known t base.Info is within bool = (ty.Info, refl)
base_known t base.Outcome is within bool = (ty.Outcome, refl)
base_known t base.Unknown is within bool = absurd is
base_known t base.Open is within bool = absurd is

pub kind_known : (t : Tables) (b : Base) (m : ℕ) → IsBase t.names b → PartsWithin t (record { base = b; maybes = m }) → IsOneOf bool_kind t.datatypes
    → IsKnown t (record { base = b; maybes = m })
kind_known t b zero is within bool = base_known t b is within bool
kind_known t b (suc m) is within bool =
    let k : Kind = record { base = b; maybes = suc m } in
    let inner = base_parts t.names (reverse t.names.types) b in
    let there = within k (in_right k inner (maybes_of b (suc m)) (in_right k (maybes_of b m) (k ∷ []) (inl refl))) in
    let r = data_known t k (same_self t.names k is) there in
    (r.0, ap (λ z. cond z (base_ty t b) (datatype_ty t k)) (ne_eqb (suc m) 0 (omega arith)) ∙ r.1)

-- # What appears in a declaration appears in the text

pub appears : (n : Names) (k type : ℕ) (ds : List DeclTree) (i m : ℕ) (at : Span) (form : DeclForm) (c : Kind) → k + i ≡ m
    → slice_get ds i ≡ Some (DeclTree.node at form) → ((before : ℕ) → IsOneOf c (decl_kinds n m before form)) → IsOneOf c (kinds_from n k type ds)
appears n k type [] i m at form c number there is = absurd cc
appears n k type (DeclTree.node s first ∷ ds) zero m at form c number there is =
    let same : m ≡ k = omega (arith, number) in
    let next = type + length (types_in k (DeclTree.node s first)) in
    in_left c (decl_kinds n k type first) (kinds_from n (k + 1) next ds)
    (subst (λ z. IsOneOf c (decl_kinds n k type z)) (sym (ap form_in (one there))) (subst (λ z. IsOneOf c (decl_kinds n z type form)) same (is type)))
appears n k type (DeclTree.node s first ∷ ds) (suc i) m at form c number there is =
    let following : k + 1 + i ≡ m = omega (arith, number) in
    let next = type + length (types_in k (DeclTree.node s first)) in
    in_right c (decl_kinds n k type first) (kinds_from n (k + 1) next ds) (appears n (k + 1) next ds i m at form c following there is)

-- a type that a declaration writes is known, where it is none that is declared later
pub written_known : (tree : List DeclTree) (m : ℕ) (at : Span) (form : DeclForm) (written : TypeTree) → slice_get tree m ≡ Some (DeclTree.node at form)
    → ((c : Kind) → IsOneOf c (parts (names_of tree) (kind_of (names_of tree) written)) → (before : ℕ) → IsOneOf c (decl_kinds (names_of tree) m before form))
    → late_type (names_of tree) m (innermost written) ≡ None → IsKnown (tables_of tree) (kind_of (names_of tree) written)
written_known tree m at form written there speaks law =
    let n = names_of tree in
    let k = kind_of n written in
    let number : 0 + m ≡ m = omega arith in
    kind_known (tables_of tree) k.base k.maybes (written_base n m written law)
    (λ c part. in_once c (bool_kind ∷ kinds_from n 0 0 tree) (inr (appears n 0 0 tree m m at form c number there (speaks c part))))
    (in_once bool_kind (bool_kind ∷ kinds_from n 0 0 tree) (inl refl))
