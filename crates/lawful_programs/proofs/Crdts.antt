-- The types of a root's keys and elements have numbers.
use Rattle.std.proofs.Common.{◌≡◌, ◌+◌, ◌==◌, ℕ, zero, suc, true, List, [], ◌∷◌, Some, refl, ap, subst, sym, ◌∙◌, arith}
use Rattle.std.specs.Prelude.{reverse}
use Rattle.std.specs.List.{AllByRecursion}
use Rattle.std.proofs.lemmas.Bool.{and_from, eq-eqb, true≢false}
use Rattle.rp_grammar.specs.Trees.{TypeTree, CrdtTree, CrdtForm, FieldTree, FieldTrees}
use Rattle.type_rules.specs.declared.kind.Kind.{Kind}
use Rattle.type_rules.specs.declared.kind.Base.TheVariants as base
use Rattle.type_rules.specs.declared.role.Role.TheVariants as role
use Rattle.type_rules.specs.Kinds.{bool_kind, operation_kind, same_base, maybe_of, kind_of}
use Rattle.type_rules.specs.Paths.{Member, is_question, members_of}
use Rattle.type_rules.specs.Sites.{Site}
use Rattle.type_rules.specs.DeclSites.{crdt_sites, crdt_form_sites, field_names, fields_sites, named_all}
use Rattle.type_rules.specs.Rules.{rule, rules, rule02}
use Rattle.desugaring.specs.Appearances.{base_parts, crdt_kinds, fields_kinds, form_kinds, maybes_of, parts}
use Rattle.desugaring.specs.Objects.{KindStep, field, key, keys_on, same_path}
use Rattle.desugaring.specs.Tables.{Tables}
use Rattle.rp_value.specs.declared.tables.Ty.TheVariants as ty
use Rattle.lawful.proofs.Forms.{one}
use Rattle.lawful.proofs.Places.{Lawfully, all_parts, is_one_of}
use Rattle.lawful.proofs.Roots.{Reaches, field_at}
use Rattle.lawful.proofs.WrittenTypes.{written_base}
use Rattle.lawful_programs.specs.Valued.{IsWhole, AllWhole}
use Rattle.lawful_programs.proofs.Wholes.{bare_whole, int_whole, kind_self, whole_not_any}
use Rattle.lawful_programs.proofs.Bases.{Within, within_left, within_right, Numbered, based_whole}

-- # The types that a root writes

abbrev mutual
  pub CrdtWhole : Tables → CrdtTree → Type 0
  CrdtWhole t (CrdtTree.node at form) = FormWhole t form

  pub FormWhole : Tables → CrdtForm → Type 0
  FormWhole t (CrdtForm.set_aw e) = IsWhole t (kind_of t.names e)
  FormWhole t (CrdtForm.set_rw e) = IsWhole t (kind_of t.names e)
  FormWhole t (CrdtForm.reg e) = IsWhole t (maybe_of (kind_of t.names e))
  FormWhole t (CrdtForm.mv_reg e) = IsWhole t (kind_of t.names e)
  FormWhole t CrdtForm.counter = Unit {0}
  FormWhole t (CrdtForm.map_uw k c) = IsWhole t (kind_of t.names k) × CrdtWhole t c
  FormWhole t (CrdtForm.map_dw k c) = IsWhole t (kind_of t.names k) × CrdtWhole t c
  FormWhole t (CrdtForm.struct fields) = FieldsWhole t fields

  pub FieldsWhole : Tables → FieldTrees → Type 0
  FieldsWhole t FieldTrees.no_fields = Unit {0}
  FieldsWhole t (FieldTrees.more_fields (FieldTree.field x c) fields) = CrdtWhole t c × FieldsWhole t fields

element_whole : (t : Tables) → Numbered t → (k : ℕ) (e : TypeTree) → Lawfully t.names (Site.written k role.Field e)
    → Within t (parts t.names (kind_of t.names e)) → IsWhole t (kind_of t.names e)
element_whole t numbered k e law within =
    let kind = kind_of t.names e in
    based_whole t numbered kind (written_base t.names k e (law (rule 2 rule02) (is_one_of rules 1 _ refl)))
    (within_right t (base_parts t.names (reverse t.names.types) kind.base) (maybes_of kind.base kind.maybes) within)

register_whole : (t : Tables) → Numbered t → (k : ℕ) (e : TypeTree) → Lawfully t.names (Site.written k role.Field e)
    → Within t (parts t.names (maybe_of (kind_of t.names e))) → IsWhole t (maybe_of (kind_of t.names e))
register_whole t numbered k e law within =
    let kind = maybe_of (kind_of t.names e) in
    based_whole t numbered kind (written_base t.names k e (law (rule 2 rule02) (is_one_of rules 1 _ refl)))
    (within_right t (base_parts t.names (reverse t.names.types) kind.base) (maybes_of kind.base kind.maybes) within)

mutual
  pub crdt_whole : (t : Tables) → Numbered t → (k : ℕ) (c : CrdtTree) → AllByRecursion (Lawfully t.names) (crdt_sites k c)
      → Within t (crdt_kinds t.names c) → CrdtWhole t c
  crdt_whole t numbered k (CrdtTree.node at form) laws within = form_whole t numbered k form laws within

  form_whole : (t : Tables) → Numbered t → (k : ℕ) (form : CrdtForm) → AllByRecursion (Lawfully t.names) (crdt_form_sites k form)
      → Within t (form_kinds t.names form) → FormWhole t form
  form_whole t numbered k (CrdtForm.set_aw e) laws within = element_whole t numbered k e laws.0 within
  form_whole t numbered k (CrdtForm.set_rw e) laws within = element_whole t numbered k e laws.0 within
  form_whole t numbered k (CrdtForm.reg e) laws within = register_whole t numbered k e laws.0 within
  form_whole t numbered k (CrdtForm.mv_reg e) laws within = element_whole t numbered k e laws.0 within
  form_whole t numbered k CrdtForm.counter laws within = tt
  form_whole t numbered k (CrdtForm.map_uw e c) laws within = (
    element_whole t numbered k e laws.0 (within_left t (parts t.names (kind_of t.names e)) (crdt_kinds t.names c) within),
    crdt_whole t numbered k c laws.1 (within_right t (parts t.names (kind_of t.names e)) (crdt_kinds t.names c) within),
  )
  form_whole t numbered k (CrdtForm.map_dw e c) laws within = (
    element_whole t numbered k e laws.0 (within_left t (parts t.names (kind_of t.names e)) (crdt_kinds t.names c) within),
    crdt_whole t numbered k c laws.1 (within_right t (parts t.names (kind_of t.names e)) (crdt_kinds t.names c) within),
  )
  form_whole t numbered k (CrdtForm.struct fields) laws within =
      fields_whole t numbered k fields (all_parts (Lawfully t.names) (named_all [] (field_names fields)) (fields_sites k fields) laws).1 within

  fields_whole : (t : Tables) → Numbered t → (k : ℕ) (fields : FieldTrees) → AllByRecursion (Lawfully t.names) (fields_sites k fields)
      → Within t (fields_kinds t.names fields) → FieldsWhole t fields
  fields_whole t numbered k FieldTrees.no_fields laws within = tt
  fields_whole t numbered k (FieldTrees.more_fields (FieldTree.field x c) fields) laws within =
      let p = all_parts (Lawfully t.names) (crdt_sites k c) (fields_sites k fields) laws in (
        crdt_whole t numbered k c p.0 (within_left t (crdt_kinds t.names c) (fields_kinds t.names fields) within),
        fields_whole t numbered k fields p.1 (within_right t (crdt_kinds t.names c) (fields_kinds t.names fields) within),
      )

-- # Along a path

field_whole : (t : Tables) (k : ℕ) (fields : FieldTrees) (c : CrdtTree) → field_at k fields ≡ Some c → FieldsWhole t fields → CrdtWhole t c
field_whole t k FieldTrees.no_fields c is whole = absurd cc
field_whole t zero (FieldTrees.more_fields (FieldTree.field x d) others) c is whole = subst (CrdtWhole t) (one is) whole.0
field_whole t (suc k) (FieldTrees.more_fields (FieldTree.field x d) others) c is whole = field_whole t k others c is whole.1

pub reach_whole : (t : Tables) (c : CrdtTree) (path : List KindStep) (d : CrdtTree) → Reaches t.names c path d → CrdtWhole t c
    → AllWhole t (keys_on path) × CrdtWhole t d
reach_whole t c path d Reaches.here whole = (tt, whole)
reach_whole t c path d (Reaches.at_field {parts = parts_} {k = k} {c = inner} {path = rest} is r) whole =
    reach_whole t inner rest d r (field_whole t k parts_ inner is whole)
reach_whole t c path d (Reaches.at_key_uw {c = inner} {path = rest} r) whole = let p = reach_whole t inner rest d r whole.1 in ((whole.0, p.0), p.1)
reach_whole t c path d (Reaches.at_key_dw {c = inner} {path = rest} r) whole = let p = reach_whole t inner rest d r whole.1 in ((whole.0, p.0), p.1)

-- such a path is found by itself
pub path_self : (t : Tables) (path : List KindStep) → AllWhole t (keys_on path) → same_path path path ≡ true
path_self t [] whole = refl
path_self t (field k ∷ path) whole = and_from (k == k) (same_path path path) (eq-eqb k k refl) (path_self t path whole)
path_self t (key k ∷ path) whole = and_from _ (same_path path path) (kind_self k (whole_not_any t k whole.0)) (path_self t path whole.1)

-- # Members

pub record MemberWhole (t : Tables) (m : Member) : Type 0 where
  pub args : AllWhole t m.args
  pub result : IsWhole t m.result
  pub truth : m.result ≡ bool_kind → is_question m.does ≡ true

op_member : (t : Tables) (m : Member) → AllWhole t m.args → m.result ≡ operation_kind → MemberWhole t m
op_member t m args is = record {
  args = args;
  result = subst (IsWhole t) (sym is) (bare_whole t base.Operation (ty.Operation, refl));
  truth = λ e. absurd (true≢false (sym (ap (λ z. same_base z.base base.Bool) (sym is ∙ e))));
}

pub members_whole : (t : Tables) → IsWhole t bool_kind → (form : CrdtForm) → FormWhole t form → AllByRecursion (MemberWhole t) (members_of t.names form)
members_whole t bool (CrdtForm.set_aw e) whole =
    (op_member t _ (whole, tt) refl, (op_member t _ (whole, tt) refl, (record { args = (whole, tt); result = bool; truth = λ h. refl }, tt)))
members_whole t bool (CrdtForm.set_rw e) whole =
    (op_member t _ (whole, tt) refl, (op_member t _ (whole, tt) refl, (record { args = (whole, tt); result = bool; truth = λ h. refl }, tt)))
members_whole t bool (CrdtForm.reg e) whole =
    let k = kind_of t.names e in
    let inner : IsWhole t k = λ m less. whole m (omega (arith, less)) in
    (op_member t _ (inner, tt) refl, (record { args = tt; result = whole; truth = λ h. absurd (some_maybe k h) }, tt)) where
      some_maybe : (k : Kind) → maybe_of k ≡ bool_kind → ⊥
      some_maybe k e = let many : k.maybes + 1 ≡ 0 = ap (λ z. z.maybes) e in omega (arith, many)
members_whole t bool (CrdtForm.mv_reg e) whole = (op_member t _ (whole, tt) refl, (record { args = (whole, tt); result = bool; truth = λ h. refl }, tt))
members_whole t bool CrdtForm.counter whole =
    (op_member t _ (int_whole t, tt) refl, (record { args = tt; result = int_whole t; truth = λ h. absurd (true≢false (sym (ap (λ z. same_base z.base base.Bool) h))) }, tt))
members_whole t bool (CrdtForm.map_uw e c) whole = (op_member t _ (whole.0, tt) refl, (record { args = (whole.0, tt); result = bool; truth = λ h. refl }, tt))
members_whole t bool (CrdtForm.map_dw e c) whole = (op_member t _ (whole.0, tt) refl, (record { args = (whole.0, tt); result = bool; truth = λ h. refl }, tt))
members_whole t bool (CrdtForm.struct parts_) whole = tt
