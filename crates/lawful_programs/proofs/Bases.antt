-- The declared types of a lawful text have numbers, and so have those of their fields.
use Rattle.std.proofs.Common.{◌≡◌, ◌+◌, ◌==◌, ℕ, zero, suc, true, false, cond, List, [], ◌∷◌, ◌++◌, map, length, Some, refl, ap, subst, sym, ◌∙◌, arith, inl, inr}
use Rattle.std.specs.Prelude.{slice_get, reverse, flat_map}
use Rattle.std.specs.List.{AllByRecursion}
use Rattle.std.proofs.lemmas.Bool.{eq-eqb, ne_eqb}
use Rattle.std.proofs.lemmas.Grind.{reverse_onto}
use Rattle.std.proofs.lemmas.List.{length-reverse, reverse-reverse}
use Rattle.std.proofs.lemmas.Option.{slice_get_within}
use Rattle.rp_value.specs.declared.tables.Ty.TheVariants as ty
use Rattle.rp_grammar.specs.Trees.{ConTree, ParamTree, DeclForm, DeclTree}
use Rattle.type_rules.specs.declared.kind.Kind.{Kind}
use Rattle.type_rules.specs.declared.kind.Base.{Base}
use Rattle.type_rules.specs.declared.kind.Base.TheVariants as base
use Rattle.type_rules.specs.declared.role.Role.TheVariants as role
use Rattle.type_rules.specs.Names.{Names, TypeSort, TypeEntry, param_name, param_type, types_from}
use Rattle.type_rules.specs.Kinds.{bool_kind, plain_kind, is_any, param_kinds}
use Rattle.type_rules.specs.Queries.{names_of}
use Rattle.type_rules.specs.DeclSites.{named_all, written_all, con_sites}
use Rattle.type_rules.specs.TextSites.{Seen, nothing_seen, with_decl, decl_sites}
use Rattle.type_rules.specs.Rules.{rule, rules, rule02}
use Rattle.type_rules.specs.Faults.{IsOneOf, IsLawful}
use Rattle.desugaring.specs.Appearances.{maybes_of, field_kinds, sort_parts, base_parts, with_maybes, parts, kinds_from, decl_kinds}
use Rattle.desugaring.specs.Tables.{Tables, tables_of, base_ty, datatype_ty, sort_ty}
use Rattle.desugaring.proofs.Options.{then_is}
use Rattle.lawful.specs.Typed.{IsKnown}
use Rattle.lawful.proofs.Behind.{decl_parts}
use Rattle.lawful.proofs.Blocks.{either_at}
use Rattle.lawful.proofs.Forms.{one}
use Rattle.lawful.proofs.Listed.{in_left, in_right, in_flat, in_once}
use Rattle.lawful.proofs.Places.{Lawfully, all_lawful, all_parts, all_both, is_one_of, types_are}
use Rattle.lawful.proofs.WrittenTypes.{IsBase, data_known, parts_there, sort_known, written_base}
use Rattle.lawful_programs.specs.Valued.{IsWhole, AllWhole}
use Rattle.lawful_programs.proofs.Wholes.{kind_self, maybes_more}

-- # Declared datatypes are numbered, with all that stands in their fields

abbrev pub Within : Tables → List Kind → Type 0
Within t ks = (c : Kind) → IsOneOf c ks → IsOneOf c t.datatypes

pub within_left : (t : Tables) (ks js : List Kind) → Within t (ks ++ js) → Within t ks
within_left t ks js all c at = all c (in_left c ks js at)

pub within_right : (t : Tables) (ks js : List Kind) → Within t (ks ++ js) → Within t js
within_right t ks js all c at = all c (in_right c ks js at)

abbrev pub SortNumbered : Tables → ℕ → TypeSort → Type 0
SortNumbered t type TypeSort.id_type = Unit {0}
SortNumbered t type TypeSort.opaque = Unit {0}
SortNumbered t type (TypeSort.datatype cons) = Within t (parts t.names (plain_kind (base.Declared type)))

abbrev EntriesNumbered : Tables → ℕ → List TypeEntry → Type 0
EntriesNumbered t type [] = Unit {0}
EntriesNumbered t type (e ∷ es) = SortNumbered t type e.sort × EntriesNumbered t (type + 1) es

no_type : (t : Tables) (type : ℕ) (es : List TypeEntry) → EntriesNumbered t (type + 0) es → EntriesNumbered t type es
no_type t type es all = let same : type + 0 ≡ type = omega arith in subst (λ i. EntriesNumbered t i es) same all

types_numbered : (t : Tables) (k type : ℕ) (ds : List DeclTree) → Within t (kinds_from t.names k type ds) → EntriesNumbered t type (types_from k ds)
types_numbered t k type [] all = tt
types_numbered t k type (DeclTree.node at (DeclForm.id_type x) ∷ ds) all = (tt, types_numbered t (k + 1) (type + 1) ds all)
types_numbered t k type (DeclTree.node at (DeclForm.opaque x) ∷ ds) all = (tt, types_numbered t (k + 1) (type + 1) ds all)
types_numbered t k type (DeclTree.node at (DeclForm.datatype x cons) ∷ ds) all =
    let own = parts t.names (plain_kind (base.Declared type)) in
    let rest = kinds_from t.names (k + 1) (type + 1) ds in
    (within_left t own rest all, types_numbered t (k + 1) (type + 1) ds (within_right t own rest all))
types_numbered t k type (DeclTree.node at (DeclForm.crdt x c) ∷ ds) all =
    no_type t type (types_from (k + 1) ds) (types_numbered t (k + 1) (type + 0) ds (within_right t (decl_kinds t.names k type (DeclForm.crdt x c)) _ all))
types_numbered t k type (DeclTree.node at (DeclForm.query q) ∷ ds) all =
    no_type t type (types_from (k + 1) ds) (types_numbered t (k + 1) (type + 0) ds (within_right t (decl_kinds t.names k type (DeclForm.query q)) _ all))
types_numbered t k type (DeclTree.node at (DeclForm.invariant x e) ∷ ds) all =
    no_type t type (types_from (k + 1) ds) (types_numbered t (k + 1) (type + 0) ds (within_right t (decl_kinds t.names k type (DeclForm.invariant x e)) _ all))
types_numbered t k type (DeclTree.node at (DeclForm.proc p) ∷ ds) all =
    no_type t type (types_from (k + 1) ds) (types_numbered t (k + 1) (type + 0) ds (within_right t (decl_kinds t.names k type (DeclForm.proc p)) _ all))

numbered_at : (t : Tables) (type : ℕ) (es : List TypeEntry) (j m : ℕ) (e : TypeEntry) → type + j ≡ m → EntriesNumbered t type es → slice_get es j ≡ Some e
    → SortNumbered t m e.sort
numbered_at t type [] j m e number all is = absurd cc
numbered_at t type (f ∷ es) zero m e number all is =
    let same : type ≡ m = omega (arith, number) in
    subst (λ i. SortNumbered t i e.sort) same (subst (λ z. SortNumbered t type z.sort) (one is) all.0)
numbered_at t type (f ∷ es) (suc j) m e number all is = numbered_at t (type + 1) es j m e (omega (arith, number)) all.1 is

-- what a text's declared types have
pub record Numbered (t : Tables) : Type 0 where
  pub bool : IsOneOf bool_kind t.datatypes
  pub declared : (type : ℕ) (e : TypeEntry) → slice_get t.names.types type ≡ Some e → SortNumbered t type e.sort

pub text_within : (tree : List DeclTree) → Within (tables_of tree) (kinds_from (names_of tree) 0 0 tree)
text_within tree c at = in_once c (bool_kind ∷ kinds_from (names_of tree) 0 0 tree) (inr at)

pub text_numbered : (tree : List DeclTree) → Numbered (tables_of tree)
text_numbered tree = record {
  bool = in_once bool_kind (bool_kind ∷ kinds_from (names_of tree) 0 0 tree) (inl refl);
  declared = λ type e is.
      let number : 0 + type ≡ type = omega arith in
      numbered_at (tables_of tree) 0 (types_from 0 tree) type type e number (types_numbered (tables_of tree) 0 0 tree (text_within tree))
      (subst (λ es. slice_get es type ≡ Some e) (types_are tree) is);
}

-- # Bases

pub base_whole : (t : Tables) → Numbered t → (b : Base) → IsBase t.names b → IsKnown t (plain_kind b)
base_whole t numbered base.Bool is = data_known t bool_kind refl numbered.bool
base_whole t numbered base.Int is = (ty.Int, refl)
base_whole t numbered base.Text is = (ty.Str, refl)
base_whole t numbered (base.Declared type) is =
    let n = t.names in
    let own = plain_kind (base.Declared type) in
    let r = sort_known t type is.0.sort (λ cons sorted. subst (SortNumbered t type) sorted (numbered.declared type is.0 is.1) own
    (in_left own (base_parts n (reverse n.types) (base.Declared type)) []
    (parts_there n (reverse n.types) type is.0 cons (subst (λ xs. slice_get xs type ≡ Some is.0) (sym (reverse-reverse n.types)) is.1) sorted))) in
    (r.0, then_is (λ entry. sort_ty t type entry.sort) (slice_get n.types type) is.0 r.0 is.1 r.1)
base_whole t numbered base.Call is = (ty.Call, refl)
base_whole t numbered base.Invocation is = (ty.Inv, refl)
base_whole t numbered base.Operation is = (ty.Operation, refl)
base_whole t numbered base.Info is = (ty.Info, refl)
base_whole t numbered base.Outcome is = (ty.Outcome, refl)
base_whole t numbered base.Unknown is = absurd is
base_whole t numbered base.Open is = absurd is

base_sure : (n : Names) (b : Base) → IsBase n b → is_any b ≡ false
base_sure n base.Unknown is = absurd is
base_sure n base.Open is = absurd is
base_sure n _ is = refl

-- a type whose `Maybe`s are among the datatypes
pub based_whole : (t : Tables) → Numbered t → (k : Kind) → IsBase t.names k.base → Within t (maybes_of k.base k.maybes) → IsWhole t k
based_whole t numbered k is within zero e = base_whole t numbered k.base is
based_whole t numbered k is within (suc m) e =
    let all : Kind = record { base = k.base; maybes = suc m } in
    let there = within all (maybes_more all k.base (suc m) k.maybes e (in_right all (maybes_of k.base m) (all ∷ []) (inl refl))) in
    let r = data_known t all (kind_self all (base_sure t.names k.base is)) there in
    (r.0, ap (λ z. cond z (base_ty t k.base) (datatype_ty t all)) (ne_eqb (suc m) 0 (omega arith)) ∙ r.1)

-- # Fields

-- a field's `Maybe`s are parts of the datatype
field_there : (n : Names) (late : List TypeEntry) (type : ℕ) (entry : TypeEntry) (cons : List ConTree) (f c : Kind) → slice_get (reverse late) type ≡ Some entry
    → entry.sort ≡ TypeSort.datatype cons → IsOneOf f (field_kinds n cons) → IsOneOf c (maybes_of f.base f.maybes)
    → IsOneOf c (base_parts n late (base.Declared type))
field_there n [] type entry cons f c at sorted one_ inner_ = absurd cc
field_there n (e ∷ before) type entry cons f c at sorted one_ inner_ =
    let inner = base_parts n before in
    elim (either_at (reverse before) (e ∷ []) type entry (subst (λ xs. slice_get xs type ≡ Some entry) (reverse_onto before e []) at)) [
      | inl h ↦
          let less = slice_get_within (reverse before) type entry h in
          let other : (type == length before) ≡ false = ne_eqb type (length before) (λ s. omega (arith, less, s, length-reverse before)) in
          subst (λ b. IsOneOf c (cond b (sort_parts n inner (length before) e.sort) (inner (base.Declared type)))) (sym other)
          (field_there n before type entry cons f c h sorted one_ inner_)
      | inr h ↦ at_last n before e type entry cons f c h.0 h.1 h.2 sorted one_ inner_
    ] where
      at_last : (n : Names) (before : List TypeEntry) (e : TypeEntry) (type : ℕ) (entry : TypeEntry) (cons : List ConTree) (f c : Kind) (d : ℕ)
          → type ≡ length (reverse before) + d → slice_get (e ∷ []) d ≡ Some entry → entry.sort ≡ TypeSort.datatype cons
          → IsOneOf f (field_kinds n cons) → IsOneOf c (maybes_of f.base f.maybes) → IsOneOf c (base_parts n (e ∷ before) (base.Declared type))
      at_last n before e type entry cons f c zero place at sorted one_ inner_ =
          let inner = base_parts n before in
          let last : type ≡ length before = omega (arith, place, length-reverse before) in
          let is : (type == length before) ≡ true = eq-eqb type (length before) last in
          let sort_is : e.sort ≡ TypeSort.datatype cons = ap (λ z. z.sort) (one at) ∙ sorted in
          let own = plain_kind (base.Declared (length before)) in
          subst (λ b. IsOneOf c (cond b (sort_parts n inner (length before) e.sort) (inner (base.Declared type)))) (sym is)
          (subst (λ s. IsOneOf c (sort_parts n inner (length before) s)) (sym sort_is)
          (in_left c (flat_map (with_maybes inner) (field_kinds n cons)) (own ∷ [])
          (in_flat (with_maybes inner) (field_kinds n cons) f c one_ (in_right c (inner f.base) (maybes_of f.base f.maybes) inner_))))
      at_last n before e type entry cons f c (suc d) place at sorted one_ inner_ = absurd cc

abbrev IsBased : Names → Kind → Type 0
IsBased n k = IsBase n k.base

abbrev AllBased : Names → List Kind → Type 0
AllBased n ks = AllByRecursion (IsBased n) ks

abbrev pub SortBased : Names → TypeSort → Type 0
SortBased n TypeSort.id_type = Unit {0}
SortBased n TypeSort.opaque = Unit {0}
SortBased n (TypeSort.datatype cons) = AllBased n (field_kinds n cons)

abbrev pub EntryBased : Names → TypeEntry → Type 0
EntryBased n e = SortBased n e.sort

abbrev pub TypesBased : Names → Type 0
TypesBased n = AllByRecursion (EntryBased n) n.types

written_based : (n : Names) (k : ℕ) (fields : List ParamTree) → AllByRecursion (Lawfully n) (written_all k role.Field fields) → AllBased n (param_kinds n fields)
written_based n k [] laws = tt
written_based n k (q ∷ fields) laws =
    (written_base n k (param_type q) (laws.0 (rule 2 rule02) (is_one_of rules 1 _ refl)), written_based n k fields laws.1)

cons_based : (n : Names) (k : ℕ) (cons : List ConTree) → AllByRecursion (Lawfully n) (con_sites k cons) → AllBased n (field_kinds n cons)
cons_based n k [] laws = tt
cons_based n k (ConTree.con x fields ∷ cons) laws =
    let own = all_parts (Lawfully n) (named_all [] (map param_name fields) ++ written_all k role.Field fields) (con_sites k cons) laws in
    let inner = all_parts (Lawfully n) (named_all [] (map param_name fields)) (written_all k role.Field fields) own.0 in
    all_both (IsBased n) (param_kinds n fields) (field_kinds n cons) (written_based n k fields inner.1) (cons_based n k cons own.1)

types_based : (n : Names) (seen : Seen) (k : ℕ) (ds : List DeclTree) → AllByRecursion (Lawfully n) (decl_sites n seen k ds)
    → AllByRecursion (EntryBased n) (types_from k ds)
types_based n seen k [] laws = tt
types_based n seen k (DeclTree.node at (DeclForm.id_type x) ∷ ds) laws =
    (tt, types_based n (with_decl seen (DeclForm.id_type x)) (k + 1) ds (decl_parts (Lawfully n) n seen k at (DeclForm.id_type x) ds laws).1)
types_based n seen k (DeclTree.node at (DeclForm.opaque x) ∷ ds) laws =
    (tt, types_based n (with_decl seen (DeclForm.opaque x)) (k + 1) ds (decl_parts (Lawfully n) n seen k at (DeclForm.opaque x) ds laws).1)
types_based n seen k (DeclTree.node at (DeclForm.datatype x cons) ∷ ds) laws =
    let p = decl_parts (Lawfully n) n seen k at (DeclForm.datatype x cons) ds laws in
    (cons_based n k cons p.0, types_based n (with_decl seen (DeclForm.datatype x cons)) (k + 1) ds p.1)
types_based n seen k (DeclTree.node at (DeclForm.crdt x c) ∷ ds) laws =
    types_based n (with_decl seen (DeclForm.crdt x c)) (k + 1) ds (decl_parts (Lawfully n) n seen k at (DeclForm.crdt x c) ds laws).1
types_based n seen k (DeclTree.node at (DeclForm.query q) ∷ ds) laws =
    types_based n (with_decl seen (DeclForm.query q)) (k + 1) ds (decl_parts (Lawfully n) n seen k at (DeclForm.query q) ds laws).1
types_based n seen k (DeclTree.node at (DeclForm.invariant x e) ∷ ds) laws =
    types_based n (with_decl seen (DeclForm.invariant x e)) (k + 1) ds (decl_parts (Lawfully n) n seen k at (DeclForm.invariant x e) ds laws).1
types_based n seen k (DeclTree.node at (DeclForm.proc q) ∷ ds) laws =
    types_based n (with_decl seen (DeclForm.proc q)) (k + 1) ds (decl_parts (Lawfully n) n seen k at (DeclForm.proc q) ds laws).1

pub text_based : (tree : List DeclTree) → IsLawful tree → TypesBased (names_of tree)
text_based tree lawful =
    let n = names_of tree in
    subst (AllByRecursion (EntryBased n)) (sym (types_are tree)) (types_based n nothing_seen 0 tree (all_lawful tree lawful))

-- the fields of a declared type have numbers
pub declared_whole : (t : Tables) → Numbered t → (type : ℕ) (entry : TypeEntry) (cons : List ConTree) → slice_get t.names.types type ≡ Some entry
    → entry.sort ≡ TypeSort.datatype cons → SortBased t.names entry.sort → AllWhole t (field_kinds t.names cons)
declared_whole t numbered type entry cons at sorted based =
    each_whole t (field_kinds t.names cons) (subst (SortBased t.names) sorted based) (λ f among. one_whole t numbered type entry cons at sorted f among) where
      one_whole : (t : Tables) → Numbered t → (type : ℕ) (entry : TypeEntry) (cons : List ConTree) → slice_get t.names.types type ≡ Some entry
          → entry.sort ≡ TypeSort.datatype cons → (f : Kind) → IsOneOf f (field_kinds t.names cons) → IsBase t.names f.base → IsWhole t f
      one_whole t numbered type entry cons at sorted f among is =
          let n = t.names in
          based_whole t numbered f is (λ c inner.
          subst (SortNumbered t type) sorted (numbered.declared type entry at) c
          (in_left c (base_parts n (reverse n.types) (base.Declared type)) []
          (field_there n (reverse n.types) type entry cons f c (subst (λ xs. slice_get xs type ≡ Some entry) (sym (reverse-reverse n.types)) at) sorted among inner)))

      each_whole : (t : Tables) (ks : List Kind) → AllBased t.names ks → ((f : Kind) → IsOneOf f ks → IsBase t.names f.base → IsWhole t f) → AllWhole t ks
      each_whole t [] based whole = tt
      each_whole t (k ∷ ks) based whole = (whole k (inl refl) based.0, each_whole t ks based.1 (λ f at. whole f (inr at)))
