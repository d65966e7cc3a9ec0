-- The types of a lawful text's program have different names.
use Rattle.std.proofs.Common.{◌≡◌, ◌+◌, ◌<◌, ℕ, zero, suc, Bool, true, false, not, ◌&&◌, ◌==◌, cond, List, [], ◌∷◌, ◌++◌, map, length, codes, Option, Some, None, refl, ap, subst, sym, ◌∙◌, arith}
use Rattle.std.specs.Prelude.{slice_get, unwrap_or}
use Rattle.std.specs.List.{AllByRecursion, IsDistinct, list_any}
use Rattle.std.proofs.lemmas.Bool.{and_from, and_parts, eq-eqb}
use Rattle.std.proofs.lemmas.List.{map-append}
use Rattle.std.proofs.lemmas.Option.{slice_get_within}
use Rattle.rp_span.specs.declared.Span.{Span}
use Rattle.rp_value.specs.declared.tables.AtomType.{AtomType}
use Rattle.rp_value.specs.declared.tables.DataDecl.{DataDecl}
use Rattle.rp_value.specs.declared.tables.ConDecl.{ConDecl}
use Rattle.rp_value.specs.declared.tables.ConTable.{ConTable}
use Rattle.rp_grammar.specs.declared.TokenKind.TheVariants as kind
use Rattle.rp_grammar.specs.Bytes.{is_one_of, reserved}
use Rattle.rp_grammar.specs.Pieces.{Shape}
use Rattle.rp_grammar.specs.Trees.{Ident, ident, ConTree, DeclForm, DeclTree}
use Rattle.rp_grammar.specs.Texts.{IsText}
use Rattle.rp_grammar.proofs.Formed.{FormedDecls}
use Rattle.rp_grammar.proofs.FormedTexts.{Lexable, text_formed}
use Rattle.rp_lang.specs.FirstForm.{are_distinct}
use Rattle.rp_lang.specs.Names.{are_distinct_data, are_type_names, atom_names, is_data_name, is_data_named}
use Rattle.rp_lang.specs.Programs.{Prog}
use Rattle.rp_lang.specs.Types.{first_con, is_called_none}
use Rattle.rp_lang.specs.Types as types
use Rattle.type_rules.specs.declared.kind.Kind.{Kind}
use Rattle.type_rules.specs.declared.kind.Base.{Base}
use Rattle.type_rules.specs.declared.kind.Base.TheVariants as base
use Rattle.type_rules.specs.Names.{Name, Names, TypeEntry, TypeSort, same_name, text_of, types_from, types_in}
use Rattle.type_rules.specs.Kinds.{bool_kind, is_open, plain_kind}
use Rattle.type_rules.specs.Queries.{names_of}
use Rattle.type_rules.specs.Matches.{Case, declared_cases, maybe_cases, sort_cases}
use Rattle.type_rules.specs.TextSites.{Seen, declared_types, declared_others, inner_sites, name_sites, nothing_seen, used_from, with_decl, decl_sites}
use Rattle.type_rules.specs.DeclSites.{named_all}
use Rattle.type_rules.specs.Faults.{IsLawful}
use Rattle.desugaring.specs.Appearances.{kinds_from, same_kind}
use Rattle.desugaring.specs.Tables.{Con, Tables, atom_in, atoms, con_of, con_table, cons_of, data_decls, datatype_number, entry_name, kind_text, tables_of, ty_of, type_table, up_from}
use Rattle.desugaring.specs.Parts.{each}
use Rattle.desugaring.specs.Programs.{IsProgramOf}
use Rattle.desugaring.proofs.Options.{both_there}
use Rattle.lawful.proofs.Arms.{flipped, same_text}
use Rattle.lawful.proofs.Blocks.{kinds_differ, start}
use Rattle.lawful.proofs.Crdts.{names_distinct}
use Rattle.lawful.proofs.Distinct.{at_place, fresh_distinct, no_members, unique}
use Rattle.lawful.proofs.Entries.{distinct_append, first_parts}
use Rattle.lawful.proofs.FirstCons.{AllFirst, HasFirst, datatypes_first}
use Rattle.lawful.proofs.Forms.{one}
use Rattle.lawful.proofs.Maybes.{made_there}
use Rattle.lawful.proofs.NameLists.{all_at, distinct_sub, filtered_at, none_any, one_named, own_name, sub_picked, turned_true}
use Rattle.lawful.proofs.Places.{Lawfully, all_both, all_lawful, all_parts, names_fresh, types_are}

abbrev pub type_name : TypeEntry → Name
type_name e = e.name

-- # Declared types have different names

type_parts : (n : Names) (seen : Seen) (k : ℕ) (at : Span) (form : DeclForm) (ds : List DeclTree)
    → AllByRecursion (Lawfully n) (decl_sites n seen k (DeclTree.node at form ∷ ds))
    → AllByRecursion (Lawfully n) (named_all seen.types (declared_types form)) × AllByRecursion (Lawfully n) (decl_sites n (with_decl seen form) (k + 1) ds)
type_parts n seen k at form ds all =
    let p = all_parts (Lawfully n) (name_sites seen form ++ inner_sites n k (used_from n (k + 1) ds) form) _ all in
    let q = all_parts (Lawfully n) (name_sites seen form) _ p.0 in
    let r = all_parts (Lawfully n) (named_all seen.types (declared_types form) ++ named_all seen.others (declared_others form)) _ q.0 in
    ((all_parts (Lawfully n) (named_all seen.types (declared_types form)) _ r.0).0, p.1)

names_in_types : (k : ℕ) (at : Span) (form : DeclForm)
    → map type_name (types_in k (DeclTree.node at form)) ≡ map text_of (declared_types form)
names_in_types k at (DeclForm.id_type x) = refl
names_in_types k at (DeclForm.opaque x) = refl
names_in_types k at (DeclForm.datatype x cons) = refl
names_in_types k at (DeclForm.crdt x c) = refl
names_in_types k at (DeclForm.query q) = refl
names_in_types k at (DeclForm.invariant x e) = refl
names_in_types k at (DeclForm.proc q) = refl

types_apart : (n : Names) (seen : Seen) (k : ℕ) (ds : List DeclTree) → AllByRecursion (Lawfully n) (decl_sites n seen k ds)
    → AllByRecursion (λ y. list_any (same_name y) seen.types ≡ false) (map type_name (types_from k ds)) × IsDistinct flipped (map type_name (types_from k ds))
types_apart n seen k [] all = (tt, no_members flipped)
types_apart n seen k (DeclTree.node at form ∷ ds) all =
    let parts = type_parts n seen k at form ds all in
    let h = map text_of (declared_types form) in
    let here = fresh_distinct same_name seen.types h (names_fresh n seen.types (declared_types form) parts.0) in
    let rest = types_apart n (with_decl seen form) (k + 1) ds parts.1 in
    let r = map type_name (types_from (k + 1) ds) in
    let apart = first_parts h seen.types r rest.0 in
    let whole : h ++ r ≡ map type_name (types_from k (DeclTree.node at form ∷ ds)) =
    ap (λ xs. xs ++ r) (sym (names_in_types k at form)) ∙ sym (map-append type_name (types_in k (DeclTree.node at form)) (types_from (k + 1) ds)) in (
      subst (AllByRecursion (λ y. list_any (same_name y) seen.types ≡ false)) whole (all_both (λ y. list_any (same_name y) seen.types ≡ false) h r here.0 apart.1),
      subst (IsDistinct flipped) whole (distinct_append h r here.1 rest.1 apart.0),
    )

pub types_differ : (tree : List DeclTree) → IsLawful tree → IsDistinct flipped (map type_name (names_of tree).types)
types_differ tree lawful =
    subst (λ es. IsDistinct flipped (map type_name es)) (sym (types_are tree)) (types_apart (names_of tree) nothing_seen 0 tree (all_lawful tree lawful)).1

-- # No name is a reserved word

pub not_reserved : (x : Name) → Shape kind.Name x → is_one_of reserved x ≡ true → ⊥
not_reserved x (Shape.name letter all free) e = free e

abbrev IsNoWord : TypeEntry → Type 0
IsNoWord e = is_one_of reserved e.name ≡ true → ⊥

ident_word : (x : Ident) → Shape kind.Name (text_of x) → is_one_of reserved (text_of x) ≡ true → ⊥
ident_word x h e = not_reserved (text_of x) h e

types_no_word : (k : ℕ) (ds : List DeclTree) → FormedDecls Lexable ds → AllByRecursion IsNoWord (types_from k ds)
types_no_word k [] h = tt
types_no_word k (DeclTree.node at (DeclForm.id_type (ident x s)) ∷ ds) h = (not_reserved x h.0, types_no_word (k + 1) ds h.1)
types_no_word k (DeclTree.node at (DeclForm.opaque (ident x s)) ∷ ds) h = (not_reserved x h.0, types_no_word (k + 1) ds h.1)
types_no_word k (DeclTree.node at (DeclForm.datatype x []) ∷ ds) h = absurd h.0
types_no_word k (DeclTree.node at (DeclForm.datatype (ident x s) (c ∷ cs)) ∷ ds) h = (not_reserved x h.0.0, types_no_word (k + 1) ds h.1)
types_no_word k (DeclTree.node at (DeclForm.crdt x c) ∷ ds) h = types_no_word (k + 1) ds h.1
types_no_word k (DeclTree.node at (DeclForm.query q) ∷ ds) h = types_no_word (k + 1) ds h.1
types_no_word k (DeclTree.node at (DeclForm.invariant x e) ∷ ds) h = types_no_word (k + 1) ds h.1
types_no_word k (DeclTree.node at (DeclForm.proc q) ∷ ds) h = types_no_word (k + 1) ds h.1

-- # Names of datatypes

-- a datatype by its number
record IsData (n : Names) (next : ℕ) (ds : List Kind) (j : ℕ) (d : DataDecl) : Type 0 where
  pub kind : Kind
  pub at : slice_get ds j ≡ Some kind
  pub name : d.name ≡ kind_text n kind
  pub cons : d.cons ≡ up_from (start n next ds j) (length (cons_of n kind))

data_at : (n : Names) (next : ℕ) (ds : List Kind) (j : ℕ) (d : DataDecl) → slice_get (data_decls n next ds) j ≡ Some d
    → IsData n next ds j d
data_at n next [] j d at = absurd cc
data_at n next (k ∷ ks) zero d at =
    record { kind = k; at = refl; name = sym (ap (λ (z : DataDecl). z.name) (one at)); cons = sym (ap (λ (z : DataDecl). z.cons) (one at)) }
data_at n next (k ∷ ks) (suc j) d at =
    let r = data_at n (next + length (cons_of n k)) ks j d at in record { kind = r.kind; at = r.at; name = r.name; cons = r.cons }

-- the first constructor of a `Maybe` is `none`
none_first : (n : Names) (b : Base) (m : ℕ) (z : Con) → slice_get (cons_of n (record { base = b; maybes = suc m })) 0 ≡ Some z → z.name ≡ codes "none"
none_first n b m z at = by_test (record { base = b; maybes = suc m }) (record { base = b; maybes = m }) (is_open b && m == 0) z at where
  by_test : (k inside : Kind) (none : Bool) (z : Con)
      → slice_get (map (λ (c : Case). record { name = c.name; of = k; fields = c.fields }) (unwrap_or (cond none None (Some (maybe_cases inside))) [])) 0 ≡ Some z
      → z.name ≡ codes "none"
  by_test k inside true z at = absurd cc
  by_test k inside false z at = sym (ap (λ (c : Con). c.name) (one at))

-- a datatype whose first constructor isn't `none` is no `Maybe`
first_named : (t : Tables) (p : Prog) → con_table t ≡ Some p.cons → (j : ℕ) (k : Kind) (z : Con)
    → slice_get t.datatypes j ≡ Some k
    → slice_get (cons_of t.names k) 0 ≡ Some z → (many : ℕ) → length (cons_of t.names k) ≡ suc many → z.name ≡ codes "none"
    → is_called_none (first_con p.cons (up_from (start t.names 0 t.datatypes j) (suc many))) ≡ true
first_named t p table j k z at first many long named =
    let made = made_there t p table j k 0 z at first in
    let zeroth : start t.names 0 t.datatypes j + 0 ≡ start t.names 0 t.datatypes j = omega arith in
    let there : slice_get p.cons.cons (start t.names 0 t.datatypes j) ≡ Some made.0 = subst (λ m. slice_get p.cons.cons m ≡ Some made.0) zeroth made.1 in
    let name : made.0.name ≡ z.name =
    both_there (λ (d : ConDecl). d.name ≡ z.name) (con_of z.name) (datatype_number t z.of) (each (ty_of t) z.fields) made.0 made.2 (λ of fields a b. refl) in
    subst (λ o. is_called_none o ≡ true) (sym there) (subst (λ x. same_name x (codes "none") ≡ true) (sym (name ∙ named)) (own_name (codes "none")))

-- what a declared datatype is
data Told (n : Names) (k : Kind) : Type 0 where
  truths : k ≡ bool_kind → Told n k
  of_text : (type : ℕ) (entry : TypeEntry) (cons : List ConTree) → k ≡ plain_kind (base.Declared type)
      → slice_get n.types type ≡ Some entry
      → entry.sort ≡ TypeSort.datatype cons → Told n k

by_sort : (n : Names) (type : ℕ) (entry : TypeEntry) (sort : TypeSort) → entry.sort ≡ sort → slice_get n.types type ≡ Some entry
    → (z : Con) → slice_get (map (λ (c : Case). record { name = c.name; of = plain_kind (base.Declared type); fields = c.fields }) (unwrap_or (sort_cases n sort) [])) 0 ≡ Some z
    → Told n (plain_kind (base.Declared type))
by_sort n type entry TypeSort.id_type sorted at z e = absurd cc
by_sort n type entry TypeSort.opaque sorted at z e = absurd cc
by_sort n type entry (TypeSort.datatype cons) sorted at z e = Told.of_text type entry cons refl at sorted

told_plain : (n : Names) (b : Base) (z : Con) → slice_get (cons_of n (plain_kind b)) 0 ≡ Some z → Told n (plain_kind b)
told_plain n base.Bool z e = Told.truths refl
told_plain n (base.Declared type) z e = by_entry n type (slice_get n.types type) refl z e where
  by_entry : (n : Names) (type : ℕ) (o : Option TypeEntry) → slice_get n.types type ≡ o → (z : Con)
      → slice_get (map (λ (c : Case). record { name = c.name; of = plain_kind (base.Declared type); fields = c.fields }) (unwrap_or (declared_cases n o) [])) 0 ≡ Some z
      → Told n (plain_kind (base.Declared type))
  by_entry n type None is z e = absurd cc
  by_entry n type (Some entry) is z e = by_sort n type entry entry.sort refl is z e
told_plain n base.Int z e = absurd cc
told_plain n base.Text z e = absurd cc
told_plain n base.Call z e = absurd cc
told_plain n base.Invocation z e = absurd cc
told_plain n base.Operation z e = absurd cc
told_plain n base.Info z e = absurd cc
told_plain n base.Outcome z e = absurd cc
told_plain n base.Unknown z e = absurd cc
told_plain n base.Open z e = absurd cc

-- what is known of a text and its program
record Text (t : Tables) (p : Prog) : Type 0 where
  pub table : con_table t ≡ Some p.cons
  pub types : p.types ≡ type_table t
  pub kinds : IsDistinct same_kind t.datatypes
  pub first : AllFirst t.names t.datatypes
  pub names : IsDistinct flipped (map type_name t.names.types)
  pub words : AllByRecursion IsNoWord t.names.types

-- a datatype that the text declares, or `Bool`, with its name
record IsNamed (t : Tables) (j : ℕ) (d : DataDecl) : Type 0 where
  pub kind : Kind
  pub at : slice_get t.datatypes j ≡ Some kind
  pub name : d.name ≡ kind_text t.names kind
  pub told : Told t.names kind

declared_is : (t : Tables) (p : Prog) → Text t p → (j : ℕ) (d : DataDecl) → slice_get p.types.datatypes j ≡ Some d
    → types.is_declared p.cons d ≡ true
    → IsNamed t j d
declared_is t p text j d at declared =
    let is = data_at t.names 0 t.datatypes j d (subst (λ z. slice_get z.datatypes j ≡ Some d) text.types at) in
    let first = at_place (HasFirst t.names) t.datatypes j is.kind text.first is.at in
    by_kind t p text j d is.kind.base is.kind.maybes is.at is.name is.cons first declared where
      no_none : (b : Bool) → not b ≡ true → b ≡ true → ⊥
      no_none true e h = absurd cc
      no_none false e h = absurd cc

      by_kind : (t : Tables) (p : Prog) → Text t p → (j : ℕ) (d : DataDecl) (b : Base) (m : ℕ) → slice_get t.datatypes j ≡ Some (record { base = b; maybes = m })
          → d.name ≡ kind_text t.names (record { base = b; maybes = m })
          → d.cons ≡ up_from (start t.names 0 t.datatypes j) (length (cons_of t.names (record { base = b; maybes = m })))
          → HasFirst t.names (record { base = b; maybes = m }) → types.is_declared p.cons d ≡ true → IsNamed t j d
      by_kind t p text j d b zero at name cons first declared =
          record { kind = plain_kind b; at = at; name = name; told = told_plain t.names b first.0 first.1 }
      by_kind t p text j d b (suc m) at name cons first declared =
          let k : Kind = record { base = b; maybes = suc m } in
          let within = slice_get_within (cons_of t.names k) 0 first.0 first.1 in
          by_length t p text j d k first.0 at first.1 (none_first t.names b m first.0 first.1) (length (cons_of t.names k)) refl within cons declared where
            by_length : (t : Tables) (p : Prog) → Text t p → (j : ℕ) (d : DataDecl) (k : Kind) (z : Con)
                → slice_get t.datatypes j ≡ Some k
                → slice_get (cons_of t.names k) 0 ≡ Some z → z.name ≡ codes "none" → (many : ℕ)
                → length (cons_of t.names k) ≡ many → 0 < many
                → d.cons ≡ up_from (start t.names 0 t.datatypes j) many → types.is_declared p.cons d ≡ true → IsNamed t j d
            by_length t p text j d k z at first named zero long within cons declared = absurd (omega (arith, within))
            by_length t p text j d k z at first named (suc many) long within cons declared =
                absurd (no_none (is_called_none (first_con p.cons d.cons)) declared
                (subst (λ xs. is_called_none (first_con p.cons xs) ≡ true) (sym cons) (first_named t p text.table j k z at first many long named)))

declared_text : (n : Names) (type : ℕ) (entry : TypeEntry) → slice_get n.types type ≡ Some entry
    → kind_text n (plain_kind (base.Declared type)) ≡ entry.name
declared_text n type entry at = ap entry_name at

same_as : (x y a b : Name) → same_name x y ≡ true → x ≡ a → y ≡ b → same_name a b ≡ true
same_as x y a b e h j = subst (λ z. same_name z b ≡ true) h (subst (λ z. same_name x z ≡ true) j e)

bool_reserved : (x : Name) → same_name x (codes "Bool") ≡ true → is_one_of reserved x ≡ true
bool_reserved x e = subst (λ z. is_one_of reserved z ≡ true) (sym (same_text x (codes "Bool") e)) refl

-- two declared datatypes of one name are one
one_data : (t : Tables) (p : Prog) → Text t p → (i j : ℕ) (d e : DataDecl) → IsNamed t i d → IsNamed t j e
    → same_name d.name e.name ≡ true → i ≡ j
one_data t p text i j d e a b same = by_told t p text i j d e a.kind b.kind a.at b.at a.name b.name a.told b.told same where
  kinds_one : (t : Tables) (p : Prog) → Text t p → (i j : ℕ) (k : Kind) → slice_get t.datatypes i ≡ Some k
      → slice_get t.datatypes j ≡ Some k → same_kind k k ≡ true → i ≡ j
  kinds_one t p text i j k at also own = unique same_kind t.datatypes i j k k text.kinds at also own own

  by_told : (t : Tables) (p : Prog) → Text t p → (i j : ℕ) (d e : DataDecl) (k l : Kind) → slice_get t.datatypes i ≡ Some k
      → slice_get t.datatypes j ≡ Some l
      → d.name ≡ kind_text t.names k → e.name ≡ kind_text t.names l → Told t.names k → Told t.names l
      → same_name d.name e.name ≡ true → i ≡ j
  by_told t p text i j d e k l at also name other (Told.truths is) (Told.truths js) same =
      kinds_one t p text i j bool_kind (at ∙ ap Some is) (also ∙ ap Some js) refl
  by_told t p text i j d e k l at also name other (Told.truths is) (Told.of_text type entry cons js there sorted) same =
      let bool : d.name ≡ codes "Bool" = name ∙ ap (kind_text t.names) is in
      let text_name : e.name ≡ entry.name = other ∙ ap (kind_text t.names) js ∙ declared_text t.names type entry there in
      absurd (at_place IsNoWord t.names.types type entry text.words there
      (bool_reserved entry.name (turned_true entry.name (codes "Bool") (same_as d.name e.name (codes "Bool") entry.name same bool text_name))))
  by_told t p text i j d e k l at also name other (Told.of_text type entry cons is there sorted) (Told.truths js) same =
      let bool : e.name ≡ codes "Bool" = other ∙ ap (kind_text t.names) js in
      let text_name : d.name ≡ entry.name = name ∙ ap (kind_text t.names) is ∙ declared_text t.names type entry there in
      absurd (at_place IsNoWord t.names.types type entry text.words there (bool_reserved entry.name (same_as d.name e.name entry.name (codes "Bool") same text_name bool)))
  by_told t p text i j d e k l at also name other (Told.of_text type entry cons is there sorted) (Told.of_text type_ entry_ cons_ js there_ sorted_) same =
      let first : d.name ≡ entry.name = name ∙ ap (kind_text t.names) is ∙ declared_text t.names type entry there in
      let second : e.name ≡ entry_.name = other ∙ ap (kind_text t.names) js ∙ declared_text t.names type_ entry_ there_ in
      let r = one_named type_name t.names.types type type_ entry entry_ text.names there there_ (same_as d.name e.name entry.name entry_.name same first second) in
      let own = plain_kind (base.Declared type) in
      kinds_one t p text i j own (at ∙ ap Some is) (also ∙ ap Some js ∙ ap (λ z. Some (plain_kind (base.Declared z))) (sym r.0)) (and_from _ _ (eq-eqb type type refl) refl)

-- # All of them

data_differ : (cons : ConTable) (ds : List DataDecl)
    → ((i j : ℕ) (d e : DataDecl) → slice_get ds i ≡ Some d → slice_get ds j ≡ Some e → types.is_declared cons d ≡ true → types.is_declared cons e ≡ true
    → same_name d.name e.name ≡ true → i ≡ j) → are_distinct_data cons ds ≡ true
data_differ cons [] f = refl
data_differ cons (d ∷ ds) f =
    and_from _ _ (by_value (types.is_declared cons d && is_data_name cons d.name ds)
    (both_none (types.is_declared cons d) (is_data_name cons d.name ds) (λ declared.
    none_any (λ z. is_data_named cons z d.name) ds (λ j e at. no_second cons d ds f declared j e at (is_data_named cons e d.name) refl))))
    (data_differ cons ds (λ i j a b at also x y same. omega (arith, f (suc i) (suc j) a b at also x y same))) where
      by_value : (b : Bool) → b ≡ false → not b ≡ true
      by_value b e = ap not e

      both_none : (a b : Bool) → (a ≡ true → b ≡ false) → (a && b) ≡ false
      both_none true b h = h refl
      both_none false b h = refl

      no_second : (cons : ConTable) (d : DataDecl) (ds : List DataDecl)
          → ((i j : ℕ) (a b : DataDecl) → slice_get (d ∷ ds) i ≡ Some a → slice_get (d ∷ ds) j ≡ Some b → types.is_declared cons a ≡ true → types.is_declared cons b ≡ true
          → same_name a.name b.name ≡ true
          → i ≡ j) → types.is_declared cons d ≡ true → (j : ℕ) (e : DataDecl) → slice_get ds j ≡ Some e
          → (named : Bool) → is_data_named cons e d.name ≡ named → named ≡ false
      no_second cons d ds f declared j e at false is = refl
      no_second cons d ds f declared j e at true is =
          let parts = and_parts (types.is_declared cons e) (same_name d.name e.name) is in
          absurd (omega (arith, f 0 (suc j) d e refl at declared parts.0 parts.1))

abbrev atom_text : AtomType → Name
atom_text a = a.name

atom_of_sort : (e : TypeEntry) (sort : TypeSort) → e.sort ≡ sort → atom_in e ≡ atom_in (record e { sort = sort })
atom_of_sort e sort sorted = ap (λ s. atom_in (record e { sort = s })) sorted

atom_told : (e : TypeEntry) (a : AtomType) → atom_in e ≡ Some a
    → (a.name ≡ e.name) × ((cons : List ConTree) → e.sort ≡ TypeSort.datatype cons → ⊥)
atom_told e a is = by_kind e a e.sort refl is where
  by_kind : (e : TypeEntry) (a : AtomType) (sort : TypeSort) → e.sort ≡ sort → atom_in e ≡ Some a
      → (a.name ≡ e.name) × ((cons : List ConTree) → e.sort ≡ TypeSort.datatype cons → ⊥)
  by_kind e a TypeSort.id_type sorted is =
      (sym (ap (λ (z : AtomType). z.name) (one (sym (atom_of_sort e TypeSort.id_type sorted) ∙ is))), λ cons h. no_sort (sym sorted ∙ h)) where
        no_sort : {cons : List ConTree} → TypeSort.id_type ≡ TypeSort.datatype cons → ⊥
        no_sort e = absurd cc
  by_kind e a TypeSort.opaque sorted is =
      (sym (ap (λ (z : AtomType). z.name) (one (sym (atom_of_sort e TypeSort.opaque sorted) ∙ is))), λ cons h. no_sort (sym sorted ∙ h)) where
        no_sort : {cons : List ConTree} → TypeSort.opaque ≡ TypeSort.datatype cons → ⊥
        no_sort e = absurd cc
  by_kind e a (TypeSort.datatype cons) sorted is = absurd (no_atom (sym (atom_of_sort e (TypeSort.datatype cons) sorted) ∙ is)) where
    no_atom : {a : AtomType} → None ≡ Some a → ⊥
    no_atom e = absurd cc

pub type_names : (bytes : List ℕ) (tree : List DeclTree) → IsText bytes tree → (p : Prog) → IsProgramOf tree p
    → are_type_names p ≡ true
type_names bytes tree text p is =
    let t = tables_of tree in
    let n = names_of tree in
    let known : Text t p = record {
      table = is.1.cons;
      types = is.1.types;
      kinds = kinds_differ (bool_kind ∷ kinds_from n 0 0 tree);
      first = datatypes_first bytes tree text is.0;
      names = types_differ tree is.0;
      words = subst (AllByRecursion IsNoWord) (sym (types_are tree)) (types_no_word 0 tree (text_formed bytes tree text));
    } in
    let sub = sub_picked type_name atom_in atom_text (λ e a told. (atom_told e a told).0) n.types in
    let distinct = names_distinct (map atom_text (atoms n.types)) (distinct_sub (map atom_text (atoms n.types)) (map type_name n.types) sub known.names) in
    and_from _ _ (and_from _ _ (subst (λ z. are_distinct (atom_names z.atoms) ≡ true) (sym is.1.types) distinct)
    (data_differ p.cons p.types.datatypes (λ i j d e at also a b same. one_data t p known i j d e (declared_is t p known i d at a) (declared_is t p known j e also b) same)))
    (all_at (λ (a : AtomType). not (is_data_name p.cons a.name p.types.datatypes)) p.types.atoms
    (λ i a at. ap not (none_any (λ d. is_data_named p.cons d a.name) p.types.datatypes (λ j d there. apart t p known i a (subst (λ z. slice_get z.atoms i ≡ Some a) is.1.types at) j d there
    (is_data_named p.cons d a.name) refl)))) where
      against : (t : Tables) (p : Prog) → Text t p → (a : AtomType) (e : TypeEntry) (place j : ℕ) (d : DataDecl)
          → slice_get t.names.types place ≡ Some e
          → a.name ≡ e.name → ((cons : List ConTree) → e.sort ≡ TypeSort.datatype cons → ⊥) → (k : Kind)
          → d.name ≡ kind_text t.names k → Told t.names k
          → same_name a.name d.name ≡ true → ⊥
      against t p text a e place j d at name none k named (Told.truths is) same =
          at_place IsNoWord t.names.types place e text.words at
          (bool_reserved e.name (same_as a.name d.name e.name (codes "Bool") same name (named ∙ ap (kind_text t.names) is)))
      against t p text a e place j d at name none k named (Told.of_text type entry cons is there sorted) same =
          let second : d.name ≡ entry.name = named ∙ ap (kind_text t.names) is ∙ declared_text t.names type entry there in
          let r = one_named type_name t.names.types place type e entry text.names at there (same_as a.name d.name e.name entry.name same name second) in
          none cons (ap (λ (z : TypeEntry). z.sort) r.1 ∙ sorted)

      apart : (t : Tables) (p : Prog) → Text t p → (i : ℕ) (a : AtomType) → slice_get (atoms t.names.types) i ≡ Some a
          → (j : ℕ) (d : DataDecl)
          → slice_get p.types.datatypes j ≡ Some d → (named : Bool) → is_data_named p.cons d a.name ≡ named → named ≡ false
      apart t p text i a at j d there false is = refl
      apart t p text i a at j d there true is =
          let parts = and_parts (types.is_declared p.cons d) (same_name a.name d.name) is in
          let from = filtered_at atom_in t.names.types i a at in
          let told = atom_told from.1 a from.3 in
          let data_ = declared_is t p text j d there parts.0 in
          absurd (against t p text a from.1 from.0 j d from.2 told.0 told.1 data_.kind data_.name data_.told parts.1)
