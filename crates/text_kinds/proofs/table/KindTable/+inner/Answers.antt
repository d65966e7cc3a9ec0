use Rattle.std.proofs.lemmas.Bool.{and_from}
use Rattle.std.proofs.lemmas.Option.{same_Some}
use Rattle.rp_ast.specs.declared.decl.ConNode.{ConNode}
use Rattle.rp_ast.specs.declared.ty.Param.{Param}
use Rattle.type_rules.specs.Names.{Names, con_fields, param_type}
use Rattle.type_rules.specs.Kinds.{param_kinds}
use Rattle.rp_ast.specs.View.{param_view, params_view}
use Rattle.text_names.specs.Views.{sort_view}
use Rattle.text_kinds.specs.means.Rows.{are_there, declared_number}
use Rattle.text_kinds.proofs.KindsAdded.{flat_flat, flat_two, has_last, kind_self, there_both, there_push}
use Rattle.text_kinds.proofs.PartsBefore.{declared_is}
use Rattle.std.proofs.Common.{true, ◌≡◌, List, [], ◌∷◌, ◌++◌, Some, refl, ap, sym, subst, ◌∙◌, ◌+◌, map, take}
use Rattle.std.specs.Prelude.{OnOk, flat_map, slice_get}
use Rattle.std.specs.Option.{option_map}
use Rattle.rp_ast.specs.View.{con_view, type_view}
use Rattle.type_rules.specs.declared.kind.Kind.{Kind}
use Rattle.type_rules.specs.declared.kind.Base.TheVariants as base
use Rattle.type_rules.specs.Kinds.{kind_of, plain_kind}
use Rattle.desugaring.specs.Appearances.{base_parts, field_kinds, maybes_of, sort_parts}
use Rattle.text_names.specs.Declarations.{names_view}
use Rattle.text_names.specs.Views.{type_item_view}
use Rattle.text_names.proofs.Placed.{on_ok}
use Rattle.text_kinds.specs.Numbered.{Numbered, has_kind}
use Rattle.text_kinds.specs.Seen.{kinds_view}
use Rattle.text_kinds.specs.means.Rows.{Adds, before, declared_parts, parts_before}
use Rattle.text_kinds.proofs.KindsAdded.{adds_both, adds_next, adds_none, adds_there}
use Rattle.text_kinds.proofs.PartsBefore.{declared_before, declared_none, number_inside, nothing_inside, undeclared_before}
use Rattle.text_kinds.proofs.table.KindTable.+inner.Goals as goal

pub add_base-returns-then-number-types : goal.add_base-returns-then-number-types
add_base-returns-then-number-types t c =
    let n = names_view c.args.self.now.names.now in
    let is = number_inside c.args.base c.in-Some.number (sym c.declared_number.ensures ∙ c.in-Some.is) in
    subst (λ ks. OnOk c.add_declared.result (Adds ks (kinds_view c.args.self.now) (kinds_view c.add_declared.new.self)))
    (sym (ap (base_parts n (before n c.args.types)) is ∙ declared_before n c.args.types c.in-Some.number c.if-number-types.true))
    c.add_declared.ensures

pub add_base-returns-else-number-types : goal.add_base-returns-else-number-types
add_base-returns-else-number-types t c =
    let n = names_view c.args.self.now.names.now in
    let is = number_inside c.args.base c.in-Some.number (sym c.declared_number.ensures ∙ c.in-Some.is) in
    subst (λ ks. Adds ks (kinds_view c.args.self.now) (kinds_view c.args.self.now))
    (sym (ap (base_parts n (before n c.args.types)) is ∙ undeclared_before n c.args.types c.in-Some.number
    c.if-number-types.false))
    (adds_none (kinds_view c.args.self.now))

pub add_base-returns-in-None : goal.add_base-returns-in-None
add_base-returns-in-None t c =
    let n = names_view c.args.self.now.names.now in
    subst (λ ks. Adds ks (kinds_view c.args.self.now) (kinds_view c.args.self.now))
    (sym (nothing_inside n c.args.types c.args.base (sym c.declared_number.ensures ∙ c.in-None.is)))
    (adds_none (kinds_view c.args.self.now))

pub add_before-returns : goal.add_before-returns
add_before-returns t c =
    let n = names_view c.args.self.now.names.now in
    on_ok c.add_maybes.result
    (λ e. adds_both (base_parts n (before n c.args.types) c.args.kind.base) (maybes_of c.args.kind.base c.args.kind.maybes)
    (kinds_view c.args.self.now) (kinds_view c.add_base.new.self) (kinds_view c.add_maybes.new.self) c.in_ok-add_base.ensures e)
    c.add_maybes.ensures

pub add_declared-returns-then-has : goal.add_declared-returns-then-has
add_declared-returns-then-has t c =
    let table = c.args.self.now in
    adds_there (declared_parts (names_view table.names.now) c.args.number) (kinds_view table)
    (table.rows.whole c.args.number (ap (has_kind table.kinds) (sym c.plain_kind.ensures) ∙ sym c.has.ensures ∙ c.if-has.true))

pub add_declared-returns-in-None : goal.add_declared-returns-in-None
add_declared-returns-in-None t c =
    let table = c.args.self.now in
    let n = names_view table.names.now in
    subst (λ ks. Adds ks (kinds_view table) (kinds_view table))
    (sym (declared_none n c.args.number (sym c.type_at.ensures ∙ ap (option_map (λ item. type_item_view item.now))
    c.in-None.is)))
    (adds_none (kinds_view table))

pub add_declared-returns-in-Id : goal.add_declared-returns-in-Id
add_declared-returns-in-Id t c =
    let table = c.args.self.now in
    let n = names_view table.names.now in
    let at : slice_get n.types c.args.number ≡ Some (type_item_view c.in-Some.item.now) =
    sym c.type_at.ensures ∙ ap (option_map (λ item. type_item_view item.now)) c.in-Some.is in
    subst (λ ks. Adds ks (kinds_view table) (kinds_view table))
    (sym (declared_is n c.args.number (type_item_view c.in-Some.item.now) at
    ∙ ap (λ s. sort_parts n (base_parts n (before n c.args.number)) c.args.number (sort_view s)) c.in-Id.is))
    (adds_none (kinds_view table))

pub add_declared-returns-in-Opaque : goal.add_declared-returns-in-Opaque
add_declared-returns-in-Opaque t c =
    let table = c.args.self.now in
    let n = names_view table.names.now in
    let at : slice_get n.types c.args.number ≡ Some (type_item_view c.in-Some.item.now) =
    sym c.type_at.ensures ∙ ap (option_map (λ item. type_item_view item.now)) c.in-Some.is in
    subst (λ ks. Adds ks (kinds_view table) (kinds_view table))
    (sym (declared_is n c.args.number (type_item_view c.in-Some.item.now) at
    ∙ ap (λ s. sort_parts n (base_parts n (before n c.args.number)) c.args.number (sort_view s)) c.in-Opaque.is))
    (adds_none (kinds_view table))

pub add_declared-add_own-requires : goal.add_declared-add_own-requires
add_declared-add_own-requires t c = λ type e.
    let table = c.args.self.now in
    let n = names_view table.names.now in
    let number = c.args.number in
    let own = plain_kind (base.Declared number) in
    let cons = c.in-Datatype.cons.cons.now in
    let fields = flat_map (parts_before n number) (field_kinds n (map con_view cons)) in
    let adds : Adds fields (kinds_view table) (kinds_view c.add_cons.new.self) =
    subst (λ (cs : List ConNode). Adds (flat_map (parts_before n number) (field_kinds n (map con_view cs))) (kinds_view table)
    (kinds_view c.add_cons.new.self))
    c.as_slice.ensures c.in_ok-add_cons-in-Datatype.ensures in
    let at : slice_get n.types number ≡ Some (type_item_view c.in-Some.item.now) =
    sym c.type_at.ensures ∙ ap (option_map (λ item. type_item_view item.now)) c.in-Some.is in
    let kinds = c.add_cons.new.self.kinds in
    let whole : are_there (kinds ++ own ∷ []) (fields ++ own ∷ []) ≡ true =
    there_both (kinds ++ own ∷ []) fields (own ∷ []) (there_push kinds own fields adds.there)
    (and_from _ _ (has_last kinds own (kind_self (base.Declared number) 0 (8 + number) refl)) refl) in
    ap (λ (m : Names). are_there (kinds ++ own ∷ []) (declared_parts m type)) (ap (λ (x : Numbered). x.names) adds.is)
    ∙ ap (λ m. are_there (kinds ++ own ∷ []) (declared_parts n m)) (sym (same_Some number type (ap declared_number e)))
    ∙ ap (are_there (kinds ++ own ∷ []))
    (declared_is n number (type_item_view c.in-Some.item.now) at
    ∙ ap (λ s. sort_parts n (base_parts n (before n number)) number (sort_view s)) c.in-Datatype.is)
    ∙ whole

pub add_declared-returns-in_ok-add_cons-in-Datatype : goal.add_declared-returns-in_ok-add_cons-in-Datatype
add_declared-returns-in_ok-add_cons-in-Datatype t c =
    let table = c.args.self.now in
    let n = names_view table.names.now in
    let number = c.args.number in
    let own = plain_kind (base.Declared number) in
    let fields = flat_map (parts_before n number) (field_kinds n (map con_view c.in-Datatype.cons.cons.now)) in
    let adds : Adds fields (kinds_view table) (kinds_view c.add_cons.new.self) =
    subst (λ (cs : List ConNode). Adds (flat_map (parts_before n number) (field_kinds n (map con_view cs))) (kinds_view table)
    (kinds_view c.add_cons.new.self))
    c.as_slice.ensures c.in_ok-add_cons-in-Datatype.ensures in
    let at : slice_get n.types number ≡ Some (type_item_view c.in-Some.item.now) =
    sym c.type_at.ensures ∙ ap (option_map (λ item. type_item_view item.now)) c.in-Some.is in
    on_ok c.add_own.result
    (λ e. subst (λ ks. Adds ks (kinds_view table) (kinds_view c.add_own.new.self))
    (sym (declared_is n number (type_item_view c.in-Some.item.now) at
    ∙ ap (λ s. sort_parts n (base_parts n (before n number)) number (sort_view s)) c.in-Datatype.is))
    (adds_both fields (own ∷ []) (kinds_view table) (kinds_view c.add_cons.new.self) (kinds_view c.add_own.new.self) adds e))
    c.add_own.ensures

pub add_fields-loop-field-preserved : goal.add_fields-loop-field-preserved
add_fields-loop-field-preserved t c =
    let start = c.args.self.now in
    let old = c.loop-field.self in
    let n = names_view start.names.now in
    let types = c.args.types in
    let fields = c.args.fields.now in
    let g : Names → Param → List Kind = λ m p. parts_before m types (kind_of m (type_view p.ty)) in
    let flat : (xs : List Param) → flat_map (parts_before n types) (param_kinds n (params_view xs)) ≡ flat_map (g n) xs =
    λ xs. flat_two (parts_before n types) (λ p. kind_of n (param_type p)) param_view xs in
    subst (λ ks. Adds ks (kinds_view start) (kinds_view c.add_before.new.self))
    (sym (flat (take (c.loop-field.field-index + 1) fields)))
    (adds_next g fields c.loop-field.field-index c.field-item.result (kinds_view start) (kinds_view old)
    (kinds_view c.add_before.new.self)
    c.loop-field-test.true c.field-item.is
    (subst (λ ks. Adds ks (kinds_view start) (kinds_view old)) (flat (take c.loop-field.field-index fields))
    c.loop-field.invariant)
    (subst (λ (k : Kind). Adds (parts_before (names_view old.names.now) types k) (kinds_view old)
    (kinds_view c.add_before.new.self))
    c.in_ok-kind.ensures c.in_ok-add_before.ensures))

pub add_cons-loop-con-preserved : goal.add_cons-loop-con-preserved
add_cons-loop-con-preserved t c =
    let start = c.args.self.now in
    let old = c.loop-con.self in
    let n = names_view start.names.now in
    let types = c.args.types in
    let cons = c.args.cons.now in
    let g : Names → ConNode → List Kind = λ m con. flat_map (parts_before m types) (param_kinds m (params_view con.fields)) in
    let flat : (xs : List ConNode) → flat_map (parts_before n types) (field_kinds n (map con_view xs)) ≡ flat_map (g n) xs =
    λ xs. flat_flat (parts_before n types) (λ con. param_kinds n (con_fields con)) con_view xs in
    subst (λ ks. Adds ks (kinds_view start) (kinds_view c.add_fields.new.self))
    (sym (flat (take (c.loop-con.con-index + 1) cons)))
    (adds_next g cons c.loop-con.con-index c.con-item.result (kinds_view start) (kinds_view old)
    (kinds_view c.add_fields.new.self)
    c.loop-con-test.true c.con-item.is
    (subst (λ ks. Adds ks (kinds_view start) (kinds_view old)) (flat (take c.loop-con.con-index cons)) c.loop-con.invariant)
    (subst (λ (fs : List Param). Adds (flat_map (parts_before (names_view old.names.now) types)
    (param_kinds (names_view old.names.now) (params_view fs))) (kinds_view old) (kinds_view c.add_fields.new.self))
    c.as_slice.ensures.items c.in_ok-add_fields.ensures))
