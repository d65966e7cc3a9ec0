use Rattle.std.proofs.Common.{◌≡◌, ℕ, ◌+◌, ◌∷◌, [], ◌++◌, List, length, drop, map, refl, sym, ap, ap₂, subst, ◌∙◌}
use Rattle.std.proofs.lemmas.List.{length-map}
use Rattle.rp_grammar.specs.Trees.{Ident}
use Rattle.rp_ast.specs.View.{ident_view, idents_view, pattern_view}
use Rattle.type_rules.specs.declared.kind.Kind.{Kind}
use Rattle.type_rules.specs.Matches.{first_kind, pattern_kinds, pattern_name}
use Rattle.text_names.proofs.Entries.{drop_past}
use Rattle.text_tables.specs.Seen.{tables_view}
use Rattle.desugaring.specs.Statements.{slot_kinds}
use Rattle.desugaring.specs.Tables.{up_from}
use Rattle.reading.proofs.Found.{next_in, other_drop}
use Rattle.lower_exprs.specs.declared.values.Maker.{Maker}
use Rattle.lower_procs.specs.Writing.{HaveSlots, with_slots}
use Rattle.lower_procs.proofs.Slots.{have_long}
use Rattle.lower_procs.proofs.Declaring.{Declaring, declaring_begins, declaring_ends_maker, declaring_ends_slots, declaring_goes_on, number_last, number_next}
use Rattle.lower_procs.proofs.writer.Writer.declare_all.Goals as goal

pub loop-place-init : goal.loop-place-init
loop-place-init c = (
  declaring_begins c.args.self.now _ _,
  ap (λ (l : List ℕ). l ++ up_from (length c.args.self.now.slots) (length c.as_slice-vars.result.now)) c.new-slots.ensures,
)

pub loop-place-preserved : goal.loop-place-preserved
loop-place-preserved c =
    let start = c.args.self.now in
    let names = (tables_view start.maker.reader.tables.now).names in
    let kinds = pattern_kinds names c.args.kind (pattern_name (pattern_view c.args.pattern.now)) in
    let vars = c.as_slice-vars.result.now in
    let i = c.loop-place.place in
    let now = c.loop-place.self in
    let way = c.loop-place.invariant.0 in
    let v = c.index-vars-place.result in
    let field : c.in_ok-field.field ≡ first_kind (drop i kinds) =
    c.in_ok-field.ensures
    ∙ ap (λ t. first_kind (drop i (pattern_kinds (tables_view t).names c.args.kind c.as_slice.result.now))) way.tables
    ∙ ap (λ (con : List ℕ). first_kind (drop i (pattern_kinds names c.args.kind con))) c.as_slice.ensures.items in
    let here : Declaring start (idents_view vars) kinds now (ident_view v ∷ idents_view (drop (i + 1) vars)) (drop i kinds) =
    subst (λ (xs : List Ident). Declaring start (idents_view vars) kinds now xs (drop i kinds))
    (next_in idents_view vars i v c.loop-place-test.true c.index-vars-place.is) way in
    let long : length c.declare.new.self.slots ≡ length now.slots + 1 = have_long c.in_ok-slot.ensures.slots in
    let numbers : c.push.new.self ≡ c.loop-place.slots ++ length now.slots ∷ [] =
    c.in_ok-push.ensures.ok ∙ ap (λ n. c.loop-place.slots ++ n ∷ []) c.in_ok-slot.ensures.number in (
      subst (λ (ks : List Kind). Declaring start (idents_view vars) kinds c.declare.new.self (idents_view (drop (i + 1) vars)) ks)
          (other_drop kinds i (i + 1) refl)
          (declaring_goes_on here c.in_ok-slot.ensures.slots field c.in_ok-slot.ensures.maker),
      ap₂ (λ (l : List ℕ) n. l ++ up_from n (length (drop (i + 1) vars))) numbers long
          ∙ number_next vars i (length now.slots) v c.loop-place.slots _ c.loop-place-test.true c.index-vars-place.is c.loop-place.invariant.1,
    )

pub returns-clause-numbers : goal.returns-clause-numbers
returns-clause-numbers c =
    number_last c.as_slice-vars.result.now c.loop-place.place (length c.loop-place.self.slots) c.loop-place.slots _ c.loop-place-test.false
    c.loop-place.invariant.1
    ∙ ap (λ n. up_from (length c.args.self.now.slots) n)
    (sym (length-map c.as_slice-vars.result.now ident_view) ∙ ap (λ l. length (idents_view l)) c.as_slice-vars.ensures.items)

pub returns-clause-slots : goal.returns-clause-slots
returns-clause-slots c =
    let start = c.args.self.now in
    let vars = c.as_slice-vars.result.now in
    let kinds = pattern_kinds (tables_view start.maker.reader.tables.now).names c.args.kind (pattern_name (pattern_view c.args.pattern.now)) in
    let last = subst (λ (xs : List Ident). Declaring start (idents_view vars) kinds c.loop-place.self xs (drop c.loop-place.place kinds))
    (ap idents_view (drop_past vars c.loop-place.place c.loop-place-test.false)) c.loop-place.invariant.0 in
    subst (λ l. HaveSlots start (slot_kinds (idents_view l) kinds) c.loop-place.self) c.as_slice-vars.ensures.items (declaring_ends_slots last)

pub returns-clause-maker : goal.returns-clause-maker
returns-clause-maker c =
    let start = c.args.self.now in
    let vars = c.as_slice-vars.result.now in
    let kinds = pattern_kinds (tables_view start.maker.reader.tables.now).names c.args.kind (pattern_name (pattern_view c.args.pattern.now)) in
    let last = subst (λ (xs : List Ident). Declaring start (idents_view vars) kinds c.loop-place.self xs (drop c.loop-place.place kinds))
    (ap idents_view (drop_past vars c.loop-place.place c.loop-place-test.false)) c.loop-place.invariant.0 in
    declaring_ends_maker last
    ∙ ap (λ l. record start.maker { reader = with_slots start.maker.reader (length start.slots) (idents_view l) kinds }) c.as_slice-vars.ensures.items
