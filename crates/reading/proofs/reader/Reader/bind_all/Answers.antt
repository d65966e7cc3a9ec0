use Rattle.std.proofs.Common.{◌≡◌, ℕ, ◌+◌, List, drop, refl, sym, ap, ap₂, ◌∙◌}
use Rattle.rp_ast.specs.View.{ident_view, idents_view, pattern_view}
use Rattle.type_rules.specs.declared.kind.Kind.{Kind}
use Rattle.type_rules.specs.Matches.{bound_var, first_kind, pattern_kinds, pattern_name}
use Rattle.text_names.proofs.Entries.{drop_past}
use Rattle.text_tables.specs.Seen.{tables_view}
use Rattle.reading.specs.declared.reader.Reader.{Reader}
use Rattle.reading.specs.Reads.{under_var, under_vars}
use Rattle.reading.proofs.Found.{next_in, other_drop}
use Rattle.reading.proofs.reader.Reader.bind_all.Goals as goal

pub loop-place-init : goal.loop-place-init
loop-place-init c = (refl, refl)

pub loop-place-preserved : goal.loop-place-preserved
loop-place-preserved c =
    let kinds = pattern_kinds (tables_view c.args.self.now.tables.now).names c.args.kind (pattern_name (pattern_view c.args.pattern.now)) in
    let vars = c.as_slice-vars.result.now in
    let i = c.loop-place.place in
    let x = ident_view c.index-vars-place.result in
    let old = c.loop-place.self in
    let rest = idents_view (drop (i + 1) vars) in
    let field : c.in_ok-field.field ≡ first_kind (drop i kinds) =
    c.in_ok-field.ensures
    ∙ ap (λ t. first_kind (drop i (pattern_kinds (tables_view t).names c.args.kind c.as_slice.result.now))) c.loop-place.invariant.0
    ∙ ap (λ (con : List ℕ). first_kind (drop i (pattern_kinds (tables_view c.args.self.now.tables.now).names c.args.kind con))) c.as_slice.ensures.items in
    let made = c.in_ok-bind_level.ensures ∙ ap (λ k. under_var old (bound_var x k)) field in (
      ap (λ (r : Reader). r.tables.now) made ∙ c.loop-place.invariant.0,
      ap₂ (λ (r : Reader) (ks : List Kind). under_vars r rest ks) made (sym (other_drop kinds i (i + 1) refl))
          ∙ sym (next_in (λ l. under_vars old (idents_view l) (drop i kinds)) vars i c.index-vars-place.result c.loop-place-test.true c.index-vars-place.is)
          ∙ c.loop-place.invariant.1,
    )

pub returns : goal.returns
returns c =
    let kinds = pattern_kinds (tables_view c.args.self.now.tables.now).names c.args.kind (pattern_name (pattern_view c.args.pattern.now)) in
    let i = c.loop-place.place in
    sym (ap (λ l. under_vars c.loop-place.self (idents_view l) (drop i kinds)) (drop_past c.as_slice-vars.result.now i c.loop-place-test.false))
    ∙ c.loop-place.invariant.1
    ∙ ap (λ l. under_vars c.args.self.now (idents_view l) kinds) c.as_slice-vars.ensures.items
