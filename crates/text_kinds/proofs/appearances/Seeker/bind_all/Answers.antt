use Rattle.std.proofs.Common.{◌≡◌, ◌+◌, ◌++◌, List, [], ◌∷◌, drop, sym, ap, ap₂, ◌∙◌}
use Rattle.rp_ast.specs.declared.ident.Ident.{Ident}
use Rattle.rp_ast.specs.View.{ident_view, idents_view}
use Rattle.type_rules.specs.Matches.{bound_var, first_kind, pattern_kinds, with_bound}
use Rattle.text_names.specs.Declarations.{names_view}
use Rattle.text_kinds.specs.means.Brought.{Seen}
use Rattle.text_kinds.proofs.Walks.{other_dropped, rest_is}
use Rattle.text_kinds.proofs.appearances.Seeker.bind_all.Goals as goal

pub loop-place-preserved : goal.loop-place-preserved
loop-place-preserved c =
    let old = c.loop-place.self in
    let p = c.loop-place.place in
    let items = c.as_slice-var-items.result.now in
    let var = c.var-item.result in
    let all = c.as_slice-var-items.ensures.items in
    let kind = c.args.kind in
    let ks = pattern_kinds (names_view c.args.self.now.kinds.names.now) kind c.args.pattern.now.con.text in
    let field : c.in_ok-field.field ≡ first_kind (drop p ks) =
    c.in_ok-field.ensures
    ∙ ap (λ js. first_kind (drop p js))
    (c.case_of-case.ensures ∙ ap₂ (λ m x. pattern_kinds (names_view m) kind x) c.names-names.ensures c.as_slice.ensures.items) in
    record {
      seen = ap (λ (xs : List Ident). with_bound c.bind.new.self.vars (idents_view (drop (p + 1) xs)) (drop (p + 1) ks))
          (sym all)
          ∙ ap (λ (s : Seen). with_bound s.vars (idents_view (drop (p + 1) items)) (drop (p + 1) ks)) c.in_ok-bind.ensures
          ∙ ap₂ (λ k js. with_bound (old.vars ++ bound_var (ident_view var) k ∷ []) (idents_view (drop (p + 1) items)) js) field
          (sym (other_dropped ks p))
          ∙ ap (λ (xs : List Ident). with_bound old.vars (idents_view xs) (drop p ks))
          (sym (rest_is items p var c.loop-place-test.true c.var-item.is))
          ∙ ap (λ (xs : List Ident). with_bound old.vars (idents_view (drop p xs)) (drop p ks)) all
          ∙ c.loop-place.invariant.seen;
      same = ap (λ (s : Seen). s.kinds) c.in_ok-bind.ensures ∙ c.loop-place.invariant.same;
    }
