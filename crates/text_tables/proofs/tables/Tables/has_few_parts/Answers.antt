use Rattle.std.proofs.Common.{◌≡◌, ◌<◌, ◌≤◌, get_or, ◌+◌, ◌++◌, ◌&&◌, ◌∷◌, [], List, Some, drop, length, refl, sym, ap, subst, ◌∙◌}
use Rattle.std.specs.List.{slice_get}
use Rattle.std.proofs.lemmas.List.{length-append}
use Rattle.rp_lang.specs.Types.{are_within_parts}
use Rattle.type_rules.specs.declared.kind.Kind.{Kind}
use Rattle.desugaring.specs.Tables.{type_table}
use Rattle.std.proofs.lemmas.List.{drop_more}
use Rattle.type_rules.specs.Kinds.{bool_kind}
use Rattle.text_tables.specs.Seen.{tables_view}
use Rattle.text_tables.specs.means.Limited as means
use Rattle.text_tables.proofs.PartsLaw.{IsTold, at_drop, get_end, told_more, told_none, within_end, within_step}
use Rattle.text_tables.proofs.tables.Tables.has_few_parts.Goals as goal

pub loop-kind-init : goal.loop-kind-init
loop-kind-init c =
    let t = tables_view c.args.self.now in
    (ap length c.new-before.ensures, λ cons e. (subst (IsTold t cons) (sym c.new-before.ensures) (told_none t cons), refl))

pub loop-kind-preserved : goal.loop-kind-preserved
loop-kind-preserved c =
    let t = tables_view c.args.self.now in
    let kinds = t.datatypes in
    let all = c.as_slice-kind-items.ensures in
    let i = c.loop-kind.kind-index in
    let x = get_or c.as_slice-kind-items.result.now i bool_kind in
    let rows = c.loop-kind.before in
    let parts = c.in_ok-parts.parts in
    let inv = c.loop-kind.invariant in
    let pushed = c.in_ok-push.ensures.ok in
    let at : slice_get kinds i ≡ Some x = at_drop kinds i x (drop (i + 1) kinds) (subst (λ (ks : List Kind). drop i ks ≡ x ∷ drop (i + 1) ks) all (drop_more c.as_slice-kind-items.result.now i bool_kind c.loop-kind-test.true)) in
    let long : length rows ≡ i = inv.0 in (
      ap length pushed ∙ length-append rows (parts ∷ []) ∙ ap (λ k. k + 1) long,
      λ cons e.
          let before = inv.1 cons e in
          let told : IsTold t cons (rows ++ parts ∷ []) =
          told_more t cons rows x parts e before.0 (ap (slice_get kinds) long ∙ at) (ap (λ rs. means.sum_told t rs 1 (means.inside t.names x)) (sym c.as_slice.ensures.items) ∙ c.in_ok-parts.ensures) in
          let last : slice_get (rows ++ parts ∷ []) i ≡ Some parts = ap (slice_get (rows ++ parts ∷ [])) (sym long) ∙ get_end rows parts in (
            subst (IsTold t cons) (sym pushed) told,
            ap (λ b. b && are_within_parts (type_table t) cons (i + 1) (drop (i + 1) (type_table t).datatypes)) c.is_few-few.ensures
                ∙ within_step t cons (rows ++ parts ∷ []) i parts c.loop-kind.few told last (subst (λ (ks : List Kind). i < length ks) all c.loop-kind-test.true)
                ∙ before.1,
          ),
    )

pub returns : goal.returns
returns c = λ cons e.
    let t = tables_view c.args.self.now in
    let i = c.loop-kind.kind-index in
    sym (within_end t cons i c.loop-kind.few (subst (λ (ks : List Kind). length ks ≤ i) c.as_slice-kind-items.ensures c.loop-kind-test.false)) ∙ (c.loop-kind.invariant.1 cons e).1
