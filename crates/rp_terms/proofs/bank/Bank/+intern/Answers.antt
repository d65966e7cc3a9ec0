use Rattle.std.proofs.Common.{◌≡◌, ◌∙◌, ap, sym, subst, map, take, take_all, List, ◌++◌, ◌∷◌, [], arith, refl}
use Rattle.std.specs.Prelude.{Some, slice_get}
use Rattle.rp_logic.specs.Terms.{Tm}
use Rattle.rp_logic.specs.Views.{term_view, terms_view}
use Rattle.rp_logic.proofs.TermViews.{term_view-Fn, term_view-Con, term_view-Sel, term_view-Plus}
use Rattle.rp_terms.specs.Symbols.{listed}
use Rattle.rp_terms.specs.Numbered.{AddsAll, AddsFirst, AreNumbersOf, parts_of, parts_of_each}
use Rattle.rp_terms.proofs.Places.{at_get}
use Rattle.rp_terms.proofs.BankLaws.{numbers_kept, map_more}
use Rattle.rp_terms.proofs.NodeLaws.{listed_somes}
use Rattle.rp_terms.proofs.GrownLaws.{split_err, split_all, split_none, adds_keep, on_ok, on_err, at_err, parts-Fn, parts-Con, parts-Sel, parts-Plus, each_more, each_split, take_at, all_then, all_then_first, all_first, first_more}
use Rattle.rp_terms.proofs.bank.Bank.+intern.Goals as goal

pub intern-returns-in_err-parts-in-Fn-clause-err : goal.intern-returns-in_err-parts-in-Fn-clause-err
intern-returns-in_err-parts-in-Fn-clause-err t c =
    let u = term_view c.args.t.now in
    let view = ap term_view c.in-Fn.is ∙ term_view-Fn c.in-Fn.field-0 c.in-Fn.args in
    let parts = parts-Fn u c.in-Fn.field-0 (terms_view c.in-Fn.args) view ∙ ap (λ ts. parts_of_each (terms_view ts) ++ u ∷ []) (sym c.as_slice.ensures.items) in
    at_err c.from_residual.result _
    (split_err (parts_of_each (terms_view c.as_slice.result.now)) (u ∷ []) (parts_of u) c.args.self.now c.args.self.now c.intern_all.new.self u parts c.in_err-parts-in-Fn.ensures.err)

pub intern-returns-in_ok-parts-in-Fn-clause-ok : goal.intern-returns-in_ok-parts-in-Fn-clause-ok
intern-returns-in_ok-parts-in-Fn-clause-ok t c =
    let u = term_view c.args.t.now in
    let view = ap term_view c.in-Fn.is ∙ term_view-Fn c.in-Fn.field-0 c.in-Fn.args in
    let parts = parts-Fn u c.in-Fn.field-0 (terms_view c.in-Fn.args) view ∙ ap (λ ts. parts_of_each (terms_view ts) ++ u ∷ []) (sym c.as_slice.ensures.items) in
    on_ok c.number-in-Fn.result _ _ c.number-in-Fn.ensures.ok (λ a.
    split_all (parts_of_each (terms_view c.as_slice.result.now)) (u ∷ []) (parts_of u) c.args.self.now c.intern_all.new.self c.number-in-Fn.new.self u parts c.in_ok-parts-in-Fn.ensures.ok (c.number-in-Fn.new.self, a, refl))

pub intern-returns-in_ok-parts-in-Fn-clause-err : goal.intern-returns-in_ok-parts-in-Fn-clause-err
intern-returns-in_ok-parts-in-Fn-clause-err t c =
    let u = term_view c.args.t.now in
    let view = ap term_view c.in-Fn.is ∙ term_view-Fn c.in-Fn.field-0 c.in-Fn.args in
    let parts = parts-Fn u c.in-Fn.field-0 (terms_view c.in-Fn.args) view ∙ ap (λ ts. parts_of_each (terms_view ts) ++ u ∷ []) (sym c.as_slice.ensures.items) in
    on_err c.number-in-Fn.result _ _ c.number-in-Fn.ensures.err (λ e.
    split_none (parts_of_each (terms_view c.as_slice.result.now)) (u ∷ []) (parts_of u) c.args.self.now c.intern_all.new.self c.number-in-Fn.new.self u parts c.in_ok-parts-in-Fn.ensures.ok e)

pub intern-returns-in_err-parts-in-Con-clause-err : goal.intern-returns-in_err-parts-in-Con-clause-err
intern-returns-in_err-parts-in-Con-clause-err t c =
    let u = term_view c.args.t.now in
    let view = ap term_view c.in-Con.is ∙ term_view-Con c.in-Con.field-0 c.in-Con.args in
    let parts = parts-Con u c.in-Con.field-0 (terms_view c.in-Con.args) view ∙ ap (λ ts. parts_of_each (terms_view ts) ++ u ∷ []) (sym c.as_slice-in-Con.ensures.items) in
    at_err c.from_residual-in_err-parts-in-Con.result _
    (split_err (parts_of_each (terms_view c.as_slice-in-Con.result.now)) (u ∷ []) (parts_of u) c.args.self.now c.args.self.now c.intern_all-in-Con.new.self u parts c.in_err-parts-in-Con.ensures.err)

pub intern-returns-in_ok-parts-in-Con-clause-ok : goal.intern-returns-in_ok-parts-in-Con-clause-ok
intern-returns-in_ok-parts-in-Con-clause-ok t c =
    let u = term_view c.args.t.now in
    let view = ap term_view c.in-Con.is ∙ term_view-Con c.in-Con.field-0 c.in-Con.args in
    let parts = parts-Con u c.in-Con.field-0 (terms_view c.in-Con.args) view ∙ ap (λ ts. parts_of_each (terms_view ts) ++ u ∷ []) (sym c.as_slice-in-Con.ensures.items) in
    on_ok c.number-in-Con.result _ _ c.number-in-Con.ensures.ok (λ a.
    split_all (parts_of_each (terms_view c.as_slice-in-Con.result.now)) (u ∷ []) (parts_of u) c.args.self.now c.intern_all-in-Con.new.self c.number-in-Con.new.self u parts c.in_ok-parts-in-Con.ensures.ok (c.number-in-Con.new.self, a, refl))

pub intern-returns-in_ok-parts-in-Con-clause-err : goal.intern-returns-in_ok-parts-in-Con-clause-err
intern-returns-in_ok-parts-in-Con-clause-err t c =
    let u = term_view c.args.t.now in
    let view = ap term_view c.in-Con.is ∙ term_view-Con c.in-Con.field-0 c.in-Con.args in
    let parts = parts-Con u c.in-Con.field-0 (terms_view c.in-Con.args) view ∙ ap (λ ts. parts_of_each (terms_view ts) ++ u ∷ []) (sym c.as_slice-in-Con.ensures.items) in
    on_err c.number-in-Con.result _ _ c.number-in-Con.ensures.err (λ e.
    split_none (parts_of_each (terms_view c.as_slice-in-Con.result.now)) (u ∷ []) (parts_of u) c.args.self.now c.intern_all-in-Con.new.self c.number-in-Con.new.self u parts c.in_ok-parts-in-Con.ensures.ok e)

pub intern-returns-in_err-part-in-Sel-clause-err : goal.intern-returns-in_err-part-in-Sel-clause-err
intern-returns-in_err-part-in-Sel-clause-err t c =
    let u = term_view c.args.t.now in
    let view = ap term_view c.in-Sel.is ∙ term_view-Sel c.in-Sel.field-0 c.in-Sel.field-1 c.in-Sel.a in
    let parts = parts-Sel u c.in-Sel.field-0 c.in-Sel.field-1 (term_view c.in-Sel.a) view ∙ ap (λ a. parts_of (term_view a) ++ u ∷ []) (sym c.get.ensures) in
    at_err c.from_residual-in_err-part-in-Sel.result _
    (split_err (parts_of (term_view c.get.result.now)) (u ∷ []) (parts_of u) c.args.self.now c.args.self.now c.intern.new.self u parts c.in_err-part-in-Sel.ensures.err)

pub intern-returns-in_ok-part-in-Sel-clause-ok : goal.intern-returns-in_ok-part-in-Sel-clause-ok
intern-returns-in_ok-part-in-Sel-clause-ok t c =
    let u = term_view c.args.t.now in
    let view = ap term_view c.in-Sel.is ∙ term_view-Sel c.in-Sel.field-0 c.in-Sel.field-1 c.in-Sel.a in
    let parts = parts-Sel u c.in-Sel.field-0 c.in-Sel.field-1 (term_view c.in-Sel.a) view ∙ ap (λ a. parts_of (term_view a) ++ u ∷ []) (sym c.get.ensures) in
    on_ok c.number_over.result _ _ c.number_over.ensures.ok (λ a.
    split_all (parts_of (term_view c.get.result.now)) (u ∷ []) (parts_of u) c.args.self.now c.intern.new.self c.number_over.new.self u parts c.in_ok-part-in-Sel.ensures.ok (c.number_over.new.self, a, refl))

pub intern-returns-in_ok-part-in-Sel-clause-err : goal.intern-returns-in_ok-part-in-Sel-clause-err
intern-returns-in_ok-part-in-Sel-clause-err t c =
    let u = term_view c.args.t.now in
    let view = ap term_view c.in-Sel.is ∙ term_view-Sel c.in-Sel.field-0 c.in-Sel.field-1 c.in-Sel.a in
    let parts = parts-Sel u c.in-Sel.field-0 c.in-Sel.field-1 (term_view c.in-Sel.a) view ∙ ap (λ a. parts_of (term_view a) ++ u ∷ []) (sym c.get.ensures) in
    on_err c.number_over.result _ _ c.number_over.ensures.err (λ e.
    split_none (parts_of (term_view c.get.result.now)) (u ∷ []) (parts_of u) c.args.self.now c.intern.new.self c.number_over.new.self u parts c.in_ok-part-in-Sel.ensures.ok e)

pub intern-returns-in_err-part-in-Plus-clause-err : goal.intern-returns-in_err-part-in-Plus-clause-err
intern-returns-in_err-part-in-Plus-clause-err t c =
    let u = term_view c.args.t.now in
    let view = ap term_view c.in-Plus.is ∙ term_view-Plus c.in-Plus.a c.in-Plus.field-1 in
    let parts = parts-Plus u c.in-Plus.field-1 (term_view c.in-Plus.a) view ∙ ap (λ a. parts_of (term_view a) ++ u ∷ []) (sym c.get-in-Plus.ensures) in
    at_err c.from_residual-in_err-part-in-Plus.result _
    (split_err (parts_of (term_view c.get-in-Plus.result.now)) (u ∷ []) (parts_of u) c.args.self.now c.args.self.now c.intern-in-Plus.new.self u parts c.in_err-part-in-Plus.ensures.err)

pub intern-returns-in_ok-part-in-Plus-clause-ok : goal.intern-returns-in_ok-part-in-Plus-clause-ok
intern-returns-in_ok-part-in-Plus-clause-ok t c =
    let u = term_view c.args.t.now in
    let view = ap term_view c.in-Plus.is ∙ term_view-Plus c.in-Plus.a c.in-Plus.field-1 in
    let parts = parts-Plus u c.in-Plus.field-1 (term_view c.in-Plus.a) view ∙ ap (λ a. parts_of (term_view a) ++ u ∷ []) (sym c.get-in-Plus.ensures) in
    on_ok c.number_over-in-Plus.result _ _ c.number_over-in-Plus.ensures.ok (λ a.
    split_all (parts_of (term_view c.get-in-Plus.result.now)) (u ∷ []) (parts_of u) c.args.self.now c.intern-in-Plus.new.self c.number_over-in-Plus.new.self u parts c.in_ok-part-in-Plus.ensures.ok (c.number_over-in-Plus.new.self, a, refl))

pub intern-returns-in_ok-part-in-Plus-clause-err : goal.intern-returns-in_ok-part-in-Plus-clause-err
intern-returns-in_ok-part-in-Plus-clause-err t c =
    let u = term_view c.args.t.now in
    let view = ap term_view c.in-Plus.is ∙ term_view-Plus c.in-Plus.a c.in-Plus.field-1 in
    let parts = parts-Plus u c.in-Plus.field-1 (term_view c.in-Plus.a) view ∙ ap (λ a. parts_of (term_view a) ++ u ∷ []) (sym c.get-in-Plus.ensures) in
    on_err c.number_over-in-Plus.result _ _ c.number_over-in-Plus.ensures.err (λ e.
    split_none (parts_of (term_view c.get-in-Plus.result.now)) (u ∷ []) (parts_of u) c.args.self.now c.intern-in-Plus.new.self c.number_over-in-Plus.new.self u parts c.in_ok-part-in-Plus.ensures.ok e)

pub intern_all-returns-in_err-id-clause-err : goal.intern_all-returns-in_err-id-clause-err
intern_all-returns-in_err-id-clause-err t c =
    let terms = c.args.terms.now in
    let i = c.loop-t.t-index in
    let item = c.t-item.result in
    let at : slice_get terms i ≡ Some item = at_get terms i item c.loop-t-test.true ∙ ap Some (sym c.t-item.is) in
    let split = each_split terms i item at in
    at_err c.from_residual.result _
    (subst (λ (ps : List Tm). AddsFirst c.args.self.now ps c.intern.new.self) (sym split.1)
    (first_more (parts_of_each (terms_view (take i terms)) ++ parts_of (term_view item)) split.0 c.args.self.now c.intern.new.self
    (all_then_first (parts_of_each (terms_view (take i terms))) (parts_of (term_view item)) c.args.self.now c.loop-t.self c.intern.new.self c.loop-t.invariant.1 c.in_err-id.ensures.err)))

pub intern_all-returns-in_err-push-clause-err : goal.intern_all-returns-in_err-push-clause-err
intern_all-returns-in_err-push-clause-err t c =
    let terms = c.args.terms.now in
    let i = c.loop-t.t-index in
    let item = c.t-item.result in
    let at : slice_get terms i ≡ Some item = at_get terms i item c.loop-t-test.true ∙ ap Some (sym c.t-item.is) in
    let split = each_split terms i item at in
    at_err c.from_residual-in_err-push.result _
    (subst (λ (ps : List Tm). AddsFirst c.args.self.now ps c.intern.new.self) (sym split.1)
    (all_first (parts_of_each (terms_view (take i terms)) ++ parts_of (term_view item)) split.0 c.args.self.now c.intern.new.self
    (all_then (parts_of_each (terms_view (take i terms))) (parts_of (term_view item)) c.args.self.now c.loop-t.self c.intern.new.self c.loop-t.invariant.1 c.in_ok-id.ensures.ok)))

pub intern_all-loop-t-preserved : goal.intern_all-loop-t-preserved
intern_all-loop-t-preserved t c =
    let terms = c.args.terms.now in
    let i = c.loop-t.t-index in
    let item = c.t-item.result in
    let at : slice_get terms i ≡ Some item = at_get terms i item c.loop-t-test.true ∙ ap Some (sym c.t-item.is) in
    let more = take_at terms i item at in
    let grown = adds_keep (parts_of (term_view item)) c.loop-t.self c.intern.new.self c.in_ok-id.ensures.ok in
    let before : AreNumbersOf c.loop-t.self c.loop-t.ids (listed (terms_view (take i terms))) = c.loop-t.invariant.0 ∙ sym (listed_somes (take i terms)) in
    let still : map (slice_get c.intern.new.self) c.loop-t.ids ≡ map (λ u. Some (term_view u)) (take i terms) =
    ap (λ ts. map (slice_get ts) c.loop-t.ids) grown.1 ∙ numbers_kept c.loop-t.self grown.0 c.loop-t.ids (listed (terms_view (take i terms))) before ∙ listed_somes (take i terms) in (
      ap (map (slice_get c.intern.new.self)) c.in_ok-push.ensures.ok
          ∙ map_more (slice_get c.intern.new.self) c.loop-t.ids c.in_ok-id.id
          ∙ ap (λ os. os ++ slice_get c.intern.new.self c.in_ok-id.id ∷ []) still
          ∙ ap (λ o. map (λ u. Some (term_view u)) (take i terms) ++ o ∷ []) c.in_ok-id.ensures.number
          ∙ sym (map_more (λ u. Some (term_view u)) (take i terms) item)
          ∙ ap (map (λ u. Some (term_view u))) (sym more),
      subst (λ (ps : List Tm). AddsAll c.args.self.now ps c.intern.new.self) (sym (ap (λ ts. parts_of_each (terms_view ts)) more ∙ each_more (take i terms) item))
          (all_then (parts_of_each (terms_view (take i terms))) (parts_of (term_view item)) c.args.self.now c.loop-t.self c.intern.new.self c.loop-t.invariant.1 c.in_ok-id.ensures.ok),
    )

pub intern_all-returns-clause-numbers : goal.intern_all-returns-clause-numbers
intern_all-returns-clause-numbers t c =
    let terms = c.args.terms.now in
    let all : take c.loop-t.t-index terms ≡ terms = take_all c.loop-t.t-index terms (let end = c.loop-t-test.false in omega (arith, end)) in
    c.loop-t.invariant.0 ∙ ap (map (λ u. Some (term_view u))) all ∙ sym (listed_somes terms)
