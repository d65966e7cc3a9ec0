use Rattle.std.proofs.Common.{rules, ◌≡◌, ◌∙◌, ap, sym, map, subst, List, ℕ, ◌<◌, ◌⊎◌, inl, inr, refl, get_or, arith}
use Rattle.std.specs.Prelude.{Some, IsTrue, ◌↔◌, slice_get}
use Rattle.rp_logic.specs.declared.term.Term.{Term}
use Rattle.rp_logic.specs.Terms as tm
use Rattle.rp_logic.specs.Terms.{Tm}
use Rattle.rp_logic.specs.Views.{term_view, terms_view}
use Rattle.rp_logic.proofs.TermViews.{term_view-Fn, term_view-Con, term_view-Sel, term_view-Plus}
use Rattle.rp_terms.specs.Symbols.{symbol_of, arguments, listed}
use Rattle.rp_terms.specs.Numbered.{AreNumbersOf}
use Rattle.rp_terms.proofs.Places.{mapped_length, within, at_get, got, lt_or_ge}
use Rattle.rp_terms.proofs.NodeLaws.{is_by_parts, is_one, numbers_count, listed_length, one_part-Sel, one_part-Plus, numbers_at, numbers_from}
use Rattle.rp_terms.proofs.bank.Bank.+is_at.Goals as goal

pub are_at-returns-then-ids-terms : goal.are_at-returns-then-ids-terms
are_at-returns-then-ids-terms t c = (
  (λ h. absurd cc),
  (λ h. absurd (c.if-ids-terms.true
      (numbers_count c.args.self.now c.args.ids.now (listed (terms_view c.args.terms.now)) h
      ∙ listed_length (map term_view c.args.terms.now) ∙ mapped_length term_view c.args.terms.now))),
)

-- what the recursion tells of other lists that are these
moved : (terms : List Tm) (ids js : List ℕ) (ts : List Tm) (us : List Tm) (P : Type 0) → js ≡ ids → us ≡ ts
    → (P ↔ AreNumbersOf terms js us) → P ↔ AreNumbersOf terms ids ts
moved terms ids js ts us P e f h = subst (λ (ks : List ℕ). P ↔ AreNumbersOf terms ks ts) e (subst (λ (vs : List Tm). P ↔ AreNumbersOf terms js vs) f h)

pub is_at-returns-in-Fn : goal.is_at-returns-in-Fn
is_at-returns-in-Fn t c =
    let node = c.node-node.result.now in
    let u = term_view c.args.t.now in
    let same : node.symbol ≡ symbol_of u = search rules in
    let args : listed (terms_view c.as_slice-in-Fn.result.now) ≡ arguments u =
    ap (λ ts. listed (terms_view ts)) c.as_slice-in-Fn.ensures.items ∙ ap arguments (sym (term_view-Fn c.in-Fn.field-0 c.in-Fn.args)) ∙ ap (λ v. arguments (term_view v)) (sym c.in-Fn.is) in
    is_by_parts c.args.self.now c.args.id node u c.are_at.result c.node-node.ensures same
    (moved c.args.self.now node.parts _ (arguments u) _ (IsTrue c.are_at.result) c.as_slice.ensures.items args c.are_at.ensures)

pub is_at-returns-in-Con : goal.is_at-returns-in-Con
is_at-returns-in-Con t c =
    let node = c.node-node.result.now in
    let u = term_view c.args.t.now in
    let same : node.symbol ≡ symbol_of u = search rules in
    let args : listed (terms_view c.as_slice-in-Con-2.result.now) ≡ arguments u =
    ap (λ ts. listed (terms_view ts)) c.as_slice-in-Con-2.ensures.items ∙ ap arguments (sym (term_view-Con c.in-Con.field-0 c.in-Con.args)) ∙ ap (λ v. arguments (term_view v)) (sym c.in-Con.is) in
    is_by_parts c.args.self.now c.args.id node u c.are_at-in-Con.result c.node-node.ensures same
    (moved c.args.self.now node.parts _ (arguments u) _ (IsTrue c.are_at-in-Con.result) c.as_slice-in-Con.ensures.items args c.are_at-in-Con.ensures)

pub is_at-returns-in-Sel : goal.is_at-returns-in-Sel
is_at-returns-in-Sel t c =
    let node = c.node-node.result.now in
    let u = term_view c.args.t.now in
    let same : node.symbol ≡ symbol_of u = search rules in
    let view : u ≡ tm.Sel c.in-Sel.field-0 c.in-Sel.field-1 (term_view c.in-Sel.a) = ap term_view c.in-Sel.is ∙ term_view-Sel c.in-Sel.field-0 c.in-Sel.field-1 c.in-Sel.a in
    let one = one_part-Sel c.args.self.now c.args.id node _ _ c.node-node.ensures (same ∙ ap symbol_of view) in
    is_by_parts c.args.self.now c.args.id node u c.is_at.result c.node-node.ensures same
    (subst (λ (ts : List Tm). IsTrue c.is_at.result ↔ AreNumbersOf c.args.self.now node.parts ts) (sym (ap arguments view))
    (is_one c.args.self.now node.parts c.get.result.now (term_view c.in-Sel.a) c.is_at.result one c.get.ensures
    (subst (λ (v : Term). IsTrue c.is_at.result ↔ (slice_get c.args.self.now c.get.result.now ≡ Some (term_view v))) c.get-in-Sel.ensures c.is_at.ensures)))

pub is_at-returns-in-Plus : goal.is_at-returns-in-Plus
is_at-returns-in-Plus t c =
    let node = c.node-node.result.now in
    let u = term_view c.args.t.now in
    let same : node.symbol ≡ symbol_of u = search rules in
    let view : u ≡ tm.Plus (term_view c.in-Plus.a) c.in-Plus.field-1 = ap term_view c.in-Plus.is ∙ term_view-Plus c.in-Plus.a c.in-Plus.field-1 in
    let one = one_part-Plus c.args.self.now c.args.id node _ c.node-node.ensures (same ∙ ap symbol_of view) in
    is_by_parts c.args.self.now c.args.id node u c.is_at-in-Plus.result c.node-node.ensures same
    (subst (λ (ts : List Tm). IsTrue c.is_at-in-Plus.result ↔ AreNumbersOf c.args.self.now node.parts ts) (sym (ap arguments view))
    (is_one c.args.self.now node.parts c.get-in-Plus.result.now (term_view c.in-Plus.a) c.is_at-in-Plus.result one c.get-in-Plus.ensures
    (subst (λ (v : Term). IsTrue c.is_at-in-Plus.result ↔ (slice_get c.args.self.now c.get-in-Plus.result.now ≡ Some (term_view v))) c.get-in-Plus-2.ensures c.is_at-in-Plus.ensures)))

pub are_at-returns-then-not-is_at : goal.are_at-returns-then-not-is_at
are_at-returns-then-not-is_at t c = (
  (λ h. absurd cc),
  (λ h. c.if-not-is_at.ensures.1
      (numbers_at c.args.self.now c.args.ids.now c.args.terms.now h c.loop-i.i (get_or c.args.ids.now c.loop-i.i 0) c.index-terms-i.result
      (at_get c.args.ids.now c.loop-i.i 0 c.loop-i-test.true)
      (at_get c.args.terms.now c.loop-i.i c.index-terms-i.result (subst (λ (n : ℕ). c.loop-i.i < n) c.if-ids-terms.false c.loop-i-test.true) ∙ ap Some (sym c.index-terms-i.is)))),
)

pub are_at-loop-i-preserved : goal.are_at-loop-i-preserved
are_at-loop-i-preserved t c = λ k p u lt e f. go k p u e f (elim (lt_or_ge k c.loop-i.i) [ inl h ↦ inl h | inr h ↦ inr (omega (arith, lt, h)) ])
  where
    go : (k p : ℕ) (u : Term) → slice_get c.args.ids.now k ≡ Some p → slice_get c.args.terms.now k ≡ Some u
        → (k < c.loop-i.i) ⊎ (k ≡ c.loop-i.i) → slice_get c.args.self.now p ≡ Some (term_view u)
    go k p u e f (inl h) = c.loop-i.invariant k p u h e f
    go k p u e f (inr h) =
        let number : get_or c.args.ids.now c.loop-i.i 0 ≡ p = got c.args.ids.now c.loop-i.i 0 p (ap (slice_get c.args.ids.now) (sym h) ∙ e) in
        let term : c.index-terms-i.result ≡ u = c.index-terms-i.is ∙ got c.args.terms.now c.loop-i.i c.index-terms-i.result u (ap (slice_get c.args.terms.now) (sym h) ∙ f) in
        ap (slice_get c.args.self.now) (sym number) ∙ c.if-not-is_at.ensures.0 refl ∙ ap (λ v. Some (term_view v)) term

pub are_at-returns : goal.are_at-returns
are_at-returns t c =
    let all : AreNumbersOf c.args.self.now c.args.ids.now (listed (terms_view c.args.terms.now)) =
    numbers_from c.args.self.now c.args.ids.now c.args.terms.now c.if-ids-terms.false
    (λ k p u e f. c.loop-i.invariant k p u (let lt = within c.args.ids.now k p e in let end = c.loop-i-test.false in omega (arith, lt, end)) e f) in
    ((λ yes. all), (λ h. refl))
