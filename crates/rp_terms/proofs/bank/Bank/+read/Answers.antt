use Rattle.std.proofs.Common.{rules, ◌≡◌, ◌∙◌, ap, sym, map, subst, List, ℕ, take_all, take, arith}
use Rattle.std.specs.Prelude.{Some, slice_get}
use Rattle.std.proofs.lemmas.Int.{to_z-of_z}
use Rattle.rp_logic.specs.declared.term.Term.TheVariants as made
use Rattle.rp_logic.specs.Terms as tm
use Rattle.rp_logic.specs.Terms.{Tm}
use Rattle.rp_logic.specs.Views.{term_view, terms_view}
use Rattle.rp_logic.proofs.TermViews.{term_view-Fn, term_view-Con, term_view-Sel, term_view-Plus}
use Rattle.rp_terms.specs.Symbols.{listed}
use Rattle.rp_terms.specs.Numbered.{AreNumbersOf}
use Rattle.rp_terms.proofs.NodeLaws.{is_term, one_number, one_part-Sel, one_part-Plus, listed_somes}
use Rattle.rp_terms.proofs.bank.Bank.+read.Goals as goal

pub read-returns-in_ok-read_all-in-Fn : goal.read-returns-in_ok-read_all-in-Fn
read-returns-in_ok-read_all-in-Fn t c =
    let terms = c.in_ok-read_all-in-Fn.field-0 in
    let numbers = subst (λ (ids : List ℕ). AreNumbersOf c.args.self.now ids (listed (terms_view terms))) c.as_slice-in-Fn.ensures.items c.in_ok-read_all-in-Fn.ensures in
    is_term c.args.self.now c.args.id c.node-node.result.now (tm.Fn c.in-Fn.f (terms_view terms)) c.node-node.ensures c.in-Fn.is numbers
    ∙ ap Some (sym (term_view-Fn c.in-Fn.f terms))

pub read-returns-in_ok-read_all-in-Con : goal.read-returns-in_ok-read_all-in-Con
read-returns-in_ok-read_all-in-Con t c =
    let terms = c.in_ok-read_all-in-Con.field-0 in
    let numbers = subst (λ (ids : List ℕ). AreNumbersOf c.args.self.now ids (listed (terms_view terms))) c.as_slice-in-Con.ensures.items c.in_ok-read_all-in-Con.ensures in
    is_term c.args.self.now c.args.id c.node-node.result.now (tm.Con c.in-Con.c (terms_view terms)) c.node-node.ensures c.in-Con.is numbers
    ∙ ap Some (sym (term_view-Con c.in-Con.c terms))

pub read-returns-in_ok-new-in-Sel : goal.read-returns-in_ok-new-in-Sel
read-returns-in_ok-new-in-Sel t c =
    let node = c.node-node.result.now in
    let a = c.in_ok-t-in-Sel.t in
    let numbers = one_number c.args.self.now node.parts c.get.result.now (term_view a)
    (one_part-Sel c.args.self.now c.args.id node c.in-Sel.c c.in-Sel.i c.node-node.ensures c.in-Sel.is) c.get.ensures c.in_ok-t-in-Sel.ensures in
    is_term c.args.self.now c.args.id node (tm.Sel c.in-Sel.c c.in-Sel.i (term_view a)) c.node-node.ensures c.in-Sel.is numbers
    ∙ ap Some (sym (term_view-Sel c.in-Sel.c c.in-Sel.i a) ∙ ap (λ u. term_view (made.Sel c.in-Sel.c c.in-Sel.i u)) (sym c.in_ok-new-in-Sel.ensures))

pub read-returns-in_ok-new-in-Plus : goal.read-returns-in_ok-new-in-Plus
read-returns-in_ok-new-in-Plus t c =
    let node = c.node-node.result.now in
    let a = c.in_ok-t-in-Plus.t in
    let numbers = one_number c.args.self.now node.parts c.get-in-Plus.result.now (term_view a)
    (one_part-Plus c.args.self.now c.args.id node c.in-Plus.n c.node-node.ensures c.in-Plus.is) c.get-in-Plus.ensures c.in_ok-t-in-Plus.ensures in
    let fact : slice_get c.args.self.now c.args.id ≡ Some (term_view (made.Plus c.in_ok-new-in-Plus.field-0 c.in-Plus.n)) =
    is_term c.args.self.now c.args.id node (tm.Plus (term_view a) c.in-Plus.n) c.node-node.ensures c.in-Plus.is numbers
    ∙ ap Some (sym (term_view-Plus a c.in-Plus.n) ∙ ap (λ u. term_view (made.Plus u c.in-Plus.n)) (sym c.in_ok-new-in-Plus.ensures)) in
    search (rules, to_z-of_z, fact)

pub read_all-returns : goal.read_all-returns
read_all-returns t c =
    let terms = c.loop-id.terms in
    let all : take c.loop-id.id-index c.args.ids.now ≡ c.args.ids.now = take_all c.loop-id.id-index c.args.ids.now (let end = c.loop-id-test.false in omega (arith, end)) in
    ap (map (slice_get c.args.self.now)) (sym all) ∙ c.loop-id.invariant ∙ sym (listed_somes terms)
