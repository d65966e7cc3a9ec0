use Rattle.std.proofs.Common.{◌≡◌, ℕ, ◌+◌, ◌-◌, List, Option, Some, length, map, option_map, option_and_then, sym, ap, subst, ◌∙◌, arith}
use Rattle.std.proofs.lemmas.List.{length_push}
use Rattle.rp_lang.specs.declared.expr.Expr.{Expr}
use Rattle.rp_lang.specs.Exprs as ex
use Rattle.rp_lang.specs.Views.{exs_of, expr_view}
use Rattle.rp_lang.proofs.ExprViews.{expr_view-Slot, expr_view-Bound, expr_view-Str, expr_view-Con, expr_view-Query, expr_view-OpOf, expr_view-OpTerm, expr_view-OriginOf, expr_view-InfoOf, expr_view-InfoTerm, expr_view-ResultOf, expr_view-ResultTerm, expr_view-ResultTerm-with, expr_view-Unreturned}
use Rattle.desugaring.specs.Values as values
use Rattle.query_bodies.specs.declared.term.Term.{Term}
use Rattle.query_bodies.specs.declared.term.Term.TheVariants as term
use Rattle.query_bodies.specs.declared.term.Body.{Body}
use Rattle.query_bodies.specs.Expanded as spec
use Rattle.query_bodies.specs.Expanded.{said_at}
use Rattle.query_bodies.specs.means.Putting.{AreAmong}
use Rattle.query_bodies.specs.Expanding.{uses_before}
use Rattle.query_bodies.specs.Seen.{saids_in}
use Rattle.query_bodies.specs.Terms.{said_term}
use Rattle.query_bodies.specs.Views.{body_view, given_view, term_view, terms_view}
use Rattle.query_bodies.proofs.Arms.{mapped_is, both_is, leaf_is, then_ok}
use Rattle.query_bodies.proofs.Gathered.{one_more, all_made, terms_each, argument_more, none_among}
use Rattle.query_bodies.proofs.TermViews.{term_view-Slot, term_view-Param, term_view-Level, term_view-Str, term_view-Con, term_view-Sum, term_view-Difference, term_view-Query, term_view-OpOf, term_view-OpTerm, term_view-OriginOf, term_view-InfoOf, term_view-InfoTerm, term_view-ResultOf, term_view-ResultTerm, term_view-ResultTerm-with, term_view-Unreturned, term_view-Use}
use Rattle.query_bodies.proofs.Used.{same_uses, term_used}
use Rattle.query_bodies.proofs.Weights.{left, weight, weights, weight_in, terms_fall, one_falls, left_falls, right_falls, body_falls, left_inside}
use Rattle.query_bodies.proofs.expand.Expansion.+expanding.Goals as goal

pub terms-loop-part-preserved : goal.terms-loop-part-preserved
terms-loop-part-preserved t c =
    let u = uses_before c.args.self.now in
    let g = map given_view c.args.given.now in
    one_more (λ e. spec.term u g c.args.bound (term_view e)) expr_view c.args.terms.now c.loop-part.part-index
    c.part-item.result
    c.loop-part.made c.push.new.self c.in_ok-term.field-0 c.loop-part-test.true c.part-item.is c.in_ok-term.ensures
    c.in_ok-push.ensures.ok c.loop-part.invariant

pub terms-returns : goal.terms-returns
terms-returns t c =
    let u = uses_before c.args.self.now in
    let g = map given_view c.args.given.now in
    terms_each u g c.args.bound c.args.terms.now
    ∙ ap (option_map exs_of) (all_made (λ e. spec.term u g c.args.bound (term_view e)) c.args.terms.now c.loop-part.part-index
    _ c.loop-part-test.false c.loop-part.invariant)

pub args-loop-arg-preserved : goal.args-loop-arg-preserved
args-loop-arg-preserved t c =
    let u = uses_before c.args.self.now in
    let g = map given_view c.args.given.now in
    record {
      among = argument_more u g c.args.bound c.args.args.now c.loop-arg.arg-index c.arg-item.result c.loop-arg.made
          c.push.new.self c.in_ok-arg.field-0
          c.loop-arg-test.true c.arg-item.is c.loop-arg.invariant.count c.in_ok-push.ensures.ok c.in_ok-arg.ensures
          c.loop-arg.invariant.among;
      count = ap length c.in_ok-push.ensures.ok ∙ length_push c.loop-arg.made c.in_ok-arg.field-0
          ∙ ap (λ k. k + 1) c.loop-arg.invariant.count;
    }

pub term-returns-in-Slot : goal.term-returns-in-Slot
term-returns-in-Slot t c =
    let f = spec.term (uses_before c.args.self.now) (map given_view c.args.given.now) c.args.bound in
    leaf_is _ (ex.Slot c.in-Slot.slot) _ (ap f (ap term_view c.in-Slot.is ∙ term_view-Slot c.in-Slot.slot))
    (expr_view-Slot c.in-Slot.slot)

pub term-returns-in-Unreturned : goal.term-returns-in-Unreturned
term-returns-in-Unreturned t c =
    let f = spec.term (uses_before c.args.self.now) (map given_view c.args.given.now) c.args.bound in
    leaf_is _ ex.Unreturned _ (ap f (ap term_view c.in-Unreturned.is ∙ term_view-Unreturned)) expr_view-Unreturned

pub term-returns-in-Ok : goal.term-returns-in-Ok
term-returns-in-Ok t c =
    let f = spec.term (uses_before c.args.self.now) (map given_view c.args.given.now) c.args.bound in
    let copy = c.in-Ok in
    leaf_is _ (ex.Str c.in-Str.bytes) _ (ap f (ap term_view c.in-Str.is ∙ term_view-Str c.in-Str.bytes))
    (expr_view-Str copy.made ∙ ap ex.Str (copy.ensures ∙ c.as_slice.ensures.items))

pub term-returns-in-None : goal.term-returns-in-None
term-returns-in-None t c =
    let f = spec.term (uses_before c.args.self.now) (map given_view c.args.given.now) c.args.bound in
    let p = c.in-ResultTerm in
    let node = p.is ∙ ap (term.ResultTerm p.proc) c.in-None.is in
    leaf_is _ (ex.ResultTerm p.proc) _ (ap f (ap term_view node ∙ term_view-ResultTerm p.proc)) (expr_view-ResultTerm p.proc)

pub term-returns-in-Ok-terms : goal.term-returns-in-Ok-terms
term-returns-in-Ok-terms t c =
    let f = spec.term (uses_before c.args.self.now) (map given_view c.args.given.now) c.args.bound in
    let fs = spec.terms (uses_before c.args.self.now) (map given_view c.args.given.now) c.args.bound in
    mapped_is (ex.Con c.in-Con.con) _ (fs (terms_view c.in-Con.args)) _ _
    (ap f (ap term_view c.in-Con.is ∙ term_view-Con c.in-Con.con c.in-Con.args))
    (ap (λ (es : List Term). fs (terms_view es)) (sym c.as_slice-in-Con.ensures.items) ∙ c.in-Ok-terms.ensures)
    (expr_view-Con c.in-Con.con c.in-Ok-terms.made)

pub term-terms-requires : goal.term-terms-requires
term-terms-requires t c =
    let is = ap weight (ap term_view c.in-Con.is ∙ term_view-Con c.in-Con.con c.in-Con.args) in
    let less = terms_fall (left c.args.self.now) (term_view c.args.term.now) c.in-Con.args c.as_slice-in-Con.result.now is
    c.as_slice-in-Con.ensures.items in
    omega (arith, less)

pub term-returns-in-Ok-terms-2 : goal.term-returns-in-Ok-terms-2
term-returns-in-Ok-terms-2 t c =
    let f = spec.term (uses_before c.args.self.now) (map given_view c.args.given.now) c.args.bound in
    let fs = spec.terms (uses_before c.args.self.now) (map given_view c.args.given.now) c.args.bound in
    mapped_is (ex.Query c.in-Query.query) _ (fs (terms_view c.in-Query.args)) _ _
    (ap f (ap term_view c.in-Query.is ∙ term_view-Query c.in-Query.query c.in-Query.args))
    (ap (λ (es : List Term). fs (terms_view es)) (sym c.as_slice-in-Query.ensures.items) ∙ c.in-Ok-terms-2.ensures)
    (expr_view-Query c.in-Query.query c.in-Ok-terms-2.made)

pub term-terms-requires-in-Query : goal.term-terms-requires-in-Query
term-terms-requires-in-Query t c =
    let is = ap weight (ap term_view c.in-Query.is ∙ term_view-Query c.in-Query.query c.in-Query.args) in
    let less = terms_fall (left c.args.self.now) (term_view c.args.term.now) c.in-Query.args c.as_slice-in-Query.result.now is
    c.as_slice-in-Query.ensures.items in
    omega (arith, less)

pub term-returns-in-Ok-terms-3 : goal.term-returns-in-Ok-terms-3
term-returns-in-Ok-terms-3 t c =
    let f = spec.term (uses_before c.args.self.now) (map given_view c.args.given.now) c.args.bound in
    let fs = spec.terms (uses_before c.args.self.now) (map given_view c.args.given.now) c.args.bound in
    mapped_is (ex.OpTerm c.in-OpTerm.op) _ (fs (terms_view c.in-OpTerm.args)) _ _
    (ap f (ap term_view c.in-OpTerm.is ∙ term_view-OpTerm c.in-OpTerm.op c.in-OpTerm.args))
    (ap (λ (es : List Term). fs (terms_view es)) (sym c.as_slice-in-OpTerm.ensures.items) ∙ c.in-Ok-terms-3.ensures)
    (expr_view-OpTerm c.in-OpTerm.op c.in-Ok-terms-3.made)

pub term-terms-requires-in-OpTerm : goal.term-terms-requires-in-OpTerm
term-terms-requires-in-OpTerm t c =
    let is = ap weight (ap term_view c.in-OpTerm.is ∙ term_view-OpTerm c.in-OpTerm.op c.in-OpTerm.args) in
    let less = terms_fall (left c.args.self.now) (term_view c.args.term.now) c.in-OpTerm.args c.as_slice-in-OpTerm.result.now
    is c.as_slice-in-OpTerm.ensures.items in
    omega (arith, less)

pub term-returns-in-Ok-terms-4 : goal.term-returns-in-Ok-terms-4
term-returns-in-Ok-terms-4 t c =
    let f = spec.term (uses_before c.args.self.now) (map given_view c.args.given.now) c.args.bound in
    let fs = spec.terms (uses_before c.args.self.now) (map given_view c.args.given.now) c.args.bound in
    mapped_is (ex.InfoTerm c.in-InfoTerm.proc) _ (fs (terms_view c.in-InfoTerm.args)) _ _
    (ap f (ap term_view c.in-InfoTerm.is ∙ term_view-InfoTerm c.in-InfoTerm.proc c.in-InfoTerm.args))
    (ap (λ (es : List Term). fs (terms_view es)) (sym c.as_slice-in-InfoTerm.ensures.items) ∙ c.in-Ok-terms-4.ensures)
    (expr_view-InfoTerm c.in-InfoTerm.proc c.in-Ok-terms-4.made)

pub term-terms-requires-in-InfoTerm : goal.term-terms-requires-in-InfoTerm
term-terms-requires-in-InfoTerm t c =
    let is = ap weight (ap term_view c.in-InfoTerm.is ∙ term_view-InfoTerm c.in-InfoTerm.proc c.in-InfoTerm.args) in
    let less = terms_fall (left c.args.self.now) (term_view c.args.term.now) c.in-InfoTerm.args
    c.as_slice-in-InfoTerm.result.now is c.as_slice-in-InfoTerm.ensures.items in
    omega (arith, less)

pub term-returns-in-Ok-boxed-3 : goal.term-returns-in-Ok-boxed-3
term-returns-in-Ok-boxed-3 t c =
    let f = spec.term (uses_before c.args.self.now) (map given_view c.args.given.now) c.args.bound in
    mapped_is ex.OpOf _ (f (term_view c.in-OpOf.call)) _ _ (ap f (ap term_view c.in-OpOf.is ∙ term_view-OpOf c.in-OpOf.call))
    (ap (λ (e : Term). f (term_view e)) (sym c.get-in-OpOf.ensures) ∙ c.in-Ok-boxed-3.ensures)
    (expr_view-OpOf c.in-Ok-boxed-3.made)

pub term-boxed-requires-in-OpOf : goal.term-boxed-requires-in-OpOf
term-boxed-requires-in-OpOf t c =
    let is = ap weight (ap term_view c.in-OpOf.is ∙ term_view-OpOf c.in-OpOf.call) in
    let less = one_falls (left c.args.self.now) (term_view c.args.term.now) c.in-OpOf.call c.get-in-OpOf.result.now is
    c.get-in-OpOf.ensures in
    omega (arith, less)

pub term-returns-in-Ok-boxed-4 : goal.term-returns-in-Ok-boxed-4
term-returns-in-Ok-boxed-4 t c =
    let f = spec.term (uses_before c.args.self.now) (map given_view c.args.given.now) c.args.bound in
    mapped_is ex.OriginOf _ (f (term_view c.in-OriginOf.call)) _ _
    (ap f (ap term_view c.in-OriginOf.is ∙ term_view-OriginOf c.in-OriginOf.call))
    (ap (λ (e : Term). f (term_view e)) (sym c.get-in-OriginOf.ensures) ∙ c.in-Ok-boxed-4.ensures)
    (expr_view-OriginOf c.in-Ok-boxed-4.made)

pub term-boxed-requires-in-OriginOf : goal.term-boxed-requires-in-OriginOf
term-boxed-requires-in-OriginOf t c =
    let is = ap weight (ap term_view c.in-OriginOf.is ∙ term_view-OriginOf c.in-OriginOf.call) in
    let less = one_falls (left c.args.self.now) (term_view c.args.term.now) c.in-OriginOf.call c.get-in-OriginOf.result.now is
    c.get-in-OriginOf.ensures in
    omega (arith, less)

pub term-returns-in-Ok-boxed-5 : goal.term-returns-in-Ok-boxed-5
term-returns-in-Ok-boxed-5 t c =
    let f = spec.term (uses_before c.args.self.now) (map given_view c.args.given.now) c.args.bound in
    mapped_is ex.InfoOf _ (f (term_view c.in-InfoOf.inv)) _ _
    (ap f (ap term_view c.in-InfoOf.is ∙ term_view-InfoOf c.in-InfoOf.inv))
    (ap (λ (e : Term). f (term_view e)) (sym c.get-in-InfoOf.ensures) ∙ c.in-Ok-boxed-5.ensures)
    (expr_view-InfoOf c.in-Ok-boxed-5.made)

pub term-boxed-requires-in-InfoOf : goal.term-boxed-requires-in-InfoOf
term-boxed-requires-in-InfoOf t c =
    let is = ap weight (ap term_view c.in-InfoOf.is ∙ term_view-InfoOf c.in-InfoOf.inv) in
    let less = one_falls (left c.args.self.now) (term_view c.args.term.now) c.in-InfoOf.inv c.get-in-InfoOf.result.now is
    c.get-in-InfoOf.ensures in
    omega (arith, less)

pub term-returns-in-Ok-boxed-6 : goal.term-returns-in-Ok-boxed-6
term-returns-in-Ok-boxed-6 t c =
    let f = spec.term (uses_before c.args.self.now) (map given_view c.args.given.now) c.args.bound in
    mapped_is ex.ResultOf _ (f (term_view c.in-ResultOf.inv)) _ _
    (ap f (ap term_view c.in-ResultOf.is ∙ term_view-ResultOf c.in-ResultOf.inv))
    (ap (λ (e : Term). f (term_view e)) (sym c.get-in-ResultOf.ensures) ∙ c.in-Ok-boxed-6.ensures)
    (expr_view-ResultOf c.in-Ok-boxed-6.made)

pub term-boxed-requires-in-ResultOf : goal.term-boxed-requires-in-ResultOf
term-boxed-requires-in-ResultOf t c =
    let is = ap weight (ap term_view c.in-ResultOf.is ∙ term_view-ResultOf c.in-ResultOf.inv) in
    let less = one_falls (left c.args.self.now) (term_view c.args.term.now) c.in-ResultOf.inv c.get-in-ResultOf.result.now is
    c.get-in-ResultOf.ensures in
    omega (arith, less)

pub term-returns-in-Ok-boxed-7 : goal.term-returns-in-Ok-boxed-7
term-returns-in-Ok-boxed-7 t c =
    let f = spec.term (uses_before c.args.self.now) (map given_view c.args.given.now) c.args.bound in
    let p = c.in-ResultTerm in
    let node = p.is ∙ ap (term.ResultTerm p.proc) c.in-Some.is in
    let got = c.in-Ok-boxed-7 in
    mapped_is (spec.with_value p.proc) _ (f (term_view c.in-Some.value)) _ _
    (ap f (ap term_view node ∙ term_view-ResultTerm-with p.proc c.in-Some.value))
    (ap (λ (e : Term). f (term_view e)) (sym c.get-in-Some.ensures) ∙ got.ensures)
    (expr_view-ResultTerm-with p.proc got.made)

pub term-boxed-requires-in-Some : goal.term-boxed-requires-in-Some
term-boxed-requires-in-Some t c =
    let p = c.in-ResultTerm in
    let node = p.is ∙ ap (term.ResultTerm p.proc) c.in-Some.is in
    let is = ap weight (ap term_view node ∙ term_view-ResultTerm-with p.proc c.in-Some.value) in
    let less = one_falls (left c.args.self.now) (term_view c.args.term.now) c.in-Some.value c.get-in-Some.result.now is
    c.get-in-Some.ensures in
    omega (arith, less)

pub term-returns-in-Ok-boxed : goal.term-returns-in-Ok-boxed
term-returns-in-Ok-boxed t c =
    let f = spec.term (uses_before c.args.self.now) (map given_view c.args.given.now) c.args.bound in
    let a = c.in_ok-a-in-Sum in
    let b = c.in-Ok-boxed in
    both_is values.sum _ (f (term_view c.in-Sum.a)) (f (term_view c.in-Sum.b)) _ _ _
    (ap f (ap term_view c.in-Sum.is ∙ term_view-Sum c.in-Sum.a c.in-Sum.b))
    (ap (λ (e : Term). f (term_view e)) (sym c.get.ensures) ∙ a.ensures)
    (ap (λ (e : Term). f (term_view e)) (sym c.get-in-Sum.ensures) ∙ b.ensures) c.sum.ensures

pub term-returns-in-Ok-boxed-2 : goal.term-returns-in-Ok-boxed-2
term-returns-in-Ok-boxed-2 t c =
    let f = spec.term (uses_before c.args.self.now) (map given_view c.args.given.now) c.args.bound in
    let a = c.in_ok-a-in-Difference in
    let b = c.in-Ok-boxed-2 in
    then_ok c.difference.result _ _ (λ e is. both_is values.difference _ (f (term_view c.in-Difference.a))
    (f (term_view c.in-Difference.b)) _ _ _ (ap f (ap term_view c.in-Difference.is
    ∙ term_view-Difference c.in-Difference.a c.in-Difference.b))
    (ap (λ (e : Term). f (term_view e)) (sym c.get-in-Difference.ensures) ∙ a.ensures)
    (ap (λ (e : Term). f (term_view e)) (sym c.get-in-Difference-2.ensures) ∙ b.ensures) is) c.difference.ensures

pub term-boxed-requires : goal.term-boxed-requires
term-boxed-requires t c =
    let is = ap weight (ap term_view c.in-Sum.is ∙ term_view-Sum c.in-Sum.a c.in-Sum.b) in
    let less = left_falls (left c.args.self.now) (term_view c.args.term.now) c.in-Sum.a c.in-Sum.b c.get.result.now is
    c.get.ensures in
    omega (arith, less)

pub term-boxed-requires-in-Sum : goal.term-boxed-requires-in-Sum
term-boxed-requires-in-Sum t c =
    let is = ap weight (ap term_view c.in-Sum.is ∙ term_view-Sum c.in-Sum.a c.in-Sum.b) in
    let less = right_falls (left c.args.self.now) (term_view c.args.term.now) c.in-Sum.a c.in-Sum.b c.get-in-Sum.result.now is
    c.get-in-Sum.ensures in
    omega (arith, less)

pub term-boxed-requires-in-Difference : goal.term-boxed-requires-in-Difference
term-boxed-requires-in-Difference t c =
    let is = ap weight (ap term_view c.in-Difference.is ∙ term_view-Difference c.in-Difference.a c.in-Difference.b) in
    let less = left_falls (left c.args.self.now) (term_view c.args.term.now) c.in-Difference.a c.in-Difference.b
    c.get-in-Difference.result.now is c.get-in-Difference.ensures in
    omega (arith, less)

pub term-boxed-requires-in-Difference-2 : goal.term-boxed-requires-in-Difference-2
term-boxed-requires-in-Difference-2 t c =
    let is = ap weight (ap term_view c.in-Difference.is ∙ term_view-Difference c.in-Difference.a c.in-Difference.b) in
    let less = right_falls (left c.args.self.now) (term_view c.args.term.now) c.in-Difference.a c.in-Difference.b
    c.get-in-Difference-2.result.now is c.get-in-Difference-2.ensures in
    omega (arith, less)

pub term-returns-in-Param : goal.term-returns-in-Param
term-returns-in-Param t c =
    let f = spec.term (uses_before c.args.self.now) (map given_view c.args.given.now) c.args.bound in
    then_ok c.param.result _ _ (λ e is. ap f (ap term_view c.in-Param.is ∙ term_view-Param c.in-Param.param)
    ∙ is) c.param.ensures

pub term-returns-in-Use : goal.term-returns-in-Use
term-returns-in-Use t c =
    let f = spec.term (uses_before c.args.self.now) (map given_view c.args.given.now) c.args.bound in
    let u = uses_before c.args.self.now in
    let of_args = λ (es : List Term). option_and_then values.as_term
    (u c.in-Use.decl (spec.arguments u (map given_view c.args.given.now) c.args.bound (terms_view es))) in
    let was = ap f (ap term_view c.in-Use.is ∙ term_view-Use c.in-Use.decl c.in-Use.args)
    ∙ ap of_args (sym c.as_slice-in-Use.ensures.items) in
    then_ok c.used.result _ _ (λ e is. was ∙ is) c.used.ensures

pub term-used-requires : goal.term-used-requires
term-used-requires t c =
    let is = ap weight (ap term_view c.in-Use.is ∙ term_view-Use c.in-Use.decl c.in-Use.args) in
    let less = terms_fall (left c.args.self.now) (term_view c.args.term.now) c.in-Use.args c.as_slice-in-Use.result.now is
    c.as_slice-in-Use.ensures.items in
    omega (arith, less)

pub term-returns-in-Level : goal.term-returns-in-Level
term-returns-in-Level t c =
    let f = spec.term (uses_before c.args.self.now) (map given_view c.args.given.now) c.args.bound in
    leaf_is _ (ex.Bound (c.args.bound - c.in-Level.level - 1)) _
    (ap f (ap term_view c.in-Level.is ∙ term_view-Level c.in-Level.level))
    (expr_view-Bound c.saturating_sub-in-Level.result
    ∙ ap ex.Bound (c.saturating_sub-in-Level.ensures ∙ ap (λ (k : ℕ). k - 1) c.saturating_sub.ensures))

pub boxed-returns : goal.boxed-returns
boxed-returns t c =
    then_ok c.new.result _ _ (λ e is. c.in_ok-term.ensures ∙ ap (λ (x : Expr). Some (expr_view x)) (sym is)) c.new.ensures

pub arg-returns-in_ok-made : goal.arg-returns-in_ok-made
arg-returns-in_ok-made t c =
    λ e is. c.in_ok-made.ensures ∙ is

pub arg-returns-else-stands : goal.arg-returns-else-stands
arg-returns-else-stands t c =
    λ e is. absurd cc

pub args-loop-arg-init : goal.args-loop-arg-init
args-loop-arg-init t c =
    record { among = none_among c.new-made.result _ c.new-made.ensures; count = ap length c.new-made.ensures }

pub args-returns : goal.args-returns
args-returns t c =
    c.loop-arg.invariant.among

pub terms-term-requires : goal.terms-term-requires
terms-term-requires t c =
    let less = weight_in c.args.terms.now c.loop-part.part-index c.part-item.result c.loop-part-test.true c.part-item.is in
    omega (arith, less)

pub args-arg-requires : goal.args-arg-requires
args-arg-requires t c =
    let less = weight_in c.args.args.now c.loop-arg.arg-index c.arg-item.result c.loop-arg-test.true c.arg-item.is in
    omega (arith, less)

pub used-returns-in-Some-Term : goal.used-returns-in-Some-Term
used-returns-in-Some-Term t c =
    let saids = saids_in c.args.self.now.bodies.now in
    let said : said_at saids c.args.decl ≡ Some (said_term (term_view c.get.result.now)) =
    c.in-Some-Term.ensures.said ∙ ap (λ (b : Body). Some (body_view b)) c.in-Some-Term.field-0-is
    ∙ ap (λ (e : Term). Some (said_term (term_view e))) (sym c.get.ensures) in
    let all = spec.arguments (uses_before c.args.self.now) (map given_view c.args.given.now) c.args.bound
    (terms_view c.args.args.now) in
    let few = map given_view c.as_slice.result.now in
    let among : AreAmong few all =
    subst (λ (es : List (Option Expr)). AreAmong (map given_view es) all) (sym c.as_slice.ensures.items) c.in_ok-args.ensures in
    let same = same_uses c.inside.result c.args.self.now.bodies.now c.args.decl c.inside.ensures.same c.inside.ensures.before in
    then_ok c.term.result _ _
    (λ e found. term_used saids c.args.self.now.before c.args.decl few all (term_view c.get.result.now) (expr_view e)
    (uses_before c.inside.result)
    c.in-Some-Term.ensures.before among said same found) c.term.ensures

pub used-term-requires : goal.used-term-requires
used-term-requires t c =
    let saids = saids_in c.args.self.now.bodies.now in
    let said : said_at saids c.args.decl ≡ Some (said_term (term_view c.get.result.now)) =
    c.in-Some-Term.ensures.said ∙ ap (λ (b : Body). Some (body_view b)) c.in-Some-Term.field-0-is
    ∙ ap (λ (e : Term). Some (said_term (term_view e))) (sym c.get.ensures) in
    let is = left_inside c.inside.result c.args.self.now.bodies.now c.args.decl c.inside.ensures.same c.inside.ensures.before in
    let less = body_falls saids c.args.self.now.before c.args.decl (left c.inside.result) (weights (terms_view c.args.args.now))
    (term_view c.get.result.now) c.in-Some-Term.ensures.before said is in
    omega (arith, less)
