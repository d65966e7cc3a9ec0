-- What is told of values, and the limits that they pass.
use Rattle.std.proofs.Common.{◌≡◌, ◌≤◌, ◌↔◌, ℕ, max, true, false, [], Option, Some, None, refl, ap, ap₂, sym, subst, ◌∙◌, arith}
use Rattle.std.specs.Prelude.{option_map}
use Rattle.rp_value.specs.declared.tables.ConTable.{ConTable}
use Rattle.rp_lang.specs.Bounds.{is_small_ex, is_small_fo}
use Rattle.rp_lang.specs.Exprs.{Ex}
use Rattle.rp_lang.specs.Formulas.{Fo}
use Rattle.rp_grammar.specs.Trees.{ExprTree}
use Rattle.type_rules.specs.declared.kind.Kind.{Kind}
use Rattle.desugaring.specs.Values.{Value, term, formula}
use Rattle.query_bodies.specs.declared.bodies.Bodies.{Bodies}
use Rattle.query_bodies.specs.declared.bodies.Facts.{Facts}
use Rattle.query_bodies.specs.Terms.{Cl, Said, Te, said_claim, said_term}
use Rattle.query_bodies.specs.Expanded as put
use Rattle.query_bodies.specs.Expanded.{Uses, said_under, uses_of}
use Rattle.query_laws.specs.Sight.{Says, value_for}
use Rattle.query_laws.specs.Told.{AreTold, binders_of, depth_of}
use Rattle.reading.specs.Reads.{sight_of}
use Rattle.lower_exprs.specs.declared.values.Passed.{Passed}
use Rattle.lower_exprs.specs.declared.values.Work.{Work}
use Rattle.lower_exprs.specs.declared.values.Maker.{Maker}
use Rattle.lower_exprs.specs.declared.values.Value as code_value
use Rattle.lower_exprs.specs.Making.{IsBuilt, IsBuiltOf, IsReady, Passes, is_small, same_form, said_value, value_view}

pub blank_term : (o : Option Ex) (v : Value) → option_map term o ≡ Some v → (e : Ex) → same_form (term e) v ≡ true
blank_term None v h e = absurd cc
blank_term (Some x) (term d) h e = refl
blank_term (Some x) (formula f) h e = absurd cc

pub blank_claim : (o : Option Fo) (v : Value) → option_map formula o ≡ Some v → (f : Fo) → same_form (formula f) v ≡ true
blank_claim None v h f = absurd cc
blank_claim (Some x) (term d) h f = absurd cc
blank_claim (Some x) (formula g) h f = refl

-- # Facts

-- what is told of terms and of formulas is told of both
pub large_value : (cons : ConTable) (v : Value) (facts : Facts)
    → ((e : Ex) → AreTold cons (term e) facts → is_small_ex e ≡ false)
    → ((f : Fo) → AreTold cons (formula f) facts → is_small_fo cons f ≡ false)
    → AreTold cons v facts → is_small cons v ≡ false
large_value cons (term e) facts t f told = t e told
large_value cons (formula g) facts t f told = f g told

max_le : (a b d l : ℕ) → (b ≤ l) ↔ (d ≤ l) → (max a b ≤ l) ↔ ((a ≤ l) × (d ≤ l))
max_le a b d l e = (
  (λ le. let few : b ≤ l = omega (arith, le) in (omega (arith, le), e.0 few)),
  (λ p. let few : b ≤ l = e.1 p.1 in let old = p.0 in omega (arith, old, few)),
)

pub passes : (cons : ConTable) (old : Passed) (facts : Facts) (v : Value) → AreTold cons v facts
    → Passes cons old v (record { depth = max old.depth facts.depth; binders = max old.binders facts.binders })
passes cons old facts v told = record {
  depth = λ limit lt. max_le old.depth facts.depth (depth_of v) limit (told.depth limit lt);
  binders = λ limit lt. max_le old.binders facts.binders (binders_of cons v) limit (told.binders limit lt);
}

-- # What is built

some_same : (x y : Value) → Some x ≡ Some y → x ≡ y
some_same x y h = cc

-- what is said becomes this with these uses
pub term_made : (u w : Uses) (e : Te) (x : Ex) → u ≡ w → put.term u [] 0 e ≡ Some x
    → said_under w [] 0 (said_term e) ≡ Some (term x)
term_made u w e x same is = ap (λ (y : Uses). option_map term (put.term y [] 0 e)) (sym same) ∙ ap (option_map term) is

pub claim_made : (u w : Uses) (f : Cl) (x : Fo) → u ≡ w → put.claim u [] 0 f ≡ Some x
    → said_under w [] 0 (said_claim f) ≡ Some (formula x)
claim_made u w f x same is = ap (λ (y : Uses). option_map formula (put.claim y [] 0 f)) (sym same) ∙ ap (option_map formula) is

-- the value that was made isn't small, so the one that is meant isn't
pub value_past : (w : Work) (s : Said) (made v : Value) → said_value w s ≡ Some made → is_small w.cons.now made ≡ false
    → said_value w s ≡ Some v → is_small w.cons.now v ≡ false
value_past w s made v is past h = subst (λ (x : Value). is_small w.cons.now x ≡ false) (some_same made v (sym is ∙ h)) past

-- # Values

form_itself : (v : Value) → same_form v v ≡ true
form_itself (term e) = refl
form_itself (formula f) = refl

pub built_value : (w : Work) (s : Said) (value : code_value.Value) → said_value w s ≡ Some (value_view value)
    → is_small w.cons.now (value_view value) ≡ true → IsBuiltOf w s value
built_value w s value is small v h =
    let same : value_view value ≡ v = some_same (value_view value) v (sym is ∙ h) in
    subst (λ (x : Value). IsBuilt w x value) same
    (record { form = form_itself (value_view value); whole = λ b. refl; small = λ b. small })

pub blank_value : (w : Work) (s : Said) (value : code_value.Value) → w.building ≡ false
    → ((v : Value) → said_value w s ≡ Some v → same_form (value_view value) v ≡ true) → IsBuiltOf w s value
blank_value w s value off form v h = record {
  form = form v h;
  whole = λ on. absurd (let clash = sym off ∙ on in cc);
  small = λ on. absurd (let clash = sym off ∙ on in cc);
}

-- # Expressions

pub said_there : (m : Maker) (asked : Option Kind) (e : ExprTree) (s : Said) → IsReady m
    → Says (sight_of m.reader) asked e s → (v : Value) → value_for (sight_of m.reader) [] asked e ≡ Some v
    → said_value m.work s ≡ Some v
said_there m asked e s ready says v h =
    sym (ap₂ (λ (b : Bodies) (n : ℕ). said_under (uses_of b) [] n s) ready.bodies ready.binders)
    ∙ says [] ready.stands v h
