-- The arguments of an operation, each an expression of its own.
use Rattle.std.proofs.Common.{◌≡◌, ℕ, Bool, true, false, ◌||◌, List, [], ◌∷◌, ◌++◌, map, reverse, Option, Some, refl, ap, ap₂, sym, subst, ◌∙◌}
use Rattle.std.proofs.lemmas.List.{map_push, reverse-append, reverse-reverse}
use Rattle.rp_lang.specs.declared.expr.Expr.{Expr}
use Rattle.rp_lang.specs.Exprs.{Ex, Exs, no_ex, also_ex}
use Rattle.rp_lang.specs.Views.{expr_view, exprs_view, exs_of}
use Rattle.desugaring.specs.Limits.{Test, some_term}
use Rattle.desugaring.specs.Values as values
use Rattle.desugaring.specs.Values.{Value}
use Rattle.desugaring.proofs.Options.{both_there, map_there, map_is}
use Rattle.query_bodies.specs.declared.bodies.Bodies.{Bodies}
use Rattle.query_bodies.specs.declared.term.Term.{Term}
use Rattle.query_bodies.specs.Terms.{Te, Tes, no_te, also_te, said_term}
use Rattle.query_bodies.specs.Expanded as put
use Rattle.query_bodies.specs.Expanded.{uses_of}
use Rattle.query_bodies.specs.Views.{tes_of, term_view, terms_view}
use Rattle.reading.specs.declared.reader.Reader.{Reader}
use Rattle.lower_exprs.specs.declared.values.Work.{Work}
use Rattle.lower_exprs.specs.declared.values.Made.{Made}
use Rattle.lower_exprs.specs.declared.values.Maker.{Maker}
use Rattle.lower_exprs.specs.Making.{AreMeasuredIn, IsMade, IsPastOf, NotesSaid, said_value, value_view}
use Rattle.lower_procs.specs.Noting.{IsNoted, is_large_in}
use Rattle.lower_procs.specs.Writing.{AreTerms, MakesTerms, SomeIsPast, terms_in}
use Rattle.lower_procs.proofs.Noted.{large_value, noted_as, noted_both, noted_none, noted_value, or_first, or_none, or_second}
use Rattle.lower_procs.proofs.Rows.{exs_append, exs_append_none, some_terms}

-- # One term

pub plain_term : (v : Value) (x y : Ex) → values.as_term v ≡ Some x → v ≡ values.term y → x ≡ y
plain_term v x y h e = let both : values.as_term (values.term y) ≡ Some x = subst (λ (w : Value). values.as_term w ≡ Some x) e h in cc

pub one_made : (old new : Maker) (t : Te) (made : Made) (e : Ex) → IsMade old.work (said_term t) made → NotesSaid old (said_term t) new
    → values.as_term (value_view made.value) ≡ Some e → MakesTerms old (also_te t no_te) new (also_ex e no_ex)
one_made old new t made e is_made notes plain measured wanted is =
    both_there (λ (w : Exs). AreTerms old w new (also_ex e no_ex)) also_ex (put.term (uses_of old.work.bodies.now) [] 0 t) (Some no_ex) wanted is
    (λ x rest there none.
    let last : no_ex ≡ rest = cc in
    let said = map_is values.term (put.term (uses_of old.work.bodies.now) [] 0 t) x there in
    let stands = is_made measured (values.term x) said in
    let noted = notes measured (values.term x) said in
    subst (λ (r : Exs). AreTerms old (also_ex x r) new (also_ex e no_ex)) last (record {
      built = λ on. ap (λ y. also_ex y no_ex) (plain_term (value_view made.value) e x plain (stands.value.whole on));
      reader = noted.same;
      noted = noted_as (λ test. some_term test (also_ex x no_ex)) (noted_value old new (values.term x) made stands noted)
          (λ test none. or_none (test.of_term x));
    }))

pub one_past : (old : Maker) (t : Te) → IsPastOf old.work (said_term t) → SomeIsPast old (also_te t no_te)
one_past old t past measured wanted is =
    both_there (λ (w : Exs). some_term (is_large_in old.work.cons.now) w ≡ true) also_ex (put.term (uses_of old.work.bodies.now) [] 0 t) (Some no_ex) wanted is
    (λ x rest there none.
    or_first _ (some_term (is_large_in old.work.cons.now) rest)
    (large_value old.work.cons.now (values.term x)
    (past measured (values.term x) (map_is values.term (put.term (uses_of old.work.bodies.now) [] 0 t) x there))))

-- # Several

pub record ArgsWay (start : Maker) (wanted : Exs) (rest : Tes) (now : Maker) (made : Exs) : Type 0 where
  pub done : Exs
  pub left : Exs
  pub is : wanted ≡ values.append done left
  pub terms : AreTerms start done now made
  pub next : terms_in start rest ≡ Some left

pub args_begin : (m : Maker) (all : Tes) (wanted : Exs) → terms_in m all ≡ Some wanted → ArgsWay m wanted all m no_ex
args_begin m all wanted e = record {
  done = no_ex;
  left = wanted;
  is = refl;
  terms = record { built = λ on. refl; reader = refl; noted = noted_none m };
  next = e;
}

terms_both : {a b d : Maker} {x y z w : Exs} → AreTerms a x b y → AreTerms b z d w
    → AreTerms a (values.append x z) d (values.append y w)
terms_both {a} {b} {d} {x} {y} {z} {w} first second = record {
  built = λ on. ap₂ values.append (first.built on) (second.built (ap (λ (w : Work). w.building) first.noted.work ∙ on));
  reader = second.reader ∙ first.reader;
  noted = noted_as (λ test. some_term test (values.append x z)) (noted_both first.noted second.noted) (λ test none. some_terms test x z);
}

measured_there : {start now : Maker} {done made : Exs} → AreTerms start done now made → AreMeasuredIn start.work → AreMeasuredIn now.work
measured_there {start} {now} terms = subst (λ (w : Work). AreMeasuredIn w) (sym terms.noted.work)

-- a term by itself, where it is what the definitions make next
alone_there : {start now : Maker} {done made : Exs} (t : Te) (x : Ex) → AreTerms start done now made
    → put.term (uses_of start.work.bodies.now) [] 0 t ≡ Some x → terms_in now (also_te t no_te) ≡ Some (also_ex x no_ex)
alone_there {start} {now} t x terms e =
    subst (λ (w : Work). put.terms (uses_of w.bodies.now) [] 0 (also_te t no_te) ≡ Some (also_ex x no_ex)) (sym terms.noted.work)
    (ap (λ o. Rattle.desugaring.specs.Parts.both also_ex o (Some no_ex)) e)

pub args_go_on : {start now new : Maker} {wanted : Exs} {t : Te} {rest : Tes} {made : Exs} {e : Ex}
    → ArgsWay start wanted (also_te t rest) now made → AreMeasuredIn start.work
    → MakesTerms now (also_te t no_te) new (also_ex e no_ex)
    → ArgsWay start wanted rest new (values.append made (also_ex e no_ex))
args_go_on {start} {now} {new} {wanted} {t} {rest} {made} {e} way measured makes =
    both_there (λ (l : Exs). way.left ≡ l → ArgsWay start wanted rest new (values.append made (also_ex e no_ex))) also_ex
    (put.term (uses_of start.work.bodies.now) [] 0 t) (put.terms (uses_of start.work.bodies.now) [] 0 rest) way.left way.next
    (λ x left there more is.
    let one = makes (measured_there way.terms measured) (also_ex x no_ex) (alone_there t x way.terms there) in
    record {
      done = values.append way.done (also_ex x no_ex);
      left = left;
      is = way.is ∙ ap (values.append way.done) is ∙ sym (exs_append way.done (also_ex x no_ex) left);
      terms = terms_both way.terms one;
      next = more;
    }) refl

pub args_end : {start now : Maker} {wanted : Exs} {made : Exs} → ArgsWay start wanted no_te now made → AreTerms start wanted now made
args_end {start} {now} {wanted} {made} way =
    let none : no_ex ≡ way.left = cc in
    subst (λ (w : Exs). AreTerms start w now made)
    (sym (exs_append_none way.done) ∙ ap (values.append way.done) none ∙ sym way.is) way.terms

pub args_past : {start now : Maker} {wanted : Exs} {t : Te} {rest : Tes} {made : Exs} → ArgsWay start wanted (also_te t rest) now made
    → AreMeasuredIn start.work → SomeIsPast now (also_te t no_te) → some_term (is_large_in start.work.cons.now) wanted ≡ true
args_past {start} {now} {wanted} {t} {rest} {made} way measured past =
    let test = is_large_in start.work.cons.now in
    both_there (λ (l : Exs). way.left ≡ l → some_term test wanted ≡ true) also_ex
    (put.term (uses_of start.work.bodies.now) [] 0 t) (put.terms (uses_of start.work.bodies.now) [] 0 rest) way.left way.next
    (λ x left there more is.
    let one : some_term test (also_ex x no_ex) ≡ true =
    subst (λ (w : Work). some_term (is_large_in w.cons.now) (also_ex x no_ex) ≡ true) way.terms.noted.work
    (past (measured_there way.terms measured) (also_ex x no_ex) (alone_there t x way.terms there)) in
    ap (some_term test) (way.is ∙ ap (values.append way.done) is) ∙ some_terms test way.done (also_ex x left)
    ∙ or_second (some_term test way.done) _ (or_first (test.of_term x) (some_term test left) (sym (or_none (test.of_term x)) ∙ one))) refl

-- # Lists

-- what is popped comes first from the other end
pub popped : (old new : List Term) (x : Term) → old ≡ new ++ x ∷ [] → terms_view (reverse old) ≡ also_te (term_view x) (terms_view (reverse new))
popped old new x is = ap (λ l. terms_view (reverse l)) is ∙ ap (λ l. terms_view l) (reverse-append new (x ∷ []))

pub turned_back : (args turned : List Term) → turned ≡ reverse args → terms_view (reverse turned) ≡ terms_view args
turned_back args turned is = ap (λ l. terms_view (reverse l)) is ∙ ap (λ l. terms_view l) (reverse-reverse args)

exs_push : (xs : List Ex) (x : Ex) → exs_of (xs ++ x ∷ []) ≡ values.append (exs_of xs) (also_ex x no_ex)
exs_push [] x = refl
exs_push (y ∷ xs) x = ap (also_ex y) (exs_push xs x)

pub made_push : (made new : List Expr) (e : Expr) → new ≡ made ++ e ∷ [] → exprs_view new ≡ values.append (exprs_view made) (also_ex (expr_view e) no_ex)
made_push made new e is =
    ap (λ l. exprs_view l) is ∙ ap exs_of (map_push expr_view made e) ∙ exs_push (map expr_view made) (expr_view e)
