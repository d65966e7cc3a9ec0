-- Values of nodes, from those of their parts.
use Rattle.std.proofs.Common.{◌≡◌, ◌+◌, ℕ, Bool, true, false, not, ◌&&◌, ◌==◌, List, [], ◌∷◌, length, Option, Some, None, refl, ap, subst, sym, ◌∙◌, cond, arith, inl, inr, ◌⊎◌}
use Rattle.std.proofs.lemmas.Bool.{not-false, or_parts, true≢false}
use Rattle.std.specs.List.{AllByRecursion}
use Rattle.std.specs.Prelude.{option_and_then}
use Rattle.rp_span.specs.declared.Span.{Span}
use Rattle.rp_value.specs.declared.tables.Ty.TheVariants as ty
use Rattle.rp_grammar.specs.declared.operator.CallWord.{CallWord}
use Rattle.rp_grammar.specs.declared.operator.CallWord.TheVariants as called
use Rattle.rp_grammar.specs.Trees.{ExprTree, ExprTrees}
use Rattle.rp_lang.specs.Exprs.{Ex, Exs, no_ex, also_ex}
use Rattle.type_rules.specs.declared.kind.Kind.{Kind}
use Rattle.type_rules.specs.declared.kind.Base.TheVariants as base
use Rattle.type_rules.specs.Kinds.{bool_kind, fits}
use Rattle.type_rules.specs.Accesses.{Var}
use Rattle.type_rules.specs.Typing.{type_of, is_plain, is_plain_word, called_kind}
use Rattle.type_rules.specs.Sites.{Scope, Want, Site}
use Rattle.type_rules.specs.ExprSites.{argument, expr_sites, word_args, first_type, is_invocation, call_kind, invocation_kind}
use Rattle.type_rules.specs.Rules.{when, rule, rules, rule10, rule11, rule14, rule18, is_datatype_kind, misfits, word_takes}
use Rattle.desugaring.specs.Tables.{Tables}
use Rattle.desugaring.specs.Values.{Value, term, formula, word_of}
use Rattle.desugaring.specs.Callees.{Called}
use Rattle.desugaring.specs.Expressions.{Uses, applied, called_with}
use Rattle.desugaring.proofs.Options.{then_is}
use Rattle.lawful.proofs.Basics.{when_not}
use Rattle.lawful.proofs.Places.{is_one_of}
use Rattle.lawful_programs.specs.Valued.{Sound, AllSound, IsWhole, AllWhole, Valued, Suits, count_terms}
use Rattle.lawful_programs.proofs.Wholes.{bare_whole}

-- # Places

pub head : (t : Tables) (sc : Scope) (w : Want) (e : ExprTree) → AllSound t (expr_sites t.names sc w e) → Sound t (Site.place sc w e)
head t sc w (ExprTree.node at form) sound = sound.0

-- a plain term where one is asked
pub plain_there : (t : Tables) (sc : Scope) (w : Want) (e : ExprTree) → w.plain ≡ true → AllSound t (expr_sites t.names sc w e) → is_plain t.names sc.vars e ≡ true
plain_there t sc w e plain sound =
    by_plain w.plain (is_plain t.names sc.vars e) _ ((head t sc w e sound).0 (rule 11 rule11) (is_one_of rules 10 _ refl)) plain where
      by_plain : (asked is : Bool) (at : Span) → when (asked && not is) at ≡ None → asked ≡ true → is ≡ true
      by_plain asked true at e h = refl
      by_plain true false at e h = absurd cc
      by_plain false false at e h = absurd cc

-- the type that is asked by rule 10, and by rule 14
pub fits10 : (t : Tables) (sc : Scope) (w : Want) (k : Kind) (e : ExprTree) → w.rule ≡ 10 → w.asked ≡ Some k → AllSound t (expr_sites t.names sc w e)
    → fits k (type_of t.names sc.vars w.asked e) ≡ true
fits10 t sc w k e by asked sound =
    let law = or_parts _ _ (or_parts _ _ (when_not _ _ ((head t sc w e sound).0 (rule 10 rule10) (is_one_of rules 9 _ refl)))).0 in
    not-false _ (subst (λ o. misfits t.names sc w e o ≡ false) asked (subst (λ r. ((r == 10) && misfits t.names sc w e w.asked) ≡ false) by law.0))

pub fits14 : (t : Tables) (sc : Scope) (w : Want) (k : Kind) (e : ExprTree) → w.rule ≡ 14 → w.asked ≡ Some k → AllSound t (expr_sites t.names sc w e)
    → fits k (type_of t.names sc.vars w.asked e) ≡ true
fits14 t sc w k e by asked sound =
    let law = or_parts _ _ (when_not _ _ ((head t sc w e sound).0 (rule 14 rule14) (is_one_of rules 13 _ refl))) in
    not-false _ (subst (λ o. misfits t.names sc w e o ≡ false) asked (subst (λ r. ((r == 14) && misfits t.names sc w e w.asked) ≡ false) by law.0))

pub matched_there : (t : Tables) (sc : Scope) (w : Want) (e : ExprTree) → w.rule ≡ 18 → AllSound t (expr_sites t.names sc w e)
    → is_datatype_kind t.names (type_of t.names sc.vars w.asked e) ≡ true
matched_there t sc w e by sound =
    not-false _ (subst (λ r. ((r == 18) && not (is_datatype_kind t.names (type_of t.names sc.vars w.asked e))) ≡ false) by
    (when_not _ _ ((head t sc w e sound).0 (rule 18 rule18) (is_one_of rules 17 _ refl))))

-- # Terms

pub plain_term : (k : Kind) (plain : Bool) (o : Option Value) → Valued k plain o → plain ≡ true → (x : Ex) × (o ≡ Some (term x))
plain_term k plain o v is = by_value k plain o v.0 v.1 v.2 is where
  by_value : (k : Kind) (plain : Bool) (o : Option Value) (v : Value) → o ≡ Some v → Suits k plain v → plain ≡ true → (x : Ex) × (o ≡ Some (term x))
  by_value k plain o (term x) e suits is = (x, e)
  by_value k plain o (formula f) e suits is = absurd (true≢false (sym is ∙ suits.1))

-- where no truth is asked
pub other_term : (k j : Kind) (plain : Bool) (o : Option Value) → Valued j plain o → fits k bool_kind ≡ false → fits k j ≡ true → (x : Ex) × (o ≡ Some (term x))
other_term k j plain o v apart fit = by_value k j plain o v.0 v.1 v.2 apart fit where
  by_value : (k j : Kind) (plain : Bool) (o : Option Value) (v : Value) → o ≡ Some v → Suits j plain v → fits k bool_kind ≡ false → fits k j ≡ true
      → (x : Ex) × (o ≡ Some (term x))
  by_value k j plain o (term x) e suits apart fit = (x, e)
  by_value k j plain o (formula f) e suits apart fit = absurd (true≢false (sym fit ∙ ap (fits k) suits.0 ∙ apart))

-- # Words

-- an argument is a term since it is asked to be plain, or since no truth is asked
abbrev pub MakesTerm : Bool → Kind → Type 0
MakesTerm plain k = (plain ≡ true) ⊎ (fits k bool_kind ≡ false)

abbrev pub AllTerms : Bool → List Kind → Type 0
AllTerms plain ks = AllByRecursion (MakesTerm plain) ks

pub plain_terms : (ks : List Kind) → AllTerms true ks
plain_terms [] = tt
plain_terms (k ∷ ks) = (inl refl, plain_terms ks)

-- what the arguments of a word are asked
pub record WordTakes (t : Tables) (vs : List Var) (w : CallWord) (es : ExprTrees) : Type 0 where
  pub terms : AllTerms false (word_args t.names vs w es)
  pub whole : AllWhole t (word_args t.names vs w es)
  pub many : length (word_args t.names vs w es) ≡ word_takes w

call_whole : (t : Tables) → IsWhole t call_kind
call_whole t = bare_whole t base.Call (ty.Call, refl)

invocation_whole : (t : Tables) → IsWhole t invocation_kind
invocation_whole t = bare_whole t base.Invocation (ty.Inv, refl)

pub word_takes_there : (t : Tables) (vs : List Var) (w : CallWord) (es : ExprTrees) → WordTakes t vs w es
word_takes_there t vs called.Visible es = record { terms = (inr refl, tt); whole = (call_whole t, tt); many = refl }
word_takes_there t vs called.Same es = record { terms = (inr refl, (inr refl, tt)); whole = (call_whole t, (call_whole t, tt)); many = refl }
word_takes_there t vs called.Op es = record { terms = (inr refl, tt); whole = (call_whole t, tt); many = refl }
word_takes_there t vs called.Origin es = record { terms = (inr refl, tt); whole = (call_whole t, tt); many = refl }
word_takes_there t vs called.Info es = record { terms = (inr refl, tt); whole = (invocation_whole t, tt); many = refl }
word_takes_there t vs called.Result es = record { terms = (inr refl, tt); whole = (invocation_whole t, tt); many = refl }
word_takes_there t vs called.Before es = record {
  terms = (apart (is_invocation (first_type t.names vs es).base), (apart (is_invocation (first_type t.names vs es).base), tt));
  whole = (either t (is_invocation (first_type t.names vs es).base), (either t (is_invocation (first_type t.names vs es).base), tt));
  many = refl;
} where
  apart : (inv : Bool) → MakesTerm false (cond inv invocation_kind call_kind)
  apart true = inr refl
  apart false = inr refl

  either : (t : Tables) (inv : Bool) → IsWhole t (cond inv invocation_kind call_kind)
  either t true = invocation_whole t
  either t false = call_whole t

-- a word with so many arguments
pub word_value : (w : CallWord) (plain : Bool) (xs : Exs) → count_terms xs ≡ word_takes w → Valued (called_kind w) (is_plain_word w && plain) (word_of w xs)
word_value called.Visible plain (also_ex a no_ex) e = (_, refl, (refl, refl))
word_value called.Op plain (also_ex a no_ex) e = (_, refl, tt)
word_value called.Origin plain (also_ex a no_ex) e = (_, refl, tt)
word_value called.Info plain (also_ex a no_ex) e = (_, refl, tt)
word_value called.Result plain (also_ex a no_ex) e = (_, refl, tt)
word_value called.Before plain (also_ex a (also_ex b no_ex)) e = (_, refl, (refl, refl))
word_value called.Same plain (also_ex a (also_ex b no_ex)) e = (_, refl, (refl, refl))
word_value w plain no_ex e = absurd (none w e) where
  none : (w : CallWord) → 0 ≡ word_takes w → ⊥
  none called.Before e = omega (arith, e)
  none called.Same e = omega (arith, e)
  none called.Visible e = omega (arith, e)
  none called.Op e = omega (arith, e)
  none called.Origin e = omega (arith, e)
  none called.Info e = omega (arith, e)
  none called.Result e = omega (arith, e)
word_value called.Before plain (also_ex a no_ex) e = absurd (omega (arith, e))
word_value called.Same plain (also_ex a no_ex) e = absurd (omega (arith, e))
word_value w plain (also_ex a (also_ex b (also_ex c xs))) e = absurd (three w (count_terms xs) e) where
  three : (w : CallWord) (m : ℕ) → m + 1 + 1 + 1 ≡ word_takes w → ⊥
  three called.Before m e = omega (arith, e)
  three called.Same m e = omega (arith, e)
  three called.Visible m e = omega (arith, e)
  three called.Op m e = omega (arith, e)
  three called.Origin m e = omega (arith, e)
  three called.Info m e = omega (arith, e)
  three called.Result m e = omega (arith, e)
word_value called.Visible plain (also_ex a (also_ex b no_ex)) e = absurd (omega (arith, e))
word_value called.Op plain (also_ex a (also_ex b no_ex)) e = absurd (omega (arith, e))
word_value called.Origin plain (also_ex a (also_ex b no_ex)) e = absurd (omega (arith, e))
word_value called.Info plain (also_ex a (also_ex b no_ex)) e = absurd (omega (arith, e))
word_value called.Result plain (also_ex a (also_ex b no_ex)) e = absurd (omega (arith, e))

-- # Arguments and calls

pub argument_term : (t : Tables) (sc : Scope) (plain : Bool) (k : Kind) (e : ExprTree) (o : Option Value) → MakesTerm plain k
    → Valued (type_of t.names sc.vars (Some k) e) (is_plain t.names sc.vars e) o → AllSound t (expr_sites t.names sc (argument plain k) e)
    → (x : Ex) × (o ≡ Some (term x))
argument_term t sc plain k e o (inl h) v sound = plain_term _ _ o v (plain_there t sc (argument plain k) e h sound)
argument_term t sc plain k e o (inr h) v sound = other_term k _ _ o v h (fits14 t sc (argument plain k) k e refl refl sound)

-- a part that isn't plain makes the whole no plain term
less_plain : (k : Kind) (p q r : Bool) (v : Value) → Suits k p v → Suits k (p && q && r) v
less_plain k p q r (term x) suits = tt
less_plain k p q r (formula f) suits = (suits.0, ap (λ z. z && q && r) suits.1)

pub called_value : (uses : Uses) (k : Kind) (p q r : Bool) (o : Option (Called Ex)) (c : Called Ex) (key_terms arg_terms : Called Ex → Option Exs) (keys es : Exs)
    → o ≡ Some c → key_terms c ≡ Some keys → arg_terms c ≡ Some es → Valued k p (called_with uses c.what keys es)
    → Valued k (p && q && r) (option_and_then (λ z. applied uses z.what (key_terms z) (arg_terms z)) o)
called_value uses k p q r o c key_terms arg_terms keys es is first second v = (
  v.0,
  then_is (λ z. applied uses z.what (key_terms z) (arg_terms z)) o c v.0 is
      (then_is _ (key_terms c) keys v.0 first (then_is _ (arg_terms c) es v.0 second v.1)),
  less_plain k p q r v.0 v.2,
)
