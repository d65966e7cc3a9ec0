-- Variables of quantifiers and patterns.
use Rattle.std.proofs.Common.{◌≡◌, ℕ, suc, Bool, true, false, not, List, [], ◌∷◌, Some, None, refl, subst, cond, arith}
use Rattle.std.specs.Prelude.{nat_eq, length}
use Rattle.std.proofs.lemmas.Bool.{ne_eqb, not-false}
use Rattle.rp_span.specs.declared.Span.{Span}
use Rattle.rp_value.specs.declared.tables.Ty.{Ty}
use Rattle.rp_grammar.specs.Trees.{Ident, ParamTree, TypeTree, TypeForm}
use Rattle.rp_lang.specs.Typing as typing
use Rattle.rp_lang.specs.Typing.{is_range}
use Rattle.type_rules.specs.declared.kind.Kind.{Kind}
use Rattle.type_rules.specs.Names.{text_of, param_name, param_type}
use Rattle.type_rules.specs.Kinds.{kind_of}
use Rattle.type_rules.specs.Accesses.{Var}
use Rattle.type_rules.specs.Matches.{with_bound}
use Rattle.type_rules.specs.Sites.{Scope, Site}
use Rattle.type_rules.specs.ExprSites.{with_var, quantified_var}
use Rattle.type_rules.specs.Rules.{is_over_calls, is_call_form, unless, when, rule08}
use Rattle.type_rules.specs.declared.role.Role.TheVariants as role
use Rattle.type_rules.specs.Rules.{is_range as is_range_form}
use Rattle.desugaring.specs.Parts.{each}
use Rattle.desugaring.specs.Tables.{Tables, ty_of}
use Rattle.desugaring.specs.Callees.{Vars}
use Rattle.desugaring.specs.Expressions.{under_quantifier, under_all}
use Rattle.lawful.specs.Typed.{Sees}
use Rattle.lawful.proofs.Basics.{when_not}
use Rattle.lawful.proofs.Lifting.{sees_under}
use Rattle.desugaring.proofs.Options.{both_there}
use Rattle.lawful.proofs.Forms.{one, never}
use Rattle.lawful.proofs.World.{World, In}

-- a quantifier's variable is of an id or opaque type, or a call or invocation where these may be spoken of
pub words_speak : (sc : Scope) (s : Span) → (over : Bool) → unless sc.words (when over s) ≡ None → over ≡ true → sc.words ≡ true
words_speak sc s over e is = by_words sc.words over s e is where
  by_words : (words over : Bool) (s : Span) → cond words None (when over s) ≡ None → over ≡ true → words ≡ true
  by_words true over s e is = refl
  by_words false true s e is = absurd cc
  by_words false false s e is = absurd cc

pub ranges : (t : Tables) (g : World t) (bs : List Ty) (vs : Vars) (sc : Scope) (x : Ident) (form : TypeForm) (at : Span) (s : Span) (of : Ty) → In t g bs vs sc
    → is_range_form t.names form ≡ true → unless sc.words (when (is_call_form form) s) ≡ None
    → ty_of t (kind_of t.names (TypeTree.node at form)) ≡ Some of → is_range g.p g.f of ≡ true
ranges t g bs vs sc x (TypeForm.named y) at s of st may quiet is =
    g.tied.atom y of (not_false_ _ may) is g.f where
      not_false_ : (b : Bool) → not b ≡ true → b ≡ false
      not_false_ true e = absurd cc
      not_false_ false e = refl
ranges t g bs vs sc x TypeForm.call at s of st may quiet is =
    subst (λ z. is_range g.p g.f z ≡ true) (one is) (st.speaks (words_speak sc s true quiet refl))
ranges t g bs vs sc x TypeForm.invocation at s of st may quiet is =
    subst (λ z. is_range g.p g.f z ≡ true) (one is) (st.speaks (words_speak sc s true quiet refl))
ranges t g bs vs sc x TypeForm.bool at s of st may quiet is = absurd cc
ranges t g bs vs sc x TypeForm.int at s of st may quiet is = absurd cc
ranges t g bs vs sc x TypeForm.text at s of st may quiet is = absurd cc
ranges t g bs vs sc x (TypeForm.maybe y) at s of st may quiet is = absurd cc

pub under_one : (t : Tables) (g : World t) (bs : List Ty) (vs : Vars) (sc : Scope) (q : ParamTree) (of : Ty) → ty_of t (kind_of t.names (param_type q)) ≡ Some of
    → In t g bs vs sc → In t g (of ∷ bs) (under_quantifier t.names vs q) (with_var sc (quantified_var t.names q))
under_one t g bs vs sc q of is st = record {
  sees = sees_under t g.p g.f of bs sc.vars vs (text_of (param_name q)) (kind_of t.names (param_type q)) is st.sees;
  speaks = st.speaks;
}

-- under the variables of a pattern
pub less_one : (m n : ℕ) → nat_eq (suc m) (suc n) ≡ true → nat_eq m n ≡ true
less_one m n e = grind arith

pub under_fields : (t : Tables) (g : World t) (bs : List Ty) (vs : Vars) (vars : List Var) (xs : List Ident) (ks : List Kind) (tys : List Ty) → nat_eq (length ks) (length xs) ≡ true
    → each (ty_of t) ks ≡ Some tys → Sees t g.p g.f bs vars vs
    → Sees t g.p g.f (typing.under tys bs) (with_bound vars xs ks) (under_all vs xs ks)
under_fields t g bs vs vars [] [] tys same are st =
    subst (λ z. Sees t g.p g.f (typing.under z bs) vars vs) (one are) st
under_fields t g bs vs vars (x ∷ xs) (k ∷ ks) tys same are st =
    both_there (λ z. Sees t g.p g.f (typing.under z bs) (with_bound vars (x ∷ xs) (k ∷ ks)) (under_all vs (x ∷ xs) (k ∷ ks))) ◌∷◌
    (ty_of t k) (each (ty_of t) ks) tys are
    (λ of ofs i j. under_fields t g (of ∷ bs) _ _ xs ks ofs (less_one _ _ same) j (sees_under t g.p g.f of bs vars vs (text_of x) k i st))
under_fields t g bs vs vars [] (k ∷ ks) tys same are st = never (ne_eqb (length (k ∷ ks)) 0 (omega arith)) same
under_fields t g bs vs vars (x ∷ xs) [] tys same are st = never (ne_eqb 0 (length (x ∷ xs)) (omega arith)) same

pub quantified : (t : Tables) (g : World t) (bs : List Ty) (vs : Vars) (q : ParamTree) (of : Ty) (sc : Scope)
    → ty_of t (kind_of t.names (param_type q)) ≡ Some of → In t g bs vs sc
    → rule08 t.names (Site.written sc.decl role.Quantified (param_type q)) ≡ None → (s : Span) → unless sc.words (when (is_over_calls q) s) ≡ None
    → is_range g.p g.f of ≡ true
quantified t g bs vs (ParamTree.param x (TypeTree.node at form)) of sc is st t08 s t09 =
    ranges t g bs vs sc x form at s of st (not-false _ (when_not _ _ t08)) t09 is
