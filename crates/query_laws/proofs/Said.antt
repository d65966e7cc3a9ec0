-- What is said of an expression, from what is said of its parts: a lemma for each form.
use Rattle.std.proofs.Common.{◌≡◌, ◌+◌, ℕ, ℤ, Bool, true, false, List, [], ◌∷◌, length, Option, Some, None, if◌then◌else◌, ap, subst, sym, ◌∙◌}
use Rattle.std.specs.Prelude.{option_map, option_and_then}
use Rattle.rp_span.specs.declared.Span.{Span}
use Rattle.rp_value.specs.declared.tables.Ty.{Ty}
use Rattle.rp_grammar.specs.declared.operator.CompareOp.{CompareOp}
use Rattle.rp_grammar.specs.declared.operator.CompareOp.TheVariants as compare
use Rattle.rp_grammar.specs.declared.operator.CallWord.{CallWord}
use Rattle.rp_grammar.specs.declared.operator.CallWord.TheVariants as word
use Rattle.rp_grammar.specs.Trees.{ParamTree, PatternTree, ExprTree, ExprForm, ExprTrees, ExprArmTree, ExprArmTrees}
use Rattle.rp_lang.specs.Exprs as ex
use Rattle.rp_lang.specs.Exprs.{Ex, Exs, no_ex, also_ex}
use Rattle.rp_lang.specs.Formulas as fo
use Rattle.rp_lang.specs.Formulas.{Fo, Fos, also_fo, Arms, also_arm}
use Rattle.type_rules.specs.declared.kind.Kind.{Kind}
use Rattle.type_rules.specs.Names.{text_of, param_name, param_type}
use Rattle.type_rules.specs.Kinds.{bool_kind, int_kind, kind_of}
use Rattle.type_rules.specs.Typing.{type_of, form_type, asked_inside, none_kind}
use Rattle.type_rules.specs.Accesses.{Var}
use Rattle.type_rules.specs.ExprSites.{left_want, right_want, word_args}
use Rattle.type_rules.specs.Matches.{pattern_vars}
use Rattle.desugaring.specs.Parts.{both}
use Rattle.desugaring.specs.Tables.{con_number, arm_number}
use Rattle.desugaring.specs.Values as values
use Rattle.desugaring.specs.Values.{Value, term, formula, as_formula, one_ex}
use Rattle.desugaring.specs.Callees.{vars_of}
use Rattle.desugaring.specs.Expressions as spec
use Rattle.desugaring.specs.Expressions.{term_in, word_none, word_some}
use Rattle.desugaring.proofs.Options.{then_there, map_there, both_there, three_there, term_there, map_is, both_is}
use Rattle.query_bodies.specs.Terms as te
use Rattle.query_bodies.specs.Terms.{Te, Tes, no_te, also_te, Cl, Cls, no_cl, also_cl, ClArms, no_cl_arm, also_cl_arm, Said, said_term, said_claim}
use Rattle.query_bodies.specs.Expanded as put
use Rattle.query_bodies.specs.Expanded.{Uses, Given, said_under}
use Rattle.query_laws.specs.Sight.{Follows, Sight, vars_in, Stands, under_quantifier, under_pattern, uses_with, value_for, put_in, Says, SaysTerm, SaysClaim, SaysClaims, SaysTerms, SaysArms, IsTyOf, IsNumber, compared, word_of_one, word_of_two, word_of}
use Rattle.query_laws.proofs.Under.{vars_under, stands_under, pattern_under, stands_in_pattern, vars_same}

-- # Terms and formulas

in_term : (o : Option Ex) (x : Ex) → option_map term o ≡ Some (term x) → o ≡ Some x
in_term None x e = absurd cc
in_term (Some y) x e = ap term_in e

-- a plain term with all uses put in
pub term_said : (s : Sight) (asked : Option Kind) (e : ExprTree) (made : Te) → SaysTerm s asked e made → (given : Given)
    → Stands s given
    → (x : Ex) → term_in (value_for s given asked e) ≡ Some x → put.term s.uses given s.binders made ≡ Some x
term_said s asked e made says given st x is =
    in_term (put.term s.uses given s.binders made) x (says given st (term x) (term_there (value_for s given asked e) x is))

in_formula : (o : Option Fo) (v : Value) → option_map formula o ≡ Some v → o ≡ Some (as_formula v)
in_formula None v e = absurd cc
in_formula (Some f) v e = ap (option_map as_formula) e

-- a formula is said as it is, and of a term of type `Bool` that it is true
pub claim_says : (s : Sight) (e : ExprTree) (made : Cl) → Says s (Some bool_kind) e (said_claim made) → SaysClaim s e made
claim_says s e made says given st v is = in_formula (put.claim s.uses given s.binders made) v (says given st v is)

holds_there : (o : Option Ex) (v : Value) → option_map term o ≡ Some v → option_map fo.Holds o ≡ Some (as_formula v)
holds_there None v e = absurd cc
holds_there (Some x) v e = ap (option_map as_formula) e

pub truth_says : (s : Sight) (e : ExprTree) (made : Te) → SaysTerm s (Some bool_kind) e made → SaysClaim s e (te.Holds made)
truth_says s e made says given st v is = holds_there (put.term s.uses given s.binders made) v (says given st v is)

-- # Connectives

pub implies_says : (s : Sight) (asked : Option Kind) (at : Span) (a b : ExprTree) (x y : Cl) → SaysClaim s a x → SaysClaim s b y
    → Says s asked (ExprTree.node at (ExprForm.implies a b)) (said_claim (te.Implies x y))
implies_says s asked at a b x y left right given st v e =
    both_there (λ z. put_in s given (said_claim (te.Implies x y)) ≡ Some z) spec.implied _ _ v e (λ p q i j.
    ap (option_map formula) (both_is fo.Implies _ _ _ _ (left given st p i) (right given st q j)))

pub not_says : (s : Sight) (asked : Option Kind) (at : Span) (a : ExprTree) (x : Cl) → SaysClaim s a x
    → Says s asked (ExprTree.node at (ExprForm.not a)) (said_claim (te.Not x))
not_says s asked at a x inside given st v e =
    map_there (λ z. put_in s given (said_claim (te.Not x)) ≡ Some z) spec.negated _ v e (λ p i.
    ap (option_map formula) (map_is fo.Not _ _ (inside given st p i)))

pub or_says : (s : Sight) (asked : Option Kind) (at : Span) (es : ExprTrees) (xs : Cls) → SaysClaims s es xs
    → Says s asked (ExprTree.node at (ExprForm.or es)) (said_claim (te.Or xs))
or_says s asked at es xs parts given st v e =
    map_there (λ z. put_in s given (said_claim (te.Or xs)) ≡ Some z) spec.one_of _ v e (λ fs i.
    ap (option_map formula) (map_is fo.Or _ _ (parts given st fs i)))

pub and_says : (s : Sight) (asked : Option Kind) (at : Span) (es : ExprTrees) (xs : Cls) → SaysClaims s es xs
    → Says s asked (ExprTree.node at (ExprForm.and es)) (said_claim (te.And xs))
and_says s asked at es xs parts given st v e =
    map_there (λ z. put_in s given (said_claim (te.And xs)) ≡ Some z) spec.each_of _ v e (λ fs i.
    ap (option_map formula) (map_is fo.And _ _ (parts given st fs i)))

pub no_claims_say : (s : Sight) → SaysClaims s ExprTrees.no_exprs no_cl
no_claims_say s given st fs e = e

pub more_claims_say : (s : Sight) (a : ExprTree) (es : ExprTrees) (x : Cl) (xs : Cls) → SaysClaim s a x → SaysClaims s es xs
    → SaysClaims s (ExprTrees.more_exprs a es) (also_cl x xs)
more_claims_say s a es x xs first rest given st fs e =
    both_there (λ z. put.claims s.uses given s.binders (also_cl x xs) ≡ Some z) spec.with_formula _ _ fs e (λ p q i j.
    both_is also_fo _ _ _ _ (first given st p i) (rest given st q j))

-- # Quantifiers

quantified_said : (s : Sight) (p : ParamTree) (e : ExprTree) (y : Cl) → SaysClaim (under_quantifier s p) e y
    → (given : Given) → Stands s given
    → (v : Value)
    → spec.value s.tables (uses_with s.uses) (spec.under_quantifier s.tables.names (vars_in s given) p) (Some bool_kind) e ≡
    Some v
    → put.claim s.uses given (s.binders + 1) y ≡ Some (as_formula v)
quantified_said s p e y says given st v is =
    says given (stands_under s given (text_of (param_name p)) (kind_of s.tables.names (param_type p)) st) v
    (ap (λ vs. spec.value s.tables (uses_with s.uses) vs (Some bool_kind) e)
    (vars_under s given (text_of (param_name p)) (kind_of s.tables.names (param_type p)) st.levels) ∙ is)

pub forall_says : (s : Sight) (asked : Option Kind) (at : Span) (p : ParamTree) (e : ExprTree) (ty : Ty) (y : Cl)
    → IsTyOf s.tables (kind_of s.tables.names (param_type p)) ty → SaysClaim (under_quantifier s p) e y
    → Says s asked (ExprTree.node at (ExprForm.forall p e)) (said_claim (te.All ty y))
forall_says s asked at p e ty y is body given st v h =
    both_there (λ z. put_in s given (said_claim (te.All ty y)) ≡ Some z) spec.for_all _ _ v h (λ wanted w i j.
    ap (λ o. option_map formula (option_map (fo.All ty) o)) (quantified_said s p e y body given st w j)
    ∙ ap (λ k. Some (formula (fo.All k (as_formula w)))) (sym (is wanted i)))

pub exists_says : (s : Sight) (asked : Option Kind) (at : Span) (p : ParamTree) (e : ExprTree) (ty : Ty) (y : Cl)
    → IsTyOf s.tables (kind_of s.tables.names (param_type p)) ty → SaysClaim (under_quantifier s p) e y
    → Says s asked (ExprTree.node at (ExprForm.exists p e)) (said_claim (te.Any ty y))
exists_says s asked at p e ty y is body given st v h =
    both_there (λ z. put_in s given (said_claim (te.Any ty y)) ≡ Some z) spec.for_some _ _ v h (λ wanted w i j.
    ap (λ o. option_map formula (option_map (fo.Any ty) o)) (quantified_said s p e y body given st w j)
    ∙ ap (λ k. Some (formula (fo.Any k (as_formula w)))) (sym (is wanted i)))

-- # Comparisons

compared_is : (u : Uses) (g : Given) (b : ℕ) (c : CompareOp) (x y : Te) (p q : Ex) → put.term u g b x ≡ Some p
    → put.term u g b y ≡ Some q
    → said_under u g b (said_claim (compared c x y)) ≡ Some (formula (values.compared c p q))
compared_is u g b compare.Equal x y p q l r = ap (option_map formula) (both_is fo.Equal _ _ _ _ l r)
compared_is u g b compare.NotEqual x y p q l r = ap (λ o. option_map formula (option_map fo.Not o)) (both_is fo.Equal _ _ _ _ l r)
compared_is u g b compare.Less x y p q l r = ap (option_map formula) (both_is fo.Less _ _ _ _ l r)
compared_is u g b compare.AtMost x y p q l r = ap (option_map formula) (both_is fo.AtMost _ _ _ _ l r)
compared_is u g b compare.Greater x y p q l r = ap (option_map formula) (both_is fo.Less _ _ _ _ r l)
compared_is u g b compare.AtLeast x y p q l r = ap (option_map formula) (both_is fo.AtMost _ _ _ _ r l)

pub compare_says : (s : Sight) (asked : Option Kind) (at : Span) (c : CompareOp) (a b : ExprTree) (x y : Te)
    → SaysTerm s (left_want s.tables.names (vars_of s.vars) c a b).asked a x
    → SaysTerm s (right_want s.tables.names (vars_of s.vars) c a b).asked b y
    → Says s asked (ExprTree.node at (ExprForm.compare c a b)) (said_claim (compared c x y))
compare_says s asked at c a b x y left right given st =
    subst (λ (vs : List Var). Follows (both (λ p q. formula (values.compared c p q))
    (term_in (value_for s given (left_want s.tables.names vs c a b).asked a))
    (term_in (value_for s given (right_want s.tables.names vs c a b).asked b)))
    (put_in s given (said_claim (compared c x y)))) (sym (vars_same s given))
    (λ v e. both_there (λ z. put_in s given (said_claim (compared c x y)) ≡ Some z) (λ p q. formula (values.compared c p q)) _
    _ v e
    (λ p q i j. compared_is s.uses given s.binders c x y p q (term_said s _ a x left given st p i)
    (term_said s _ b y right given st q j)))

-- # Numbers and what has no parts

pub plus_says : (s : Sight) (asked : Option Kind) (at : Span) (a b : ExprTree) (x y : Te) → SaysTerm s (Some int_kind) a x
    → SaysTerm s (Some int_kind) b y
    → SaysTerm s asked (ExprTree.node at (ExprForm.plus a b)) (te.Sum x y)
plus_says s asked at a b x y left right given st v e =
    both_there (λ z. put_in s given (said_term (te.Sum x y)) ≡ Some z) (λ p q. term (values.sum p q)) _ _ v e (λ p q i j.
    ap (option_map term) (both_is values.sum _ _ _ _ (term_said s _ a x left given st p i) (term_said s _ b y right given st q
    j)))

pub minus_says : (s : Sight) (asked : Option Kind) (at : Span) (a b : ExprTree) (x y : Te) → SaysTerm s (Some int_kind) a x
    → SaysTerm s (Some int_kind) b y
    → SaysTerm s asked (ExprTree.node at (ExprForm.minus a b)) (te.Difference x y)
minus_says s asked at a b x y left right given st v e =
    both_there (λ z. put_in s given (said_term (te.Difference x y)) ≡ Some z) (λ p q. term (values.difference p q)) _ _ v e
    (λ p q i j.
    ap (option_map term)
    (both_is values.difference _ _ _ _ (term_said s _ a x left given st p i) (term_said s _ b y right given st q j)))

pub int_says : (s : Sight) (asked : Option Kind) (at : Span) (n : ℤ)
    → SaysTerm s asked (ExprTree.node at (ExprForm.int n)) (te.Int n)
int_says s asked at n given st v e = e

pub str_says : (s : Sight) (asked : Option Kind) (at : Span) (bytes : List ℕ)
    → SaysTerm s asked (ExprTree.node at (ExprForm.str bytes)) (te.Str bytes)
str_says s asked at bytes given st v e = e

pub bool_says : (s : Sight) (asked : Option Kind) (at : Span) (b : Bool)
    → SaysTerm s asked (ExprTree.node at (ExprForm.truth b)) (te.Con (if b then 1 else 0) no_te)
bool_says s asked at true given st v e = e
bool_says s asked at false given st v e = e

pub unreturned_says : (s : Sight) (asked : Option Kind) (at : Span)
    → SaysTerm s asked (ExprTree.node at ExprForm.unreturned) te.Unreturned
unreturned_says s asked at given st v e = e

pub tx_says : (s : Sight) (asked : Option Kind) (at : Span) → SaysTerm s asked (ExprTree.node at ExprForm.tx) (te.OpTerm 0 no_te)
tx_says s asked at given st v e = e

-- # `none` and `some`

pub none_says : (s : Sight) (asked : Option Kind) (at : Span) (con : ℕ)
    → IsNumber (con_number s.tables (none_kind asked) word_none) con
    → SaysTerm s asked (ExprTree.node at ExprForm.none_word) (te.Con con no_te)
none_says s asked at con is given st v e =
    map_there (λ z. put_in s given (said_term (te.Con con no_te)) ≡ Some z) (λ k. term (ex.Con k no_ex)) _ v e (λ wanted i.
    ap (λ k. Some (term (ex.Con k no_ex))) (sym (is wanted i)))

pub some_says : (s : Sight) (asked : Option Kind) (at : Span) (a : ExprTree) (con : ℕ) (x : Te)
    → IsNumber (con_number s.tables (form_type s.tables.names (vars_of s.vars) asked (ExprForm.some_of a)) word_some) con
    → SaysTerm s (asked_inside asked) a x
    → SaysTerm s asked (ExprTree.node at (ExprForm.some_of a)) (te.Con con (also_te x no_te))
some_says s asked at a con x is inside given st =
    subst (λ (vs : List Var). Follows (both spec.constructed
    (con_number s.tables (form_type s.tables.names vs asked (ExprForm.some_of a)) word_some)
    (term_in (value_for s given (asked_inside asked) a)))
    (put_in s given (said_term (te.Con con (also_te x no_te))))) (sym (vars_same s given))
    (λ v e. both_there (λ z. put_in s given (said_term (te.Con con (also_te x no_te))) ≡ Some z) spec.constructed _ _ v e
    (λ wanted p i j. ap (λ o. option_map term (option_map (ex.Con con) (both also_ex o (Some no_ex)))) (term_said s _ a x
    inside given st p j)
    ∙ ap (λ k. Some (term (ex.Con k (one_ex p)))) (sym (is wanted i))))

-- # Plain terms of these types

pub no_terms_say : (s : Sight) (ks : List Kind) → SaysTerms s ks ExprTrees.no_exprs no_te
no_terms_say s [] given st xs e = e
no_terms_say s (k ∷ ks) given st xs e = absurd cc

-- more terms than types become nothing
pub further_terms_say : (s : Sight) (a : ExprTree) (es : ExprTrees) (made : Tes) → SaysTerms s [] (ExprTrees.more_exprs a es) made
further_terms_say s a es made given st xs e = absurd cc

pub more_terms_say : (s : Sight) (k : Kind) (ks : List Kind) (a : ExprTree) (es : ExprTrees) (x : Te) (xs : Tes)
    → SaysTerm s (Some k) a x
    → SaysTerms s ks es xs → SaysTerms s (k ∷ ks) (ExprTrees.more_exprs a es) (also_te x xs)
more_terms_say s k ks a es x xs first rest given st ys e =
    both_there (λ z. put.terms s.uses given s.binders (also_te x xs) ≡ Some z) also_ex _ _ ys e (λ p q i j.
    both_is also_ex _ _ _ _ (term_said s (Some k) a x first given st p i) (rest given st q j))

-- # Words

one_is : (u : Uses) (g : Given) (b : ℕ) (w : CallWord) (a : Te) (p : Ex) (v : Value) (made : Said) → put.term u g b a ≡ Some p
    → values.word_of_one w p ≡ Some v → word_of_one w a ≡ Some made → said_under u g b made ≡ Some v
one_is u g b word.Visible a p v made i e h =
    subst (λ z. said_under u g b z ≡ Some v) {x = (said_claim (te.Visible a))} {y = made} (cc) (ap (λ o. option_map formula
    (option_map fo.Visible o)) i ∙ e)
one_is u g b word.Before a p v made i e h = absurd cc
one_is u g b word.Same a p v made i e h = absurd cc
one_is u g b word.Op a p v made i e h =
    subst (λ z. said_under u g b z ≡ Some v) {x = (said_term (te.OpOf a))} {y = made} (cc) (ap (λ o. option_map term
    (option_map ex.OpOf o)) i ∙ e)
one_is u g b word.Origin a p v made i e h =
    subst (λ z. said_under u g b z ≡ Some v) {x = (said_term (te.OriginOf a))} {y = made} (cc) (ap (λ o. option_map term
    (option_map ex.OriginOf o)) i ∙ e)
one_is u g b word.Info a p v made i e h =
    subst (λ z. said_under u g b z ≡ Some v) {x = (said_term (te.InfoOf a))} {y = made} (cc) (ap (λ o. option_map term
    (option_map ex.InfoOf o)) i ∙ e)
one_is u g b word.Result a p v made i e h =
    subst (λ z. said_under u g b z ≡ Some v) {x = (said_term (te.ResultOf a))} {y = made} (cc) (ap (λ o. option_map term
    (option_map ex.ResultOf o)) i ∙ e)

two_is : (u : Uses) (g : Given) (b : ℕ) (w : CallWord) (a d : Te) (p q : Ex) (v : Value) (made : Said) → put.term u g b a ≡ Some p
    → put.term u g b d ≡ Some q → values.word_of_two w p q ≡ Some v → word_of_two w a d ≡ Some made
    → said_under u g b made ≡ Some v
two_is u g b word.Before a d p q v made i j e h =
    subst (λ z. said_under u g b z ≡ Some v) {x = (said_claim (te.Before a d))} {y = made} (cc) (ap (option_map formula)
    (both_is fo.Before _ _ _ _ i j) ∙ e)
two_is u g b word.Same a d p q v made i j e h =
    subst (λ z. said_under u g b z ≡ Some v) {x = (said_claim (te.Same a d))} {y = made} (cc) (ap (option_map formula) (both_is
    fo.Same _ _ _ _ i j) ∙ e)
two_is u g b word.Visible a d p q v made i j e h = absurd cc
two_is u g b word.Op a d p q v made i j e h = absurd cc
two_is u g b word.Origin a d p q v made i j e h = absurd cc
two_is u g b word.Info a d p q v made i j e h = absurd cc
two_is u g b word.Result a d p q v made i j e h = absurd cc

word_is : (u : Uses) (g : Given) (b : ℕ) (w : CallWord) (es : Tes) (xs : Exs) (v : Value) (made : Said)
    → put.terms u g b es ≡ Some xs
    → values.word_of w xs ≡ Some v → word_of w es ≡ Some made → said_under u g b made ≡ Some v
word_is u g b w no_te xs v made i e h = absurd cc
word_is u g b w (also_te a no_te) xs v made i e h =
    both_there (λ z. values.word_of w z ≡ Some v → said_under u g b made ≡ Some v) also_ex _ _ xs i (λ p ps j k.
    subst (λ z. values.word_of w (also_ex p z) ≡ Some v → said_under u g b made ≡ Some v) {x = no_ex} (cc)
    (λ found. one_is u g b w a p v made j found h)) e
word_is u g b w (also_te a (also_te d no_te)) xs v made i e h =
    both_there (λ z. values.word_of w z ≡ Some v → said_under u g b made ≡ Some v) also_ex _ _ xs i (λ p ps j k.
    both_there (λ z. values.word_of w (also_ex p z) ≡ Some v → said_under u g b made ≡ Some v) also_ex _ _ ps k (λ q qs l m.
    subst (λ z. values.word_of w (also_ex p (also_ex q z)) ≡ Some v → said_under u g b made ≡ Some v) {x = no_ex} (cc)
    (λ found. two_is u g b w a d p q v made j l found h))) e
word_is u g b w (also_te a (also_te d (also_te f es))) xs v made i e h = absurd cc

pub word_says : (s : Sight) (asked : Option Kind) (at : Span) (w : CallWord) (es : ExprTrees) (xs : Tes) (made : Said)
    → SaysTerms s (word_args s.tables.names (vars_of s.vars) w es) es xs → word_of w xs ≡ Some made
    → Says s asked (ExprTree.node at (ExprForm.call w es)) made
word_says s asked at w es xs made parts is given st =
    subst (λ (vs : List Var). Follows (option_and_then (values.word_of w)
    (spec.terms s.tables (uses_with s.uses) (vars_in s given) (word_args s.tables.names vs w es) es))
    (put_in s given made)) (sym (vars_same s given))
    (λ v e. then_there (values.word_of w) _ v e (λ ys i h. word_is s.uses given s.binders w xs ys v made (parts given st ys i)
    h is))

-- # Matches

pub match_says : (s : Sight) (asked : Option Kind) (at : Span) (a : ExprTree) (arms : ExprArmTrees) (x : Te) (made : ClArms)
    → SaysTerm s None a x → SaysArms s (type_of s.tables.names (vars_of s.vars) None a) arms made
    → Says s asked (ExprTree.node at (ExprForm.match a arms)) (said_claim (te.Match x made))
match_says s asked at a arms x made on parts given st =
    subst (λ (vs : List Var). Follows (both spec.matched (term_in (value_for s given None a))
    (spec.arm_formulas s.tables (uses_with s.uses) (vars_in s given) (type_of s.tables.names vs None a) arms))
    (put_in s given (said_claim (te.Match x made)))) (sym (vars_same s given))
    (λ v e. both_there (λ z. put_in s given (said_claim (te.Match x made)) ≡ Some z) spec.matched _ _ v e (λ p q i j.
    ap (option_map formula) (both_is fo.Match _ _ _ _ (term_said s None a x on given st p i) (parts given st q j))))

pub no_arms_say : (s : Sight) (k : Kind) → SaysArms s k ExprArmTrees.no_expr_arms no_cl_arm
no_arms_say s k given st arms e = e

-- an arm binds the variables of its pattern
pub more_arms_say : (s : Sight) (k : Kind) (p : PatternTree) (e : ExprTree) (arms : ExprArmTrees) (con binds : ℕ) (body : Cl)
    (rest : ClArms)
    → IsNumber (arm_number s.tables k p) con → binds ≡ length (pattern_vars p) → SaysClaim (under_pattern s k p) e body
    → SaysArms s k arms rest
    → SaysArms s k (ExprArmTrees.more_expr_arms (ExprArmTree.arm p e) arms) (also_cl_arm con binds body rest)
more_arms_say s k p e arms con binds body rest is many inside others given st made h =
    three_there (λ z. put.arms_of s.uses given s.binders (also_cl_arm con binds body rest) ≡ Some z) spec.with_arm _ _ _ made h
    (λ wanted v fs i j l.
    both_is (also_arm con) _ _ _ _
    (ap (λ n. put.claim s.uses given (s.binders + n) body) many
    ∙ inside given (stands_in_pattern s given k p st) v
    (ap (λ vs. spec.value s.tables (uses_with s.uses) vs (Some bool_kind) e) (pattern_under s given k p st.levels) ∙ j))
    (others given st fs l)
    ∙ ap (λ n. Some (also_arm n (as_formula v) fs)) (sym (is wanted i)))
