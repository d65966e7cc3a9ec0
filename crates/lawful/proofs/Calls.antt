-- Variables, constructors, operations, queries, procedures and their outcomes.
use Rattle.std.proofs.Common.{◌≡◌, ℕ, Bool, true, false, not, ◌&&◌, ◌||◌, List, [], ◌∷◌, ◌++◌, Option, Some, None, refl, ap, subst, sym, ◌∙◌}
use Rattle.std.specs.Prelude.{is_some, slice_get}
use Rattle.std.proofs.lemmas.Bool.{and_from, or_left}
use Rattle.rp_value.specs.declared.tables.Ty.{Ty}
use Rattle.rp_value.specs.declared.tables.Ty.TheVariants as ty
use Rattle.rp_grammar.specs.declared.operator.CallWord.{CallWord}
use Rattle.rp_grammar.specs.Trees.{ParamTree}
use Rattle.rp_lang.specs.Exprs.{Ex, Query, Exs, no_ex, also_ex}
use Rattle.rp_lang.specs.Programs.{Prog, Proc}
use Rattle.rp_lang.specs.Types.{is_ty}
use Rattle.rp_lang.specs.Typing.{Frame, type_of, have_types, proc_result, is_proc, is_question}
use Rattle.rp_lang.specs.Typing.{given as typing_given}
use Rattle.type_rules.specs.declared.kind.Kind.{Kind}
use Rattle.type_rules.specs.declared.kind.Base.TheVariants as base
use Rattle.type_rules.specs.Kinds.{plain_kind, param_kinds}
use Rattle.type_rules.specs.Accesses.{Access, access_kind}
use Rattle.type_rules.specs.Queries.{param_vars}
use Rattle.type_rules.specs.Sites.{Want}
use Rattle.type_rules.specs.Rules.{access_stands, is_across, is_word}
use Rattle.desugaring.specs.Parts.{each}
use Rattle.desugaring.specs.Tables.{Tables, ty_of}
use Rattle.desugaring.specs.Values.{Value, append}
use Rattle.desugaring.specs.Callees.{Callee, Called, variable, constructor, use_of, procedure, outcome, operation, question, value, given, outcome_with}
use Rattle.desugaring.specs.Expressions.{with_args}
use Rattle.lawful.specs.Typed.{Good, AreTerms, none, more, Gives, Sees, nothing, another, IsOutcome}
use Rattle.desugaring.proofs.Options.{both_there}
use Rattle.lawful.proofs.Forms.{give_value}

-- # Lists of arguments

pub joined : (t : Tables) (p : Prog) (f : Frame) (bs : List Ty) (ks js : List Kind) (xs ys : Exs)
    → AreTerms t p f bs ks xs → AreTerms t p f bs js ys → AreTerms t p f bs (ks ++ js) (append xs ys)
joined t p f bs ks js xs ys none others = others
joined t p f bs ks js xs ys (more is are) others = more is (joined t p f bs _ js _ ys are others)

-- the types of a whole are those of its parts
pub first_types : (t : Tables) (ks js : List Kind) (tys : List Ty) → each (ty_of t) (ks ++ js) ≡ Some tys → (of : List Ty) × (each (ty_of t) ks ≡ Some of)
first_types t [] js tys e = ([], refl)
first_types t (k ∷ ks) js tys e =
    both_there (λ z. (of : List Ty) × (each (ty_of t) (k ∷ ks) ≡ Some of)) ◌∷◌ (ty_of t k) (each (ty_of t) (ks ++ js)) tys e
    (λ x xs i j. let rest = first_types t ks js xs j in (x ∷ rest.0, rw (i, rest.1) refl))

pub last_types : (t : Tables) (ks js : List Kind) (tys : List Ty) → each (ty_of t) (ks ++ js) ≡ Some tys → (of : List Ty) × (each (ty_of t) js ≡ Some of)
last_types t [] js tys e = (tys, e)
last_types t (k ∷ ks) js tys e =
    both_there (λ z. (of : List Ty) × (each (ty_of t) js ≡ Some of)) ◌∷◌ (ty_of t k) (each (ty_of t) (ks ++ js)) tys e
    (λ x xs i j. last_types t ks js xs j)

-- # What a call gives

across_some : (test : CallWord → Bool) (o : Option CallWord) → is_word test o ≡ true → is_some o ≡ true
across_some test None e = absurd cc
across_some test (Some w) e = refl

pub across : (test : CallWord → Bool) (w : Want) → is_across test w ≡ true → is_some w.across ≡ true
across test w e = across_some test w.across e

outcome_good : (t : Tables) (p : Prog) (f : Frame) (bs : List Ty) (a : Bool) (n : ℕ) (tys : List Ty) (es : Exs) (v : Value) (found : Option Proc)
    → slice_get p.procs n ≡ found → is_proc found ≡ true → IsOutcome (proc_result found) tys → a ≡ true
    → have_types p f bs tys es ≡ true → outcome_with n es ≡ Some v → Good t p f bs a (plain_kind base.Outcome) v
outcome_good t p f bs a n tys es v None is proc_ of stands have_ e = absurd cc
outcome_good t p f bs a n tys es v (Some q) is proc_ of stands have_ e = by_result t p f bs a n tys es v q q.result refl is of stands have_ e where
  by_result : (t : Tables) (p : Prog) (f : Frame) (bs : List Ty) (a : Bool) (n : ℕ) (tys : List Ty) (es : Exs) (v : Value) (q : Proc) (result : Option Ty)
      → q.result ≡ result → slice_get p.procs n ≡ Some q → IsOutcome result tys → a ≡ true
      → have_types p f bs tys es ≡ true → outcome_with n es ≡ Some v → Good t p f bs a (plain_kind base.Outcome) v
  by_result t p f bs a n [] no_ex v q None r is of stands have_ e =
      give_value t p f bs a (plain_kind base.Outcome) _ v e (record { typed = (ty.Outcome, rw (is, r) refl, refl); stands = λ h. stands })
  by_result t p f bs a n [] (also_ex x xs) v q None r is of stands have_ e = absurd cc
  by_result t p f bs a n (k ∷ ks) es v q None r is of stands have_ e = absurd cc
  by_result t p f bs a n [] es v q (Some k) r is of stands have_ e = absurd cc
  by_result t p f bs a n (j ∷ js) no_ex v q (Some k) r is of stands have_ e = absurd cc
  by_result t p f bs a n (j ∷ js) (also_ex x (also_ex y ys)) v q (Some k) r is of stands have_ e = absurd cc
  by_result t p f bs a n (j ∷ js) (also_ex x no_ex) v q (Some k) r is of stands have_ e =
      let fits_ : have_types p f bs (k ∷ []) (also_ex x no_ex) ≡ true = subst (λ ts. have_types p f bs ts (also_ex x no_ex) ≡ true) of have_ in
      let same : is_ty (type_of p f bs x) k ≡ true = and_first _ _ fits_ in
      give_value t p f bs a (plain_kind base.Outcome) _ v e
      (record { typed = (ty.Outcome, rw (is, r, same) refl, refl); stands = λ h. stands }) where
        and_first : (a b : Bool) → (a && b) ≡ true → a ≡ true
        and_first true b e = refl
        and_first false b e = absurd cc

beside : (b c : Bool) → b ≡ true → (not b || c) ≡ true → c ≡ true
beside true c e h = h
beside false c e h = absurd cc

pub given_is : (b : Bool) (o : Option Ty) (of : Ty) → b ≡ true → o ≡ Some of → typing_given b o ≡ Some of
given_is true o of e is = is
given_is false o of e is = absurd cc

pub given_good : (t : Tables) (p : Prog) (words : ℕ → Bool) (f : Frame) (bs : List Ty) (w : Want) (acc : Access) (c : Called Ex) (what : Callee Ex)
    (tys : List Ty) (es : Exs) (v : Value)
    → f.reads ≡ true → access_stands w acc ≡ true → Gives t p words tys acc c what → have_types p f bs tys es ≡ true → given what es ≡ Some v
    → Good t p f bs (is_some w.across) (access_kind t.names acc) v
given_good t p words f bs w acc c (variable x) tys es v reads stands gives have_ e = absurd gives
given_good t p words f bs w acc c (use_of k q) tys es v reads stands gives have_ e = absurd cc
given_good t p words f bs w acc c (constructor n) tys es v reads stands gives have_ e =
    give_value t p f bs _ (access_kind t.names acc) _ v e
    (record { typed = (gives.0, rw (gives.3, have_) gives.1, gives.2); stands = λ h. absurd cc })
given_good t p words f bs w acc c (procedure n) tys es v reads stands gives have_ e =
    give_value t p f bs _ (access_kind t.names acc) _ v e
    (record {
      typed = (ty.Info, rw (gives.2, gives.3, have_) refl, ap (λ z. ty_of t (access_kind t.names z)) gives.1);
      stands = λ h. across _ w (subst (λ z. access_stands w z ≡ true) gives.1 stands);
    })
given_good t p words f bs w acc c (outcome n) tys es v reads stands gives have_ e =
    subst (λ z. Good t p f bs (is_some w.across) (access_kind t.names z) v) (sym gives.1)
    (outcome_good t p f bs (is_some w.across) n tys es v (slice_get p.procs n) refl gives.2 gives.3
    (across _ w (subst (λ z. access_stands w z ≡ true) gives.1 stands)) have_ e)
given_good t p words f bs w acc c (operation n) tys es v reads stands gives have_ e =
    give_value t p f bs _ (access_kind t.names acc) _ v e
    (record {
      typed = (ty.Operation, rw (gives.4, gives.5, have_) refl, ap (λ z. ty_of t (access_kind t.names z)) gives.1 ∙ ap (ty_of t) gives.3);
      stands = λ h. across _ w (beside _ _ gives.2 (subst (λ z. access_stands w z ≡ true) gives.1 stands));
    })
given_good t p words f bs w acc c (question n) tys es v reads stands gives have_ e =
    let holds : is_question p f bs (Query n es) ≡ true = and_from _ _ (and_from _ _ gives.1 reads) (subst (λ ts. have_types p f bs ts es ≡ true) (sym gives.2) have_) in
    give_value t p f bs _ (access_kind t.names acc) _ v e (gives.0, or_left _ _ holds)
given_good t p words f bs w acc c (value n) tys es v reads stands gives have_ e =
    give_value t p f bs _ (access_kind t.names acc) _ v e
    (record { typed = (gives.0, given_is _ _ _ (and_from _ _ reads (subst (λ ts. have_types p f bs ts es ≡ true) (sym gives.3) have_)) gives.1, gives.2); stands = λ h. absurd cc })

-- # Arguments of a query's use

pub sees_args : (t : Tables) (p : Prog) (f : Frame) (bs : List Ty) (params : List ParamTree) (es : Exs)
    → AreTerms t p f bs (param_kinds t.names params) es → Sees t p f bs (param_vars t.names params) (with_args t.names params es)
sees_args t p f bs [] es are = nothing
sees_args t p f bs (q ∷ params) es (more is are) = another (λ set. is) (sees_args t p f bs params _ are)
