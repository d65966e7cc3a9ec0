-- The code's shortened uses.
use Rattle.std.proofs.Common.{◌≡◌, ℕ, ◌<◌, List, Option, Some, None, Ok, Err, Result, IfOk, IfSome, slice_get, option_map, sym, ap, subst, ◌∙◌}
use Rattle.query_bodies.specs.declared.term.Term.{Term}
use Rattle.query_bodies.specs.declared.claim.Claim.{Claim}
use Rattle.query_bodies.specs.Terms as te
use Rattle.query_bodies.specs.Terms.{Te, Tes, Cl, said_term, said_claim}
use Rattle.query_bodies.specs.Expanded as spec
use Rattle.query_bodies.specs.means.Putting.{IsUseOf, IsPut, ArePut}
use Rattle.query_bodies.specs.Views.{term_view, terms_view, claim_view}
use Rattle.query_bodies.proofs.Shortened.{param_is, use_is_argument, use_is_itself, use_is_further, claim_is_itself, claim_is_further}

pub term_argument : (decl p : ℕ) (body made : Term) (args : List Term) → term_view body ≡ te.Param p
    → option_map term_view (slice_get args p) ≡ Some (term_view made)
    → IsUseOf (said_term (term_view body)) (said_term (term_view made)) decl (terms_view args)
term_argument decl p body made args is found =
    subst (λ e. IsUseOf (said_term e) (said_term (term_view made)) decl (terms_view args)) (sym is)
    (use_is_argument decl p args (term_view made) found)

pub term_itself : (decl : ℕ) (body made : Term) (args : List Term) → term_view made ≡ te.Use decl (terms_view args)
    → IsUseOf (said_term (term_view body)) (said_term (term_view made)) decl (terms_view args)
term_itself decl body made args is =
    subst (λ e. IsUseOf (said_term (term_view body)) (said_term e) decl (terms_view args)) (sym is)
    (use_is_itself decl (term_view body) (terms_view args))

pub term_further : (decl further : ℕ) (body made : Term) (inner args joined : List Term) → term_view body
    ≡ te.Use further (terms_view inner)
    → term_view made ≡ te.Use further (terms_view joined) → further < decl → ArePut (terms_view args) (terms_view inner)
    (terms_view joined)
    → IsUseOf (said_term (term_view body)) (said_term (term_view made)) decl (terms_view args)
term_further decl further body made inner args joined was is lt put =
    subst (λ e. IsUseOf (said_term e) (said_term (term_view made)) decl (terms_view args)) (sym was)
    (subst (λ e. IsUseOf (said_term (te.Use further (terms_view inner))) (said_term e) decl (terms_view args)) (sym is)
    (use_is_further decl further (terms_view inner) (terms_view args) (terms_view joined) lt put))

pub claim_itself : (decl : ℕ) (body made : Claim) (args : List Term) → claim_view made ≡ te.UseCl decl (terms_view args)
    → IsUseOf (said_claim (claim_view body)) (said_claim (claim_view made)) decl (terms_view args)
claim_itself decl body made args is =
    subst (λ e. IsUseOf (said_claim (claim_view body)) (said_claim e) decl (terms_view args)) (sym is)
    (claim_is_itself decl (claim_view body) (terms_view args))

pub claim_further : (decl further : ℕ) (body made : Claim) (inner args joined : List Term) → claim_view body
    ≡ te.UseCl further (terms_view inner)
    → claim_view made ≡ te.UseCl further (terms_view joined) → further < decl → ArePut (terms_view args) (terms_view inner)
    (terms_view joined)
    → IsUseOf (said_claim (claim_view body)) (said_claim (claim_view made)) decl (terms_view args)
claim_further decl further body made inner args joined was is lt put =
    subst (λ e. IsUseOf (said_claim e) (said_claim (claim_view made)) decl (terms_view args)) (sym was)
    (subst (λ e. IsUseOf (said_claim (te.UseCl further (terms_view inner))) (said_claim e) decl (terms_view args)) (sym is)
    (claim_is_further decl further (terms_view inner) (terms_view args) (terms_view joined) lt put))

-- # In the code's names

pub term_handed_on : (decl further : ℕ) (body made : Term) (inner args joined inner_slice arg_slice : List Term)
    (found : Option (List Term))
    → term_view body ≡ te.Use further (terms_view inner) → term_view made ≡ te.Use further (terms_view joined)
    → found ≡ Some joined
    → IfSome found (λ a. further < decl) → IfSome found (λ a. ArePut (terms_view arg_slice) (terms_view inner_slice)
    (terms_view a))
    → arg_slice ≡ args → inner_slice ≡ inner
    → IsUseOf (said_term (term_view body)) (said_term (term_view made)) decl (terms_view args)
term_handed_on decl further body made inner args joined inner_slice arg_slice found was is there lt put same_args same_inner =
    term_further decl further body made inner args joined was is
    (subst (λ (f : Option (List Term)). IfSome f (λ a. further < decl)) there lt)
    (subst (λ (xs : List Term). ArePut (terms_view args) (terms_view xs) (terms_view joined)) same_inner
    (subst (λ (xs : List Term). ArePut (terms_view xs) (terms_view inner_slice) (terms_view joined)) same_args
    (subst (λ (f : Option (List Term)). IfSome f (λ a. ArePut (terms_view arg_slice) (terms_view inner_slice) (terms_view a)))
    there put)))

pub claim_handed_on : (decl further : ℕ) (body made : Claim) (inner args joined inner_slice arg_slice : List Term)
    (found : Option (List Term))
    → claim_view body ≡ te.UseCl further (terms_view inner) → claim_view made ≡ te.UseCl further (terms_view joined)
    → found ≡ Some joined
    → IfSome found (λ a. further < decl) → IfSome found (λ a. ArePut (terms_view arg_slice) (terms_view inner_slice)
    (terms_view a))
    → arg_slice ≡ args → inner_slice ≡ inner
    → IsUseOf (said_claim (claim_view body)) (said_claim (claim_view made)) decl (terms_view args)
claim_handed_on decl further body made inner args joined inner_slice arg_slice found was is there lt put same_args same_inner =
    claim_further decl further body made inner args joined was is
    (subst (λ (f : Option (List Term)). IfSome f (λ a. further < decl)) there lt)
    (subst (λ (xs : List Term). ArePut (terms_view args) (terms_view xs) (terms_view joined)) same_inner
    (subst (λ (xs : List Term). ArePut (terms_view xs) (terms_view inner_slice) (terms_view joined)) same_args
    (subst (λ (f : Option (List Term)). IfSome f (λ a. ArePut (terms_view arg_slice) (terms_view inner_slice) (terms_view a)))
    there put)))

pub ok_then : {E : Type 0} (r : Result Term E) (P Q : Term → Type 0) → ((e : Term) → P e → Q e) → IfOk r P → IfOk r Q
ok_then (Ok e) P Q then_ h = then_ e h
ok_then (Err e) P Q then_ h = h

-- # An argument that is a parameter

pub leaf_is_put : (outer : List Term) (p : ℕ) (arg whole copy : Term) → slice_get outer p ≡ Some whole → term_view arg
    ≡ te.Param p
    → term_view copy ≡ term_view whole → IsPut (terms_view outer) (term_view arg) (term_view copy)
leaf_is_put outer p arg whole copy at param is uses below given bound =
    let gs = spec.arguments uses given bound (terms_view outer) in
    ap (spec.term uses given bound) is
    ∙ param_is uses below given bound outer p (term_view whole) (ap (option_map term_view) at)
    ∙ sym (ap (spec.term below gs 0) param)

pub found_then : {E : Type 0} (r : Result (Option Term) E) (P Q : Term → Type 0) → ((e : Term) → P e → Q e)
    → IfOk r (λ found. IfSome found P) → IfOk r (λ found. IfSome found Q)
found_then (Ok None) P Q then_ h = h
found_then (Ok (Some e)) P Q then_ h = then_ e h
found_then (Err e) P Q then_ h = h
