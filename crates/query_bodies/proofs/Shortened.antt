-- Shortened uses become what the uses become.
use Rattle.std.proofs.Common.{◌≡◌, ℕ, zero, suc, ◌+◌, ◌<◌, ◌≤◌, List, [], ◌∷◌, ◌++◌, length, map, take, get_or, Option, Some, None, slice_get, option_map, option_and_then, refl, sym, ap, ◌∙◌, arith}
use Rattle.std.proofs.lemmas.List.{map_push, take_all, take_more}
use Rattle.rp_lang.specs.Exprs.{Ex}
use Rattle.rp_lang.specs.Formulas.{Fo}
use Rattle.desugaring.specs.Values as values
use Rattle.desugaring.specs.Values.{Value, as_term, as_formula}
use Rattle.query_bodies.specs.declared.term.Term.{Term}
use Rattle.query_bodies.specs.Terms as te
use Rattle.query_bodies.specs.Terms.{Te, Tes, no_te, also_te, Cl, Said, said_term, said_claim}
use Rattle.query_bodies.specs.Expanded as spec
use Rattle.query_bodies.specs.Expanded.{Uses, Given, given_at, Saids, said_at, said_under, all_uses, uses_in, IsUse}
use Rattle.query_bodies.specs.means.Putting.{IsUseOf, IsPut, IsSame, ArePut}
use Rattle.query_bodies.specs.Views.{tes_of, term_view, terms_view}
use Rattle.query_bodies.proofs.Grows.{use_below}

there : (bodies : Saids) (decl : ℕ) (s : Said) → said_at bodies decl ≡ Some s → decl < length bodies
there [] decl s e = absurd cc
there (o ∷ bodies) zero s e = omega arith
there (o ∷ bodies) (suc decl) s e = let less = there bodies decl s e in omega (arith, less)

-- what a use of a query with that body is
is_body : (bodies : Saids) (decl : ℕ) (s : Said) (given : Given) → said_at bodies decl ≡ Some s
    → all_uses bodies decl given ≡ said_under (uses_in bodies decl) given 0 s
is_body bodies decl s given e =
    use_below bodies (length bodies) decl given (there bodies decl s e)
    ∙ ap (option_and_then (said_under (uses_in bodies decl) given 0)) e

-- a use further down is the same for all queries
is_further : (bodies : Saids) (decl further : ℕ) (s : Said) (given : Given) → said_at bodies decl ≡ Some s → further < decl
    → all_uses bodies further given ≡ uses_in bodies decl further given
is_further bodies decl further s given e lt =
    let within = there bodies decl s e in
    use_below bodies (length bodies) further given (omega (arith, lt, within)) ∙ sym (use_below bodies decl further given lt)

argument_at : (u : Uses) (g : Given) (b : ℕ) (args : List Term) (p : ℕ) (arg : Te) → option_map term_view (slice_get args p)
    ≡ Some arg
    → given_at (spec.arguments u g b (terms_view args)) p ≡ spec.term u g b arg
argument_at u g b [] p arg e = absurd cc
argument_at u g b (a ∷ args) zero arg e = ap (λ o. option_and_then (spec.term u g b) o) e
argument_at u g b (a ∷ args) (suc p) arg e = argument_at u g b args p arg e

not_lifted : (o : Option Ex) → option_map (spec.lifted_by 0) o ≡ o
not_lifted None = refl
not_lifted (Some e) = refl

pub param_is : (u below : Uses) (g : Given) (b : ℕ) (args : List Term) (p : ℕ) (arg : Te)
    → option_map term_view (slice_get args p) ≡ Some arg
    → spec.term u g b arg ≡ spec.param (spec.arguments u g b (terms_view args)) 0 p
param_is u below g b args p arg e = sym (argument_at u g b args p arg e)
    ∙ sym (not_lifted (given_at (spec.arguments u g b (terms_view args)) p))

-- # What uses become

pub use_is_argument : (decl p : ℕ) (args : List Term) (arg : Te) → option_map term_view (slice_get args p) ≡ Some arg
    → IsUseOf (said_term (te.Param p)) (said_term arg) decl (terms_view args)
use_is_argument decl p args arg found bodies e given bound =
    let u = all_uses bodies in
    ap (option_map values.term) (param_is u u given bound args p arg found)
    ∙ sym (is_body bodies decl (said_term (te.Param p)) (spec.arguments u given bound (terms_view args)) e)

as_itself : (o : Option Ex) → option_map values.term (option_and_then as_term (option_map values.term o))
    ≡ option_map values.term o
as_itself None = refl
as_itself (Some e) = refl

pub use_is_itself : (decl : ℕ) (body : Te) (args : Tes) → IsUseOf (said_term body) (said_term (te.Use decl args)) decl args
use_is_itself decl body args bodies e given bound =
    let u = all_uses bodies in
    let gs = spec.arguments u given bound args in
    let is = is_body bodies decl (said_term body) gs e in
    ap (λ o. option_map values.term (option_and_then as_term o)) is
    ∙ as_itself (spec.term (uses_in bodies decl) gs 0 body) ∙ sym is

pub use_is_further : (decl further : ℕ) (inner args joined : Tes) → further < decl → ArePut args inner joined
    → IsUseOf (said_term (te.Use further inner)) (said_term (te.Use further joined)) decl args
use_is_further decl further inner args joined lt put bodies e given bound =
    let u = all_uses bodies in
    let below = uses_in bodies decl in
    let gs = spec.arguments u given bound args in
    ap (λ hs. option_map values.term (option_and_then as_term (u further hs))) (put u below given bound)
    ∙ ap (λ o. option_map values.term (option_and_then as_term o))
    (is_further bodies decl further (said_term (te.Use further inner)) (spec.arguments below gs 0 inner) e lt)
    ∙ sym (is_body bodies decl (said_term (te.Use further inner)) gs e)

formula_itself : (o : Option Fo) → option_map values.formula (option_map as_formula (option_map values.formula o))
    ≡ option_map values.formula o
formula_itself None = refl
formula_itself (Some f) = refl

pub claim_is_itself : (decl : ℕ) (body : Cl) (args : Tes) → IsUseOf (said_claim body) (said_claim (te.UseCl decl args)) decl
    args
claim_is_itself decl body args bodies e given bound =
    let u = all_uses bodies in
    let gs = spec.arguments u given bound args in
    let is = is_body bodies decl (said_claim body) gs e in
    ap (λ o. option_map values.formula (option_map as_formula o)) is
    ∙ formula_itself (spec.claim (uses_in bodies decl) gs 0 body) ∙ sym is

pub claim_is_further : (decl further : ℕ) (inner args joined : Tes) → further < decl → ArePut args inner joined
    → IsUseOf (said_claim (te.UseCl further inner)) (said_claim (te.UseCl further joined)) decl args
claim_is_further decl further inner args joined lt put bodies e given bound =
    let u = all_uses bodies in
    let below = uses_in bodies decl in
    let gs = spec.arguments u given bound args in
    ap (λ hs. option_map values.formula (option_map as_formula (u further hs))) (put u below given bound)
    ∙ ap (λ o. option_map values.formula (option_map as_formula o))
    (is_further bodies decl further (said_claim (te.UseCl further inner)) (spec.arguments below gs 0 inner) e lt)
    ∙ sym (is_body bodies decl (said_claim (te.UseCl further inner)) gs e)

-- # Arguments one after another

last_argument : (u : Uses) (g : Given) (b : ℕ) (es : List Te) (e : Te)
    → spec.arguments u g b (tes_of (es ++ e ∷ [])) ≡ spec.arguments u g b (tes_of es) ++ spec.term u g b e ∷ []
last_argument u g b [] e = refl
last_argument u g b (d ∷ es) e = ap (λ gs. spec.term u g b d ∷ gs) (last_argument u g b es e)

last_term : (u : Uses) (g : Given) (b : ℕ) (es : List Term) (e : Term)
    → spec.arguments u g b (terms_view (es ++ e ∷ [])) ≡ spec.arguments u g b (terms_view es) ++ spec.term u g b
    (term_view e) ∷ []
last_term u g b es e = ap (λ ds. spec.arguments u g b (tes_of ds)) (map_push term_view es e)
    ∙ last_argument u g b (map term_view es) (term_view e)

pub one_put_more : (outer : Tes) (inner : List Term) (i : ℕ) (arg : Term) (made more : List Term) (copy : Term)
    → i < length inner → arg ≡ get_or inner i arg → IsPut outer (term_view arg) (term_view copy) → more ≡ made ++ copy ∷ []
    → ArePut outer (terms_view (take i inner)) (terms_view made) → ArePut outer (terms_view (take (i + 1) inner))
    (terms_view more)
one_put_more outer inner i arg made more copy lt is put pushed so_far uses below given bound =
    let gs = spec.arguments uses given bound outer in
    let next : take (i + 1) inner ≡ take i inner ++ arg ∷ [] = take_more inner i arg lt
    ∙ ap (λ a. take i inner ++ a ∷ []) (sym is) in
    ap (λ es. spec.arguments uses given bound (terms_view es)) pushed
    ∙ last_term uses given bound made copy
    ∙ ap (λ hs. hs ++ spec.term uses given bound (term_view copy) ∷ []) (so_far uses below given bound)
    ∙ ap (λ o. spec.arguments below gs 0 (terms_view (take i inner)) ++ o ∷ []) (put uses below given bound)
    ∙ sym (last_term below gs 0 (take i inner) arg)
    ∙ ap (λ es. spec.arguments below gs 0 (terms_view es)) (sym next)

pub all_put : (outer : Tes) (inner : List Term) (i : ℕ) (made : Tes) → length inner ≤ i
    → ArePut outer (terms_view (take i inner)) made → ArePut outer (terms_view inner) made
all_put outer inner i made end so_far uses below given bound =
    so_far uses below given bound ∙ ap (λ es. spec.arguments below (spec.arguments uses given bound outer) 0 (terms_view es))
    (take_all i inner end)

pub same_is_put : (outer : Tes) (inner copy : Te) → copy ≡ inner → IsSame copy → IsPut outer inner copy
same_is_put outer inner copy e same uses below given bound =
    same uses below given (spec.arguments uses given bound outer) bound 0
    ∙ ap (spec.term below (spec.arguments uses given bound outer) 0) e
