-- What is made with all uses put in under a binder more is what is made there, lifted.
use Rattle.std.proofs.Common.{◌≡◌, ◌<◌, ◌+◌, ◌-◌, ◌==◌, ℕ, zero, suc, Bool, true, false, [], ◌∷◌, map, length, Option, Some, None, if◌then◌else◌, refl, ap, ap₂, sym, ◌∙◌, arith, add-one}
use Rattle.std.specs.Prelude.{option_map, option_and_then}
use Rattle.rp_lang.specs.Exprs as ex
use Rattle.rp_lang.specs.Exprs.{Ex, Exs, also_ex}
use Rattle.rp_lang.specs.Formulas.{Fo}
use Rattle.desugaring.specs.Values as values
use Rattle.desugaring.specs.Values.{as_term, lifted, all_lifted}
use Rattle.desugaring.proofs.Depths.{map_goes, both_goes}
use Rattle.query_bodies.specs.Terms as te
use Rattle.query_bodies.specs.Terms.{Te, Tes, no_te, also_te, Said, said_term, said_claim}
use Rattle.query_bodies.specs.Expanded as put
use Rattle.query_bodies.specs.Expanded.{Uses, Given, given_at, lifted_by, Saids, said_at, said_under, uses_in, all_uses}
use Rattle.query_laws.specs.Sight.{LevelsIn, AllLevelsIn, AreClosed}
use Rattle.query_laws.proofs.Lifted.{sum_lifted, difference_lifted}

abbrev all_given : Given → Given
all_given g = map (option_map lifted) g

-- uses of queries that become terms become those lifted, where all arguments are lifted
abbrev AreLifted : Uses → Type 0
AreLifted u =
    (decl : ℕ) (g : Given) → option_map lifted (option_and_then as_term (u decl g))
    ≡ option_and_then as_term (u decl (all_given g))

-- the parameters there are those here, lifted
abbrev ParamsRaised : Given → ℕ → Given → ℕ → Type 0
ParamsRaised g b h c = (p : ℕ) → option_map lifted (put.param g b p) ≡ put.param h c p

abbrev LevelsRaised : ℕ → ℕ → Type 0
LevelsRaised b c = (n : ℕ) → n < b → b - n - 1 + 1 ≡ c - n - 1

mutual
  term_lifted : (u : Uses) (lifts : AreLifted u) (g h : Given) (b c : ℕ) (p : ParamsRaised g b h c) (l : LevelsRaised b c) (e :
      Te)
      → LevelsIn b e → option_map lifted (put.term u g b e) ≡ put.term u h c e
  term_lifted u lifts g h b c p l (te.Slot s) is = refl
  term_lifted u lifts g h b c p l (te.Param n) is = p n
  term_lifted u lifts g h b c p l (te.Level n) is = ap (λ m. Some (ex.Bound m)) (l n is)
  term_lifted u lifts g h b c p l (te.Int n) is = refl
  term_lifted u lifts g h b c p l (te.Str bytes) is = refl
  term_lifted u lifts g h b c p l (te.ResultTerm proc) is = refl
  term_lifted u lifts g h b c p l te.Unreturned is = refl
  term_lifted u lifts g h b c p l (te.Con k es) is =
      map_goes lifted all_lifted (ex.Con k) (ex.Con k) _ _ (terms_lifted u lifts g h b c p l es is) (λ xs. refl)
  term_lifted u lifts g h b c p l (te.Query k es) is =
      map_goes lifted all_lifted (ex.Query k) (ex.Query k) _ _ (terms_lifted u lifts g h b c p l es is) (λ xs. refl)
  term_lifted u lifts g h b c p l (te.OpTerm k es) is =
      map_goes lifted all_lifted (ex.OpTerm k) (ex.OpTerm k) _ _ (terms_lifted u lifts g h b c p l es is) (λ xs. refl)
  term_lifted u lifts g h b c p l (te.InfoTerm k es) is =
      map_goes lifted all_lifted (ex.InfoTerm k) (ex.InfoTerm k) _ _ (terms_lifted u lifts g h b c p l es is) (λ xs. refl)
  term_lifted u lifts g h b c p l (te.OpOf e) is =
      map_goes lifted lifted ex.OpOf ex.OpOf _ _ (term_lifted u lifts g h b c p l e is) (λ x. refl)
  term_lifted u lifts g h b c p l (te.OriginOf e) is =
      map_goes lifted lifted ex.OriginOf ex.OriginOf _ _ (term_lifted u lifts g h b c p l e is) (λ x. refl)
  term_lifted u lifts g h b c p l (te.InfoOf e) is =
      map_goes lifted lifted ex.InfoOf ex.InfoOf _ _ (term_lifted u lifts g h b c p l e is) (λ x. refl)
  term_lifted u lifts g h b c p l (te.ResultOf e) is =
      map_goes lifted lifted ex.ResultOf ex.ResultOf _ _ (term_lifted u lifts g h b c p l e is) (λ x. refl)
  term_lifted u lifts g h b c p l (te.ResultWith proc e) is =
      map_goes lifted lifted (put.with_value proc) (put.with_value proc) _ _ (term_lifted u lifts g h b c p l e is) (λ x. refl)
  term_lifted u lifts g h b c p l (te.Sum x y) is =
      both_goes lifted lifted lifted values.sum values.sum _ _ _ _ (term_lifted u lifts g h b c p l x is.0) (term_lifted u
      lifts g h b c p l y is.1)
      sum_lifted
  term_lifted u lifts g h b c p l (te.Difference x y) is =
      both_goes lifted lifted lifted values.difference values.difference _ _ _ _ (term_lifted u lifts g h b c p l x is.0)
      (term_lifted u lifts g h b c p l y is.1)
      difference_lifted
  term_lifted u lifts g h b c p l (te.Use decl args) is =
      lifts decl (put.arguments u g b args)
      ∙ ap (λ gs. option_and_then as_term (u decl gs)) (arguments_lifted u lifts g h b c p l args is)

  terms_lifted : (u : Uses) (lifts : AreLifted u) (g h : Given) (b c : ℕ) (p : ParamsRaised g b h c) (l : LevelsRaised b c) (es
      : Tes)
      → AllLevelsIn b es → option_map all_lifted (put.terms u g b es) ≡ put.terms u h c es
  terms_lifted u lifts g h b c p l no_te is = refl
  terms_lifted u lifts g h b c p l (also_te e es) is =
      both_goes all_lifted lifted all_lifted also_ex also_ex _ _ _ _ (term_lifted u lifts g h b c p l e is.0)
      (terms_lifted u lifts g h b c p l es is.1) (λ x xs. refl)

  arguments_lifted : (u : Uses) (lifts : AreLifted u) (g h : Given) (b c : ℕ) (p : ParamsRaised g b h c) (l : LevelsRaised b c)
      (es : Tes)
      → AllLevelsIn b es → all_given (put.arguments u g b es) ≡ put.arguments u h c es
  arguments_lifted u lifts g h b c p l no_te is = refl
  arguments_lifted u lifts g h b c p l (also_te e es) is =
      ap₂ ◌∷◌ (term_lifted u lifts g h b c p l e is.0) (arguments_lifted u lifts g h b c p l es is.1)

-- # By bodies

in_term : (o : Option Ex) → option_and_then as_term (option_map values.term o) ≡ o
in_term None = refl
in_term (Some x) = refl

no_term : (o : Option Fo) → None ≡ option_and_then as_term (option_map values.formula o)
no_term None = refl
no_term (Some f) = refl

given_lifted : (g : Given) (p : ℕ) → option_map lifted (put.param g 0 p) ≡ put.param (all_given g) 0 p
given_lifted [] p = refl
given_lifted (None ∷ g) zero = refl
given_lifted (Some e ∷ g) zero = refl
given_lifted (o ∷ g) (suc p) = given_lifted g p

body_lifted : (u : Uses) → AreLifted u → (o : Option Said) → ((e : Te) → o ≡ Some (said_term e) → LevelsIn 0 e) → (g : Given)
    → option_map lifted (option_and_then as_term (option_and_then (said_under u g 0) o))
    ≡ option_and_then as_term (option_and_then (said_under u (all_given g) 0) o)
body_lifted u lifts None closed g = refl
body_lifted u lifts (Some (said_term e)) closed g =
    ap (option_map lifted) (in_term (put.term u g 0 e))
    ∙ term_lifted u lifts g (all_given g) 0 0 (given_lifted g) (λ n lt. absurd (omega (arith, lt))) e (closed e refl)
    ∙ sym (in_term (put.term u (all_given g) 0 e))
body_lifted u lifts (Some (said_claim f)) closed g =
    ap (option_map lifted) (sym (no_term (put.claim u g 0 f))) ∙ no_term (put.claim u (all_given g) 0 f)

either_lifted : (here : Bool) (a b c d : Option values.Value)
    → option_map lifted (option_and_then as_term a) ≡ option_and_then as_term b
    → option_map lifted (option_and_then as_term c) ≡ option_and_then as_term d
    → option_map lifted (option_and_then as_term (if here then a else c)) ≡ option_and_then as_term (if here then b else d)
either_lifted true a b c d e f = e
either_lifted false a b c d e f = f

uses_lifted : (bodies : Saids) → AreClosed bodies → (n : ℕ) → AreLifted (uses_in bodies n)
uses_lifted bodies closed zero decl g = refl
uses_lifted bodies closed (suc n) decl g =
    either_lifted (decl == n) _ _ _ _
    (body_lifted (uses_in bodies n) (uses_lifted bodies closed n) (said_at bodies n) (closed n) g)
    (uses_lifted bodies closed n decl g)

param_raised : (bound : ℕ) (o : Option Ex)
    → option_map lifted (option_map (lifted_by bound) o) ≡ option_map (lifted_by (bound + 1)) o
param_raised bound None = refl
param_raised bound (Some e) = ap (λ n. Some (lifted_by n e)) (sym (add-one bound))

pub put_lifted : (bodies : Saids) → AreClosed bodies → (given : Given) (bound : ℕ) (e : Te) → LevelsIn bound e
    → option_map lifted (put.term (all_uses bodies) given bound e) ≡ put.term (all_uses bodies) given (bound + 1) e
put_lifted bodies closed given bound e is =
    term_lifted (all_uses bodies) (uses_lifted bodies closed (length bodies)) given given bound (bound + 1)
    (λ p. param_raised bound (given_at given p)) (λ n lt. omega (arith, lt)) e is
