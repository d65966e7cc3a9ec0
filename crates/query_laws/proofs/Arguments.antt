-- Arguments by name and by value.
use Rattle.std.proofs.Common.{◌≡◌, ℕ, ◌∷◌, [], Some, refl, ap₂, subst}
use Rattle.rp_lang.specs.Exprs.{Exs, no_ex, also_ex}
use Rattle.desugaring.proofs.Options.{both_there}
use Rattle.query_bodies.specs.Terms.{Tes, no_te, also_te}
use Rattle.query_bodies.specs.Expanded as put
use Rattle.query_bodies.specs.Expanded.{Uses, Given, given_of}

-- where all arguments are terms, they are given as these
pub arguments_given : (u : Uses) (g : Given) (bound : ℕ) (args : Tes) (es : Exs) → put.terms u g bound args ≡ Some es
    → put.arguments u g bound args ≡ given_of es
arguments_given u g bound no_te es e = subst (λ xs. [] ≡ given_of xs) {x = no_ex} (cc) refl
arguments_given u g bound (also_te a args) es e =
    both_there (λ xs. put.arguments u g bound (also_te a args) ≡ given_of xs) also_ex _ _ es e
    (λ x xs first rest. ap₂ ◌∷◌ first (arguments_given u g bound args xs rest))
