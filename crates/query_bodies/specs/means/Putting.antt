-- What is known of shortened uses and of arguments on the way to what is made.
use Rattle.std.specs.Prelude.{◌≡◌, ℕ, Option, Some}
use Rattle.rp_lang.specs.Exprs.{Ex}
use Rattle.query_bodies.specs.Terms.{Te, Tes, Said}
use Rattle.query_bodies.specs.Expanded.{Uses, Given, given_at, term, arguments, Saids, said_at, IsUse}

-- The same of a query with that body, whatever the others are.
abbrev pub IsUseOf : Said → Said → ℕ → Tes → Type 0
IsUseOf body made decl args = (bodies : Saids) → said_at bodies decl ≡ Some body → IsUse bodies made decl args

-- It becomes the same wherever it stands.
abbrev pub IsSame : Te → Type 0
IsSame e = (uses below : Uses) (given inner : Given) (bound n : ℕ) → term uses given bound e ≡ term below inner n e

-- The last is the second with the first in place of parameters.
abbrev pub IsPut : Tes → Te → Te → Type 0
IsPut outer inner put =
    (uses below : Uses) (given : Given) (bound : ℕ)
    → term uses given bound put ≡ term below (arguments uses given bound outer) 0 inner

-- The last are the second with the first in place of parameters.
abbrev pub ArePut : Tes → Tes → Tes → Type 0
ArePut outer inner put =
    (uses below : Uses) (given : Given) (bound : ℕ)
    → arguments uses given bound put ≡ arguments below (arguments uses given bound outer) 0 inner

abbrev pub IsAmong : Option Ex → Option Ex → Type 0
IsAmong few all = (e : Ex) → few ≡ Some e → all ≡ Some e

-- What is known of the first is known of the second.
abbrev pub AreAmong : Given → Given → Type 0
AreAmong few all = (p : ℕ) → IsAmong (given_at few p) (given_at all p)
