-- What terms and formulas become with all uses of queries put in.
use Rattle.std.specs.Prelude.{◌≡◌, ℕ, zero, suc, ◌+◌, ◌-◌, ◌==◌, List, [], ◌∷◌, length, Option, Some, None, option_map, option_and_then, slice_get, unwrap_or, if◌then◌else◌}
use Rattle.rp_lang.specs.Exprs as ex
use Rattle.rp_lang.specs.Exprs.{Ex, Exs, no_ex, also_ex}
use Rattle.rp_lang.specs.Formulas as fo
use Rattle.rp_lang.specs.Formulas.{Fo, Fos, no_fo, also_fo, Arms, no_arm, also_arm}
use Rattle.desugaring.specs.Parts.{both}
use Rattle.desugaring.specs.Values as values
use Rattle.desugaring.specs.Values.{Value, as_term, as_formula, lifted}
use Rattle.query_bodies.specs.declared.bodies.Bodies.{Bodies}
use Rattle.query_bodies.specs.Seen.{saids_in}
use Rattle.query_bodies.specs.Terms as te
use Rattle.query_bodies.specs.Terms.{Te, Tes, no_te, also_te, Cl, Cls, no_cl, also_cl, ClArms, no_cl_arm, also_cl_arm, Said, said_term, said_claim}

-- under so many binders more
abbrev pub lifted_by : ℕ → Ex → Ex
lifted_by zero e = e
lifted_by (suc n) e = lifted (lifted_by n e)

abbrev pub all_lifted_by : ℕ → Exs → Exs
all_lifted_by n no_ex = no_ex
all_lifted_by n (also_ex e es) = also_ex (lifted_by n e) (all_lifted_by n es)

-- what the parameters stand for; an argument that isn't a term, or whose parameter stands nowhere, may be left out
abbrev pub Given : Type 0
Given = List (Option Ex)

abbrev pub given_at : Given → ℕ → Option Ex
given_at given p = unwrap_or (slice_get given p) None

abbrev pub given_of : Exs → Given
given_of no_ex = []
given_of (also_ex e es) = Some e ∷ given_of es

abbrev pub param : Given → ℕ → ℕ → Option Ex
param given bound p = option_map (lifted_by bound) (given_at given p)

-- what uses of queries become with these arguments
abbrev pub Uses : Type 0
Uses = ℕ → Given → Option Value

abbrev pub with_value : ℕ → Ex → Ex
with_value proc value = ex.ResultWith proc value

-- under so many binders of the same expression
abbrev mutual
  pub term : Uses → Given → ℕ → Te → Option Ex
  term uses given bound (te.Slot s) = Some (ex.Slot s)
  term uses given bound (te.Param p) = param given bound p
  term uses given bound (te.Level n) = Some (ex.Bound (bound - n - 1))
  term uses given bound (te.Int n) = Some (ex.Int n)
  term uses given bound (te.Str bytes) = Some (ex.Str bytes)
  term uses given bound (te.Con con args) = option_map (ex.Con con) (terms uses given bound args)
  term uses given bound (te.Sum a b) = both values.sum (term uses given bound a) (term uses given bound b)
  term uses given bound (te.Difference a b) = both values.difference (term uses given bound a) (term uses given bound b)
  term uses given bound (te.Query query args) = option_map (ex.Query query) (terms uses given bound args)
  term uses given bound (te.OpOf call) = option_map ex.OpOf (term uses given bound call)
  term uses given bound (te.OpTerm op args) = option_map (ex.OpTerm op) (terms uses given bound args)
  term uses given bound (te.OriginOf call) = option_map ex.OriginOf (term uses given bound call)
  term uses given bound (te.InfoOf inv) = option_map ex.InfoOf (term uses given bound inv)
  term uses given bound (te.InfoTerm proc args) = option_map (ex.InfoTerm proc) (terms uses given bound args)
  term uses given bound (te.ResultOf inv) = option_map ex.ResultOf (term uses given bound inv)
  term uses given bound (te.ResultTerm proc) = Some (ex.ResultTerm proc)
  term uses given bound (te.ResultWith proc value) = option_map (with_value proc) (term uses given bound value)
  term uses given bound te.Unreturned = Some ex.Unreturned
  term uses given bound (te.Use decl args) = option_and_then as_term (uses decl (arguments uses given bound args))

  pub terms : Uses → Given → ℕ → Tes → Option Exs
  terms uses given bound no_te = Some no_ex
  terms uses given bound (also_te e es) = both also_ex (term uses given bound e) (terms uses given bound es)

  -- of a use, each by itself: one whose parameter stands nowhere needs to be no term
  pub arguments : Uses → Given → ℕ → Tes → Given
  arguments uses given bound no_te = []
  arguments uses given bound (also_te e es) = term uses given bound e ∷ arguments uses given bound es

abbrev mutual
  pub claim : Uses → Given → ℕ → Cl → Option Fo
  claim uses given bound (te.And parts) = option_map fo.And (claims uses given bound parts)
  claim uses given bound (te.Or parts) = option_map fo.Or (claims uses given bound parts)
  claim uses given bound (te.Not part) = option_map fo.Not (claim uses given bound part)
  claim uses given bound (te.Implies a b) = both fo.Implies (claim uses given bound a) (claim uses given bound b)
  claim uses given bound (te.All ty body) = option_map (fo.All ty) (claim uses given (bound + 1) body)
  claim uses given bound (te.Any ty body) = option_map (fo.Any ty) (claim uses given (bound + 1) body)
  claim uses given bound (te.Holds e) = option_map fo.Holds (term uses given bound e)
  claim uses given bound (te.Equal a b) = both fo.Equal (term uses given bound a) (term uses given bound b)
  claim uses given bound (te.Less a b) = both fo.Less (term uses given bound a) (term uses given bound b)
  claim uses given bound (te.AtMost a b) = both fo.AtMost (term uses given bound a) (term uses given bound b)
  claim uses given bound (te.Visible e) = option_map fo.Visible (term uses given bound e)
  claim uses given bound (te.Before a b) = both fo.Before (term uses given bound a) (term uses given bound b)
  claim uses given bound (te.Same a b) = both fo.Same (term uses given bound a) (term uses given bound b)
  claim uses given bound (te.Match on arms) = both fo.Match (term uses given bound on) (arms_of uses given bound arms)
  claim uses given bound (te.UseCl decl args) = option_map as_formula (uses decl (arguments uses given bound args))

  pub claims : Uses → Given → ℕ → Cls → Option Fos
  claims uses given bound no_cl = Some no_fo
  claims uses given bound (also_cl f fs) = both also_fo (claim uses given bound f) (claims uses given bound fs)

  pub arms_of : Uses → Given → ℕ → ClArms → Option Arms
  arms_of uses given bound no_cl_arm = Some no_arm
  arms_of uses given bound (also_cl_arm con binds body rest) =
      both (also_arm con) (claim uses given (bound + binds) body) (arms_of uses given bound rest)

abbrev pub said_under : Uses → Given → ℕ → Said → Option Value
said_under uses given bound (said_term e) = option_map values.term (term uses given bound e)
said_under uses given bound (said_claim f) = option_map values.formula (claim uses given bound f)

-- # The bodies of a text's queries, by their declarations

abbrev pub Saids : Type 0
Saids = List (Option Said)

abbrev pub said_at : Saids → ℕ → Option Said
said_at bodies decl = unwrap_or (slice_get bodies decl) None

-- of the queries among the first declarations, so many; each uses only those before it
abbrev pub uses_in : Saids → ℕ → Uses
uses_in bodies zero decl given = None
uses_in bodies (suc n) decl given =
    if decl == n then option_and_then (said_under (uses_in bodies n) given 0) (said_at bodies n)
    else uses_in bodies n decl given

abbrev pub all_uses : Saids → Uses
all_uses bodies = uses_in bodies (length bodies)

-- of the code's bodies
abbrev pub uses_of : Bodies → Uses
uses_of b = all_uses (saids_in b)

-- A use is what was made in its place, whatever stands in.
abbrev pub IsUse : Saids → Said → ℕ → Tes → Type 0
IsUse bodies made decl args =
    (given : Given) (bound : ℕ)
    → said_under (all_uses bodies) given bound made ≡ all_uses bodies decl (arguments (all_uses bodies) given bound args)
