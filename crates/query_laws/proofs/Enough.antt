-- What is made over so many parameters is the same without further arguments: a lemma for each variant.
use Rattle.std.proofs.Common.{◌≡◌, ◌<◌, ◌+◌, ℕ, ℤ, zero, suc, List, [], ◌∷◌, length, take, refl, ap, sym, ◌∙◌, arith}
use Rattle.std.specs.Prelude.{option_map}
use Rattle.rp_value.specs.declared.tables.Ty.{Ty}
use Rattle.rp_lang.specs.Exprs as ex
use Rattle.rp_lang.specs.Exprs.{Ex, also_ex}
use Rattle.rp_lang.specs.Formulas as fo
use Rattle.rp_lang.specs.Formulas.{also_fo, also_arm}
use Rattle.desugaring.specs.Values as values
use Rattle.query_bodies.specs.Terms as te
use Rattle.query_bodies.specs.Terms.{Te, Tes, no_te, also_te, Cl, Cls, no_cl, also_cl, ClArms, no_cl_arm, also_cl_arm, Said, said_term, said_claim}
use Rattle.query_bodies.specs.Expanded as put
use Rattle.query_bodies.specs.Expanded.{Uses, Given, given_at, lifted_by, Saids, all_uses, IsUse}
use Rattle.query_bodies.specs.means.Putting.{AreAmong}
use Rattle.query_bodies.proofs.Grows.{uses_grow}
use Rattle.query_laws.specs.Sight.{Follows}
use Rattle.query_laws.specs.Told.{IsOver, TermOver, TermsOver, ClaimOver, ClaimsOver, ArmsOver}
use Rattle.query_laws.proofs.Follows.{itself, map_follows, both_follows}

-- # Terms

given_there : (n : ℕ) (given : Given) (p : ℕ) → p < n → given_at given p ≡ given_at (take n given) p
given_there zero given p lt = absurd (omega (arith, lt))
given_there (suc n) [] p lt = refl
given_there (suc n) (o ∷ given) zero lt = refl
given_there (suc n) (o ∷ given) (suc p) lt = given_there n given p (omega (arith, lt))

terms_follow : (uses : Uses) (n : ℕ) (es : Tes) → TermsOver uses n es → (given : Given) (bound : ℕ)
    → Follows (put.terms uses given bound es) (put.terms uses (take n given) bound es)
terms_follow uses n no_te over given bound = itself _
terms_follow uses n (also_te e es) over given bound =
    both_follows also_ex _ _ _ _ (over.0 given bound) (terms_follow uses n es over.1 given bound)

pub slot_over : (uses : Uses) (n : ℕ) (s : ℕ) → TermOver uses n (te.Slot s)
slot_over uses n s given bound = itself _

pub param_over : (uses : Uses) (n : ℕ) (p : ℕ) → p < n → TermOver uses n (te.Param p)
param_over uses n p lt given bound x h = ap (option_map (lifted_by bound)) (sym (given_there n given p lt)) ∙ h

pub level_over : (uses : Uses) (n : ℕ) (m : ℕ) → TermOver uses n (te.Level m)
level_over uses n m given bound = itself _

pub int_over : (uses : Uses) (n : ℕ) (i : ℤ) → TermOver uses n (te.Int i)
int_over uses n i given bound = itself _

pub str_over : (uses : Uses) (n : ℕ) (bytes : List ℕ) → TermOver uses n (te.Str bytes)
str_over uses n bytes given bound = itself _

pub result_term_over : (uses : Uses) (n : ℕ) (proc : ℕ) → TermOver uses n (te.ResultTerm proc)
result_term_over uses n proc given bound = itself _

pub unreturned_over : (uses : Uses) (n : ℕ) → TermOver uses n te.Unreturned
unreturned_over uses n given bound = itself _

pub con_over : (uses : Uses) (n : ℕ) (k : ℕ) (es : Tes) → TermsOver uses n es → TermOver uses n (te.Con k es)
con_over uses n k es over given bound = map_follows (ex.Con k) _ _ (terms_follow uses n es over given bound)

pub query_over : (uses : Uses) (n : ℕ) (k : ℕ) (es : Tes) → TermsOver uses n es → TermOver uses n (te.Query k es)
query_over uses n k es over given bound = map_follows (ex.Query k) _ _ (terms_follow uses n es over given bound)

pub op_term_over : (uses : Uses) (n : ℕ) (k : ℕ) (es : Tes) → TermsOver uses n es → TermOver uses n (te.OpTerm k es)
op_term_over uses n k es over given bound = map_follows (ex.OpTerm k) _ _ (terms_follow uses n es over given bound)

pub info_term_over : (uses : Uses) (n : ℕ) (k : ℕ) (es : Tes) → TermsOver uses n es → TermOver uses n (te.InfoTerm k es)
info_term_over uses n k es over given bound = map_follows (ex.InfoTerm k) _ _ (terms_follow uses n es over given bound)

pub op_of_over : (uses : Uses) (n : ℕ) (e : Te) → TermOver uses n e → TermOver uses n (te.OpOf e)
op_of_over uses n e part given bound = map_follows ex.OpOf _ _ (part given bound)

pub origin_of_over : (uses : Uses) (n : ℕ) (e : Te) → TermOver uses n e → TermOver uses n (te.OriginOf e)
origin_of_over uses n e part given bound = map_follows ex.OriginOf _ _ (part given bound)

pub info_of_over : (uses : Uses) (n : ℕ) (e : Te) → TermOver uses n e → TermOver uses n (te.InfoOf e)
info_of_over uses n e part given bound = map_follows ex.InfoOf _ _ (part given bound)

pub result_of_over : (uses : Uses) (n : ℕ) (e : Te) → TermOver uses n e → TermOver uses n (te.ResultOf e)
result_of_over uses n e part given bound = map_follows ex.ResultOf _ _ (part given bound)

pub result_with_over : (uses : Uses) (n : ℕ) (proc : ℕ) (e : Te) → TermOver uses n e → TermOver uses n (te.ResultWith proc e)
result_with_over uses n proc e part given bound = map_follows (put.with_value proc) _ _ (part given bound)

pub sum_over : (uses : Uses) (n : ℕ) (a b : Te) → TermOver uses n a → TermOver uses n b → TermOver uses n (te.Sum a b)
sum_over uses n a b left right given bound = both_follows values.sum _ _ _ _ (left given bound) (right given bound)

pub difference_over : (uses : Uses) (n : ℕ) (a b : Te) → TermOver uses n a → TermOver uses n b
    → TermOver uses n (te.Difference a b)
difference_over uses n a b left right given bound = both_follows values.difference _ _ _ _ (left given bound) (right given bound)

-- # Formulas

pub and_over : (uses : Uses) (n : ℕ) (fs : Cls) → ClaimsOver uses n fs → ClaimOver uses n (te.And fs)
and_over uses n fs parts given bound = map_follows fo.And _ _ (parts given bound)

pub or_over : (uses : Uses) (n : ℕ) (fs : Cls) → ClaimsOver uses n fs → ClaimOver uses n (te.Or fs)
or_over uses n fs parts given bound = map_follows fo.Or _ _ (parts given bound)

pub not_over : (uses : Uses) (n : ℕ) (f : Cl) → ClaimOver uses n f → ClaimOver uses n (te.Not f)
not_over uses n f part given bound = map_follows fo.Not _ _ (part given bound)

pub implies_over : (uses : Uses) (n : ℕ) (f h : Cl) → ClaimOver uses n f → ClaimOver uses n h → ClaimOver uses n (te.Implies f h)
implies_over uses n f h left right given bound = both_follows fo.Implies _ _ _ _ (left given bound) (right given bound)

pub all_over : (uses : Uses) (n : ℕ) (ty : Ty) (f : Cl) → ClaimOver uses n f → ClaimOver uses n (te.All ty f)
all_over uses n ty f part given bound = map_follows (fo.All ty) _ _ (part given (bound + 1))

pub any_over : (uses : Uses) (n : ℕ) (ty : Ty) (f : Cl) → ClaimOver uses n f → ClaimOver uses n (te.Any ty f)
any_over uses n ty f part given bound = map_follows (fo.Any ty) _ _ (part given (bound + 1))

pub holds_over : (uses : Uses) (n : ℕ) (e : Te) → TermOver uses n e → ClaimOver uses n (te.Holds e)
holds_over uses n e part given bound = map_follows fo.Holds _ _ (part given bound)

pub visible_over : (uses : Uses) (n : ℕ) (e : Te) → TermOver uses n e → ClaimOver uses n (te.Visible e)
visible_over uses n e part given bound = map_follows fo.Visible _ _ (part given bound)

pub equal_over : (uses : Uses) (n : ℕ) (a b : Te) → TermOver uses n a → TermOver uses n b → ClaimOver uses n (te.Equal a b)
equal_over uses n a b left right given bound = both_follows fo.Equal _ _ _ _ (left given bound) (right given bound)

pub less_over : (uses : Uses) (n : ℕ) (a b : Te) → TermOver uses n a → TermOver uses n b → ClaimOver uses n (te.Less a b)
less_over uses n a b left right given bound = both_follows fo.Less _ _ _ _ (left given bound) (right given bound)

pub at_most_over : (uses : Uses) (n : ℕ) (a b : Te) → TermOver uses n a → TermOver uses n b → ClaimOver uses n (te.AtMost a b)
at_most_over uses n a b left right given bound = both_follows fo.AtMost _ _ _ _ (left given bound) (right given bound)

pub before_over : (uses : Uses) (n : ℕ) (a b : Te) → TermOver uses n a → TermOver uses n b → ClaimOver uses n (te.Before a b)
before_over uses n a b left right given bound = both_follows fo.Before _ _ _ _ (left given bound) (right given bound)

pub same_over : (uses : Uses) (n : ℕ) (a b : Te) → TermOver uses n a → TermOver uses n b → ClaimOver uses n (te.Same a b)
same_over uses n a b left right given bound = both_follows fo.Same _ _ _ _ (left given bound) (right given bound)

pub match_is_over : (uses : Uses) (n : ℕ) (e : Te) (arms : ClArms) → TermOver uses n e → ArmsOver uses n arms
    → ClaimOver uses n (te.Match e arms)
match_is_over uses n e arms left right given bound = both_follows fo.Match _ _ _ _ (left given bound) (right given bound)

pub no_claims_over : (uses : Uses) (n : ℕ) → ClaimsOver uses n no_cl
no_claims_over uses n given bound = itself _

pub more_claims_over : (uses : Uses) (n : ℕ) (f : Cl) (fs : Cls) → ClaimOver uses n f → ClaimsOver uses n fs
    → ClaimsOver uses n (also_cl f fs)
more_claims_over uses n f fs left right given bound = both_follows also_fo _ _ _ _ (left given bound) (right given bound)

pub no_arms_over : (uses : Uses) (n : ℕ) → ArmsOver uses n no_cl_arm
no_arms_over uses n given bound = itself _

pub more_arms_over : (uses : Uses) (n con binds : ℕ) (body : Cl) (rest : ClArms) → ClaimOver uses n body → ArmsOver uses n rest
    → ArmsOver uses n (also_cl_arm con binds body rest)
more_arms_over uses n con binds body rest left right given bound =
    both_follows (also_arm con) _ _ _ _ (left given (bound + binds)) (right given bound)

-- # Either, and uses

pub term_over : (uses : Uses) (n : ℕ) (e : Te) → TermOver uses n e → IsOver uses n (said_term e)
term_over uses n e part given bound = map_follows values.term _ _ (part given bound)

pub claim_over : (uses : Uses) (n : ℕ) (f : Cl) → ClaimOver uses n f → IsOver uses n (said_claim f)
claim_over uses n f part given bound = map_follows values.formula _ _ (part given bound)

arguments_among : (uses : Uses) (n : ℕ) (es : Tes) → TermsOver uses n es → (given : Given) (bound : ℕ)
    → AreAmong (put.arguments uses given bound es) (put.arguments uses (take n given) bound es)
arguments_among uses n no_te over given bound p x h = h
arguments_among uses n (also_te e es) over given bound zero x h = over.0 given bound x h
arguments_among uses n (also_te e es) over given bound (suc p) x h = arguments_among uses n es over.1 given bound p x h

pub use_over : (bodies : Saids) (n : ℕ) (made : Said) (decl : ℕ) (es : Tes) → IsUse bodies made decl es
    → TermsOver (all_uses bodies) n es
    → IsOver (all_uses bodies) n made
use_over bodies n made decl es is over given bound v h =
    is (take n given) bound
    ∙ uses_grow bodies (length bodies) decl (put.arguments (all_uses bodies) given bound es)
    (put.arguments (all_uses bodies) (take n given) bound es) (arguments_among (all_uses bodies) n es over given bound) v
    (sym (is given bound) ∙ h)
