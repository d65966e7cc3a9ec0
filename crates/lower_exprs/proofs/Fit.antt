-- What passes the test before it is measured has what measures need.
use Rattle.std.proofs.Common.{◌≡◌, ◌<◌, ℕ, zero, suc, ◌+◌, Bool, true, false, ◌&&◌, [], ◌∷◌, length, take, Option, Some, None, refl, ap, ap₂, sym, ◌∙◌, arith, eqb-true, ltb-true}
use Rattle.std.specs.Prelude.{option_map, option_and_then}
use Rattle.rp_value.specs.declared.tables.ConTable.{ConTable}
use Rattle.rp_lang.specs.Exprs as ex
use Rattle.rp_lang.specs.Exprs.{also_ex}
use Rattle.rp_lang.specs.Formulas as fo
use Rattle.rp_lang.specs.Formulas.{also_fo, also_arm}
use Rattle.rp_lang.specs.Types.{fields_of}
use Rattle.desugaring.specs.Parts.{both}
use Rattle.desugaring.specs.Values as values
use Rattle.desugaring.specs.Values.{as_term, as_formula}
use Rattle.query_bodies.specs.Terms as te
use Rattle.query_bodies.specs.Terms.{Te, Tes, no_te, also_te, Cl, Cls, no_cl, also_cl, ClArms, no_cl_arm, also_cl_arm, Said, said_term, said_claim}
use Rattle.query_bodies.specs.Expanded as put
use Rattle.query_bodies.specs.Expanded.{Uses, Given, given_at, lifted_by, Saids, said_at}
use Rattle.query_laws.specs.Told.{IsOver, Fits, claim_fits, claims_fit, arms_fit}
use Rattle.lower_exprs.specs.Sound.{is_over, are_over, is_claim, binds_fields, is_sound, are_sound, arms_are_sound, is_sound_said}

and_both : (a b : Bool) → (a && b) ≡ true → (a ≡ true) × (b ≡ true)
and_both true b h = (refl, h)
and_both false b h = absurd cc

-- # Parameters

given_there : (n : ℕ) (given : Given) (p : ℕ) → p < n → given_at given p ≡ given_at (take n given) p
given_there zero given p lt = absurd (omega (arith, lt))
given_there (suc n) [] p lt = refl
given_there (suc n) (o ∷ given) zero lt = refl
given_there (suc n) (o ∷ given) (suc p) lt = given_there n given p (omega (arith, lt))

mutual
  term_same : (uses : Uses) (n : ℕ) (e : Te) → is_over n e ≡ true → (given : Given) (bound : ℕ)
      → put.term uses given bound e ≡ put.term uses (take n given) bound e
  term_same uses n (te.Slot s) h given bound = refl
  term_same uses n (te.Param p) h given bound = ap (option_map (lifted_by bound)) (given_there n given p (ltb-true p n h))
  term_same uses n (te.Level m) h given bound = refl
  term_same uses n (te.Int i) h given bound = refl
  term_same uses n (te.Str bytes) h given bound = refl
  term_same uses n (te.Con con args) h given bound = ap (option_map (ex.Con con)) (terms_same uses n args h given bound)
  term_same uses n (te.Sum a b) h given bound =
      let p = and_both (is_over n a) (is_over n b) h in
      ap₂ (both values.sum) (term_same uses n a p.0 given bound) (term_same uses n b p.1 given bound)
  term_same uses n (te.Difference a b) h given bound =
      let p = and_both (is_over n a) (is_over n b) h in
      ap₂ (both values.difference) (term_same uses n a p.0 given bound) (term_same uses n b p.1 given bound)
  term_same uses n (te.Query query args) h given bound =
      ap (option_map (ex.Query query)) (terms_same uses n args h given bound)
  term_same uses n (te.OpOf call) h given bound = ap (option_map ex.OpOf) (term_same uses n call h given bound)
  term_same uses n (te.OpTerm op args) h given bound = ap (option_map (ex.OpTerm op)) (terms_same uses n args h given bound)
  term_same uses n (te.OriginOf call) h given bound = ap (option_map ex.OriginOf) (term_same uses n call h given bound)
  term_same uses n (te.InfoOf inv) h given bound = ap (option_map ex.InfoOf) (term_same uses n inv h given bound)
  term_same uses n (te.InfoTerm proc args) h given bound =
      ap (option_map (ex.InfoTerm proc)) (terms_same uses n args h given bound)
  term_same uses n (te.ResultOf inv) h given bound = ap (option_map ex.ResultOf) (term_same uses n inv h given bound)
  term_same uses n (te.ResultTerm proc) h given bound = refl
  term_same uses n (te.ResultWith proc value) h given bound =
      ap (option_map (put.with_value proc)) (term_same uses n value h given bound)
  term_same uses n te.Unreturned h given bound = refl
  term_same uses n (te.Use decl args) h given bound =
      ap (λ g. option_and_then as_term (uses decl g)) (arguments_same uses n args h given bound)

  terms_same : (uses : Uses) (n : ℕ) (es : Tes) → are_over n es ≡ true → (given : Given) (bound : ℕ)
      → put.terms uses given bound es ≡ put.terms uses (take n given) bound es
  terms_same uses n no_te h given bound = refl
  terms_same uses n (also_te e es) h given bound =
      let p = and_both (is_over n e) (are_over n es) h in
      ap₂ (both also_ex) (term_same uses n e p.0 given bound) (terms_same uses n es p.1 given bound)

  arguments_same : (uses : Uses) (n : ℕ) (es : Tes) → are_over n es ≡ true → (given : Given) (bound : ℕ)
      → put.arguments uses given bound es ≡ put.arguments uses (take n given) bound es
  arguments_same uses n no_te h given bound = refl
  arguments_same uses n (also_te e es) h given bound =
      let p = and_both (is_over n e) (are_over n es) h in
      ap₂ (λ o os. o ∷ os) (term_same uses n e p.0 given bound) (arguments_same uses n es p.1 given bound)

two_same : (uses : Uses) (n : ℕ) (a b : Te) (f : ex.Ex → ex.Ex → fo.Fo) → (is_over n a && is_over n b) ≡ true
    → (given : Given) (bound : ℕ)
    → both f (put.term uses given bound a) (put.term uses given bound b)
    ≡ both f (put.term uses (take n given) bound a) (put.term uses (take n given) bound b)
two_same uses n a b f h given bound =
    let p = and_both (is_over n a) (is_over n b) h in
    ap₂ (both f) (term_same uses n a p.0 given bound) (term_same uses n b p.1 given bound)

mutual
  claim_same : (cons : ConTable) (bodies : Saids) (uses : Uses) (n : ℕ) (f : Cl) → is_sound cons bodies n f ≡ true
      → (given : Given) (bound : ℕ)
      → put.claim uses given bound f ≡ put.claim uses (take n given) bound f
  claim_same cons bodies uses n (te.And parts) h given bound =
      ap (option_map fo.And) (claims_same cons bodies uses n parts h given bound)
  claim_same cons bodies uses n (te.Or parts) h given bound =
      ap (option_map fo.Or) (claims_same cons bodies uses n parts h given bound)
  claim_same cons bodies uses n (te.Not part) h given bound =
      ap (option_map fo.Not) (claim_same cons bodies uses n part h given bound)
  claim_same cons bodies uses n (te.Implies a b) h given bound =
      let p = and_both (is_sound cons bodies n a) (is_sound cons bodies n b) h in
      ap₂ (both fo.Implies) (claim_same cons bodies uses n a p.0 given bound) (claim_same cons bodies uses n b p.1 given bound)
  claim_same cons bodies uses n (te.All ty body) h given bound =
      ap (option_map (fo.All ty)) (claim_same cons bodies uses n body h given (bound + 1))
  claim_same cons bodies uses n (te.Any ty body) h given bound =
      ap (option_map (fo.Any ty)) (claim_same cons bodies uses n body h given (bound + 1))
  claim_same cons bodies uses n (te.Holds e) h given bound = ap (option_map fo.Holds) (term_same uses n e h given bound)
  claim_same cons bodies uses n (te.Equal a b) h given bound = two_same uses n a b fo.Equal h given bound
  claim_same cons bodies uses n (te.Less a b) h given bound = two_same uses n a b fo.Less h given bound
  claim_same cons bodies uses n (te.AtMost a b) h given bound = two_same uses n a b fo.AtMost h given bound
  claim_same cons bodies uses n (te.Visible e) h given bound = ap (option_map fo.Visible) (term_same uses n e h given bound)
  claim_same cons bodies uses n (te.Before a b) h given bound = two_same uses n a b fo.Before h given bound
  claim_same cons bodies uses n (te.Same a b) h given bound = two_same uses n a b fo.Same h given bound
  claim_same cons bodies uses n (te.Match on arms) h given bound =
      let p = and_both (is_over n on) (arms_are_sound cons bodies n arms) h in
      ap₂ (both fo.Match) (term_same uses n on p.0 given bound) (arms_same cons bodies uses n arms p.1 given bound)
  claim_same cons bodies uses n (te.UseCl decl args) h given bound =
      let p = and_both (is_claim (said_at bodies decl)) (are_over n args) h in
      ap (λ g. option_map as_formula (uses decl g)) (arguments_same uses n args p.1 given bound)

  claims_same : (cons : ConTable) (bodies : Saids) (uses : Uses) (n : ℕ) (fs : Cls) → are_sound cons bodies n fs ≡ true
      → (given : Given) (bound : ℕ)
      → put.claims uses given bound fs ≡ put.claims uses (take n given) bound fs
  claims_same cons bodies uses n no_cl h given bound = refl
  claims_same cons bodies uses n (also_cl f fs) h given bound =
      let p = and_both (is_sound cons bodies n f) (are_sound cons bodies n fs) h in
      ap₂ (both also_fo) (claim_same cons bodies uses n f p.0 given bound) (claims_same cons bodies uses n fs p.1 given bound)

  arms_same : (cons : ConTable) (bodies : Saids) (uses : Uses) (n : ℕ) (arms : ClArms) → arms_are_sound cons bodies n arms ≡ true
      → (given : Given) (bound : ℕ)
      → put.arms_of uses given bound arms ≡ put.arms_of uses (take n given) bound arms
  arms_same cons bodies uses n no_cl_arm h given bound = refl
  arms_same cons bodies uses n (also_cl_arm con binds body rest) h given bound =
      let p = and_both (binds_fields cons con binds) (is_sound cons bodies n body && arms_are_sound cons bodies n rest) h in
      let q = and_both (is_sound cons bodies n body) (arms_are_sound cons bodies n rest) p.1 in
      ap₂ (both (also_arm con)) (claim_same cons bodies uses n body q.0 given (bound + binds))
      (arms_same cons bodies uses n rest q.1 given bound)

pub said_over : (cons : ConTable) (bodies : Saids) (uses : Uses) (n : ℕ) (s : Said) → is_sound_said cons bodies n s ≡ true
    → IsOver uses n s
said_over cons bodies uses n (said_term e) h given bound v is =
    ap (option_map values.term) (sym (term_same uses n e h given bound)) ∙ is
said_over cons bodies uses n (said_claim f) h given bound v is =
    ap (option_map values.formula) (sym (claim_same cons bodies uses n f h given bound)) ∙ is

-- # Arms and uses

claim_there : (o : Option Said) → is_claim o ≡ true → (f : Cl) × (o ≡ Some (said_claim f))
claim_there None h = absurd cc
claim_there (Some (said_term e)) h = absurd cc
claim_there (Some (said_claim f)) h = (f, refl)

mutual
  claim_fit : (cons : ConTable) (bodies : Saids) (n : ℕ) (f : Cl) → is_sound cons bodies n f ≡ true → claim_fits cons bodies f
  claim_fit cons bodies n (te.And parts) h = claims_are_fit cons bodies n parts h
  claim_fit cons bodies n (te.Or parts) h = claims_are_fit cons bodies n parts h
  claim_fit cons bodies n (te.Not part) h = claim_fit cons bodies n part h
  claim_fit cons bodies n (te.Implies a b) h =
      let p = and_both (is_sound cons bodies n a) (is_sound cons bodies n b) h in
      (claim_fit cons bodies n a p.0, claim_fit cons bodies n b p.1)
  claim_fit cons bodies n (te.All ty body) h = claim_fit cons bodies n body h
  claim_fit cons bodies n (te.Any ty body) h = claim_fit cons bodies n body h
  claim_fit cons bodies n (te.Holds e) h = tt
  claim_fit cons bodies n (te.Equal a b) h = tt
  claim_fit cons bodies n (te.Less a b) h = tt
  claim_fit cons bodies n (te.AtMost a b) h = tt
  claim_fit cons bodies n (te.Visible e) h = tt
  claim_fit cons bodies n (te.Before a b) h = tt
  claim_fit cons bodies n (te.Same a b) h = tt
  claim_fit cons bodies n (te.Match on arms) h =
      arms_are_fit cons bodies n arms (and_both (is_over n on) (arms_are_sound cons bodies n arms) h).1
  claim_fit cons bodies n (te.UseCl decl args) h =
      claim_there (said_at bodies decl) (and_both (is_claim (said_at bodies decl)) (are_over n args) h).0

  claims_are_fit : (cons : ConTable) (bodies : Saids) (n : ℕ) (fs : Cls) → are_sound cons bodies n fs ≡ true
      → claims_fit cons bodies fs
  claims_are_fit cons bodies n no_cl h = tt
  claims_are_fit cons bodies n (also_cl f fs) h =
      let p = and_both (is_sound cons bodies n f) (are_sound cons bodies n fs) h in
      (claim_fit cons bodies n f p.0, claims_are_fit cons bodies n fs p.1)

  arms_are_fit : (cons : ConTable) (bodies : Saids) (n : ℕ) (arms : ClArms) → arms_are_sound cons bodies n arms ≡ true
      → arms_fit cons bodies arms
  arms_are_fit cons bodies n no_cl_arm h = tt
  arms_are_fit cons bodies n (also_cl_arm con binds body rest) h =
      let p = and_both (binds_fields cons con binds) (is_sound cons bodies n body && arms_are_sound cons bodies n rest) h in
      let q = and_both (is_sound cons bodies n body) (arms_are_sound cons bodies n rest) p.1 in
      (eqb-true (length (fields_of cons con)) binds p.0, claim_fit cons bodies n body q.0, arms_are_fit cons bodies n rest q.1)

pub said_fits : (cons : ConTable) (bodies : Saids) (n : ℕ) (s : Said) → is_sound_said cons bodies n s ≡ true → Fits cons bodies s
said_fits cons bodies n (said_term e) h = tt
said_fits cons bodies n (said_claim f) h = claim_fit cons bodies n f h
