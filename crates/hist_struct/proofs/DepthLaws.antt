-- No value is deeper than a datatype may have parts: an identifier that stands in an element at some depth stands there within
-- that many.
use Rattle.std.proofs.Common.{◌≡◌, ◌≤◌, ℕ, zero, suc, true, List, [], ◌∷◌, sum_by, Option, Some, None, slice_get, refl, sym, ap, ◌∙◌, arith}
use Rattle.std.proofs.lemmas.List.Sums.{sum_by-cons}
use Rattle.std.proofs.lemmas.Option.{none-some, same_Some}
use Rattle.rp_value.specs.declared.tables.Ty.{Ty}
use Rattle.rp_value.specs.declared.tables.Ty.TheVariants as ty
use Rattle.rp_value.specs.declared.tables.ConDecl.{ConDecl}
use Rattle.rp_value.specs.declared.tables.DataDecl.{DataDecl}
use Rattle.rp_lang.specs.Types as types
use Rattle.rp_lang.specs.Types.{is_ordinary, are_ordinary, fields_in, cons_in, parts}
use Rattle.rp_lang.specs.Programs.{Prog}
use Rattle.rp_lang.specs.WellFormed.{is_well_formed}
use Rattle.rp_lang.proofs.ProgramFacts.{Facts}
use Rattle.rp_lang.proofs.TypeFacts.{each}
use Rattle.crdt_defs.specs.Fitting.{fields_of}
use Rattle.rp_logic.specs.Elements.{Elem}
use Rattle.rp_logic.specs.Structures.{nth_elem}
use Rattle.hist_struct.specs.Conditions.{StandsAt, cons_of}
use Rattle.hist_struct.specs.Defaults.{most_parts}
use Rattle.hist_struct.proofs.DefaultLaws.{part-le, few-of}

-- the two look-ups of fields and of constructors
one-fields : (o : Option ConDecl) → fields_of o ≡ fields_in o
one-fields None = refl
one-fields (Some decl) = refl

one-cons : (o : Option DataDecl) → cons_of o ≡ cons_in o
one-cons None = refl
one-cons (Some decl) = refl

number-le : (g : ℕ → ℕ) (list : List ℕ) (i con : ℕ) → slice_get list i ≡ Some con → g con ≤ sum_by g list
number-le g [] i con e = absurd (none-some con e)
number-le g (c ∷ list) zero con e = let s = sum_by-cons g c list in let q = ap g (same_Some c con e) in omega (arith, s, q)
number-le g (c ∷ list) (suc i) con e = let s = sum_by-cons g c list in let r = number-le g list i con e in omega (arith, s, r)

-- the parts of a field are among those of its datatype
field-parts : (p : Prog) (m d k con i : ℕ) (t : Ty) → slice_get (cons_of (slice_get p.types.datatypes d)) k ≡ Some con → slice_get (fields_of (slice_get p.cons.cons con)) i ≡ Some t
    → parts p.types p.cons (suc m) (ty.Datatype d) ≤ suc m → parts p.types p.cons m t ≤ m
field-parts p m d k con i t a b l =
    let list = types.cons_of p.types d in
    let all = number-le (λ con. sum_by (parts p.types p.cons m) (types.fields_of p.cons con)) list k con (ap (λ cs. slice_get cs k) (sym (one-cons (slice_get p.types.datatypes d))) ∙ a) in
    let one = part-le (parts p.types p.cons m) (types.fields_of p.cons con) i t (ap (λ ts. slice_get ts i) (sym (one-fields (slice_get p.cons.cons con))) ∙ b) in
    omega (arith, all, one, l)

field-ordinary : (p : Prog) → Facts p → (con i : ℕ) (t : Ty) → slice_get (fields_of (slice_get p.cons.cons con)) i ≡ Some t → is_ordinary p.types t ≡ true
field-ordinary p f con i t e = go (slice_get p.cons.cons con) refl e
  where
    go : (o : Option ConDecl) → slice_get p.cons.cons con ≡ o → slice_get (fields_of o) i ≡ Some t → is_ordinary p.types t ≡ true
    go None is e = absurd (none-some t e)
    go (Some decl) is e = each (is_ordinary p.types) decl.fields i t (each (λ (c : ConDecl). are_ordinary p.types c.fields) p.cons.cons con decl f.fields is) e

-- what stands in a field stands there within one less
deeper : (p : Prog) (n m : ℕ) (t : Ty) (e : Elem) (k : ℕ) (y : Elem) → parts p.types p.cons m t ≤ m → StandsAt p n t e k y → StandsAt p m t e k y
deeper p n zero t e k y l h = absurd (omega (arith, l))
deeper p zero (suc m) (ty.Atom a) e k y l h = h
deeper p (suc n) (suc m) (ty.Atom a) e k y l h = h
deeper p zero (suc m) (ty.Datatype d) e k y l h = absurd h.3.6
deeper p (suc n) (suc m) (ty.Datatype d) e k y l h =
    let f = h.3 in
    (h.0, h.1, h.2, (f.0, f.1, f.2, f.3, f.4, f.5, deeper p n m f.4 (nth_elem f.0 f.3) k y (field-parts p m d h.0 h.1 f.3 f.4 h.2 f.5 l) f.6))
deeper p zero (suc m) _ e k y l h = absurd h
deeper p (suc n) (suc m) _ e k y l h = absurd h

pub no-deeper : (p : Prog) → is_well_formed p ≡ true → (n : ℕ) (t : Ty) → is_ordinary p.types t ≡ true → (e : Elem) (k : ℕ) (y : Elem) → StandsAt p n t e k y → StandsAt p most_parts t e k y
no-deeper p w n t o e k y h = deeper p n most_parts t e k y (few-of p w t o) h
