-- Lists of values that begin with others.
use Rattle.std.proofs.Common.{◌≡◌, suc, ◌≤◌, List, [], ◌∷◌, ◌++◌, length, map, drop, slice_get, Bool, true, false, ◌&&◌, ◌↔◌, Some, refl, sym, ap, ap₂, ◌∙◌, arith}
use Rattle.std.proofs.lemmas.Option.{none-some, same_Some}
use Rattle.rp_value.specs.declared.tables.Ty.{Ty}
use Rattle.rp_value.specs.Values.{Val}
use Rattle.rp_lang.specs.Programs.{Prog}
use Rattle.crdt_defs.specs.Fitting.{fits, all_fit}
use Rattle.crdt_enc.specs.Elements.{elem_of}
use Rattle.std.proofs.lemmas.Bool.{and_parts, and_from}
use Rattle.rp_logic.proofs.SortLaws.{no}
use Rattle.crdt_enc.proofs.ValueLaws.{one-value}

-- the list begins with these
abbrev pub Starts : List Val → List Val → Type 0
Starts [] vs = Unit {0}
Starts (g ∷ gs) [] = ⊥
Starts (g ∷ gs) (v ∷ vs) = (g ≡ v) × Starts gs vs

-- each fits the type at its place
abbrev pub starts_fit : Prog → List Ty → List Val → Bool
starts_fit p ts [] = true
starts_fit p [] (g ∷ gs) = false
starts_fit p (t ∷ ts) (g ∷ gs) = fits p t g && starts_fit p ts gs

-- with one more
pub starts-more : (gs vs : List Val) (k : Val) → Starts (gs ++ k ∷ []) vs ↔ (Starts gs vs × (slice_get vs (length gs) ≡ Some k))
starts-more [] [] k = ((λ h. elim h [ ]), λ h. absurd (none-some k h.1))
starts-more [] (v ∷ vs) k = ((λ h. (tt, ap (λ x. Some x) (sym h.0))), λ h. (sym (same_Some v k h.1), tt))
starts-more (g ∷ gs) [] k = ((λ h. elim h [ ]), λ h. elim h.0 [ ])
starts-more (g ∷ gs) (v ∷ vs) k = let r = starts-more gs vs k in ((λ h. ((h.0, (r.0 h.1).0), (r.0 h.1).1)), λ h. (h.0.0, r.1 (h.0.1, h.1)))

pub starts-fit-more : (p : Prog) (ts : List Ty) (gs : List Val) (t : Ty) (k : Val) → starts_fit p ts gs ≡ true → slice_get ts (length gs) ≡ Some t → fits p t k ≡ true
    → starts_fit p ts (gs ++ k ∷ []) ≡ true
starts-fit-more p [] [] t k h e f = absurd (none-some t e)
starts-fit-more p (s ∷ ts) [] t k h e f = and_from (fits p s k) true (ap (λ x. fits p x k) (same_Some s t e) ∙ f) refl
starts-fit-more p [] (g ∷ gs) t k h e f = no h
starts-fit-more p (s ∷ ts) (g ∷ gs) t k h e f =
    let b = and_parts (fits p s g) (starts_fit p ts gs) h in
    and_from (fits p s g) (starts_fit p ts (gs ++ k ∷ [])) b.0 (starts-fit-more p ts gs t k b.1 e f)

pub starts-short : (p : Prog) (ts : List Ty) (gs : List Val) → starts_fit p ts gs ≡ true → length gs ≤ length ts
starts-short p ts [] h = omega arith
starts-short p [] (g ∷ gs) h = no h
starts-short p (t ∷ ts) (g ∷ gs) h = let r = starts-short p ts gs (and_parts (fits p t g) (starts_fit p ts gs) h).1 in omega (arith, r)

pub fit-count : (p : Prog) (ts : List Ty) (vs : List Val) → all_fit p ts vs ≡ true → length vs ≡ length ts
fit-count p [] [] h = refl
fit-count p [] (v ∷ vs) h = no h
fit-count p (t ∷ ts) [] h = no h
fit-count p (t ∷ ts) (v ∷ vs) h = ap suc (fit-count p ts vs (and_parts (fits p t v) (all_fit p ts vs) h).1)

-- told by elements
pub starts-elems : (p : Prog) (ts : List Ty) (gs vs : List Val) → starts_fit p ts gs ≡ true → all_fit p ts vs ≡ true
    → map elem_of vs ≡ map elem_of gs ++ drop (length gs) (map elem_of vs) → Starts gs vs
starts-elems p ts [] vs f g e = tt
starts-elems p [] (x ∷ gs) vs f g e = no f
starts-elems p (t ∷ ts) (x ∷ gs) [] f g e = no g
starts-elems p (t ∷ ts) (x ∷ gs) (v ∷ vs) f g e =
    let a = and_parts (fits p t x) (starts_fit p ts gs) f in
    let b = and_parts (fits p t v) (all_fit p ts vs) g in
    let first : elem_of x ≡ elem_of v = cc in
    (one-value p t x v a.0 b.0 first, starts-elems p ts gs vs a.1 b.1 cc)

pub elems-start : (gs vs : List Val) → Starts gs vs → map elem_of vs ≡ map elem_of gs ++ drop (length gs) (map elem_of vs)
elems-start [] vs h = refl
elems-start (g ∷ gs) [] h = elim h [ ]
elems-start (g ∷ gs) (v ∷ vs) h = ap₂ (λ x xs. elem_of x ∷ xs) (sym h.0) (elems-start gs vs h.1)
