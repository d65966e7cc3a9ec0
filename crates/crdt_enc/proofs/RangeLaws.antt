-- What quantifiers of a program range over, and the guards of the formula's.
use Rattle.std.proofs.Common.{◌≡◌, ℕ, zero, suc, ◌<◌, nat_eq, List, [], ◌∷◌, length, slice_get, Bool, true, false, not, ◌&&◌, ◌||◌, ◌↔◌, Some, refl, sym, ap, ap₂, ◌∙◌, subst, eqb-true, eq-eqb, ltb-true, lt-ltb, true≢false, arith}
use Rattle.rp_value.specs.declared.tables.Ty.{Ty}
use Rattle.rp_value.specs.declared.tables.Ty.TheVariants as ty
use Rattle.rp_lang.specs.Programs.{Prog}
use Rattle.rp_lang.specs.Typing.{Frame, is_range}
use Rattle.crdt_defs.specs.Calls.{Call}
use Rattle.crdt_defs.specs.Counting.{all_below}
use Rattle.crdt_defs.specs.Histories.{meets, call_is, before}
use Rattle.crdt_defs.specs.Histories as hist
use Rattle.crdt_defs.specs.Parts as parts
use Rattle.crdt_defs.specs.Parts.{Parts, Info, bound, is_in_range, member, each_member, some_member, is_committed, is_done_by, is_before_all_of}
use Rattle.rp_logic.specs.Terms.{Tm, Var}
use Rattle.rp_logic.specs.Formulas.{Fm, Fms, no_fm, also_fm}
use Rattle.rp_logic.specs.Elements.{Elem, Point, same_elem}
use Rattle.rp_logic.specs.Filling.{raised}
use Rattle.rp_logic.specs.Truth.{Meaning, Holds, AllHold, NoneHolds, value}
use Rattle.rp_logic.proofs.DualLaws.{stable}
use Rattle.rp_logic.proofs.FillingLaws.{raised-value}
use Rattle.std.proofs.lemmas.Bool.{and_parts, and_from}
use Rattle.rp_logic.proofs.SortLaws.{no}
use Rattle.rp_symbols.specs.Numbers.{call_sort, atom_sort, origin_fn}
use Rattle.crdt_enc.specs.Elements.{elem_of}
use Rattle.crdt_enc.specs.Places.{At}
use Rattle.crdt_enc.specs.Builders.{one_fm}
use Rattle.reshape.specs.Joined.{joined}
use Rattle.crdt_enc.specs.Builders.{is_before}
use Rattle.crdt_enc.specs.FormulaFormulas.{sort_of, guard, each_under, some_under, done_by, does_one, inv_before}
use Rattle.crdt_enc.specs.FitsParts.{FitsParts, Is, holds_of, value_at}
use Rattle.reshape.proofs.FlattenLaws.{joined-none}
use Rattle.crdt_enc.proofs.WayLaws.{call-there}
use Rattle.crdt_enc.proofs.CountLaws.{call-at}
use Rattle.crdt_enc.proofs.StayLaws.{some-below, is-true, not-both, before-is}
use Rattle.crdt_enc.proofs.TermLaws.{HasType}
use Rattle.crdt_enc.specs.FitsParts.{FitsView}
use Rattle.crdt_enc.specs.means.Counting.{CallsFit}

pub all-below : (f : ℕ → Bool) (n : ℕ) → (all_below f n ≡ true) ↔ ((k : ℕ) → k < n → f k ≡ true)
all-below f zero = ((λ h k lt. absurd (omega arith)), λ h. refl)
all-below f (suc n) =
    let r = all-below f n in (
      (λ h k lt. let b = and_parts (f n) (all_below f n) h in last k lt b.0 (r.0 b.1)),
      λ h. and_from (f n) (all_below f n) (h n (omega arith)) (r.1 (λ k lt. h k (omega arith))),
    )
  where
    last : (k : ℕ) → k < suc n → f n ≡ true → ((k : ℕ) → k < n → f k ≡ true) → f k ≡ true
    last k lt e h = go (nat_eq k n) refl
      where
        go : (b : Bool) → nat_eq k n ≡ b → f k ≡ true
        go true q = ap f (eqb-true k n q) ∙ e
        go false q = h k (grind (arith, q))

pub or-not : (a b : Bool) → (not a || b ≡ true) ↔ (a ≡ true → b ≡ true)
or-not true b = ((λ h e. h), λ h. h refl)
or-not false b = ((λ h e. absurd (true≢false (sym e))), λ h. refl)

pub each-under : (gs : Fms) (f : Fm) (M : Meaning) (vars : List Elem) → Holds M vars (each_under gs f) ↔ (NoneHolds M vars gs → Holds M vars f)
each-under no_fm f M vars = ((λ h k. h), λ h. h tt)
each-under (also_fm g gs) f M vars = ((λ h k. stable f M vars (λ n. h (k.0, (n, k.1)))), λ h k. k.1.0 (h (k.0, k.1.1)))

pub some-under : (gs : Fms) (f : Fm) (M : Meaning) (vars : List Elem) → Holds M vars (some_under gs f) ↔ (AllHold M vars gs × Holds M vars f)
some-under no_fm f M vars = ((λ h. (tt, h)), λ h. h.1)
some-under (also_fm g gs) f M vars = ((λ h. ((h.0, h.1.1), h.1.0)), λ h. (h.0.0, (h.1, h.0.1)))

-- the elements of a range, and its guard
pub record Range (p : Prog) (M : Meaning) (at : At) (ps : Parts) (over : Ty) : Type 0 where
  pub points : (e : Elem) → Is M (sort_of over) e → (k : ℕ) × (e ≡ Point k)
  pub within : (k : ℕ) → k < bound ps over → Is M (sort_of over) (Point k)
  pub elem : (k : ℕ) → elem_of (member over k) ≡ Point k
  pub typed : (k : ℕ) → k < bound ps over → HasType p ps over (member over k)
  pub guarded : (k : ℕ) (vars : List Elem) → Is M (sort_of over) (Point k) → AllHold M (Point k ∷ vars) (guard true at over) ↔ ((k < bound ps over) × (is_in_range ps over k ≡ true))
  pub guarded_not : (k : ℕ) (vars : List Elem) → Is M (sort_of over) (Point k) → NoneHolds M (Point k ∷ vars) (guard false at over) ↔ ((k < bound ps over) × (is_in_range ps over k ≡ true))

in-history : (h : List Call) (f : Call → Bool) (c : ℕ) → call_is h f c ≡ true → c < length h
in-history [] f c e = no e
in-history (x ∷ h) f zero e = omega arith
in-history (x ∷ h) f (suc c) e = let r = in-history h f c e in omega (arith, r)

from-sign : (b c : Bool) → b ≡ c → ¬ (b ≡ false) → c ≡ true
from-sign b c e h = sym e ∙ is-true b h

to-sign : (b c : Bool) → b ≡ c → c ≡ true → ¬ (b ≡ false)
to-sign b c e t f = true≢false (sym t ∙ (sym e ∙ f))

pub range-of : (p : Prog) (M : Meaning) (at : At) (ps : Parts) → FitsParts p M at ps → (frame : Frame) (over : Ty) → is_range p frame over ≡ true → Range p M at ps over
range-of p M at ps fits frame (ty.Atom n) h = record {
  points = λ e i. let k = fits.atom_points n e (ltb-true n (length p.types.atoms) h) i in (k.0, k.1);
  within = λ k lt. fits.atoms n k (ltb-true n (length p.types.atoms) h) lt;
  elem = λ k. refl;
  typed = λ k lt. eq-eqb n n refl;
  guarded = λ k vars i. ((λ t. (bounded k i, refl)), λ t. tt);
  guarded_not = λ k vars i. ((λ t. (bounded k i, refl)), λ t. tt);
}
  where
    bounded : (k : ℕ) → Is M (atom_sort n) (Point k) → k < ps.universe
    bounded k i = let j = fits.atom_points n (Point k) (ltb-true n (length p.types.atoms) h) i in let same : k ≡ j.0 = cc in let lt : j.0 < ps.universe = j.2 in omega (arith, same, lt)
range-of p M at ps fits frame ty.Call h = record {
  points = fits.calls.points;
  within = fits.calls.calls;
  elem = λ k. refl;
  typed = λ k lt. (k, refl, lt);
  guarded = λ k vars i. ((λ t. let c = sym (fits.committed k i) ∙ t.0 in (in-history ps.calls _ k c, c)), λ t. (fits.committed k i ∙ t.1, tt));
  guarded_not = λ k vars i. ((λ t. let c = from-sign _ _ (fits.committed k i) t.0 in (in-history ps.calls _ k c, c)), λ t. (to-sign _ _ (fits.committed k i) t.1, tt));
}
range-of p M at ps fits frame ty.Inv h = record {
  points = fits.inv_points;
  within = fits.invs;
  elem = λ k. refl;
  typed = λ k lt. (k, refl, lt);
  guarded = λ k vars i. ((λ t. (ltb-true k (length ps.infos) (sym (fits.existing k i) ∙ t.0), refl)), λ t. (fits.existing k i ∙ lt-ltb k (length ps.infos) t.0, tt));
  guarded_not = λ k vars i. ((λ t. (ltb-true k (length ps.infos) (from-sign _ _ (fits.existing k i) t.0), refl)), λ t. (to-sign _ _ (fits.existing k i) (lt-ltb k (length ps.infos) t.0), tt));
}
range-of p M at ps fits frame _ h = no h

-- # Invocations one before the other

module _ (p : Prog) (M : Meaning) (at : At) (ps : Parts) (visible : ℕ → Bool) (fits : FitsParts p M at ps) (seen : FitsView M ps.calls at.view visible) (typed : CallsFit p ps.calls) where
  origin-is : (c : ℕ) (call : Call) (i : ℕ) → slice_get ps.calls c ≡ Some call → (same_elem (value_at M origin_fn (Point c)) (Point i) ≡ true) ↔ (call_is ps.calls (λ call. nat_eq call.inv i) c ≡ true)
  origin-is c call i e =
      let o = fits.origins c call e in
      let t = call-there ps.calls (λ call. nat_eq call.inv i) c call e in ((λ h. t ∙ (ap (λ x. same_elem x (Point i)) (sym o) ∙ h)), λ h. ap (λ x. same_elem x (Point i)) o ∙ (sym t ∙ h))

  pub done-is : (c i : ℕ) (t u : Tm) (vars : List Elem) → value M vars t ≡ Point c → value M vars u ≡ Point i → Is M call_sort (Point c)
      → AllHold M vars (done_by true at t u) ↔ (is_done_by ps i c ≡ true)
  done-is c i t u vars et eu is =
      let mark = ap (λ x. holds_of M at.calls x) et ∙ fits.committed c is in
      let lit = ap₂ (λ x y. same_elem (value_at M origin_fn x) y) et eu in (
        (λ h.
            let k = sym mark ∙ h.0 in
            let call = call-at ps.calls c (in-history ps.calls _ c k) in
            and_from (is_committed ps c) _ k ((origin-is c call.0 i call.1).0 (sym lit ∙ h.1.0))),
        λ h.
            let k = and_parts (is_committed ps c) (call_is ps.calls (λ call. nat_eq call.inv i) c) h in
            let call = call-at ps.calls c (in-history ps.calls _ c k.0) in
            (mark ∙ k.0, (lit ∙ (origin-is c call.0 i call.1).1 k.1, tt)),
      )

  pub done-none : (c i : ℕ) (t u : Tm) (vars : List Elem) → value M vars t ≡ Point c → value M vars u ≡ Point i → Is M call_sort (Point c)
      → NoneHolds M vars (done_by false at t u) ↔ (is_done_by ps i c ≡ true)
  done-none c i t u vars et eu is =
      let d = done-is c i t u vars et eu is in (
        (λ h. d.0 (is-true _ h.0, (is-true _ h.1.0, tt))),
        λ h. let k = d.1 h in ((λ f. true≢false (sym k.0 ∙ f)), ((λ f. true≢false (sym k.1.0 ∙ f)), tt)),
      )

  does-is : (i : ℕ) (u : Tm) (vars : List Elem) → value M vars u ≡ Point i → Holds M vars (does_one at u) ↔ (hist.some_call ps.calls (is_done_by ps i) ≡ true)
  does-is i u vars eu =
      let s = some-below (is_done_by ps i) (length ps.calls) in
      let up = λ (x : Elem). raised-value u M (x ∷ []) vars 1 refl ∙ eu in (
        (λ h. s.1 (λ z. h (λ v w k.
            let c = fits.calls.points v w in
            let is : Is M call_sort (Point c.0) = subst (λ e. Is M call_sort e) c.1 w in
            let d = (done-is c.0 i (Var 0) (raised 1 u) (v ∷ vars) c.1 (up v) is).0 k in
            z c.0 (in-history ps.calls _ c.0 (and_parts (is_committed ps c.0) _ d).0) d))),
        λ h z. s.0 h (λ c lt d. z (Point c) (fits.calls.calls c lt) ((done-is c i (Var 0) (raised 1 u) (Point c ∷ vars) refl (up (Point c)) (fits.calls.calls c lt)).1 d)),
      )

  pub inv-before : (i j : ℕ) (t u : Tm) (vars : List Elem) → value M vars t ≡ Point i → value M vars u ≡ Point j → Holds M vars (inv_before at t u) ↔ (parts.inv_before ps i j ≡ true)
  inv-before i j t u vars et eu =
      let a = does-is i t vars et in
      let b = does-is j u vars eu in
      let n = length ps.calls in
      let all = all-below (λ c. not (is_done_by ps i c) || is_before_all_of ps j c) n in
      let each = λ (c : ℕ). all-below (λ d. not (is_done_by ps j d) || before ps.calls c d) n in
      let one = λ (v w : Elem). done_by false at (Var 1) (raised 2 t) in
      let up = λ (x y : Elem) (k : ℕ) (q : Tm) (e : value M vars q ≡ Point k). raised-value q M (x ∷ y ∷ []) vars 2 refl ∙ e in
      let lit = λ (c d : ℕ) (ltc : c < n) (ltd : d < n). before-is p M ps.calls at.view visible vars fits.calls seen typed c d ltc ltd true (Var 1) (Var 0) (Point d ∷ Point c ∷ vars) refl refl in
      let split = λ (x y : Elem). joined-none (done_by false at (Var 1) (raised 2 t)) (joined (done_by false at (Var 0) (raised 2 u)) (one_fm (is_before true (Var 1) (Var 0)))) M (x ∷ y ∷ vars) in
      let split2 = λ (x y : Elem). joined-none (done_by false at (Var 0) (raised 2 u)) (one_fm (is_before true (Var 1) (Var 0))) M (x ∷ y ∷ vars) in (
        (λ h. and_from (hist.some_call ps.calls (is_done_by ps i) && hist.some_call ps.calls (is_done_by ps j)) _ (and_from (hist.some_call ps.calls (is_done_by ps i)) _ (a.0 h.0) (b.0 h.1.0))
            (all.1 (λ c ltc. (or-not _ _).1 (λ dc. (each c).1 (λ d ltd. (or-not _ _).1 (λ dd. is-true _ (λ nb.
            h.1.1.0 (Point c) (fits.calls.calls c ltc) (Point d) (fits.calls.calls d ltd)
            ((split (Point d) (Point c)).1 (
              (done-none c i (Var 1) (raised 2 t) (Point d ∷ Point c ∷ vars) refl (up (Point d) (Point c) i t et) (fits.calls.calls c ltc)).1 dc,
              (split2 (Point d) (Point c)).1 (
                (done-none d j (Var 0) (raised 2 u) (Point d ∷ Point c ∷ vars) refl (up (Point d) (Point c) j u eu) (fits.calls.calls d ltd)).1 dd,
                ((λ tr. not-both _ ((lit c d ltc ltd).0 tr) nb), tt),
              ),
            ))))))))),
        λ h.
            let ab = and_parts (hist.some_call ps.calls (is_done_by ps i) && hist.some_call ps.calls (is_done_by ps j)) _ h in
            let ac = and_parts (hist.some_call ps.calls (is_done_by ps i)) _ ab.0 in (
              a.1 ac.0,
              (
                b.1 ac.1,
                (
                  (λ v w v2 w2 none.
                      let c = fits.calls.points v w in
                      let d = fits.calls.points v2 w2 in
                      let isc : Is M call_sort (Point c.0) = subst (λ e. Is M call_sort e) c.1 w in
                      let isd : Is M call_sort (Point d.0) = subst (λ e. Is M call_sort e) d.1 w2 in
                      let s = (split v2 v).0 none in
                      let s2 = (split2 v2 v).0 s.1 in
                      let dc = (done-none c.0 i (Var 1) (raised 2 t) (v2 ∷ v ∷ vars) c.1 (up v2 v i t et) isc).0 s.0 in
                      let dd = (done-none d.0 j (Var 0) (raised 2 u) (v2 ∷ v ∷ vars) d.1 (up v2 v j u eu) isd).0 s2.0 in
                      let ltc = in-history ps.calls _ c.0 (and_parts (is_committed ps c.0) _ dc).0 in
                      let ltd = in-history ps.calls _ d.0 (and_parts (is_committed ps d.0) _ dd).0 in
                      let bf = (or-not _ _).0 ((each c.0).0 ((or-not _ _).0 (all.0 ab.1 c.0 ltc) dc) d.0 ltd) dd in
                      s2.1.0 ((before-is p M ps.calls at.view visible vars fits.calls seen typed c.0 d.0 ltc ltd true (Var 1) (Var 0) (v2 ∷ v ∷ vars) c.1 d.1).1 bf)),
                  tt,
                ),
              ),
            ),
      )
